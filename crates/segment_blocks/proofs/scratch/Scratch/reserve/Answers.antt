use Rattle.segment_blocks.proofs.scratch.Scratch.reserve.Goals as goal

pub invariant_of-result-clause-room_ok : goal.invariant_of-result-clause-room_ok
invariant_of-result-clause-room_ok c = c.in_ok-room.ensures

pub invariant_of-result-clause-singles_ok : goal.invariant_of-result-clause-singles_ok
invariant_of-result-clause-singles_ok c = c.in_ok-singles.ensures
