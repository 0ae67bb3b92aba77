use Rattle.std.proofs.Common.{◌∙◌, length, subst, sym}
use Rattle.view_judge.specs.Further.{HasRooms, all_opened}
use Rattle.view_judge.proofs.judge.ViewJudge.reserve.Goals as goal

pub invariant_of-result : goal.invariant_of-result
invariant_of-result c =
    let same = sym c.in_ok-first.ensures.scale in
    record {
      views = c.in_ok-further.ensures ∙ (λ i. all_opened (sym c.in_ok-first.ensures.dataset i) (same i));
      scale_is = c.duplicate.ensures ∙ same;
      room = subst (λ s. HasRooms s (length c.in_ok-found.found.bytes)) same (subst (HasRooms c.args.stored.now.scale) (sym c.in_ok-found.ensures.len) c.longest_room-room.ensures);
      beside = subst (λ s. HasRooms s (length c.in_ok-wanted.wanted.bytes)) same (subst (HasRooms c.args.stored.now.scale) (sym c.in_ok-wanted.ensures.len) c.longest_room-room.ensures);
    }
