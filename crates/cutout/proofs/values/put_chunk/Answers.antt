use Rattle.cutout.proofs.ReadSteps.{part_small}
use Rattle.cutout.proofs.TakeSteps.{holds_raw, took_values}
use Rattle.cutout.proofs.values.put_chunk.Goals as goal

pub check_len-requires : goal.check_len-requires
check_len-requires c = part_small c.args.scale.now c.args.home.now.cell c.args.home.now.own c.requires.home.box

pub returns-in_ok-check_len-in-Raw-clause-took : goal.returns-in_ok-check_len-in-Raw-clause-took
returns-in_ok-check_len-in-Raw-clause-took c =
    took_values c.args.scale.now c.args.home.now.cell c.args.part.now c.args.channels c.args.bytes.now c.args.bytes.now c.args.out.now c.put_values.new.out
    (holds_raw c.args.scale.now c.args.home.now.cell c.args.bytes.now c.in-Raw.is) c.requires.target.channels c.put_values.ensures

pub returns-in_ok-decode_cell-in-Seg-clause-took : goal.returns-in_ok-decode_cell-in-Seg-clause-took
returns-in_ok-decode_cell-in-Seg-clause-took c =
    took_values c.args.scale.now c.args.home.now.cell c.args.part.now c.args.channels c.args.bytes.now c.decode_cell.new.values c.args.out.now c.put_values-in-Seg.new.out
    c.in_ok-decode_cell-in-Seg.ensures.values c.requires.target.channels c.put_values-in-Seg.ensures
