use Rattle.std.proofs.Common.{arith}
use Rattle.vol_spec.specs.SegSizes.{width_of}
use Rattle.segment_blocks.proofs.Rowwise.{repeat_more}
use Rattle.segment_blocks.proofs.row.repeat_row.Goals as goal

pub loop-j-preserved : goal.loop-j-preserved
loop-j-preserved c =
    repeat_more c.args.values.now c.args.table.now (width_of c.args.wide) c.args.first c.loop-j.j c.loop-j.row c.copy_value.new.to c.loop-j.invariant ((c.count_values.ensures 0).0 (omega (arith, c.if-count_values-eq0.false))) c.copy_value.ensures.placed c.copy_value.ensures.kept
