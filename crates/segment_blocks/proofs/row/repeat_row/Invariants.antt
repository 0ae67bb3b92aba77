use Rattle.segment_blocks.specs.Row.{Unpacked}
use Rattle.vol_spec.specs.SegSizes.{width_of}
use Rattle.segment_blocks.proofs.row.repeat_row.Given as goal

abbrev pub invariant-loop-j : goal.invariant-loop-j
invariant-loop-j l = Unpacked l.values l.table (width_of l.wide) 0 l.first l.j l.row
