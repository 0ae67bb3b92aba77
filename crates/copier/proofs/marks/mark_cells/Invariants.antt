use Rattle.std.proofs.Common.{◌≡◌, ◌++◌}
use Rattle.vol_spec.specs.Grid.{cells_in}
use Rattle.chunk_laws.specs.Told.{is_listed}
use Rattle.copier.specs.Marks.{AddsMarks}
use Rattle.copier.proofs.marks.mark_cells.Given as goal

abbrev pub invariant-loop-cell : goal.invariant-loop-cell
invariant-loop-cell l = record {
  left : l.yielded ++ l.cell-iterator ≡ cells_in l.scale l.part;
  marks : AddsMarks l.scale (is_listed l.yielded) l.fn.marks l.marks;
}
