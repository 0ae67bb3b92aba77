use Rattle.std.proofs.Common.{◌≡◌, ◌++◌}
use Rattle.std.specs.Prelude.{filter}
use Rattle.vol_spec.specs.Grid.{cells_in, whole}
use Rattle.copier.specs.Marks.{marked}
use Rattle.copier.proofs.marks.list_marked.Given as goal

abbrev pub invariant-loop-cell : goal.invariant-loop-cell
invariant-loop-cell l = record {
  left : l.yielded ++ l.cell-iterator ≡ cells_in l.scale (whole l.scale);
  list : l.list.items ≡ filter (marked l.scale l.marks) l.yielded;
}
