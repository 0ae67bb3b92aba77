use Rattle.std.proofs.Common.{◌≡◌, ◌++◌, map}
use Rattle.vol_spec.specs.Grid.{cells_in}
use Rattle.write_plan.specs.Pairs.{pair_of}
use Rattle.write_plan.proofs.pairs.push_pairs.Given as goal

abbrev pub invariant-loop-cell : goal.invariant-loop-cell
invariant-loop-cell l = record {
  left : l.yielded ++ l.cell-iterator ≡ cells_in l.scale l.part;
  pushed : l.pairs.items ≡ l.fn.pairs.items ++ map (pair_of l.scale l.write) l.yielded;
}
