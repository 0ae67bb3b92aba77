use Rattle.std.specs.Prelude.{All}
use Rattle.vol_spec.specs.Grid.{IsCell}
use Rattle.grid_trials.proofs.chunk_grid_rows.last_box.Given as goal

abbrev pub invariant-loop-cell : goal.invariant-loop-cell
invariant-loop-cell l = All (IsCell l.scale) l.cell-iterator
