use Rattle.std.proofs.Common.{◌≡◌, ◌*◌, take, slice_index, ◌∷◌}
use Rattle.vol_spec.specs.IndexBytes.{numbers, stored, ends}
use Rattle.minishard.proofs.columns.write_starts.Given as goal

abbrev pub invariant-loop-r : goal.invariant-loop-r
invariant-loop-r l = record {
  written : take (8 * l.r) l.out ≡ numbers (take l.r (stored l.rows).starts);
  before : l.before ≡ slice_index (0 ∷ ends l.rows) l.r;
}
