use Rattle.std.proofs.Common.{◌≡◌, ◌*◌, ◌<◌, ◌^◌, ℕ, take, slice_index, ◌∷◌}
use Rattle.vol_spec.specs.IndexBytes.{numbers, stored, ids}
use Rattle.minishard.proofs.columns.write_ids.Given as goal

abbrev pub invariant-loop-r : goal.invariant-loop-r
invariant-loop-r l = record {
  written : take (8 * l.r) l.out ≡ numbers (take l.r (stored l.rows).ids);
  before : l.before ≡ slice_index (0 ∷ ids l.rows) l.r;
  fits : (k : ℕ) → k < l.r → slice_index (ids l.rows) k < 2 ^ 64;
}
