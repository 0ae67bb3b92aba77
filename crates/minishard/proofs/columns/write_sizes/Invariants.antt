use Rattle.std.proofs.Common.{◌≡◌, ◌*◌, take}
use Rattle.vol_spec.specs.IndexBytes.{numbers, stored}
use Rattle.minishard.proofs.columns.write_sizes.Given as goal

abbrev pub invariant-loop-r : goal.invariant-loop-r
invariant-loop-r l = take (8 * l.r) l.out ≡ numbers (take l.r (stored l.rows).sizes)
