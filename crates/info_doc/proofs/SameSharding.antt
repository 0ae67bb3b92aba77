-- Two shardings with the same numbers are the same: their limits are facts.
use Rattle.std.proofs.Common.{◌≡◌, ◌+◌, ◌≤◌}
use Rattle.std.proofs.Props.{props}
use mathlib.Core.HLevel.{is_prop→PathP}
use Rattle.vol_spec.specs.declared.sharding.Sharding.{Sharding}

pub same_sharding : (a b : Sharding) → a.preshift ≡ b.preshift → a.hash ≡ b.hash → a.minishard_bits ≡ b.minishard_bits → a.shard_bits ≡ b.shard_bits → a ≡ b
same_sharding a b p h m s = λ i. record {
  preshift = p i;
  hash = h i;
  minishard_bits = m i;
  shard_bits = s i;
  preshift_ok = is_prop→PathP (λ j. p j ≤ 64) (λ j. hlevel props) a.preshift_ok b.preshift_ok i;
  minishard_ok = is_prop→PathP (λ j. m j ≤ 24) (λ j. hlevel props) a.minishard_ok b.minishard_ok i;
  bits_ok = is_prop→PathP (λ j. m j + s j ≤ 64) (λ j. hlevel props) a.bits_ok b.bits_ok i;
}
