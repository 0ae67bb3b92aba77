use Rattle.std.proofs.Common.{◌^◌, ◌≤◌, [], ◌∷◌, slice_index, refl, inl, ap, subst, lit≤}
use Rattle.vol_base.proofs.Axes.{by_axis}
use Rattle.vol_base.specs.Grids.{pairs}
use Rattle.vol_spec.specs.Encodings.{blocks_of}
use Rattle.vol_spec.specs.Limits.{AreBlocks}
use Rattle.store_trials.proofs.cutout_rows.known.two_labels.Goals as goal

pub invariant_of-result-clause-wide_ok : goal.invariant_of-result-clause-wide_ok
invariant_of-result-clause-wide_ok c = λ block is. ∣ inl refl ∣₁

pub invariant_of-result-clause-block_ok : goal.invariant_of-result-clause-block_ok
invariant_of-result-clause-block_ok c = λ block is.
    subst AreBlocks (ap blocks_of is)
    (by_axis (λ axis. (1 ≤ slice_index (1 ∷ 1 ∷ 1 ∷ []) axis) × (slice_index (1 ∷ 1 ∷ 1 ∷ []) axis ≤ 2 ^ 24)) (lit≤ tt, lit≤ tt) (lit≤ tt, lit≤ tt) (lit≤ tt, lit≤ tt))

pub invariant_of-result-clause-codes_ok : goal.invariant_of-result-clause-codes_ok
unfolding pairs
invariant_of-result-clause-codes_ok c = λ sharding is. lit≤ tt
