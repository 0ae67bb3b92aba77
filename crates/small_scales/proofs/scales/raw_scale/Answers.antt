use Rattle.std.proofs.Common.{refl}
use Rattle.small_scales.proofs.scales.raw_scale.Goals as goal

pub invariant_of-result-clause-width_ok : goal.invariant_of-result-clause-width_ok
invariant_of-result-clause-width_ok c = ∣ c.if-not-is_width.ensures.width.0 refl ∣₁

pub invariant_of-result-clause-offset_ok : goal.invariant_of-result-clause-offset_ok
invariant_of-result-clause-offset_ok c = c.if-not-are_offsets.ensures.0 refl
