-- What is said of stored scales, of what they were made of.
use Rattle.std.proofs.Common.{◌≡◌, subst}
use Rattle.vol_spec.specs.Types.{Name}
use Rattle.vol_spec.specs.declared.scale.Scale.{Scale}

-- what is said of a stored scale is said of the data set and of the scale that it was made of
pub of_stored : (P : Name → Scale → Type 0) (own dataset : Name) (stored scale : Scale) → own ≡ dataset → stored ≡ scale → P own stored → P dataset scale
of_stored P own dataset stored scale same is h = subst (λ d. P d scale) same (subst (P own) is h)

-- and of two
pub of_both : (P : Name → Scale → Name → Scale → Type 0) (own dataset : Name) (stored scale : Scale) (to_own to_dataset : Name) (to_stored to_scale : Scale) → own ≡ dataset → stored ≡ scale → to_own ≡ to_dataset → to_stored ≡ to_scale
    → P own stored to_own to_stored → P dataset scale to_dataset to_scale
of_both P own dataset stored scale to_own to_dataset to_stored to_scale same is to_same to_is h =
    of_stored (P dataset scale) to_own to_dataset to_stored to_scale to_same to_is (of_stored (λ d s. P d s to_own to_stored) own dataset stored scale same is h)
