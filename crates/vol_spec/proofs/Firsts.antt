-- The first fault of two lists.
use Rattle.std.proofs.Common.{◌≡◌, List, [], ◌∷◌, ◌++◌, Option, Some, None, refl}
use Rattle.vol_spec.specs.BoxValues.{first_some}

-- where the first list has none, it is that of the second
pub first_some-append : {A : Type 0} (xs ys : List (Option A)) → first_some xs ≡ None → first_some (xs ++ ys) ≡ first_some ys
first_some-append [] ys none = refl
first_some-append (None ∷ xs) ys none = first_some-append xs ys none
first_some-append (Some a ∷ xs) ys none = cc none

-- and else that of the first
pub first_some-front : {A : Type 0} (xs ys : List (Option A)) (a : A) → first_some xs ≡ Some a → first_some (xs ++ ys) ≡ Some a
first_some-front [] ys a some = cc some
first_some-front (None ∷ xs) ys a some = first_some-front xs ys a some
first_some-front (Some b ∷ xs) ys a some = some
