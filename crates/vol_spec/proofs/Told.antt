-- What is said where something is told.
use Rattle.std.proofs.Common.{◌≡◌, Option, Some, None, IfSome, refl, subst}

pub from_told : {A : Type 0} (o : Option A) (P : A → Type 0) (a : A) → o ≡ Some a → IfSome o P → P a
from_told o P a told h = subst (λ x. IfSome x P) told h

pub in_told : {A : Type 0} (o : Option A) (P : A → Type 0) → ((a : A) → o ≡ Some a → P a) → IfSome o P
in_told None P h = tt
in_told (Some a) P h = h a refl
