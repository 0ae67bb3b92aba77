-- What is so of all elements is so of those at the front.
use Rattle.std.proofs.Common.{◌≡◌, List, [], ◌∷◌, ◌++◌, All, subst, arith}
use Rattle.std.specs.Prelude.{IfSome, Option, Some}
use Rattle.std.proofs.lemmas.List.{get_or_append_left, length-append}

pub all_front : {X : Type 0} (old new : List X) (x : X) → old ≡ new ++ x ∷ [] → (P : X → Type 0) → All P old → All P new
all_front old new x is P all = λ k d l.
    let both = subst (All P) is all in
    subst P (get_or_append_left new (x ∷ []) d k l) (both k d (omega (arith, l, length-append new (x ∷ []))))

-- what is said of a value, where there is one
pub some_is : {X : Type 0} (P : X → Type 0) (o : Option X) (x : X) → o ≡ Some x → IfSome o P → P x
some_is P o x e h = subst (λ q. IfSome q P) e h
