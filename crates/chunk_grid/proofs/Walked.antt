-- A list that is walked over, one element on.
use Rattle.std.proofs.Common.{◌≡◌, List, [], ◌∷◌, ◌++◌, arith, refl, sym, ap, ◌∙◌, subst, append_assoc}
use Rattle.std.specs.Prelude.{Contains}
use Rattle.std.proofs.lemmas.List.{append-nil}
use Rattle.std.proofs.lemmas.List.Elements.{Contains-append_right}

-- the next element stands in the list
pub here : {X : Type 0} (done left rest all : List X) (x : X) → left ≡ x ∷ rest → done ++ left ≡ all → Contains all x
here done left rest all x e is =
    let at : Contains (done ++ x ∷ rest) x = Contains-append_right done (x ∷ rest) x (0, omega arith, refl) in
    subst (λ xs. Contains xs x) (ap (λ r. done ++ r) (sym e) ∙ is) at

pub one_on : {X : Type 0} (done left rest all : List X) (x : X) → left ≡ x ∷ rest → done ++ left ≡ all → (done ++ x ∷ []) ++ rest ≡ all
one_on done left rest all x e is = append_assoc done (x ∷ []) rest ∙ ap (λ r. done ++ r) (sym e) ∙ is

pub at_end : {X : Type 0} (done left all : List X) → left ≡ [] → done ++ left ≡ all → done ≡ all
at_end done left all e is = sym (append-nil done) ∙ ap (λ r. done ++ r) (sym e) ∙ is
