-- The words of a line, sorted into plain ones and others.
use Rattle.std.proofs.Common.{◌≡◌, ℕ, List, [], ◌∷◌, Bool, true, false, cond, refl}
use Rattle.std.specs.Prelude.{filter}
use Rattle.std.specs.List.{list_all}

-- what a test lets through passes it
kept : (p : List ℕ → Bool) (x : List ℕ) (rest : List (List ℕ)) (b : Bool) → p x ≡ b → list_all p rest ≡ true → list_all p (cond b (x ∷ rest) rest) ≡ true
kept p x rest true e h = rw e h
kept p x rest false e h = h

pub filter_all : (p : List ℕ → Bool) (xs : List (List ℕ)) → list_all p (filter p xs) ≡ true
filter_all p [] = refl
filter_all p (x ∷ xs) = kept p x (filter p xs) (p x) refl (filter_all p xs)
