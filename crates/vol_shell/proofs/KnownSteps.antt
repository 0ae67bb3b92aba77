-- The bytes that a writer holds, call after call.
use Rattle.std.proofs.Common.{ℕ, List, Option, Some, None, refl, ◌∙◌, ap, take}
use Rattle.std.specs.Io.KnownBytes.{Keeps, Appends}
use Rattle.std.proofs.lemmas.Grind.{common_steps}
use Rattle.std.proofs.Common.{◌++◌, arith}

pub kept : (o : Option (List ℕ)) → Keeps o o
kept None = tt
kept (Some xs) = refl

pub kept_twice : (a b c : Option (List ℕ)) → Keeps a b → Keeps b c → Keeps a c
kept_twice None b c h k = tt
kept_twice (Some xs) None c h k = absurd h
kept_twice (Some xs) (Some ys) None h k = absurd k
kept_twice (Some xs) (Some ys) (Some zs) h k = k ∙ h

pub kept_and_grown : (a b c : Option (List ℕ)) (bytes : List ℕ) → Keeps a b → Appends b c bytes → Appends a c bytes
kept_and_grown None b c bytes h k = tt
kept_and_grown (Some xs) None c bytes h k = absurd h
kept_and_grown (Some xs) (Some ys) None bytes h k = absurd k
kept_and_grown (Some xs) (Some ys) (Some zs) bytes h k = k ∙ ap (λ ws. ws ++ bytes) h

-- no byte more
pub grown_by_none : (a b : Option (List ℕ)) (bytes : List ℕ) → Appends a b (take 0 bytes) → Keeps a b
grown_by_none None b bytes h = tt
grown_by_none (Some xs) None bytes h = absurd h
grown_by_none (Some xs) (Some ys) bytes h = h ∙ grind (arith, common_steps)
