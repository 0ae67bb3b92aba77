-- What the words spell keeps to its limits, and there are four of them.
use Rattle.std.proofs.Common.{◌≡◌, ◌≤◌, ℕ, List, [], ◌∷◌, Bool, true, false, Option, Some, None, IfSome, length, refl, arith}
use Rattle.std.specs.Prelude.{◌&&◌, nat_le, option_and_then, if◌then◌else◌, codes}
use Rattle.std.specs.Option.{option_or}
use Rattle.std.proofs.lemmas.Bool.{and_parts}
use Rattle.std.proofs.lemmas.Bool.Decides.{nat_tests}
use Rattle.vol_serve.specs.Words.{KeepsLimits, connections_in, dataset_in, hall_line, in_four, port_in, serving_of, workers_in}
use Rattle.line_words.specs.Words.{connection_count, number, value_after, worker_count}

-- a number that passes a test keeps to it
kept : (P : ℕ → Type 0) (test : ℕ → Bool) → ((n : ℕ) → test n ≡ true → P n) → (n : ℕ) (b : Bool) → test n ≡ b → IfSome (if b then Some n else None) P
kept P test means n true e = means n e
kept P test means n false e = tt

and_then : {A : Type 0} (o : Option A) (f : A → Option ℕ) (P : ℕ → Type 0) → ((x : A) → IfSome (f x) P) → IfSome (option_and_then f o) P
and_then None f P each = tt
and_then (Some x) f P each = each x

or_else : (o p : Option ℕ) (P : ℕ → Type 0) → IfSome o P → IfSome p P → IfSome (option_or o p) P
or_else None p P ho hp = hp
or_else (Some n) p P ho hp = ho

in_any : (find : List ℕ → Option ℕ) (P : ℕ → Type 0) → ((word : List ℕ) → IfSome (find word) P) → (a b c d : List ℕ) → IfSome (in_four find a b c d) P
in_any find P each a b c d = or_else _ _ P (or_else _ _ P (or_else _ _ P (each a) (each b)) (each c)) (each d)

abbrev IsSome1 : ℕ → Type 0
IsSome1 n = 1 ≤ n

abbrev IsFew : ℕ → Type 0
IsFew n = (1 ≤ n) × (n ≤ 16)

some_peers : (n : ℕ) → (nat_le 1 n && nat_le n 65536) ≡ true → 1 ≤ n
some_peers n e = let parts = and_parts (nat_le 1 n) (nat_le n 65536) e in let low : nat_le 1 n ≡ true = parts.0 in grind (arith, nat_tests)

few_workers : (n : ℕ) → (nat_le 1 n && nat_le n 16) ≡ true → IsFew n
few_workers n e =
    let parts = and_parts (nat_le 1 n) (nat_le n 16) e in
    let low : nat_le 1 n ≡ true = parts.0 in
    let high : nat_le n 16 ≡ true = parts.1 in
    (grind (arith, nat_tests), grind (arith, nat_tests))

connections_kept : (word : List ℕ) → IfSome (connections_in word) IsSome1
connections_kept word = and_then (value_after (codes "--connections=") word) connection_count IsSome1
    (λ value. and_then (number value) _ IsSome1 (λ n. kept IsSome1 (λ n. nat_le 1 n && nat_le n 65536) some_peers n _ refl))

workers_kept : (word : List ℕ) → IfSome (workers_in word) IsFew
workers_kept word = and_then (value_after (codes "--workers=") word) worker_count IsFew
    (λ value. and_then (number value) _ IsFew (λ n. kept IsFew (λ n. nat_le 1 n && nat_le n 16) few_workers n _ refl))

serving_kept : (d : Option (List ℕ)) (p c w : Option ℕ) → IfSome c IsSome1 → IfSome w IsFew → KeepsLimits (serving_of d p c w)
serving_kept (Some d) (Some p) (Some c) (Some w) hc hw = (hc, hw.0, hw.1)
serving_kept (Some d) (Some p) (Some c) None hc hw = tt
serving_kept (Some d) (Some p) None w hc hw = tt
serving_kept (Some d) None c w hc hw = tt
serving_kept None p c w hc hw = tt

pub four_kept : (a b c d : List ℕ) → KeepsLimits (serving_of (in_four dataset_in a b c d) (in_four port_in a b c d) (in_four connections_in a b c d) (in_four workers_in a b c d))
four_kept a b c d = serving_kept _ _ _ _ (in_any connections_in IsSome1 connections_kept a b c d) (in_any workers_in IsFew workers_kept a b c d)

-- other words than four spell nothing
pub not_four : (words : List (List ℕ)) → (length words ≡ 4 → ⊥) → None ≡ hall_line words
not_four [] other = refl
not_four (a ∷ []) other = refl
not_four (a ∷ b ∷ []) other = refl
not_four (a ∷ b ∷ c ∷ []) other = refl
not_four (a ∷ b ∷ c ∷ d ∷ []) other = absurd (other refl)
not_four (a ∷ b ∷ c ∷ d ∷ e ∷ words) other = refl
