-- The bytes that a reader loses, read after read.
use Rattle.std.proofs.Common.{ℕ, ◌+◌, ◌≤◌, List, [], ◌++◌, length, take, Option, Some, None, refl, ap, ◌∙◌, sym, append_assoc, arith}
use Rattle.std.specs.Io.KnownBytes.{Consumes, Keeps}
use Rattle.std.proofs.lemmas.Grind.{common_steps}
use Rattle.vol_shell.specs.Effects.{LosesAtMost}

consumes_nothing : (o : Option (List ℕ)) → Consumes o o []
consumes_nothing None = tt
consumes_nothing (Some xs) = refl

consumes_and_keeps : (a b c : Option (List ℕ)) (xs : List ℕ) → Consumes a b xs → Keeps b c → Consumes a c xs
consumes_and_keeps None b c xs h k = tt
consumes_and_keeps (Some us) None c xs h k = absurd h
consumes_and_keeps (Some us) (Some vs) None xs h k = absurd k
consumes_and_keeps (Some us) (Some vs) (Some ws) xs h k = h ∙ ap (λ o. xs ++ o) (sym k)

consumes_twice : (a b c : Option (List ℕ)) (xs ys : List ℕ) → Consumes a b xs → Consumes b c ys → Consumes a c (xs ++ ys)
consumes_twice None b c xs ys h k = tt
consumes_twice (Some us) None c xs ys h k = absurd h
consumes_twice (Some us) (Some vs) None xs ys h k = absurd k
consumes_twice (Some us) (Some vs) (Some ws) xs ys h k = h ∙ ap (λ o. xs ++ o) k ∙ sym (append_assoc xs ys ws)

-- a reader that wasn't read
pub loses_nothing : (o : Option (List ℕ)) (most : ℕ) → LosesAtMost most o o
loses_nothing o most = record { bytes = []; lost = consumes_nothing o; few = grind (arith, common_steps) }

-- and one that was read before, with no byte more
pub loses_no_more : (a b c : Option (List ℕ)) (m most : ℕ) → LosesAtMost m a b → Keeps b c → m ≤ most → LosesAtMost most a c
loses_no_more a b c m most h k l = record { bytes = h.bytes; lost = consumes_and_keeps a b c h.bytes h.lost k; few = omega (arith, h.few, l) }

-- and with the bytes of one read more
pub loses_more : (a b c : Option (List ℕ)) (m n most : ℕ) (xs : List ℕ) → LosesAtMost m a b → Consumes b c (take n xs) → m + n ≤ most → LosesAtMost most a c
loses_more a b c m n most xs h k l =
    let short : length (take n xs) ≤ n = grind (arith, common_steps) in
    record {
      bytes = h.bytes ++ take n xs;
      lost = consumes_twice a b c h.bytes (take n xs) h.lost k;
      few = (let few : length h.bytes ≤ m = h.few in grind (arith, common_steps));
    }

pub loses_within : (a b : Option (List ℕ)) (m most : ℕ) → LosesAtMost m a b → m ≤ most → LosesAtMost most a b
loses_within a b m most h l = record { bytes = h.bytes; lost = h.lost; few = omega (arith, h.few, l) }
