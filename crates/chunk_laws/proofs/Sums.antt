-- Sums over chunks, one chunk on.
use Rattle.std.proofs.Common.{◌≡◌, ℕ, zero, suc, ◌+◌, ◌≤◌, Bool, true, false, if◌then◌else◌, List, [], ◌∷◌, ◌++◌, length, arith, append_assoc, ap, ◌∙◌, sym}
use Rattle.std.specs.List.{range_with_len}
use Rattle.std.specs.Prelude.{filter, flat_map}
use Rattle.std.proofs.lemmas.Grind.{flat_map-append}
use Rattle.std.proofs.lemmas.List.{append-nil}
use Rattle.std.proofs.lemmas.List.Sums.{sum_by_from}
use Rattle.vol_spec.specs.Shards.{Chunk, joint}
use Rattle.chunk_laws.specs.Rooms.{room}

pub joint_cons : (c : Chunk) (cs : List Chunk) → joint (c ∷ cs) ≡ length c.bytes + joint cs
joint_cons c cs = sum_by_from (λ (d : Chunk). length d.bytes) (0 + length c.bytes) cs ∙ (omega arith)

pub room_cons : (c : Chunk) (cs : List Chunk) → room (c ∷ cs) ≡ length c.bytes + 24 + room cs
room_cons c cs = sum_by_from (λ (d : Chunk). length d.bytes + 24) (0 + (length c.bytes + 24)) cs ∙ (omega arith)

-- the first chunk counts where it is meant
pub joint_first : (p : Chunk → Bool) (c : Chunk) (cs : List Chunk) → joint (filter p (c ∷ cs)) ≡ (if p c then length c.bytes else 0) + joint (filter p cs)
joint_first p c cs = by (p c)
  where
    by : (b : Bool) → joint (if b then c ∷ filter p cs else filter p cs) ≡ (if b then length c.bytes else 0) + joint (filter p cs)
    by true = joint_cons c (filter p cs)
    by false = omega arith

-- no choice takes more than all chunks
pub room_fits : (p : Chunk → Bool) (cs : List Chunk) → room (filter p cs) ≤ room cs
room_fits p [] = omega arith
room_fits p (c ∷ cs) = let rest = room_fits p cs in by (p c) rest
  where
    by : (b : Bool) → room (filter p cs) ≤ room cs → room (if b then c ∷ filter p cs else filter p cs) ≤ room (c ∷ cs)
    by true rest = omega (arith, room_cons c (filter p cs), room_cons c cs)
    by false rest = omega (arith, room_cons c cs)

pub range_more : (a n : ℕ) → range_with_len a (n + 1) ≡ range_with_len a n ++ (a + n) ∷ []
range_more a zero = let e : a ≡ a + 0 = omega arith in ap (λ k. k ∷ []) e
range_more a (suc n) =
    let up : suc n + 1 ≡ suc (n + 1) = omega arith in
    let last : a + 1 + n ≡ a + suc n = omega arith in
    ap (range_with_len a) up ∙ ap (λ ks. a ∷ ks) (range_more (a + 1) n) ∙ ap (λ k. a ∷ (range_with_len (a + 1) n ++ k ∷ [])) last

-- what the first minishards have, and the next one
pub pieces_more : (out : List ℕ) (f : ℕ → List ℕ) (n : ℕ) → out ++ flat_map f (range_with_len 0 n) ++ f n ≡ out ++ flat_map f (range_with_len 0 (n + 1))
pieces_more out f n =
    let e : n ≡ 0 + n = omega arith in
    append_assoc out (flat_map f (range_with_len 0 n)) (f n)
    ∙ ap (λ xs. out ++ xs) (ap (λ k. flat_map f (range_with_len 0 n) ++ f k) e ∙ ap (λ xs. flat_map f (range_with_len 0 n) ++ xs) (sym (append-nil (f (0 + n))))
    ∙ sym (flat_map-append f (range_with_len 0 n) ((0 + n) ∷ [])) ∙ ap (flat_map f) (sym (range_more 0 n)))
