-- The chunks of a minishard, where entries are in the order of their keys.
use Rattle.std.proofs.Common.{◌≡◌, ℕ, zero, suc, ◌+◌, ◌*◌, ◌^◌, ◌<◌, ◌≤◌, Bool, true, false, if◌then◌else◌, ◌==◌, ◌&&◌, List, [], ◌∷◌, ◌++◌, length, get_or, slice_index, map, take, drop, refl, ap, ◌∙◌, sym, subst, arith, nat_lt}
use Rattle.std.specs.Prelude.{All, T, filter}
use Rattle.std.specs.FinMap as fin
use Rattle.std.specs.Ordering.{is_lt, nat_cmp, ordering_then}
use Rattle.std.specs.Cmp.{nat_cmp_is}
use Rattle.std.specs.declared.cmp.Ordering.{Ordering}
use Rattle.std.specs.declared.cmp.Ordering.TheVariants.{Less, Equal, Greater}
use Rattle.std.proofs.lemmas.Bool.Decides.{nat_tests}
use Rattle.std.proofs.lemmas.Cmp.{ranked}
use Rattle.std.proofs.lemmas.List.Elements.{All-nil, All-cons, All-head, All-tail}
use Rattle.vol_base.specs.Outside.{part}
use Rattle.chunk_grid.proofs.GridSteps.{three}
use Rattle.vol_spec.specs.Shards.{Chunk, before, bodies, entries, joint, of, shard_bytes, start_of}
use Rattle.vol_spec.specs.StoredShards.{chunk_of, in_shard}
use Rattle.chunk_laws.proofs.Ascending.{lower, nothing}
use Rattle.chunk_laws.proofs.FoundAgain.{length_entries}
use Rattle.vol_spec.proofs.PlacedSteps.{Entry, by_key}
use Rattle.chunk_laws.proofs.Spots.{chunk_at}
use Rattle.chunk_laws.proofs.Sums.{joint_cons, joint_first, room_cons, room_fits}
use Rattle.chunk_laws.specs.Rooms.{room}

abbrev pub chosen_in : List Entry → ℕ → ℕ → List Chunk
chosen_in es k m = of (in_shard es k) m

chosen_first : (e : Entry) (es : List Entry) (k m : ℕ)
    → chosen_in (e ∷ es) k m ≡ (if (slice_index e.0 0 == k) && (slice_index e.0 1 == m) then chunk_of e ∷ chosen_in es k m else chosen_in es k m)
chosen_first e es k m = by (slice_index e.0 0 == k)
  where
    by : (b : Bool) → of (map chunk_of (if b then e ∷ filter (λ (x : Entry). slice_index x.0 0 == k) es else filter (λ (x : Entry). slice_index x.0 0 == k) es)) m
        ≡ (if b && (slice_index e.0 1 == m) then chunk_of e ∷ chosen_in es k m else chosen_in es k m)
    by true = refl
    by false = refl

-- keys of one shard and minishard rise by the id
nat_self : (k : ℕ) → nat_cmp k k ≡ Equal
nat_self k = sym (nat_cmp_is k k Equal refl)

id_less : (k m i j : ℕ) → T (is_lt (by_key (k ∷ m ∷ i ∷ []) (k ∷ m ∷ j ∷ []))) → i < j
id_less k m i j t =
    let same : by_key (k ∷ m ∷ i ∷ []) (k ∷ m ∷ j ∷ []) ≡ ordering_then (nat_cmp i j) Equal =
    ap (λ o. ordering_then o (ordering_then (nat_cmp m m) (ordering_then (nat_cmp i j) Equal))) (nat_self k) ∙ ap (λ o. ordering_then o (ordering_then (nat_cmp i j) Equal)) (nat_self m) in
    by (nat_cmp i j) refl (subst (λ o. T (is_lt o)) same t)
  where
    by : (o : Ordering) → nat_cmp i j ≡ o → T (is_lt (ordering_then o Equal)) → i < j
    by Less e h = ranked i j Less (sym e)
    by Equal e h = absurd h
    by Greater e h = absurd h

abbrev below_all : List ℕ → List Entry → Bool
below_all x [] = true
below_all x (e ∷ es) = is_lt (by_key x e.0) && below_all x es

front : (a b : Bool) → T (a && b) → T a
front true b h = tt
front false b h = absurd h

back : (a b : Bool) → T (a && b) → T b
back true b h = h
back false b h = absurd h

is_equal : (a b : ℕ) → (a == b) ≡ true → a ≡ b
is_equal a b e = grind (arith, nat_tests)

abbrev pub IsTriple : Entry → Type 0
IsTriple e = length e.0 ≡ 3

key_is : (e : Entry) (k m : ℕ) → IsTriple e → (slice_index e.0 0 == k) ≡ true → (slice_index e.0 1 == m) ≡ true → e.0 ≡ k ∷ m ∷ slice_index e.0 2 ∷ []
key_is e k m t a b = three e.0 k m (slice_index e.0 2) t (is_equal (slice_index e.0 0) k a) (is_equal (slice_index e.0 1) m b) refl

above : (k m i : ℕ) (es : List Entry) → All IsTriple es → T (below_all (k ∷ m ∷ i ∷ []) es) → All (λ (c : Chunk). i < c.id) (chosen_in es k m)
above k m i [] triples low = All-nil (λ (c : Chunk). i < c.id)
above k m i (e ∷ es) triples low =
    subst (All (λ (c : Chunk). i < c.id)) (sym (chosen_first e es k m))
    (by (slice_index e.0 0 == k) (slice_index e.0 1 == m) refl refl (above k m i es (All-tail IsTriple e es triples) (back (is_lt (by_key (k ∷ m ∷ i ∷ []) e.0)) (below_all (k ∷ m ∷ i ∷ []) es) low)))
  where
    by : (a b : Bool) → (slice_index e.0 0 == k) ≡ a → (slice_index e.0 1 == m) ≡ b → All (λ (c : Chunk). i < c.id) (chosen_in es k m)
        → All (λ (c : Chunk). i < c.id) (if a && b then chunk_of e ∷ chosen_in es k m else chosen_in es k m)
    by true true ea eb rest =
        let key = key_is e k m (All-head IsTriple e es triples) ea eb in
        All-cons (λ (c : Chunk). i < c.id) (chunk_of e) (chosen_in es k m)
        (id_less k m i (slice_index e.0 2) (subst (λ q. T (is_lt (by_key (k ∷ m ∷ i ∷ []) q))) key (front (is_lt (by_key (k ∷ m ∷ i ∷ []) e.0)) (below_all (k ∷ m ∷ i ∷ []) es) low))) rest
    by true false ea eb rest = rest
    by false true ea eb rest = rest
    by false false ea eb rest = rest

-- ids rise
abbrev pub Rises : List Chunk → Type 0
Rises [] = Unit {0}
Rises (c ∷ cs) = All (λ (d : Chunk). c.id < d.id) cs × Rises cs

pub chosen_rises : (es : List Entry) (k m : ℕ) → All IsTriple es → T (fin.is_sorted by_key es) → Rises (chosen_in es k m)
chosen_rises [] k m triples sorted = tt
chosen_rises (e ∷ es) k m triples sorted =
    subst Rises (sym (chosen_first e es k m))
    (by (slice_index e.0 0 == k) (slice_index e.0 1 == m) refl refl (chosen_rises es k m (All-tail IsTriple e es triples) (back (below_all e.0 es) (fin.is_sorted by_key es) sorted)))
  where
    by : (a b : Bool) → (slice_index e.0 0 == k) ≡ a → (slice_index e.0 1 == m) ≡ b → Rises (chosen_in es k m) → Rises (if a && b then chunk_of e ∷ chosen_in es k m else chosen_in es k m)
    by true true ea eb rest =
        let key = key_is e k m (All-head IsTriple e es triples) ea eb in
        (above k m (slice_index e.0 2) es (All-tail IsTriple e es triples) (subst (λ q. T (below_all q es)) key (front (below_all e.0 es) (fin.is_sorted by_key es) sorted)), rest)
    by true false ea eb rest = rest
    by false true ea eb rest = rest
    by false false ea eb rest = rest

pub rises-next : (cs : List Chunk) → Rises cs → (r : ℕ) → r + 1 < length cs → (get_or cs r nothing).id < (get_or cs (r + 1) nothing).id
rises-next [] h r l = absurd (omega arith)
rises-next (c ∷ cs) h zero l = h.0 0 nothing (omega arith)
rises-next (c ∷ cs) h (suc r) l =
    let up : suc (r + 1) ≡ suc r + 1 = omega arith in
    subst (λ n. (get_or cs r nothing).id < (get_or (c ∷ cs) n nothing).id) up (rises-next cs h.1 r (omega arith))

-- the chunks with lower ids are those before
none_lower : (cs : List Chunk) (i : ℕ) → All (λ (d : Chunk). i < d.id) cs → lower cs i ≡ 0
none_lower [] i h = refl
none_lower (c ∷ cs) i h =
    let rest = none_lower cs i (All-tail (λ (d : Chunk). i < d.id) c cs h) in
    let p = joint_first (λ (d : Chunk). nat_lt d.id i) c cs in
    let up : i < c.id = All-head (λ (d : Chunk). i < d.id) c cs h in
    let none = not_counted c.id i (length c.bytes) up in omega arith
  where
    not_counted : (a b x : ℕ) → b < a → (if nat_lt a b then x else 0) ≡ 0
    not_counted a b x l = grind (arith, nat_tests)

lower_before : (cs : List Chunk) (r : ℕ) → Rises cs → r < length cs → lower cs (get_or cs r nothing).id ≡ joint (take r cs)
lower_before [] r h l = absurd (omega arith)
lower_before (c ∷ cs) zero h l =
    let rest = none_lower cs c.id h.0 in
    let p = joint_first (λ (d : Chunk). nat_lt d.id c.id) c cs in
    let none = itself c.id (length c.bytes) in omega arith
  where
    itself : (a x : ℕ) → (if nat_lt a a then x else 0) ≡ 0
    itself a x = grind (arith, nat_tests)
lower_before (c ∷ cs) (suc r) h l =
    let rest = lower_before cs r h.1 (omega arith) in
    let p = joint_first (λ (d : Chunk). nat_lt d.id (get_or cs r nothing).id) c cs in
    let up : c.id < (get_or cs r nothing).id = h.0 r nothing (omega arith) in
    let one = counted c.id (get_or cs r nothing).id (length c.bytes) up in
    let q = joint_cons c (take r cs) in omega arith
  where
    counted : (a b x : ℕ) → a < b → (if nat_lt a b then x else 0) ≡ x
    counted a b x l = grind (arith, nat_tests)

split_at : (cs : List Chunk) (r : ℕ) → r < length cs → cs ≡ take r cs ++ get_or cs r nothing ∷ drop (r + 1) cs
split_at [] r l = absurd (omega arith)
split_at (c ∷ cs) zero l = refl
split_at (c ∷ cs) (suc r) l =
    let up : suc r + 1 ≡ suc (r + 1) = omega arith in
    ap (λ ds. c ∷ ds) (split_at cs r (omega arith)) ∙ ap (λ n. c ∷ (take r cs ++ get_or cs r nothing ∷ drop n (c ∷ cs))) (sym up)

drop_over : (xs ys : List ℕ) (k d : ℕ) → length xs ≡ k → drop (k + d) (xs ++ ys) ≡ drop d ys
drop_over [] ys k d e = let f : k + d ≡ d = omega arith in ap (λ j. drop j ys) f
drop_over (x ∷ xs) ys zero d e = absurd (omega arith)
drop_over (x ∷ xs) ys (suc k) d e = let f : suc k + d ≡ suc (k + d) = omega arith in ap (λ j. drop j (x ∷ (xs ++ ys))) f ∙ drop_over xs ys k d (omega arith)

-- so each chunk stands at its start
pub chunk_part : (cs : List Chunk) (bits r : ℕ) (c : Chunk) → c.minishard < 2 ^ bits → Rises (of cs c.minishard) → r < length (of cs c.minishard) → get_or (of cs c.minishard) r nothing ≡ c
    → part (shard_bytes bits cs) (16 * 2 ^ bits + start_of cs c) (length c.bytes) ≡ c.bytes
unfolding shard_bytes
chunk_part cs bits r c within rises l is =
    let here : of cs c.minishard ≡ take r (of cs c.minishard) ++ c ∷ drop (r + 1) (of cs c.minishard) =
    split_at (of cs c.minishard) r l ∙ ap (λ (d : Chunk). take r (of cs c.minishard) ++ d ∷ drop (r + 1) (of cs c.minishard)) is in
    let low : lower (of cs c.minishard) c.id ≡ joint (take r (of cs c.minishard)) = ap (λ (d : Chunk). lower (of cs c.minishard) d.id) (sym is) ∙ lower_before (of cs c.minishard) r rises l in
    ap (take (length c.bytes)) (drop_over (entries cs (2 ^ bits)) (bodies cs (2 ^ bits)) (16 * 2 ^ bits) (start_of cs c) (length_entries cs (2 ^ bits)))
    ∙ chunk_at cs (2 ^ bits) (take r (of cs c.minishard)) c (drop (r + 1) (of cs c.minishard)) within here low

-- sums stay small
pub room_short : (cs : List Chunk) → All (λ (c : Chunk). length c.bytes ≤ 2 ^ 27) cs → room cs ≤ (2 ^ 27 + 24) * length cs
room_short [] h = omega arith
room_short (c ∷ cs) h =
    let rest = room_short cs (All-tail (λ (c : Chunk). length c.bytes ≤ 2 ^ 27) c cs h) in
    let one : length c.bytes ≤ 2 ^ 27 = All-head (λ (c : Chunk). length c.bytes ≤ 2 ^ 27) c cs h in
    let p = room_cons c cs in omega arith

pub before_short : (cs : List Chunk) (m : ℕ) → All (λ (c : Chunk). length c.bytes ≤ 2 ^ 27) cs → length cs ≤ 2 ^ 22 → before cs m < 2 ^ 64
before_short cs m h few =
    let a : before cs m ≤ room cs = room_fits (λ (c : Chunk). nat_lt c.minishard m) cs in
    let b = room_short cs h in omega arith
