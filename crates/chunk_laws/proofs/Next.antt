-- What the minishards take, one minishard on.
use Rattle.std.proofs.Common.{◌≡◌, ℕ, ◌+◌, ◌*◌, Bool, true, false, if◌then◌else◌, zero, suc, List, [], ◌∷◌, ◌++◌, length, length-append, arith, refl, ap, sym, subst, add-one, nat_lt}
use Rattle.std.specs.Prelude.{filter, flat_map, ◌==◌}
use Rattle.std.proofs.lemmas.List.{length-map}
use Rattle.minishard.proofs.ColumnSteps.{length-ids, length-starts}
use Rattle.minishard.proofs.ReadBack.{length-numbers}
use Rattle.vol_spec.specs.IndexBytes.{index_bytes, stored, numbers}
use Rattle.vol_spec.specs.declared.row.Row.{Row}
use Rattle.chunk_laws.specs.Rooms.{room}
use Rattle.std.proofs.lemmas.Bool.Decides.{nat_tests}
use Rattle.chunk_laws.proofs.Sums.{joint_cons, joint_first, pieces_more, room_cons}
use Rattle.vol_spec.specs.Shards.{Chunk, joint, before, of, body, bodies, rows_of, row_of}

room_first : (p : Chunk → Bool) (c : Chunk) (cs : List Chunk) → room (filter p (c ∷ cs)) ≡ (if p c then length c.bytes + 24 else 0) + room (filter p cs)
room_first p c cs = by (p c)
  where
    by : (b : Bool) → room (if b then c ∷ filter p cs else filter p cs) ≡ (if b then length c.bytes + 24 else 0) + room (filter p cs)
    by true = room_cons c (filter p cs)
    by false = omega arith

count_first : (p : Chunk → Bool) (c : Chunk) (cs : List Chunk) → length (filter p (c ∷ cs)) ≡ (if p c then 1 else 0) + length (filter p cs)
count_first p c cs = by (p c)
  where
    by : (b : Bool) → length (if b then c ∷ filter p cs else filter p cs) ≡ (if b then 1 else 0) + length (filter p cs)
    by true = omega arith
    by false = omega arith

one : (n m x : ℕ) → (if nat_lt n (m + 1) then x + 24 else 0) ≡ (if nat_lt n m then x + 24 else 0) + ((if n == m then x else 0) + 24 * (if n == m then 1 else 0))
one n m x = grind (arith, nat_tests)

pub before_next : (cs : List Chunk) (m : ℕ) → before cs (m + 1) ≡ before cs m + (joint (of cs m) + 24 * length (of cs m))
before_next [] m = refl
before_next (c ∷ cs) m =
    let rest = before_next cs m in
    let a = room_first (λ (d : Chunk). nat_lt d.minishard (m + 1)) c cs in
    let b = room_first (λ (d : Chunk). nat_lt d.minishard m) c cs in
    let j = joint_first (λ (d : Chunk). d.minishard == m) c cs in
    let n = count_first (λ (d : Chunk). d.minishard == m) c cs in
    let o = one c.minishard m (length c.bytes) in
    omega arith

pub length_index : (rows : List Row) → length (index_bytes (stored rows)) ≡ 24 * length rows
length_index rows =
    let a = length-numbers (stored rows).ids in
    let b = length-numbers (stored rows).starts in
    let d = length-numbers (stored rows).sizes in
    let l1 = length-append (numbers (stored rows).ids) (numbers (stored rows).starts) in
    omega (arith, length-ids rows, length-starts rows, length-map rows (λ (row : Row). row.size), length-append (numbers (stored rows).ids ++ numbers (stored rows).starts) (numbers (stored rows).sizes))

pub length_chunks : (cs : List Chunk) → length (flat_map (λ (c : Chunk). c.bytes) cs) ≡ joint cs
length_chunks [] = refl
length_chunks (c ∷ cs) = let rest = length_chunks cs in omega (arith, length-append c.bytes (flat_map (λ (d : Chunk). d.bytes) cs), joint_cons c cs)

length_body : (cs : List Chunk) (m : ℕ) → length (body cs m) ≡ joint (of cs m) + 24 * length (of cs m)
length_body cs m =
    omega (arith, length-append (flat_map (λ (c : Chunk). c.bytes) (of cs m)) (index_bytes (stored (rows_of cs m))), length_chunks (of cs m), length_index (rows_of cs m), length-map (of cs m) (row_of cs))

none_below : (n x : ℕ) → (if nat_lt n 0 then x + 24 else 0) ≡ 0
none_below n x = grind (arith, nat_tests)

before_0 : (cs : List Chunk) → before cs 0 ≡ 0
before_0 [] = refl
before_0 (c ∷ cs) =
    let rest = before_0 cs in
    let a = room_first (λ (d : Chunk). nat_lt d.minishard 0) c cs in
    let none = none_below c.minishard (length c.bytes) in
    omega arith

pub length_bodies : (cs : List Chunk) (n : ℕ) → length (bodies cs n) ≡ before cs n
length_bodies cs zero = sym (before_0 cs)
length_bodies cs (suc n) =
    let rest = length_bodies cs n in
    let one_on : length (bodies cs n ++ body cs n) ≡ length (bodies cs (n + 1)) = ap length (pieces_more [] (body cs) n) in
    let next : length (bodies cs (n + 1)) ≡ before cs (n + 1) = omega (arith, length-append (bodies cs n) (body cs n), length_body cs n, before_next cs n) in
    let P : ℕ → Type 0 = λ k. length (bodies cs k) ≡ before cs k in
    subst P (add-one n) next
