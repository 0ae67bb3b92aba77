-- The rows of a minishard can be stored.
use Rattle.std.proofs.Common.{◌≡◌, ℕ, ◌+◌, ◌≤◌, ◌<◌, ◌^◌, Bool, true, false, if◌then◌else◌, zero, suc, List, [], ◌∷◌, length, get_or, slice_index, arith, refl, ap, ◌∙◌, nat_lt}
use Rattle.std.specs.Prelude.{filter, ◌==◌, map}
use Rattle.std.proofs.lemmas.Bool.Decides.{nat_tests}
use Rattle.std.proofs.lemmas.List.{get_or-map, length-map}
use Rattle.vol_spec.specs.IndexBytes.{AreRows}
use Rattle.vol_spec.specs.Shards.{Chunk, joint, before, of, row_of, rows_of, start_of}
use Rattle.vol_spec.specs.declared.row.Row.{Row}
use Rattle.chunk_laws.proofs.Sums.{joint_cons, joint_first}
use Rattle.chunk_laws.proofs.Next.{before_next}

abbrev pub nothing : Chunk
nothing = record { minishard = 0; id = 0; bytes = [] }

is_equal : (a b : ℕ) → (a == b) ≡ true → a ≡ b
is_equal a b e = grind (arith, nat_tests)

in_minishard : (cs : List Chunk) (m r : ℕ) → r < length (of cs m) → (get_or (of cs m) r nothing).minishard ≡ m
in_minishard [] m r h = absurd (omega arith)
in_minishard (c ∷ cs) m r h = by (λ (k : ℕ) (l : k < length (of cs m)). in_minishard cs m k l) (c.minishard == m) refl r h
  where
    by : ((k : ℕ) → k < length (of cs m) → (get_or (of cs m) k nothing).minishard ≡ m) → (b : Bool) → (c.minishard == m) ≡ b → (k : ℕ)
        → k < length (if b then c ∷ of cs m else of cs m) → (get_or (if b then c ∷ of cs m else of cs m) k nothing).minishard ≡ m
    by rest true e zero l = is_equal c.minishard m e
    by rest true e (suc k) l = rest k (omega arith)
    by rest false e k l = rest k l

more : (i a b x : ℕ) → a ≤ b → (if nat_lt i a then x else 0) ≤ (if nat_lt i b then x else 0)
more i a b x h = grind (arith, nat_tests)

least : (i a x : ℕ) → (if nat_lt i a then x else 0) ≤ x
least i a x = grind (arith, nat_tests)

itself : (a b x : ℕ) → a < b → (if nat_lt a a then x else 0) + x ≤ (if nat_lt a b then x else 0)
itself a b x h = grind (arith, nat_tests)

itself_all : (a x : ℕ) → (if nat_lt a a then x else 0) ≡ 0
itself_all a x = grind (arith, nat_tests)

abbrev pub lower : List Chunk → ℕ → ℕ
lower cs a = joint (filter (λ (d : Chunk). nat_lt d.id a) cs)

lower_first : (c : Chunk) (cs : List Chunk) (a : ℕ) → lower (c ∷ cs) a ≡ (if nat_lt c.id a then length c.bytes else 0) + lower cs a
lower_first c cs a = joint_first (λ (d : Chunk). nat_lt d.id a) c cs

lower_more : (cs : List Chunk) (a b : ℕ) → a ≤ b → lower cs a ≤ lower cs b
lower_more [] a b h = omega arith
lower_more (c ∷ cs) a b h =
    let rest = lower_more cs a b h in let p = lower_first c cs a in let q = lower_first c cs b in let o = more c.id a b (length c.bytes) h in omega arith

lower_all : (cs : List Chunk) (a : ℕ) → lower cs a ≤ joint cs
lower_all [] a = omega arith
lower_all (c ∷ cs) a = let rest = lower_all cs a in let p = lower_first c cs a in let o = least c.id a (length c.bytes) in omega (arith, joint_cons c cs)

-- behind a chunk come those with higher ids,
behind : (cs : List Chunk) (r b : ℕ) → r < length cs → (get_or cs r nothing).id < b → lower cs (get_or cs r nothing).id + length (get_or cs r nothing).bytes ≤ lower cs b
behind [] r b h up = absurd (omega arith)
behind (c ∷ cs) zero b h up =
    let rest = lower_more cs c.id b (omega arith) in let p = lower_first c cs c.id in let q = lower_first c cs b in let o = itself c.id b (length c.bytes) up in omega arith
behind (c ∷ cs) (suc r) b h up =
    let rest = behind cs r b (omega arith) up in
    let p = lower_first c cs (get_or cs r nothing).id in let q = lower_first c cs b in let o = more c.id (get_or cs r nothing).id b (length c.bytes) (omega arith) in omega arith

-- and the end of all
pub within : (cs : List Chunk) (r : ℕ) → r < length cs → lower cs (get_or cs r nothing).id + length (get_or cs r nothing).bytes ≤ joint cs
within [] r h = absurd (omega arith)
within (c ∷ cs) zero h =
    let rest = lower_all cs c.id in let p = lower_first c cs c.id in let o = itself_all c.id (length c.bytes) in omega (arith, joint_cons c cs)
within (c ∷ cs) (suc r) h =
    let rest = within cs r (omega arith) in
    let p = lower_first c cs (get_or cs r nothing).id in let o = least c.id (get_or cs r nothing).id (length c.bytes) in omega (arith, joint_cons c cs)

start_in : (cs : List Chunk) (c : Chunk) (m : ℕ) → c.minishard ≡ m → start_of cs c ≡ before cs m + lower (of cs m) c.id
start_in cs c m e = ap (λ k. before cs k + lower (of cs k) c.id) e

pub row_is : (cs : List Chunk) (m r : ℕ) (f : Row → ℕ) → r < length (of cs m) → slice_index (map f (rows_of cs m)) r ≡ f (row_of cs (get_or (of cs m) r nothing))
row_is cs m r f h =
    get_or-map f (rows_of cs m) r (row_of cs nothing) 0 (omega (arith, length-map (of cs m) (row_of cs)))
    ∙ ap f (get_or-map (row_of cs) (of cs m) r nothing (row_of cs nothing) h)

pub rows_ok : (cs : List Chunk) (m : ℕ) → ((r : ℕ) → r + 1 < length (of cs m) → (get_or (of cs m) r nothing).id < (get_or (of cs m) (r + 1) nothing).id)
    → before cs (m + 1) < 2 ^ 64 → AreRows (rows_of cs m)
rows_ok cs m ascend small = record {
  ascend = λ r h. let l : r + 1 < length (of cs m) = omega (arith, h, length-map (of cs m) (row_of cs)) in
      let up = ascend r l in
      let a = row_is cs m r (λ (row : Row). row.id) (omega arith) in
      let b = row_is cs m (r + 1) (λ (row : Row). row.id) l in omega arith;
  follow = λ r h. let l : r + 1 < length (of cs m) = omega (arith, h, length-map (of cs m) (row_of cs)) in
      let up = ascend r l in
      let a = row_is cs m r (λ (row : Row). row.start + row.size) (omega arith) in
      let b = row_is cs m (r + 1) (λ (row : Row). row.start) l in
      let s = start_in cs (get_or (of cs m) r nothing) m (in_minishard cs m r (omega arith)) in
      let t = start_in cs (get_or (of cs m) (r + 1) nothing) m (in_minishard cs m (r + 1) l) in
      let o = behind (of cs m) r (get_or (of cs m) (r + 1) nothing).id (omega arith) up in omega arith;
  fit = λ r h. let l : r < length (of cs m) = omega (arith, h, length-map (of cs m) (row_of cs)) in
      let a = row_is cs m r (λ (row : Row). row.start + row.size) l in
      let s = start_in cs (get_or (of cs m) r nothing) m (in_minishard cs m r l) in
      let o = within (of cs m) r l in let n = before_next cs m in omega arith;
}
