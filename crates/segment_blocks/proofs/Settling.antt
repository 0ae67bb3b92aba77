-- The tables of one block more.
use Rattle.std.proofs.Common.{◌≡◌, ◌≢◌, ◌⊎◌, ℕ, zero, suc, ◌+◌, ◌*◌, ◌^◌, ◌<◌, ◌≤◌, List, [], ◌∷◌, ◌++◌, length, slice_index, set, take, drop, Bool, true, false, IsTrue, arith, refl, ap, ◌∙◌, sym, subst, inl, inr, ⊎_elim, append-nil}
use Rattle.std.specs.Prelude.{flat_map, sum_by, unwrap_or, ◌==◌, if◌then◌else◌}
use Rattle.std.specs.List.{range_with_len}
use Rattle.std.proofs.lemmas.Bool.{cases_eq}
use Rattle.std.proofs.lemmas.Bool.Decides.{nat_tests}
use Rattle.std.proofs.lemmas.Grind.{flat_map-append}
use Rattle.std.proofs.lemmas.List.{get_or-set_other, get_or-set_same}
use Rattle.std.proofs.lemmas.List.Sums.{sum_by-append, sum_by-cons}
use Rattle.vol_spec.specs.BoxValues.{bytes_of}
use Rattle.vol_spec.specs.SegSizes.{SegSizes, width_of}
use Rattle.vol_spec.specs.SegWritten.{owner, packed_len, places, same, table, table_bytes, table_len, table_place, values_place}
use Rattle.equal_values.specs.Chains.{IsIndex}
use Rattle.segment_blocks.specs.Stored.{AreStored, Candidate, HasTables, hash_at, indexed}
use Rattle.segment_blocks.proofs.Equal.{same_is}
use Rattle.equal_values.proofs.Indexed.{skipped}
use Rattle.segment_blocks.proofs.Members.{indexed_places}
use Rattle.equal_values.proofs.Ranges.{IsFound, IsMissed, first_passes, found, none_passes}

-- the first of a range that passes, or none does
pub first_or_none : (p : ℕ → Bool) (a n : ℕ) → ((m : ℕ) × (a ≤ m) × (m < a + n) × IsTrue (p m) × ((i : ℕ) → a ≤ i → i < m → IsTrue (p i) → ⊥)) ⊎ ((i : ℕ) → a ≤ i → i < a + n → IsTrue (p i) → ⊥)
first_or_none p a n = ⊎_elim
    (λ (t : (j : ℕ) × IsFound p a n j). inl (t.0, t.1.above, t.1.below, t.1.passes, t.1.before))
    (λ (m : IsMissed p a n). inr m.none)
    (found p a n)

abbrev pub equal : SegSizes → List ℕ → ℕ → ℕ → ℕ → Bool
equal s raw c k j = same (table s raw c j) (table s raw c k)

pub owner_is : (s : SegSizes) (raw : List ℕ) (c k m : ℕ) → m < k → IsTrue (equal s raw c k m) → ((i : ℕ) → i < m → IsTrue (equal s raw c k i) → ⊥) → owner s raw c k ≡ m
unfolding owner
owner_is s raw c k m lm here none = ap (λ o. unwrap_or o k) (first_passes (equal s raw c k) 0 k m (omega arith) (omega arith) here (λ i l h. none i h))

pub owner_self : (s : SegSizes) (raw : List ℕ) (c k : ℕ) → ((i : ℕ) → i < k → IsTrue (equal s raw c k i) → ⊥) → owner s raw c k ≡ k
unfolding owner
owner_self s raw c k none = ap (λ o. unwrap_or o k) (none_passes (equal s raw c k) 0 k (λ i l h. none i (omega arith)))

pub placed_is : (s : SegSizes) (raw : List ℕ) (c k : ℕ) → IsTrue (places s raw c k) → owner s raw c k ≡ k
placed_is s raw c k h = is (owner s raw c k) k h
  where
    is : (a b : ℕ) → IsTrue (a == b) → a ≡ b
    is a b t = grind (arith, nat_tests)

pub is_placed : (s : SegSizes) (raw : List ℕ) (c k : ℕ) → owner s raw c k ≡ k → IsTrue (places s raw c k)
is_placed s raw c k h = is (owner s raw c k) k h
  where
    is : (a b : ℕ) → a ≡ b → IsTrue (a == b)
    is a b t = grind (arith, nat_tests)

-- a block that is written and has the same table is the owner
pub owner_found : (s : SegSizes) (raw : List ℕ) (c k j : ℕ) → j < k → IsTrue (places s raw c j) → IsTrue (equal s raw c k j) → owner s raw c k ≡ j
owner_found s raw c k j lj placed here =
    let e : table s raw c j ≡ table s raw c k = same_is (table s raw c j) (table s raw c k) here in
    owner_is s raw c k j lj here
    (λ i li t.
    let u : IsTrue (equal s raw c j i) = subst (λ q. IsTrue (same (table s raw c i) q)) (sym e) t in
    ⊎_elim
    (λ (f : (m : ℕ) × (0 ≤ m) × (m < 0 + j) × IsTrue (equal s raw c j m) × ((i : ℕ) → 0 ≤ i → i < m → IsTrue (equal s raw c j i) → ⊥)).
    let o : owner s raw c j ≡ f.0 = owner_is s raw c j f.0 (omega (arith, f.2)) f.3 (λ q l v. f.4 q (omega arith) l v) in
    let p : owner s raw c j ≡ j = placed_is s raw c j placed in
    omega (arith, o, p, f.2))
    (λ (none : (i : ℕ) → 0 ≤ i → i < 0 + j → IsTrue (equal s raw c j i) → ⊥). none i (omega arith) (omega arith) u)
    (first_or_none (equal s raw c j) 0 j))

-- where no written block has the same table, the block itself is
pub owner_none : (s : SegSizes) (raw : List ℕ) (c k : ℕ) → ((j : ℕ) → j < k → IsTrue (places s raw c j) → IsTrue (equal s raw c k j) → ⊥) → owner s raw c k ≡ k
owner_none s raw c k never = ⊎_elim
    (λ (f : (m : ℕ) × (0 ≤ m) × (m < 0 + k) × IsTrue (equal s raw c k m) × ((i : ℕ) → 0 ≤ i → i < m → IsTrue (equal s raw c k i) → ⊥)).
    let e : table s raw c f.0 ≡ table s raw c k = same_is (table s raw c f.0) (table s raw c k) f.3 in
    let o : owner s raw c f.0 ≡ f.0 = owner_self s raw c f.0 (λ i li t. f.4 i (omega arith) li (subst (λ q. IsTrue (same (table s raw c i) q)) e t)) in
    absurd (never f.0 (omega (arith, f.2)) (is_placed s raw c f.0 o) f.3))
    (λ (none : (i : ℕ) → 0 ≤ i → i < 0 + k → IsTrue (equal s raw c k i) → ⊥). owner_self s raw c k (λ i li t. none i (omega arith) (omega arith) t))
    (first_or_none (equal s raw c k) 0 k)

-- a range with one number more
pub range_more : (a n : ℕ) → range_with_len a (n + 1) ≡ range_with_len a n ++ (a + n) ∷ []
range_more a zero = let e : a ≡ a + 0 = omega arith in ap (λ q. q ∷ []) e
range_more a (suc n) =
    let e : a + 1 + n ≡ a + suc n = omega arith in
    let f : suc n + 1 ≡ suc (n + 1) = omega arith in
    ap (range_with_len a) f ∙ ap (λ q. a ∷ q) (range_more (a + 1) n ∙ ap (λ q. range_with_len (a + 1) n ++ q ∷ []) e)

pub flat_map_more : (g : ℕ → List ℕ) (n : ℕ) → flat_map g (range_with_len 0 (n + 1)) ≡ flat_map g (range_with_len 0 n) ++ g n
flat_map_more g n =
    let e : 0 + n ≡ n = omega arith in
    ap (flat_map g) (range_more 0 n ∙ ap (λ q. range_with_len 0 n ++ q ∷ []) e) ∙ flat_map-append g (range_with_len 0 n) (n ∷ []) ∙ ap (λ q. flat_map g (range_with_len 0 n) ++ q) (append-nil (g n))

pub sum_more : (f : ℕ → ℕ) (n : ℕ) → sum_by f (range_with_len 0 (n + 1)) ≡ sum_by f (range_with_len 0 n) + f n
sum_more f n =
    let e : 0 + n ≡ n = omega arith in
    let one : sum_by f (n ∷ []) ≡ f n = omega (arith, sum_by-cons f n []) in
    ap (sum_by f) (range_more 0 n ∙ ap (λ q. range_with_len 0 n ++ q ∷ []) e) ∙ sum_by-append f (range_with_len 0 n) (n ∷ []) ∙ ap (λ q. sum_by f (range_with_len 0 n) + q) one

pub values_more : (s : SegSizes) (raw : List ℕ) (c k : ℕ) → values_place s raw c (k + 1) ≡ values_place s raw c k + (packed_len s raw c k + table_len s raw c k)
unfolding values_place
values_more s raw c k =
    let e = sum_more (λ j. packed_len s raw c j + table_len s raw c j) k in
    omega (arith, e)

pub up_to : (P : ℕ → Type 0) (k : ℕ) → ((j : ℕ) → j < k → P j) → P k → (j : ℕ) → j < k + 1 → P j
up_to P k before here j l = ⊎_elim (λ (e : j ≡ k). subst P (sym e) here) (λ (n : j ≢ k). before j (omega arith)) (cases_eq j k)

pub take_front : (n f : ℕ) (zs : List ℕ) → n ≤ f → take n zs ≡ take n (take f zs)
take_front zero f zs h = refl
take_front (suc n) zero zs h = absurd (omega arith)
take_front (suc n) (suc f) [] h = refl
take_front (suc n) (suc f) (z ∷ zs) h = ap (λ q. z ∷ q) (take_front n f zs (omega arith))

pub part_front : (a n f : ℕ) (zs : List ℕ) → a + n ≤ f → take n (drop a zs) ≡ take n (drop a (take f zs))
part_front zero n f zs h = take_front n f zs (omega arith)
part_front (suc a) n zero zs h = absurd (omega arith)
part_front (suc a) n (suc f) [] h = refl
part_front (suc a) n (suc f) (z ∷ zs) h = part_front a n f zs (omega arith)

-- part of a front that is kept
pub part_kept : (a n f : ℕ) (xs ys : List ℕ) → a + n ≤ f → take f xs ≡ take f ys → take n (drop a xs) ≡ take n (drop a ys)
part_kept a n f xs ys h e = part_front a n f xs h ∙ ap (λ q. take n (drop a q)) e ∙ sym (part_front a n f ys h)

-- what is written behind the front leaves the tables
pub tables_kept : (s : SegSizes) (raw : List ℕ) (c : ℕ) (out out' at lens heads next : List ℕ) (k : ℕ) → length out' ≡ length out → take (4 * values_place s raw c k) out' ≡ take (4 * values_place s raw c k) out
    → HasTables s raw c out at lens heads next k → HasTables s raw c out' at lens heads next k
tables_kept s raw c out out' at lens heads next k len front h = record {
  stored = record {
    len = h.stored.len;
    fits = λ j l. omega (arith, h.stored.fits j l, len);
    here = λ j l. part_kept (slice_index at j) (width_of s.wide * slice_index lens j) (4 * values_place s raw c k) out' out (h.low j l) front ∙ h.stored.here j l;
    narrow = h.stored.narrow;
  };
  low = h.low;
  spots = h.spots;
  index = h.index;
}

-- the lists hold what they held for the first blocks
pub record Extends (at at' lens lens' : List ℕ) (k : ℕ) : Type 0 where
  pub at_kept : (i : ℕ) → i < k → slice_index at' i ≡ slice_index at i
  pub lens_kept : (i : ℕ) → i < k → slice_index lens' i ≡ slice_index lens i

pub stored_more : (s : SegSizes) (raw : List ℕ) (c : ℕ) (out at at' lens lens' : List ℕ) (k : ℕ) → AreStored s raw c out at lens k → Extends at at' lens lens' k → Candidate s raw c out k (slice_index at' k) (slice_index lens' k) → AreStored s raw c out at' lens' (k + 1)
stored_more s raw c out at at' lens lens' k h x new = record {
  len = up_to (λ j. slice_index lens' j ≡ length (table s raw c j)) k (λ j l. x.lens_kept j l ∙ h.len j l) new.len;
  fits = up_to (λ j. slice_index at' j + width_of s.wide * slice_index lens' j ≤ length out) k (λ j l. subst (λ q. q + width_of s.wide * slice_index lens' j ≤ length out) (sym (x.at_kept j l)) (subst (λ q. slice_index at j + width_of s.wide * q ≤ length out) (sym (x.lens_kept j l)) (h.fits j l))) new.fits;
  here = up_to (λ j. take (width_of s.wide * slice_index lens' j) (drop (slice_index at' j) out) ≡ flat_map (bytes_of (width_of s.wide)) (table s raw c j)) k
      (λ j l. ap (λ q. take (width_of s.wide * q) (drop (slice_index at' j) out)) (x.lens_kept j l) ∙ ap (λ q. take (width_of s.wide * slice_index lens j) (drop q out)) (x.at_kept j l) ∙ h.here j l) new.here;
  narrow = up_to (λ j. (i : ℕ) → i < length (table s raw c j) → slice_index (table s raw c j) i < 256 ^ width_of s.wide) k h.narrow new.narrow;
}

pub tables_more : (s : SegSizes) (raw : List ℕ) (c : ℕ) (out at at' lens lens' heads heads' next next' : List ℕ) (k : ℕ) → HasTables s raw c out at lens heads next k → Extends at at' lens lens' k → Candidate s raw c out k (slice_index at' k) (slice_index lens' k)
    → slice_index at' k ≡ 4 * table_place s raw c k → slice_index at' k + width_of s.wide * slice_index lens' k ≤ 4 * values_place s raw c (k + 1)
    → IsIndex (hash_at s raw c (length heads')) (indexed s raw c) heads' next' (k + 1) → HasTables s raw c out at' lens' heads' next' (k + 1)
tables_more s raw c out at at' lens lens' heads heads' next next' k h x new spot low index = record {
  stored = stored_more s raw c out at at' lens lens' k h.stored x new;
  low = up_to (λ j. slice_index at' j + width_of s.wide * slice_index lens' j ≤ 4 * values_place s raw c (k + 1)) k
      (λ j l. subst (λ q. q + width_of s.wide * slice_index lens' j ≤ 4 * values_place s raw c (k + 1)) (sym (x.at_kept j l)) (subst (λ q. slice_index at j + width_of s.wide * q ≤ 4 * values_place s raw c (k + 1)) (sym (x.lens_kept j l)) (omega (arith, h.low j l, values_more s raw c k)))) low;
  spots = up_to (λ j. slice_index at' j ≡ 4 * table_place s raw c j) k (λ j l. x.at_kept j l ∙ h.spots j l) spot;
  index = index;
}

-- the words and bytes of a value
pub entry_bytes : (wide : Bool) (n : ℕ) → width_of wide * n ≡ 4 * ((if wide then 2 else 1) * n)
entry_bytes true n = omega arith
entry_bytes false n = omega arith

-- where the table of block k is written
pub placed_ends : (s : SegSizes) (raw : List ℕ) (c k a n : ℕ) → owner s raw c k ≡ k → a ≡ 4 * (values_place s raw c k + packed_len s raw c k) → n ≡ length (table s raw c k)
    → (a ≡ 4 * table_place s raw c k) × (a + width_of s.wide * n ≡ 4 * values_place s raw c (k + 1)) × (table_bytes s raw c k ≡ flat_map (bytes_of (width_of s.wide)) (table s raw c k))
placed_ends s raw c k a n o ea en =
    let t : IsTrue (places s raw c k) = is_placed s raw c k o in
    let l : table_len s raw c k ≡ (if s.wide then 2 else 1) * length (table s raw c k) = rw t refl in
    let place : table_place s raw c k ≡ values_place s raw c k + packed_len s raw c k = ap (λ q. values_place s raw c q + packed_len s raw c q) o in
    let m = values_more s raw c k in
    let w : width_of s.wide * n ≡ 4 * ((if s.wide then 2 else 1) * length (table s raw c k)) = entry_bytes s.wide n ∙ ap (λ q. 4 * ((if s.wide then 2 else 1) * q)) en in
    (ea ∙ ap (λ q. 4 * q) (sym place), omega (arith, ea, w, l, m), rw t refl)

-- where it is shared
pub shared_ends : (s : SegSizes) (raw : List ℕ) (c k j : ℕ) → j < k → owner s raw c k ≡ j → owner s raw c j ≡ j
    → (table_place s raw c j ≡ table_place s raw c k) × (values_place s raw c (k + 1) ≡ values_place s raw c k + packed_len s raw c k) × (table_bytes s raw c k ≡ [])
shared_ends s raw c k j lj o oj =
    let f : places s raw c k ≡ false = not_eq (owner s raw c k) k (omega (arith, o)) in
    let l : table_len s raw c k ≡ 0 = rw f refl in
    let m = values_more s raw c k in
    (ap (λ q. values_place s raw c q + packed_len s raw c q) (oj ∙ sym o), omega (arith, l, m), rw f refl)
  where
    not_eq : (a b : ℕ) → a < b → (a == b) ≡ false
    not_eq a b h = grind (arith, nat_tests)

-- a list with another number at a place
pub set_here : (xs : List ℕ) (k x : ℕ) → k < length xs → slice_index (set xs k x) k ≡ x
set_here xs k x h = get_or-set_same xs k x 0 h

pub set_below : (xs : List ℕ) (k x i : ℕ) → i < k → slice_index (set xs k x) i ≡ slice_index xs i
set_below xs k x i h = get_or-set_other xs k i x 0 (λ e. omega arith)

pub extends_set : (at lens : List ℕ) (k x n : ℕ) → Extends at (set at k x) lens (set lens k n) k
extends_set at lens k x n = record { at_kept = λ i l. set_below at k x i l; lens_kept = λ i l. set_below lens k n i l }

pub extends_twice : (at lens : List ℕ) (k x y n : ℕ) → Extends at (set (set at k x) k y) lens (set lens k n) k
extends_twice at lens k x y n = record { at_kept = λ i l. set_below (set at k x) k y i l ∙ set_below at k x i l; lens_kept = λ i l. set_below lens k n i l }

pub candidate_at : (s : SegSizes) (raw : List ℕ) (c : ℕ) (out : List ℕ) (k a b n m : ℕ) → a ≡ b → n ≡ m → Candidate s raw c out k b m → Candidate s raw c out k a n
candidate_at s raw c out k a b n m ea en h = subst (λ q. Candidate s raw c out k q n) (sym ea) (subst (Candidate s raw c out k b) (sym en) h)

-- the table of an earlier block
borrowed : (s : SegSizes) (raw : List ℕ) (c : ℕ) (out at lens heads next : List ℕ) (k j n : ℕ) → HasTables s raw c out at lens heads next k → j < k → table s raw c j ≡ table s raw c k → n ≡ length (table s raw c k)
    → Candidate s raw c out k (slice_index at j) n
borrowed s raw c out at lens heads next k j n h lj e en =
    let same_len : slice_index lens j ≡ n = h.stored.len j lj ∙ ap length e ∙ sym en in
    record {
      len = en;
      fits = subst (λ q. slice_index at j + width_of s.wide * q ≤ length out) same_len (h.stored.fits j lj);
      here = subst (λ q. take (width_of s.wide * q) (drop (slice_index at j) out) ≡ flat_map (bytes_of (width_of s.wide)) (table s raw c j)) same_len (h.stored.here j lj) ∙ ap (flat_map (bytes_of (width_of s.wide))) e;
      narrow = subst (λ t. (i : ℕ) → i < length t → slice_index t i < 256 ^ width_of s.wide) e (h.stored.narrow j lj);
    }

pub shared_tables : (s : SegSizes) (raw : List ℕ) (c : ℕ) (out at at' lens lens' heads next : List ℕ) (k j n : ℕ) → HasTables s raw c out at lens heads next k → j < k → IsTrue (places s raw c j) → IsTrue (same (table s raw c j) (table s raw c k))
    → Extends at at' lens lens' k → slice_index at' k ≡ slice_index at j → slice_index lens' k ≡ n → n ≡ length (table s raw c k) → HasTables s raw c out at' lens' heads next (k + 1)
shared_tables s raw c out at at' lens lens' heads next k j n h lj placed here x ea el en =
    let e : table s raw c j ≡ table s raw c k = same_is (table s raw c j) (table s raw c k) here in
    let o : owner s raw c k ≡ j = owner_found s raw c k j lj placed here in
    let ends = shared_ends s raw c k j lj o (placed_is s raw c j placed) in
    let same_len : slice_index lens j ≡ n = h.stored.len j lj ∙ ap length e ∙ sym en in
    let low : slice_index at j + width_of s.wide * n ≤ 4 * values_place s raw c k = subst (λ q. slice_index at j + width_of s.wide * q ≤ 4 * values_place s raw c k) same_len (h.low j lj) in
    tables_more s raw c out at at' lens lens' heads heads next next k h x
    (candidate_at s raw c out k (slice_index at' k) (slice_index at j) (slice_index lens' k) n ea el (borrowed s raw c out at lens heads next k j n h lj e en))
    (ea ∙ h.spots j lj ∙ ap (λ q. 4 * q) ends.0)
    (subst (λ q. q + width_of s.wide * slice_index lens' k ≤ 4 * values_place s raw c (k + 1)) (sym ea) (subst (λ q. slice_index at j + width_of s.wide * q ≤ 4 * values_place s raw c (k + 1)) (sym el) (omega (arith, low, ends.1))))
    (skipped (hash_at s raw c (length heads)) (indexed s raw c) heads next k h.index (λ t. let p = placed_is s raw c k (indexed_places s raw c k t) in omega (arith, p, o)))

pub placed_tables : (s : SegSizes) (raw : List ℕ) (c : ℕ) (out at at' lens lens' heads heads' next next' : List ℕ) (k a n : ℕ) → HasTables s raw c out at lens heads next k → owner s raw c k ≡ k
    → Extends at at' lens lens' k → slice_index at' k ≡ a → slice_index lens' k ≡ n → Candidate s raw c out k a n → a ≡ 4 * (values_place s raw c k + packed_len s raw c k)
    → IsIndex (hash_at s raw c (length heads')) (indexed s raw c) heads' next' (k + 1) → HasTables s raw c out at' lens' heads' next' (k + 1)
placed_tables s raw c out at at' lens lens' heads heads' next next' k a n h o x ea el new spot index =
    let ends = placed_ends s raw c k a n o spot new.len in
    tables_more s raw c out at at' lens lens' heads heads' next next' k h x
    (candidate_at s raw c out k (slice_index at' k) a (slice_index lens' k) n ea el new)
    (ea ∙ ends.0)
    (subst (λ q. q + width_of s.wide * slice_index lens' k ≤ 4 * values_place s raw c (k + 1)) (sym ea) (subst (λ q. a + width_of s.wide * q ≤ 4 * values_place s raw c (k + 1)) (sym el) (omega (arith, ends.1))))
    index

-- the candidate beside the tables
pub candidate_stored : (s : SegSizes) (raw : List ℕ) (c : ℕ) (out at lens heads next : List ℕ) (k a n : ℕ) → HasTables s raw c out at lens heads next k → k < length at → k < length lens → Candidate s raw c out k a n → AreStored s raw c out (set at k a) (set lens k n) (k + 1)
candidate_stored s raw c out at lens heads next k a n h la ll new =
    stored_more s raw c out at (set at k a) lens (set lens k n) k h.stored (extends_set at lens k a n) (candidate_at s raw c out k (slice_index (set at k a) k) a (slice_index (set lens k n) k) n (set_here at k a la) (set_here lens k n ll) new)

pub owner_le : (s : SegSizes) (raw : List ℕ) (c k : ℕ) → owner s raw c k ≤ k
owner_le s raw c k = ⊎_elim
    (λ (f : (m : ℕ) × (0 ≤ m) × (m < 0 + k) × IsTrue (equal s raw c k m) × ((i : ℕ) → 0 ≤ i → i < m → IsTrue (equal s raw c k i) → ⊥)).
    let o = owner_is s raw c k f.0 (omega (arith, f.2)) f.3 (λ i l t. f.4 i (omega arith) l t) in omega (arith, o, f.2))
    (λ (none : (i : ℕ) → 0 ≤ i → i < 0 + k → IsTrue (equal s raw c k i) → ⊥). let o = owner_self s raw c k (λ i l t. none i (omega arith) (omega arith) t) in omega (arith, o))
    (first_or_none (equal s raw c k) 0 k)
