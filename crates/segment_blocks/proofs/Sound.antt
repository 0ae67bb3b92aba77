-- The indices, the entries and the values that are read back, and that there is no fault.
use Rattle.std.proofs.Common.{◌≡◌, ◌≢◌, ℕ, zero, suc, ◌+◌, ◌*◌, ◌/◌, ◌%◌, ◌^◌, ◌<◌, ◌≤◌, List, [], ◌∷◌, ◌++◌, length, slice_index, take, drop, Bool, true, false, IsTrue, Option, None, arith, refl, ap, ◌∙◌, sym, subst, ⊎_elim, append_assoc, append-nil, length-take, length-drop}
use Rattle.std.specs.Prelude.{flat_map, map, not, nat_lt, ◌||◌, ◌&&◌, ◌==◌, if◌then◌else◌}
use Rattle.std.specs.List.{range_with_len}
use Rattle.std.proofs.lemmas.Bool.{cases_eq, cases_lt}
use Rattle.std.proofs.lemmas.Bool.Decides.{nat_tests}
use Rattle.std.proofs.lemmas.List.{get_or_default, take-append-drop}
use Rattle.std.proofs.lemmas.List.FromFn.{get_or-map-range_with_len, length-map-range_with_len}
use Rattle.std.proofs.lemmas.Nat.{pow_pos}
use Rattle.std.proofs.Math.ListN.{get_or-eq_default}
use Rattle.std.proofs.Math.Nat.{mod-eq_of_lt, mul-le-mul_left, mul-le-mul_right, pow-le-pow_right}
use Rattle.vol_base.specs.declared.faults.ChunkFault.{ChunkFault}
use Rattle.vol_base.specs.declared.faults.ChunkFault.TheVariants.{SegBits, SegChannel, SegLength, SegTable, SegValues}
use Rattle.equal_values.proofs.Ranges.{either}
use Rattle.vol_spec.specs.BoxValues.{bytes_of, first_some}
use Rattle.vol_spec.specs.Raw.{digit, number}
use Rattle.vol_spec.specs.SegSizes.{SegSizes}
use Rattle.vol_spec.specs.SegBlocks.{InChunk, block_count, block_of, block_voxels, entry_words, in_chunk, num, number_in, packed_words, voxels_in, width}
use Rattle.vol_spec.specs.SegChunks.{bits, entry, field, index, seg_at, start, table_at, values_at, words}
use Rattle.vol_spec.specs.SegFaults.{bits_fault, block_faults, channel_fault, channel_faults, is_allowed, length_fault, seg_fault, table_fault, values_fault, when}
use Rattle.vol_spec.specs.SegWritten.{block_bits, channel_start, index_of, owner, packed, packed_bytes, packed_len, places, raw_value, same, seg_bytes, table, table_bytes, table_place, values_place}
use Rattle.segment_blocks.specs.Shape.{IsShape, padded}
use Rattle.segment_blocks.specs.Voxels.{place_in}
use Rattle.segment_blocks.proofs.Again.{high_away, length_bytes, number_of, number_of_bytes, pow_of}
use Rattle.segment_blocks.proofs.Back.{Said, Stands, body_stands, channel_stands, length_channel, length_seg, said, stands_part, start_said}
use Rattle.segment_blocks.proofs.Blocks.{when_none}
use Rattle.segment_blocks.proofs.Bodies.{length_packed, length_values}
use Rattle.segment_blocks.proofs.Channels.{start_low}
use Rattle.segment_blocks.proofs.Equal.{same_is}
use Rattle.segment_blocks.proofs.Firsts.{first_next, none_kept, none_of, two_none}
use Rattle.segment_blocks.proofs.Gathered.{contains_in}
use Rattle.segment_blocks.proofs.Limits.{bits_allowed, bits_enough}
use Rattle.segment_blocks.proofs.Lines.{width_some}
use Rattle.segment_blocks.proofs.Offsets.{headers_before, table_le}
use Rattle.segment_blocks.proofs.Packing.{number_append}
use Rattle.segment_blocks.proofs.Packs.{AreBelow, packed_at, packed_below}
use Rattle.segment_blocks.proofs.Places.{place_below, place_is}
use Rattle.segment_blocks.proofs.Settling.{entry_bytes, equal, first_or_none, is_placed, owner_is, owner_self}
use Rattle.segment_blocks.proofs.Shapes.{facts, some_count, some_voxels}
use Rattle.segment_blocks.proofs.Tables.{IsIn}
use Rattle.segment_blocks.proofs.Tabulated.{index_in, index_out, table_narrow, table_rises, value_there}
use Rattle.segment_blocks.proofs.Values.{IsBytes}
use Rattle.segment_blocks.proofs.Wholes.{found}

-- what stands at a place lies in the bytes
fits_in : (bytes : List ℕ) (p : ℕ) (xs : List ℕ) → Stands bytes p xs → 0 < length xs → p + length xs ≤ length bytes
fits_in bytes p xs h some =
    let e : length (take (length xs) (drop p bytes)) ≡ length xs = ap length h in
    omega (arith, e, length-take (length xs) (drop p bytes), length-drop p bytes)

few_entries : (s : SegSizes) (raw : List ℕ) (c k : ℕ) → IsShape s → length (table s raw c k) ≤ 2 ^ block_bits s raw c k
few_entries s raw c k h =
    let f = facts s h in
    bits_enough (length (table s raw c k)) (omega (arith, f.voxels, table_le s raw c k))

index_small : (s : SegSizes) (raw : List ℕ) (c k n : ℕ) → IsShape s → index_of s raw c k n < 2 ^ block_bits s raw c k
index_small s raw c k n h = ⊎_elim
    (λ (y : in_chunk s k n ≡ true). let e = index_in s raw c k n y in let l = place_below (table s raw c k) (raw_value s raw c k n) (2 ^ block_bits s raw c k) (pow_pos (block_bits s raw c k)) (few_entries s raw c k h) in omega (arith, e, l))
    (λ (y : in_chunk s k n ≡ false). let e = index_out s raw c k n y in let l = pow_pos (block_bits s raw c k) in omega (arith, e, l))
    (either (in_chunk s k n))

indices_below : (s : SegSizes) (raw : List ℕ) (c k : ℕ) → IsShape s → AreBelow (block_bits s raw c k) (map (index_of s raw c k) (range_with_len 0 (block_voxels s)))
indices_below s raw c k h i = ⊎_elim
    (λ (l : i < block_voxels s). let e = get_or-map-range_with_len (index_of s raw c k) 0 (block_voxels s) i i 0 l (omega arith) in let x = index_small s raw c k i h in omega (arith, e, x))
    (λ (g : block_voxels s ≤ i).
    let past : length (map (index_of s raw c k) (range_with_len 0 (block_voxels s))) ≤ i = omega (arith, length-map-range_with_len (index_of s raw c k) 0 (block_voxels s)) in
    let e = get_or-eq_default (map (index_of s raw c k) (range_with_len 0 (block_voxels s))) 0 past in
    let x = pow_pos (block_bits s raw c k) in omega (arith, e, x))
    (cases_lt i (block_voxels s))

packed_stands : (s : SegSizes) (raw : List ℕ) (c k : ℕ) → c < s.channels → k < block_count s → Stands (seg_bytes s raw) (4 * channel_start s raw c + 4 * values_place s raw c k + 0) (packed_bytes s raw c k)
packed_stands s raw c k lc lk = stands_part (seg_bytes s raw) (4 * channel_start s raw c + 4 * values_place s raw c k) 0 [] (packed_bytes s raw c k) (table_bytes s raw c k) (body_stands s raw c k lc lk) refl

pub index_said : (s : SegSizes) (raw : List ℕ) (c k n : ℕ) → IsShape s → c < s.channels → k < block_count s → n < block_voxels s → Said s raw c k → index (seg_bytes s raw) c k n ≡ index_of s raw c k n
unfolding field
index_said s raw c k n h lc lk ln x =
    let bytes : List ℕ = seg_bytes s raw in
    let b : ℕ = block_bits s raw c k in
    let size : ℕ = block_voxels s in
    let is : List ℕ = map (index_of s raw c k) (range_with_len 0 size) in
    let len : length is ≡ size = length-map-range_with_len (index_of s raw c k) 0 size in
    let pk : ℕ = packed b is in
    let m : ℕ = 4 * packed_len s raw c k in
    let ps : List ℕ = packed_bytes s raw c k in
    let p : ℕ = 4 * channel_start s raw c + 4 * values_place s raw c k + 0 in
    let d : List ℕ = drop p bytes in
    let rest : List ℕ = drop (length ps) d in
    let below = indices_below s raw c k h in
    let word_count : b * size ≤ 8 * m = omega arith in
    let turned : size * b ≡ b * size = omega arith in
    let top : 2 ^ (size * b) ≤ 2 ^ (8 * m) = pow-le-pow_right {n = 2} (omega arith) {i = size * b} {j = 8 * m} (omega (arith, word_count, turned)) in
    let small : pk < 256 ^ m = subst (λ q. pk < q) (sym (pow_of m)) (omega (arith, subst (λ q. pk < 2 ^ (q * b)) len (packed_below b is below), top)) in
    let power : 256 ^ length ps ≡ 2 ^ (8 * m) = ap (λ q. 256 ^ q) (length_packed s raw c k) ∙ pow_of m in
    let split : d ≡ ps ++ rest = sym (take-append-drop (length ps) d) ∙ ap (λ q. q ++ rest) (packed_stands s raw c k lc lk) in
    let value : number d ≡ pk + 2 ^ (8 * m) * number rest = ap number split ∙ number_append ps rest ∙ ap (λ q. q + 256 ^ length ps * number rest) (number_of m pk ∙ mod-eq_of_lt small) ∙ ap (λ q. pk + q * number rest) power in
    let at : 4 * (start bytes c + values_at bytes c k) ≡ p = omega (arith, x.start, x.values) in
    let next : (n + 1) * b ≤ size * b = mul-le-mul_right b (omega arith) in
    let inside : n * b + b ≤ 8 * m = omega (arith, next, word_count, turned) in
    ap (λ q. number (drop q bytes) / 2 ^ (n * bits bytes c k) % 2 ^ bits bytes c k) at ∙ ap (λ q. number d / 2 ^ (n * q) % 2 ^ q) x.bits ∙ ap (λ q. q / 2 ^ (n * b) % 2 ^ b) value
    ∙ high_away pk (number rest) (8 * m) (n * b) b inside ∙ packed_at b is n below ∙ get_or-map-range_with_len (index_of s raw c k) 0 size n n 0 ln (omega arith)

-- the owner of a table
pub record Owned (s : SegSizes) (raw : List ℕ) (c k : ℕ) : Type 0 where
  pub below : owner s raw c k ≤ k
  pub placed : IsTrue (places s raw c (owner s raw c k))
  pub table : table s raw c (owner s raw c k) ≡ table s raw c k

owned_at : (s : SegSizes) (raw : List ℕ) (c k m : ℕ) → owner s raw c k ≡ m → m ≤ k → IsTrue (places s raw c m) → table s raw c m ≡ table s raw c k → Owned s raw c k
owned_at s raw c k m o l p e = record {
  below = omega (arith, o, l);
  placed = subst (λ q. IsTrue (places s raw c q)) (sym o) p;
  table = ap (table s raw c) o ∙ e;
}

pub owned : (s : SegSizes) (raw : List ℕ) (c k : ℕ) → Owned s raw c k
owned s raw c k = ⊎_elim
    (λ (f : (m : ℕ) × (0 ≤ m) × (m < 0 + k) × IsTrue (equal s raw c k m) × ((i : ℕ) → 0 ≤ i → i < m → IsTrue (equal s raw c k i) → ⊥)).
    let e : table s raw c f.0 ≡ table s raw c k = same_is (table s raw c f.0) (table s raw c k) f.3 in
    let o : owner s raw c k ≡ f.0 = owner_is s raw c k f.0 (omega (arith, f.2)) f.3 (λ i l t. f.4 i (omega arith) l t) in
    let p : owner s raw c f.0 ≡ f.0 = owner_self s raw c f.0 (λ i l t. f.4 i (omega arith) l (subst (λ q. IsTrue (same (table s raw c i) q)) e t)) in
    owned_at s raw c k f.0 o (omega (arith, f.2)) (is_placed s raw c f.0 p) e)
    (λ (none : (i : ℕ) → 0 ≤ i → i < 0 + k → IsTrue (equal s raw c k i) → ⊥).
    let o = owner_self s raw c k (λ i l t. none i (omega arith) (omega arith) t) in
    owned_at s raw c k k o (omega arith) (is_placed s raw c k o) refl)
    (first_or_none (equal s raw c k) 0 k)

-- the table of a block stands where its header says
table_stands : (s : SegSizes) (raw : List ℕ) (c k : ℕ) → c < s.channels → k < block_count s → Stands (seg_bytes s raw) (4 * channel_start s raw c + 4 * table_place s raw c k) (flat_map (bytes_of (width s)) (table s raw c k))
table_stands s raw c k lc lk =
    let j : ℕ = owner s raw c k in
    let o = owned s raw c k in
    let is : table_bytes s raw c j ≡ flat_map (bytes_of (width s)) (table s raw c k) = written (places s raw c j) o.placed (flat_map (bytes_of (width s)) (table s raw c j)) ∙ ap (flat_map (bytes_of (width s))) o.table in
    let at : 4 * channel_start s raw c + 4 * values_place s raw c j + 4 * packed_len s raw c j ≡ 4 * channel_start s raw c + 4 * table_place s raw c k = omega arith in
    let t : List ℕ = table_bytes s raw c j in
    let b : Stands (seg_bytes s raw) (4 * channel_start s raw c + 4 * values_place s raw c j) (packed_bytes s raw c j ++ (t ++ [])) =
    subst (λ q. Stands (seg_bytes s raw) (4 * channel_start s raw c + 4 * values_place s raw c j) (packed_bytes s raw c j ++ q)) (sym (append-nil t)) (body_stands s raw c j lc (omega (arith, o.below, lk))) in
    subst (Stands (seg_bytes s raw) (4 * channel_start s raw c + 4 * table_place s raw c k)) is
    (subst (λ q. Stands (seg_bytes s raw) q t) at (stands_part (seg_bytes s raw) (4 * channel_start s raw c + 4 * values_place s raw c j) (4 * packed_len s raw c j) (packed_bytes s raw c j) t [] b (length_packed s raw c j)))
  where
    written : (b : Bool) → IsTrue b → (xs : List ℕ) → (if b then xs else []) ≡ xs
    written true h xs = refl
    written false h xs = absurd (cc)

-- one value among values
values_split : (w : ℕ) (xs : List ℕ) (i : ℕ) → i < length xs → flat_map (bytes_of w) xs ≡ flat_map (bytes_of w) (take i xs) ++ (bytes_of w (slice_index xs i) ++ flat_map (bytes_of w) (drop (i + 1) xs))
values_split w [] i h = absurd (omega arith)
values_split w (x ∷ xs) zero h = refl
values_split w (x ∷ xs) (suc i) h =
    let e : suc i + 1 ≡ suc (i + 1) = omega arith in
    ap (λ q. bytes_of w x ++ q) (values_split w xs i (omega arith))
    ∙ sym (append_assoc (bytes_of w x) (flat_map (bytes_of w) (take i xs)) (bytes_of w (slice_index xs i) ++ flat_map (bytes_of w) (drop (i + 1) xs)))
    ∙ ap (λ q. (bytes_of w x ++ flat_map (bytes_of w) (take i xs)) ++ (bytes_of w (slice_index xs i) ++ flat_map (bytes_of w) (drop q (x ∷ xs)))) (sym e)

place_back : (xs : List ℕ) (v : ℕ) → ((i j : ℕ) → i < j → j < length xs → slice_index xs i < slice_index xs j) → IsIn v xs → (place_in xs v < length xs) × (slice_index xs (place_in xs v) ≡ v)
place_back xs v up h =
    let t = contains_in v xs h in
    let at : slice_index xs t.0 ≡ v = get_or_default xs t.0 0 v t.1 ∙ t.2 in
    let e : place_in xs v ≡ t.0 = place_is xs v t.0 up t.1 at in
    (omega (arith, e, t.1), ap (slice_index xs) e ∙ at)

pub entry_said : (s : SegSizes) (raw : List ℕ) (c k n : ℕ) → IsShape s → IsBytes raw → c < s.channels → k < block_count s → n < block_voxels s → IsTrue (in_chunk s k n) → Said s raw c k → number (entry (seg_bytes s raw) s c k n) ≡ raw_value s raw c k n
unfolding entry
entry_said s raw c k n h fits lc lk ln inside x =
    let bytes : List ℕ = seg_bytes s raw in
    let w : ℕ = width s in
    let t : List ℕ = table s raw c k in
    let v : ℕ = raw_value s raw c k n in
    let i : ℕ = index_of s raw c k n in
    let ei : i ≡ place_in t v = index_in s raw c k n inside in
    let back = place_back t v (table_rises s raw c k) (value_there s raw c k n ln inside) in
    let li : i < length t = omega (arith, ei, back.0) in
    let vi : slice_index t i ≡ v = ap (slice_index t) ei ∙ back.1 in
    let ie = index_said s raw c k n h lc lk ln x in
    let one : Stands bytes (4 * channel_start s raw c + 4 * table_place s raw c k + w * i) (bytes_of w (slice_index t i)) =
    stands_part bytes (4 * channel_start s raw c + 4 * table_place s raw c k) (w * i) (flat_map (bytes_of w) (take i t)) (bytes_of w (slice_index t i)) (flat_map (bytes_of w) (drop (i + 1) t))
    (subst (Stands bytes (4 * channel_start s raw c + 4 * table_place s raw c k)) (values_split w t i li) (table_stands s raw c k lc lk))
    (length_values w (take i t) ∙ ap (λ q. w * q) (omega (arith, length-take i t, li))) in
    let e = entry_bytes s.wide i in
    let at : 4 * (start bytes c + table_at bytes c k + i * entry_words s) ≡ 4 * channel_start s raw c + 4 * table_place s raw c k + w * i = omega (arith, x.start, x.table, e) in
    ap (λ q. number (take w (drop (4 * (start bytes c + table_at bytes c k + q * entry_words s)) bytes))) ie ∙ ap (λ q. number (take w (drop q bytes))) at
    ∙ ap (λ q. number (take q (drop (4 * channel_start s raw c + 4 * table_place s raw c k + w * i) bytes))) (sym (length_bytes w (slice_index t i))) ∙ ap number one
    ∙ number_of_bytes w (slice_index t i) (table_narrow s raw c k fits i li) ∙ vi

pub reads_back : (s : SegSizes) (raw : List ℕ) → IsShape s → IsBytes raw → padded s * s.channels ≤ 2 ^ 22 → padded s ≤ 2 ^ 22 → (x y z c : ℕ) → InChunk s x y z → c < s.channels
    → seg_at (seg_bytes s raw) s x y z c ≡ digit raw (width s) (num s x y z c)
reads_back s raw h fits limit one x y z c i lc =
    let t = found s x y z c h i in
    entry_said s raw c (block_of s x y z) (number_in s x y z) h fits lc t.block t.is.below t.is.inside (said s raw c (block_of s x y z) h limit one lc t.block) ∙ ap (digit raw (width s)) (sym t.spot)

-- no fault
length_none : (len c x : ℕ) (f : ChunkFault) → len ≡ 4 * x → c ≤ x → when (not (len % 4 == 0) || nat_lt len (4 * c)) f ≡ None
length_none len c x f e h = none (not (len % 4 == 0)) (nat_lt len (4 * c)) (first (len % 4) (omega (arith, e))) (second len (4 * c) (omega arith))
  where
    none : (t u : Bool) → t ≡ false → u ≡ false → when (t || u) f ≡ None
    none false false et eu = refl
    none false true et eu = absurd (cc)
    none true u et eu = absurd (cc)

    first : (m : ℕ) → m ≡ 0 → not (m == 0) ≡ false
    first m z = grind (arith, nat_tests)

    second : (a b : ℕ) → b ≤ a → nat_lt a b ≡ false
    second a b l = grind (arith, nat_tests)

allowed_none : (t : Bool) (f : ChunkFault) → IsTrue t → when (not t) f ≡ None
allowed_none true f h = refl
allowed_none false f h = absurd (cc)

both_none : (a b : Option ChunkFault) → a ≡ None → b ≡ None → first_some (a ∷ b ∷ []) ≡ None
both_none a b ea eb = ap (λ q. first_some (q ∷ b ∷ [])) ea ∙ ap (λ q. first_some (None ∷ q ∷ [])) eb

values_none : (b a v : ℕ) (f : ChunkFault) → (b ≢ 0 → v ≤ a) → when (not (b == 0) && nat_lt a v) f ≡ None
values_none b a v f h = ⊎_elim
    (λ (z : b ≡ 0). zero_none (b == 0) (nat_lt a v) (is_zero b z))
    (λ (n : b ≢ 0). and_none (not (b == 0)) (nat_lt a v) (not_lt a v (h n)))
    (cases_eq b 0)
  where
    zero_none : (t u : Bool) → IsTrue t → when (not t && u) f ≡ None
    zero_none true u e = refl
    zero_none false u e = absurd (cc)

    and_none : (t u : Bool) → u ≡ false → when (t && u) f ≡ None
    and_none true false e = refl
    and_none true true e = absurd (cc)
    and_none false u e = refl

    is_zero : (m : ℕ) → m ≡ 0 → IsTrue (m == 0)
    is_zero m e = grind (arith, nat_tests)

    not_lt : (m n : ℕ) → n ≤ m → nat_lt m n ≡ false
    not_lt m n l = grind (arith, nat_tests)

some_words : (b n : ℕ) → b ≢ 0 → 0 < n → 0 < packed_words b n
some_words b n nz pn =
    let e : 1 * n ≤ b * n = mul-le-mul_right n (omega arith) in
    omega arith

block_sound : (s : SegSizes) (raw : List ℕ) (c k : ℕ) → IsShape s → c < s.channels → k < block_count s → Said s raw c k → first_some (block_faults (seg_bytes s raw) s c k) ≡ None
block_sound s raw c k h lc lk x =
    let bytes : List ℕ = seg_bytes s raw in
    let b : ℕ = block_bits s raw c k in
    let pn = some_voxels s h in
    let w : ℕ = width s in
    let len = length_seg s raw in
    let all_words : length bytes ≡ 4 * words bytes = omega (arith, len) in
    let first : bits_fault bytes c k ≡ None = ap (λ q. when (not (is_allowed q)) (SegBits c k q)) x.bits ∙ allowed_none (is_allowed b) (SegBits c k b) (bits_allowed (length (table s raw c k))) in
    let second : values_fault bytes s c k ≡ None =
    ap (λ q. when (not (q == 0) && nat_lt (words bytes) (start bytes c + values_at bytes c k + packed_words q (block_voxels s))) (SegValues c k)) x.bits
    ∙ values_none b (words bytes) (start bytes c + values_at bytes c k + packed_words b (block_voxels s)) (SegValues c k)
    (λ nz.
    let some = some_words b (block_voxels s) nz pn in
    let f = fits_in bytes (4 * channel_start s raw c + 4 * values_place s raw c k + 0) (packed_bytes s raw c k) (packed_stands s raw c k lc lk) (omega (arith, length_packed s raw c k, some)) in
    omega (arith, f, length_packed s raw c k, all_words, x.start, x.values)) in
    two_none (bits_fault bytes c k) (values_fault bytes s c k) (map (table_fault bytes s c k) (voxels_in s k)) (both_none _ _ first second)
    ∙ none_kept (table_fault bytes s c k) (in_chunk s k) 0 (block_voxels s)
    (λ n l ln inside.
    let t : List ℕ = table s raw c k in
    let lt : n < block_voxels s = omega arith in
    let back = place_back t (raw_value s raw c k n) (table_rises s raw c k) (value_there s raw c k n lt inside) in
    let ie : index bytes c k n ≡ place_in t (raw_value s raw c k n) = index_said s raw c k n h lc lk lt x ∙ index_in s raw c k n inside in
    let f = fits_in bytes (4 * channel_start s raw c + 4 * table_place s raw c k) (flat_map (bytes_of w) t) (table_stands s raw c k lc lk) (some_table s t back.0) in
    let e = entry_bytes s.wide (length t) in
    let less : (index bytes c k n + 1) * entry_words s ≤ length t * entry_words s = mul-le-mul_right (entry_words s) (omega (arith, ie, back.0)) in
    when_none (words bytes) (start bytes c + table_at bytes c k + (index bytes c k n + 1) * entry_words s) (SegTable c k n) (omega (arith, f, e, less, length_values w t, all_words, x.start, x.table)))
  where
    some_table : (s : SegSizes) (t : List ℕ) {i : ℕ} → i < length t → 0 < length (flat_map (bytes_of (width s)) t)
    some_table s t {i = i} l =
        let some : width s * 1 ≤ width s * length t = mul-le-mul_left (width s) (omega arith) in
        omega (arith, length_values (width s) t, some, width_some s.wide)

channel_sound : (s : SegSizes) (raw : List ℕ) (c : ℕ) → IsShape s → padded s * s.channels ≤ 2 ^ 22 → padded s ≤ 2 ^ 22 → c < s.channels → first_some (channel_faults (seg_bytes s raw) s c) ≡ None
channel_sound s raw c h limit one lc =
    let bytes : List ℕ = seg_bytes s raw in
    let st = start_said s raw c h limit lc in
    let n = some_count s h in
    let before = headers_before s raw c (block_count s) in
    let f = fits_in bytes (4 * channel_start s raw c) _ (channel_stands s raw c lc) (omega (arith, length_channel s raw c, before, n)) in
    let here : channel_fault bytes s c ≡ None = when_none (words bytes) (start bytes c + 2 * block_count s) (SegChannel c) (omega (arith, f, length_channel s raw c, before, st)) in
    first_next (channel_fault bytes s c) (flat_map (block_faults bytes s c) (range_with_len 0 (block_count s))) here
    ∙ none_of (block_faults bytes s c) 0 (block_count s) (λ k l lk. block_sound s raw c k h lc (omega arith) (said s raw c k h limit one lc (omega arith)))

pub is_sound : (s : SegSizes) (raw : List ℕ) → IsShape s → padded s * s.channels ≤ 2 ^ 22 → padded s ≤ 2 ^ 22 → seg_fault (seg_bytes s raw) s ≡ None
unfolding seg_fault
is_sound s raw h limit one =
    let bytes : List ℕ = seg_bytes s raw in
    first_next (length_fault bytes s) (flat_map (channel_faults bytes s) (range_with_len 0 s.channels)) (length_none (length bytes) s.channels (channel_start s raw s.channels) (SegLength (length bytes)) (length_seg s raw) (start_low s raw s.channels))
    ∙ none_of (channel_faults bytes s) 0 s.channels (λ c l lc. channel_sound s raw c h limit one (omega arith))
