-- A block's table and its indices, as they stand in a chunk that is spelled as it is written.
use Rattle.std.proofs.Common.{◌≡◌, ℕ, suc, ◌+◌, ◌*◌, ◌/◌, ◌%◌, ◌^◌, ◌<◌, ◌≤◌, List, [], ◌∷◌, ◌++◌, length, slice_index, take, drop, arith, ap, ◌∙◌, sym, subst, ⊎_elim, length-take, length-drop, true, false, IsTrue}
use Rattle.std.specs.Prelude.{flat_map, map}
use Rattle.std.specs.List.{range_with_len}
use Rattle.std.proofs.lemmas.List.{get_or_default}
use Rattle.std.proofs.lemmas.Nat.{div-mul-add, mod-mul-add, mod_below}
use Rattle.std.proofs.Math.Nat.{mod-add-div}
use Rattle.std.proofs.Math.Seq.{drop-drop, take-add}
use Rattle.equal_values.proofs.Ranges.{either}
use Rattle.vol_spec.specs.BoxValues.{bytes_of}
use Rattle.vol_spec.specs.Raw.{digit, number}
use Rattle.vol_spec.specs.SegBlocks.{InChunk, block, block_of, block_voxels, blocks_on, in_chunk, number_in, packed_words, voxels_in, width, x_of, y_of, z_of}
use Rattle.vol_spec.specs.SegChunks.{bits, entry, entry_at, index, start, table_at, values_at}
use Rattle.vol_spec.specs.SegFaults.{is_allowed}
use Rattle.vol_spec.specs.SegSizes.{SegSizes}
use Rattle.vol_spec.specs.SegWritten.{bits_for, block_bits, index_of, packed, packed_bytes, packed_len, raw_value, table}
use Rattle.vol_spec.proofs.CutSteps.{bytes_again, bytes_part}
use Rattle.vol_spec.proofs.RawSteps.{digit-lt}
use Rattle.segment_blocks.specs.Row.{index_in}
use Rattle.segment_blocks.specs.Said.{said}
use Rattle.segment_blocks.specs.Shape.{InBlock, IsShape}
use Rattle.segment_blocks.specs.Stored.{Candidate}
use Rattle.segment_blocks.specs.Voxels.{place_in}
use Rattle.segment_blocks.specs.Walked.{HasIndices, IsSpelled}
use Rattle.segment_blocks.proofs.Field.{bytes_drop, field_is}
use Rattle.segment_blocks.proofs.Gathered.{contains_in, in_contains}
use Rattle.segment_blocks.proofs.Limits.{bits_allowed}
use Rattle.segment_blocks.proofs.OwnPacks.{packed_again}
use Rattle.segment_blocks.proofs.Places.{IsRising, place_is}
use Rattle.segment_blocks.proofs.SaidSteps.{said_digit}
use Rattle.segment_blocks.proofs.Settling.{entry_bytes}
use Rattle.segment_blocks.proofs.Tables.{IsIn, Rises, distinct_in, distinct_rises, in_distinct, same_table}
use Rattle.segment_blocks.proofs.Tabulated as tab
use Rattle.segment_blocks.proofs.Values.{IsBytes}
use Rattle.segment_blocks.proofs.Wholes.{block_again, deep, inside}

-- the value of a voxel is its entry
pub raw_said : (s : SegSizes) (chunk : List ℕ) (c k m : ℕ) → IsShape s → IsBytes chunk → c < s.channels → InBlock s k m → raw_value s (said s chunk) c k m ≡ number (entry chunk s c k m)
raw_said s chunk c k m h fits lc i =
    let t = inside s k m i in
    let x : ℕ = x_of s k m in
    let y : ℕ = y_of s k m in
    let z : ℕ = z_of s k m in
    let in_it : InChunk s x y z = record { on_x = t.0; on_y = t.1; on_z = t.2 } in
    let lx = mod_below m (block s 0) h.block_0.0 in
    let ly = mod_below (m / block s 0) (block s 1) h.block_1.0 in
    let lz = deep s m h i.below in
    let kx : x / block s 0 ≡ k % blocks_on s 0 = div-mul-add (k % blocks_on s 0) (block s 0) (m % block s 0) lx in
    let ky : y / block s 1 ≡ k / blocks_on s 0 % blocks_on s 1 = div-mul-add (k / blocks_on s 0 % blocks_on s 1) (block s 1) (m / block s 0 % block s 1) ly in
    let kz : z / block s 2 ≡ k / blocks_on s 0 / blocks_on s 1 = div-mul-add (k / blocks_on s 0 / blocks_on s 1) (block s 2) (m / block s 0 / block s 1) lz in
    let nx : x % block s 0 ≡ m % block s 0 = mod-mul-add (k % blocks_on s 0) (block s 0) (m % block s 0) lx in
    let ny : y % block s 1 ≡ m / block s 0 % block s 1 = mod-mul-add (k / blocks_on s 0 % blocks_on s 1) (block s 1) (m / block s 0 % block s 1) ly in
    let nz : z % block s 2 ≡ m / block s 0 / block s 1 = mod-mul-add (k / blocks_on s 0 / blocks_on s 1) (block s 2) (m / block s 0 / block s 1) lz in
    let eb : block_of s x y z ≡ k =
    ap (λ q. q + blocks_on s 0 * (y / block s 1 + blocks_on s 1 * (z / block s 2))) kx
    ∙ ap (λ q. k % blocks_on s 0 + blocks_on s 0 * (q + blocks_on s 1 * (z / block s 2))) ky
    ∙ ap (λ q. k % blocks_on s 0 + blocks_on s 0 * (k / blocks_on s 0 % blocks_on s 1 + blocks_on s 1 * q)) kz ∙ block_again s k in
    let en : number_in s x y z ≡ m =
    ap (λ q. q + block s 0 * (y % block s 1 + block s 1 * (z % block s 2))) nx
    ∙ ap (λ q. m % block s 0 + block s 0 * (q + block s 1 * (z % block s 2))) ny
    ∙ ap (λ q. m % block s 0 + block s 0 * (m / block s 0 % block s 1 + block s 1 * q)) nz
    ∙ ap (λ q. m % block s 0 + block s 0 * q) (mod-add-div (m / block s 0) (block s 1)) ∙ mod-add-div m (block s 0) in
    said_digit s chunk x y z c fits in_it lc ∙ ap (λ q. number (entry chunk s c q (number_in s x y z))) eb ∙ ap (λ q. number (entry chunk s c k q)) en

-- ascending by places, and by each value's rest
to_rises : (us : List ℕ) → IsRising us → Rises us
to_rises [] up = tt
to_rises (u ∷ us) up = (
  (λ v i. let t = contains_in v us i in let e : slice_index us t.0 ≡ v = get_or_default us t.0 0 v t.1 ∙ t.2 in let l : u < slice_index us t.0 = up 0 (suc t.0) (omega arith) (omega (arith, t.1)) in omega (arith, e, l)),
  to_rises us (λ i j l lj. up (suc i) (suc j) (omega arith) (omega arith)),
)

-- what is known of a block that was read
pub record IsRead (s : SegSizes) (chunk channel : List ℕ) (c k : ℕ) (t : List ℕ) : Type 0 where
  pub stands : channel ≡ drop (4 * start chunk c) chunk
  pub allowed : IsTrue (is_allowed (bits chunk c k))
  pub told : bits chunk c k ≡ bits_for (length t)
  pub rises : IsRising t
  pub entries : (i : ℕ) → i < length t → slice_index t i ≡ digit (drop (4 * table_at chunk c k) channel) (width s) i
  pub indices : HasIndices s k (bits chunk c k) (length t) (drop (4 * values_at chunk c k) channel)

index_is : (s : SegSizes) (chunk channel : List ℕ) (c k m : ℕ) (t : List ℕ) → IsBytes chunk → IsRead s chunk channel c k t → index chunk c k m ≡ index_in (drop (4 * values_at chunk c k) channel) (bits chunk c k) m
index_is s chunk channel c k m t fits r =
    let e : 4 * start chunk c + 4 * values_at chunk c k ≡ 4 * (start chunk c + values_at chunk c k) = omega arith in
    let d : drop (4 * values_at chunk c k) channel ≡ drop (4 * (start chunk c + values_at chunk c k)) chunk = ap (drop (4 * values_at chunk c k)) r.stands ∙ drop-drop (4 * values_at chunk c k) (4 * start chunk c) chunk ∙ ap (λ q. drop q chunk) e in
    field_is chunk (start chunk c + values_at chunk c k) (bits chunk c k) m fits r.allowed ∙ ap (λ q. index_in q (bits chunk c k) m) (sym d)

-- the value of a voxel is the entry of its index
value_is : (s : SegSizes) (chunk channel : List ℕ) (c k m : ℕ) (t : List ℕ) → IsShape s → IsBytes chunk → c < s.channels → IsRead s chunk channel c k t → InBlock s k m
    → raw_value s (said s chunk) c k m ≡ slice_index t (index_in (drop (4 * values_at chunk c k) channel) (bits chunk c k) m)
unfolding entry
value_is s chunk channel c k m t h fits lc r i =
    let vs : List ℕ = drop (4 * values_at chunk c k) channel in
    let n : ℕ = index_in vs (bits chunk c k) m in
    let ln : n < length t = r.indices.below m i.below i.inside in
    let w : ℕ = width s in
    let eb = entry_bytes s.wide n in
    let at : 4 * entry_at chunk s c k n ≡ 4 * start chunk c + 4 * table_at chunk c k + w * n = omega (arith, eb) in
    let d : drop (w * n) (drop (4 * table_at chunk c k) channel) ≡ drop (4 * entry_at chunk s c k n) chunk =
    ap (λ q. drop (w * n) (drop (4 * table_at chunk c k) q)) r.stands ∙ ap (drop (w * n)) (drop-drop (4 * table_at chunk c k) (4 * start chunk c) chunk) ∙ drop-drop (w * n) (4 * start chunk c + 4 * table_at chunk c k) chunk ∙ ap (λ q. drop q chunk) (sym at) in
    raw_said s chunk c k m h fits lc i
    ∙ ap (λ q. number (take w (drop (4 * entry_at chunk s c k q) chunk))) (index_is s chunk channel c k m t fits r)
    ∙ ap (λ q. number (take w q)) (sym d) ∙ sym (r.entries n ln)

-- the table that was read is that of the block's values
pub table_read : (s : SegSizes) (chunk channel : List ℕ) (c k : ℕ) (t : List ℕ) → IsShape s → IsBytes chunk → c < s.channels → IsRead s chunk channel c k t → table s (said s chunk) c k ≡ t
unfolding table
table_read s chunk channel c k t h fits lc r =
    let vs : List ℕ = drop (4 * values_at chunk c k) channel in
    let b : ℕ = bits chunk c k in
    let raw : List ℕ = said s chunk in
    let g : ℕ → ℕ = raw_value s raw c k in
    let n : ℕ = block_voxels s in
    same_table (table s raw c k) t (distinct_rises (map g (voxels_in s k))) (to_rises t r.rises)
    (λ v i.
    let a = tab.in_map g v (voxels_in s k) (distinct_in v (map g (voxels_in s k)) i) in
    let u = tab.in_filter (in_chunk s k) a.0 (range_with_len 0 n) a.1 in
    let l = tab.in_range 0 n a.0 u.0 in
    let lm : a.0 < n = omega (arith, l.1) in
    let j : ℕ = index_in vs b a.0 in
    let lj : j < length t = r.indices.below a.0 lm u.1 in
    let e : v ≡ slice_index t j = a.2 ∙ value_is s chunk channel c k a.0 t h fits lc r (record { below = lm; inside = u.1 }) in
    in_contains v t (j, lj, get_or_default t j v 0 lj ∙ sym e))
    (λ v i.
    let a = contains_in v t i in
    let e : slice_index t a.0 ≡ v = get_or_default t a.0 0 v a.1 ∙ a.2 in
    let u = r.indices.used a.0 a.1 in
    let f : g u.0 ≡ v = value_is s chunk channel c k u.0 t h fits lc r (record { below = u.1; inside = u.2 }) ∙ ap (slice_index t) u.3 ∙ e in
    in_distinct v (map g (voxels_in s k)) (subst (λ q. IsIn q (map g (voxels_in s k))) f (tab.map_in g u.0 (voxels_in s k) (tab.filter_in (in_chunk s k) u.0 (range_with_len 0 n) (tab.below_in n u.0 u.1) u.2))))

-- and so are the indices
index_read : (s : SegSizes) (chunk channel : List ℕ) (c k m : ℕ) (t : List ℕ) → IsShape s → IsBytes chunk → c < s.channels → IsRead s chunk channel c k t → m < block_voxels s
    → index_of s (said s chunk) c k m ≡ index_in (drop (4 * values_at chunk c k) channel) (bits chunk c k) m
index_read s chunk channel c k m t h fits lc r lm =
    let raw : List ℕ = said s chunk in
    let j : ℕ = index_in (drop (4 * values_at chunk c k) channel) (bits chunk c k) m in
    ⊎_elim
    (λ (y : in_chunk s k m ≡ true).
    let e = value_is s chunk channel c k m t h fits lc r (record { below = lm; inside = y }) in
    tab.index_in s raw c k m y ∙ ap (λ q. place_in q (raw_value s raw c k m)) (table_read s chunk channel c k t h fits lc r) ∙ place_is t (raw_value s raw c k m) j r.rises (r.indices.below m lm y) (sym e))
    (λ (y : in_chunk s k m ≡ false). tab.index_out s raw c k m y ∙ sym (r.indices.padding m lm y))
    (either (in_chunk s k m))

pub bits_read : (s : SegSizes) (chunk channel : List ℕ) (c k : ℕ) (t : List ℕ) → IsShape s → IsBytes chunk → c < s.channels → IsRead s chunk channel c k t → bits chunk c k ≡ block_bits s (said s chunk) c k
bits_read s chunk channel c k t h fits lc r = r.told ∙ ap (λ q. bits_for (length q)) (sym (table_read s chunk channel c k t h fits lc r))

pub packed_read : (s : SegSizes) (chunk channel : List ℕ) (c k : ℕ) (t : List ℕ) → IsShape s → IsBytes chunk → c < s.channels → IsRead s chunk channel c k t
    → 4 * packed_words (bits chunk c k) (block_voxels s) ≤ length (drop (4 * values_at chunk c k) channel)
    → take (4 * packed_len s (said s chunk) c k) (drop (4 * values_at chunk c k) channel) ≡ packed_bytes s (said s chunk) c k
packed_read s chunk channel c k t h fits lc r room =
    let raw : List ℕ = said s chunk in
    let vs : List ℕ = drop (4 * values_at chunk c k) channel in
    let n : ℕ = block_voxels s in
    let bytes : IsBytes vs = bytes_drop channel (4 * values_at chunk c k) (subst IsBytes (sym r.stands) (bytes_drop chunk (4 * start chunk c) fits)) in
    let eb = bits_read s chunk channel c k t h fits lc r in
    let same = packed_again vs (bits chunk c k) n (index_of s raw c k) bytes r.allowed room (λ m lm. index_read s chunk channel c k m t h fits lc r lm) r.indices.rest in
    subst (λ q. take (4 * packed_words q n) vs ≡ bytes_of (4 * packed_words q n) (packed q (map (index_of s raw c k) (range_with_len 0 n)))) eb (sym same)

-- values that stand side by side
values_are : (w : ℕ) (t xs : List ℕ) → IsBytes xs → w * length t ≤ length xs → ((i : ℕ) → i < length t → slice_index t i ≡ digit xs w i) → take (w * length t) xs ≡ flat_map (bytes_of w) t
values_are w [] xs fits room same = let z : w * 0 ≡ 0 = omega arith in ap (λ q. take q xs) z
values_are w (x ∷ t) xs fits room same =
    let z : w * 0 ≡ 0 = omega arith in
    let first : x ≡ number (take w xs) = same 0 (omega arith) ∙ ap (λ q. number (take w (drop q xs))) z in
    let len : length (take w xs) ≡ w = omega (arith, length-take w xs) in
    let here : bytes_of w x ≡ take w xs = ap (bytes_of w) first ∙ bytes_again (take w xs) w len (bytes_part w 0 xs fits) in
    let rest = values_are w t (drop w xs) (bytes_drop xs w fits) (omega (arith, length-drop w xs))
    (λ i l.
    let e : w + w * i ≡ w * suc i = omega arith in
    same (suc i) (omega arith) ∙ sym (ap (λ q. number (take w q)) (drop-drop (w * i) w xs ∙ ap (λ q. drop q xs) e))) in
    let e : w * suc (length t) ≡ w + w * length t = omega arith in
    ap (λ q. take q xs) e ∙ take-add w (w * length t) xs ∙ ap (λ q. q ++ take (w * length t) (drop w xs)) (sym here) ∙ ap (λ q. bytes_of w x ++ q) rest

pub candidate_read : (s : SegSizes) (chunk channel : List ℕ) (c k : ℕ) (t : List ℕ) → IsShape s → IsBytes chunk → c < s.channels → IsRead s chunk channel c k t
    → 4 * table_at chunk c k + width s * length t ≤ length channel → Candidate s (said s chunk) c channel k (4 * table_at chunk c k) (length t)
candidate_read s chunk channel c k t h fits lc r room =
    let raw : List ℕ = said s chunk in
    let a : ℕ = 4 * table_at chunk c k in
    let e : table s raw c k ≡ t = table_read s chunk channel c k t h fits lc r in
    let cb : IsBytes channel = subst IsBytes (sym r.stands) (bytes_drop chunk (4 * start chunk c) fits) in
    let bytes : IsBytes (drop a channel) = bytes_drop channel a cb in
    record {
      len = ap length (sym e);
      fits = room;
      here = values_are (width s) t (drop a channel) bytes (omega (arith, length-drop a channel, room)) r.entries ∙ ap (flat_map (bytes_of (width s))) (sym e);
      narrow = subst (λ q. (i : ℕ) → i < length q → slice_index q i < 256 ^ width s) (sym e) (λ i l. subst (λ q. q < 256 ^ width s) (sym (r.entries i l)) (digit-lt (drop a channel) (width s) i bytes));
    }

-- what reading a block tells
pub is_read : (s : SegSizes) (chunk channel : List ℕ) (c k : ℕ) (t : List ℕ) (b a f n : ℕ) → channel ≡ drop (4 * start chunk c) chunk → bits chunk c k ≡ b → b ≡ bits_for n → length t ≡ n → 4 * values_at chunk c k ≡ a → 4 * table_at chunk c k ≡ f
    → IsRising t → ((i : ℕ) → i < n → slice_index t i ≡ digit (drop f channel) (width s) i) → HasIndices s k b n (drop a channel) → IsRead s chunk channel c k t
is_read s chunk channel c k t b a f n stands eb told len ea ef rises entries indices = record {
  stands = stands;
  allowed = subst (λ q. IsTrue (is_allowed q)) (sym (eb ∙ told)) (bits_allowed n);
  told = eb ∙ told ∙ ap bits_for (sym len);
  rises = rises;
  entries = λ i l. entries i (omega (arith, l, len)) ∙ ap (λ q. digit (drop q channel) (width s) i) (sym ef);
  indices = subst (λ q. HasIndices s k q (length t) (drop (4 * values_at chunk c k) channel)) (sym eb)
      (subst (λ q. HasIndices s k b q (drop (4 * values_at chunk c k) channel)) (sym len) (subst (λ q. HasIndices s k b n (drop q channel)) (sym ea) indices));
}

pub spelled_read : (s : SegSizes) (chunk channel : List ℕ) (c k : ℕ) (t : List ℕ) (b a f n : ℕ) → IsShape s → IsBytes chunk → c < s.channels → IsRead s chunk channel c k t → bits chunk c k ≡ b → length t ≡ n → 4 * values_at chunk c k ≡ a → 4 * table_at chunk c k ≡ f
    → a + 4 * packed_words b (block_voxels s) ≤ length channel → f + width s * n ≤ length channel → IsSpelled s (said s chunk) c channel k a f n
spelled_read s chunk channel c k t b a f n h fits lc r eb len ea ef room fit =
    let raw : List ℕ = said s chunk in
    let bits_are = bits_read s chunk channel c k t h fits lc r in
    let words : packed_words b (block_voxels s) ≡ packed_len s raw c k = ap (λ q. packed_words q (block_voxels s)) (sym eb ∙ bits_are) in
    let words_too : packed_words (bits chunk c k) (block_voxels s) ≡ packed_words b (block_voxels s) = ap (λ q. packed_words q (block_voxels s)) eb in
    let size_is : width s * length t ≡ width s * n = ap (λ q. width s * q) len in
    record {
      candidate = subst (λ q. Candidate s raw c channel k q n) ef (subst (Candidate s raw c channel k (4 * table_at chunk c k)) len (candidate_read s chunk channel c k t h fits lc r (omega (arith, fit, ef, size_is))));
      packed = subst (λ q. take (4 * packed_len s raw c k) (drop q channel) ≡ packed_bytes s raw c k) ea (packed_read s chunk channel c k t h fits lc r (omega (arith, length-drop (4 * values_at chunk c k) channel, words_too, ea, room)));
      within = omega (arith, room, words);
    }
