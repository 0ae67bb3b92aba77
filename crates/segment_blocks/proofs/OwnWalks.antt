-- One block more of a channel that is spelled as it is written.
use Rattle.std.proofs.Common.{◌≡◌, ℕ, ◌+◌, ◌*◌, ◌^◌, ◌<◌, ◌≤◌, List, [], ◌++◌, length, slice_index, set, take, drop, arith, refl, ap, ◌∙◌, sym, subst, length-take, length-drop, inl, Bool, true, false, IsTrue, append_assoc}
use Rattle.std.specs.Prelude.{flat_map, if◌then◌else◌}
use Rattle.std.specs.List.{range_with_len}
use Rattle.std.proofs.lemmas.List.{drop_all, take-append-drop, take_all}
use Rattle.std.proofs.Math.Seq.{drop-drop, take-add}
use Rattle.equal_values.specs.Chains.{IsIndex}
use Rattle.vol_spec.specs.BoxValues.{bytes_of}
use Rattle.vol_spec.specs.Raw.{number}
use Rattle.vol_spec.specs.SegBlocks.{block_count}
use Rattle.vol_spec.specs.SegChunks.{bits, start, table_at, values_at, word}
use Rattle.vol_spec.specs.SegSizes.{SegSizes, width_of}
use Rattle.vol_spec.specs.SegWritten.{block_bits, channel_bytes, channel_start, header, owner, packed_bytes, packed_len, places, same, seg_bytes, table, table_bytes, table_len, table_place, values_place}
use Rattle.vol_spec.proofs.CutSteps.{bytes_again, bytes_part}
use Rattle.segment_blocks.specs.Stored.{Candidate, HasBodies, HasTables, body, hash_at, indexed}
use Rattle.segment_blocks.specs.Walked.{HasFront, IsSpelled}
use Rattle.segment_blocks.proofs.Bodies.{drop_front, first_at}
use Rattle.segment_blocks.proofs.Channels.{channel_more, seg_bytes_is}
use Rattle.segment_blocks.proofs.Field.{bytes_drop}
use Rattle.segment_blocks.proofs.Offsets.{headers_before}
use Rattle.segment_blocks.proofs.Settling.{entry_bytes, extends_set, flat_map_more, placed_is, placed_tables, set_here, shared_tables, take_front, values_more}
use Rattle.segment_blocks.proofs.Values.{IsBytes}

-- one word more
word_more : (xs : List ℕ) (i : ℕ) → IsBytes xs → 4 * i + 4 ≤ length xs → take (4 * i + 4) xs ≡ take (4 * i) xs ++ bytes_of 4 (word xs i)
unfolding word
word_more xs i fits room =
    let piece : List ℕ = take 4 (drop (4 * i) xs) in
    let len : length piece ≡ 4 = omega (arith, length-take 4 (drop (4 * i) xs), length-drop (4 * i) xs) in
    take-add (4 * i) 4 xs ∙ ap (λ q. take (4 * i) xs ++ q) (sym (bytes_again piece 4 len (bytes_part 4 (4 * i) xs fits)))

word_behind : (xs : List ℕ) (a i : ℕ) → word (drop (4 * a) xs) i ≡ word xs (a + i)
unfolding word
word_behind xs a i =
    let e : 4 * a + 4 * i ≡ 4 * (a + i) = omega arith in
    ap (λ q. number (take 4 q)) (drop-drop (4 * i) (4 * a) xs ∙ ap (λ q. drop q xs) e)

-- the words that a function gives, in front
pub words_front : (f : ℕ → ℕ) (xs : List ℕ) (n : ℕ) → IsBytes xs → 4 * n + 4 ≤ length xs → word xs n ≡ f n → take (4 * n) xs ≡ flat_map (λ d. bytes_of 4 (f d)) (range_with_len 0 n)
    → take (4 * (n + 1)) xs ≡ flat_map (λ d. bytes_of 4 (f d)) (range_with_len 0 (n + 1))
words_front f xs n fits room e was =
    let s : 4 * (n + 1) ≡ 4 * n + 4 = omega arith in
    ap (λ q. take q xs) s ∙ word_more xs n fits room ∙ ap (λ q. q ++ bytes_of 4 (word xs n)) was ∙ ap (λ q. flat_map (λ d. bytes_of 4 (f d)) (range_with_len 0 n) ++ bytes_of 4 q) e ∙ sym (flat_map_more (λ d. bytes_of 4 (f d)) n)

-- one header more
pub front_more : (s : SegSizes) (raw chunk channel : List ℕ) (c k : ℕ) → IsBytes chunk → channel ≡ drop (4 * start chunk c) chunk → 8 * k + 8 ≤ length channel → values_at chunk c k ≡ values_place s raw c k → table_at chunk c k ≡ table_place s raw c k
    → bits chunk c k ≡ block_bits s raw c k → HasFront s raw c channel k → HasFront s raw c channel (k + 1)
front_more s raw chunk channel c k fits is room ev et eb was =
    let a : ℕ = start chunk c in
    let cb : IsBytes channel = subst IsBytes (sym is) (bytes_drop chunk (4 * a) fits) in
    let split : 8 * (k + 1) ≡ 4 * (2 * k + 1) + 4 = omega arith in
    let half : 4 * (2 * k + 1) ≡ 4 * (2 * k) + 4 = omega arith in
    let begin : 4 * (2 * k) ≡ 8 * k = omega arith in
    let next : a + (2 * k + 1) ≡ a + 2 * k + 1 = omega arith in
    let first : word channel (2 * k) ≡ table_place s raw c k + 2 ^ 24 * block_bits s raw c k =
    ap (λ q. word q (2 * k)) is ∙ word_behind chunk a (2 * k) ∙ omega (arith, et, eb) in
    let second : word channel (2 * k + 1) ≡ values_place s raw c k = ap (λ q. word q (2 * k + 1)) is ∙ word_behind chunk a (2 * k + 1) ∙ ap (word chunk) next ∙ ev in
    let front : take (4 * (2 * k)) channel ≡ flat_map (header s raw c) (range_with_len 0 k) = ap (λ q. take q channel) begin ∙ was in
    ap (λ q. take q channel) split ∙ word_more channel (2 * k + 1) cb (omega arith)
    ∙ ap (λ q. take q channel ++ bytes_of 4 (word channel (2 * k + 1))) half
    ∙ ap (λ q. q ++ bytes_of 4 (word channel (2 * k + 1))) (word_more channel (2 * k) cb (omega arith))
    ∙ append_assoc (take (4 * (2 * k)) channel) (bytes_of 4 (word channel (2 * k))) (bytes_of 4 (word channel (2 * k + 1)))
    ∙ ap (λ q. q ++ (bytes_of 4 (word channel (2 * k)) ++ bytes_of 4 (word channel (2 * k + 1)))) front
    ∙ ap (λ q. flat_map (header s raw c) (range_with_len 0 k) ++ (bytes_of 4 q ++ bytes_of 4 (word channel (2 * k + 1)))) first
    ∙ ap (λ q. flat_map (header s raw c) (range_with_len 0 k) ++ (bytes_of 4 (table_place s raw c k + 2 ^ 24 * block_bits s raw c k) ++ bytes_of 4 q)) second
    ∙ sym (flat_map_more (header s raw c) k)

-- what stands behind a block's indices
table_behind : (t : Bool) (s : SegSizes) (raw : List ℕ) (c : ℕ) (out : List ℕ) (k f n : ℕ) → places s raw c k ≡ t → Candidate s raw c out k f n → f ≡ 4 * table_place s raw c k
    → take (4 * table_len s raw c k) (drop (4 * (values_place s raw c k + packed_len s raw c k)) out) ≡ table_bytes s raw c k
table_behind true s raw c out k f n et x ef =
    let o : owner s raw c k ≡ k = placed_is s raw c k et in
    let l : table_len s raw c k ≡ (if s.wide then 2 else 1) * length (table s raw c k) = rw et refl in
    let b : table_bytes s raw c k ≡ flat_map (bytes_of (width_of s.wide)) (table s raw c k) = rw et refl in
    let place : f ≡ 4 * (values_place s raw c k + packed_len s raw c k) = ef ∙ ap (λ q. 4 * (values_place s raw c q + packed_len s raw c q)) o in
    let w : width_of s.wide * n ≡ 4 * table_len s raw c k = entry_bytes s.wide n ∙ ap (λ q. 4 * ((if s.wide then 2 else 1) * q)) x.len ∙ ap (λ q. 4 * q) (sym l) in
    ap (λ q. take q (drop (4 * (values_place s raw c k + packed_len s raw c k)) out)) (sym w) ∙ ap (λ q. take (width_of s.wide * n) (drop q out)) (sym place) ∙ x.here ∙ sym b
table_behind false s raw c out k f n et x ef =
    let l : 4 * table_len s raw c k ≡ 0 = rw et refl in
    let b : table_bytes s raw c k ≡ [] = rw et refl in
    ap (λ q. take q (drop (4 * (values_place s raw c k + packed_len s raw c k)) out)) l ∙ sym b

-- one body more
pub bodies_walked : (s : SegSizes) (raw : List ℕ) (c : ℕ) (out : List ℕ) (k a f n : ℕ) → a ≡ 4 * values_place s raw c k → IsSpelled s raw c out k a f n → f ≡ 4 * table_place s raw c k → HasBodies s raw c out k → HasBodies s raw c out (k + 1)
bodies_walked s raw c out k a f n ea x ef was =
    let v : ℕ = values_place s raw c k in
    let p : ℕ = packed_len s raw c k in
    let l : ℕ = table_len s raw c k in
    let m = values_more s raw c k in
    let end : 4 * values_place s raw c (k + 1) ≡ 4 * v + (4 * p + 4 * l) = omega (arith, m) in
    let at : 4 * v + 4 * p ≡ 4 * (v + p) = omega arith in
    let front : List ℕ = take (4 * v) out in
    let enough : 8 * block_count s ≤ length front = omega (arith, length-take (4 * v) out, headers_before s raw c k, x.within, ea) in
    let rest : take (4 * p + 4 * l) (drop (4 * v) out) ≡ packed_bytes s raw c k ++ table_bytes s raw c k =
    take-add (4 * p) (4 * l) (drop (4 * v) out)
    ∙ ap (λ q. q ++ take (4 * l) (drop (4 * p) (drop (4 * v) out))) (ap (λ q. take (4 * p) (drop q out)) (sym ea) ∙ x.packed)
    ∙ ap (λ q. packed_bytes s raw c k ++ take (4 * l) q) (drop-drop (4 * p) (4 * v) out ∙ ap (λ q. drop q out) at)
    ∙ ap (λ q. packed_bytes s raw c k ++ q) (table_behind (places s raw c k) s raw c out k f n refl x.candidate ef) in
    ap (λ q. drop (8 * block_count s) (take q out)) end ∙ ap (drop (8 * block_count s)) (take-add (4 * v) (4 * p + 4 * l) out ∙ ap (λ q. front ++ q) rest)
    ∙ drop_front (8 * block_count s) front (packed_bytes s raw c k ++ table_bytes s raw c k) enough ∙ ap (λ q. q ++ (packed_bytes s raw c k ++ table_bytes s raw c k)) was ∙ sym (flat_map_more (body s raw c) k)

-- a channel's bytes from its headers and bodies
pub channel_walked : (s : SegSizes) (raw : List ℕ) (c n : ℕ) (out : List ℕ) → n ≡ 4 * values_place s raw c (block_count s) → HasFront s raw c out (block_count s) → HasBodies s raw c out (block_count s) → take n out ≡ channel_bytes s raw c
channel_walked s raw c n out en front bodies =
    let b : ℕ = block_count s in
    let l : 8 * b ≤ n = omega (arith, en, headers_before s raw c b) in
    sym (take-append-drop (8 * b) (take n out)) ∙ ap (λ q. q ++ drop (8 * b) (take n out)) (sym (take_front (8 * b) n out l) ∙ front)
    ∙ ap (λ q. flat_map (header s raw c) (range_with_len 0 b) ++ drop (8 * b) (take q out)) en ∙ ap (λ q. flat_map (header s raw c) (range_with_len 0 b) ++ q) bodies

-- the tables of a block more, whose table an earlier block has, or that is the first with its own
pub shared_walked : (s : SegSizes) (raw : List ℕ) (c : ℕ) (out at lens heads next : List ℕ) (k j f n : ℕ) → HasTables s raw c out at lens heads next k → k < length at → k < length lens → j < k → IsTrue (places s raw c j)
    → IsTrue (same (table s raw c j) (table s raw c k)) → f ≡ slice_index at j → Candidate s raw c out k f n → HasTables s raw c out (set at k f) (set lens k n) heads next (k + 1)
shared_walked s raw c out at lens heads next k j f n h la ll lj placed here ef x =
    shared_tables s raw c out at (set at k f) lens (set lens k n) heads next k j n h lj placed here (extends_set at lens k f n) (set_here at k f la ∙ ef) (set_here lens k n ll) x.len

pub placed_walked : (s : SegSizes) (raw : List ℕ) (c : ℕ) (out at lens heads heads' next next' : List ℕ) (k f n : ℕ) → HasTables s raw c out at lens heads next k → k < length at → k < length lens → owner s raw c k ≡ k
    → Candidate s raw c out k f n → f ≡ 4 * (values_place s raw c k + packed_len s raw c k) → IsIndex (hash_at s raw c (length heads')) (indexed s raw c) heads' next' (k + 1) → HasTables s raw c out (set at k f) (set lens k n) heads' next' (k + 1)
placed_walked s raw c out at lens heads heads' next next' k f n h la ll o x ef index =
    placed_tables s raw c out at (set at k f) lens (set lens k n) heads heads' next next' k f n h o (extends_set at lens k f n) (set_here at k f la) (set_here lens k n ll) x ef index

-- one channel more
pub channel_next : (s : SegSizes) (raw : List ℕ) (c at n : ℕ) (chunk channel : List ℕ) → at ≤ length chunk → 4 * s.channels ≤ at → channel ≡ drop at chunk → take n channel ≡ channel_bytes s raw c
    → drop (4 * s.channels) (take at chunk) ≡ flat_map (channel_bytes s raw) (range_with_len 0 c)
    → drop (4 * s.channels) (take (at + n) chunk) ≡ flat_map (channel_bytes s raw) (range_with_len 0 (c + 1))
channel_next s raw c at n chunk channel within low is here was =
    let whole : take at chunk ++ channel ≡ chunk = ap (λ q. take at chunk ++ q) is ∙ take-append-drop at chunk in
    ap (λ q. drop (4 * s.channels) (take (at + n) q)) (sym whole) ∙ channel_more s raw c at n chunk channel within low here was

-- all channels
pub chunk_walked : (s : SegSizes) (raw : List ℕ) (at : ℕ) (chunk : List ℕ) → length chunk ≤ at → take (4 * s.channels) chunk ≡ flat_map (λ d. bytes_of 4 (channel_start s raw d)) (range_with_len 0 s.channels)
    → drop (4 * s.channels) (take at chunk) ≡ flat_map (channel_bytes s raw) (range_with_len 0 s.channels) → chunk ≡ seg_bytes s raw
chunk_walked s raw at chunk l starts channels =
    let all : take at chunk ≡ chunk = take_all at chunk l in
    sym (take-append-drop (4 * s.channels) chunk) ∙ ap (λ q. q ++ drop (4 * s.channels) chunk) starts
    ∙ ap (λ q. flat_map (λ d. bytes_of 4 (channel_start s raw d)) (range_with_len 0 s.channels) ++ q) (ap (drop (4 * s.channels)) (sym all) ∙ channels) ∙ seg_bytes_is s raw

-- before the first block
pub tables_none : (s : SegSizes) (raw : List ℕ) (c : ℕ) (out at lens heads next : List ℕ) → ((h : ℕ) → h < length heads → slice_index heads h ≡ 0) → HasTables s raw c out at lens heads next 0
tables_none s raw c out at lens heads next zeros = record {
  stored = record { len = λ j l. absurd (omega arith); fits = λ j l. absurd (omega arith); here = λ j l. absurd (omega arith); narrow = λ j l. absurd (omega arith) };
  low = λ j l. absurd (omega arith);
  spots = λ j l. absurd (omega arith);
  index = record { heads_lead = λ h l. inl (zeros h l); next_lead = λ i l. absurd (omega arith); heads_all = λ j l. absurd (omega arith); next_all = λ i j l. absurd (omega arith) };
}

pub bodies_none : (s : SegSizes) (raw : List ℕ) (c : ℕ) (out : List ℕ) → HasBodies s raw c out 0
bodies_none s raw c out = drop_all (8 * block_count s) (take (4 * values_place s raw c 0) out) (omega (arith, length-take (4 * values_place s raw c 0) out, first_at s raw c (block_count s) refl))
