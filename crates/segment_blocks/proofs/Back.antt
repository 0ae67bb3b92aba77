-- What is written is sound and is read back.
use Rattle.std.proofs.Common.{◌≡◌, ℕ, zero, suc, ◌+◌, ◌-◌, ◌*◌, ◌/◌, ◌%◌, ◌^◌, ◌<◌, ◌≤◌, List, [], ◌++◌, length, take, drop, Bool, true, false, arith, refl, ap, ◌∙◌, sym, subst, append_assoc, append-nil, length-append}
use Rattle.std.specs.Prelude.{flat_map, if◌then◌else◌}
use Rattle.std.specs.List.{range_with_len}
use Rattle.std.proofs.lemmas.List.{drop_at, take_at}
use Rattle.std.proofs.Math.Nat.{mul-le-mul_right}
use Rattle.std.proofs.Math.Seq.{drop-drop}
use Rattle.vol_spec.specs.BoxValues.{bytes_of}
use Rattle.vol_spec.specs.Raw.{number}
use Rattle.vol_spec.specs.SegSizes.{SegSizes}
use Rattle.vol_spec.specs.SegBlocks.{block_count, entry_words, width}
use Rattle.vol_spec.specs.SegChunks.{bits, start, table_at, values_at, word}
use Rattle.vol_spec.specs.SegWritten.{block_bits, channel_bytes, channel_start, header, owner, packed_bytes, packed_len, places, seg_bytes, table, table_bytes, table_len, table_place, values_place}
use Rattle.segment_blocks.specs.Shape.{IsShape, padded}
use Rattle.segment_blocks.specs.Stored.{body}
use Rattle.segment_blocks.proofs.Again.{flat_split, number_of_bytes}
use Rattle.segment_blocks.proofs.Bodies.{length_packed, length_values}
use Rattle.segment_blocks.proofs.Channels.{seg_bytes_is, start_first, start_le, start_more}
use Rattle.segment_blocks.proofs.Field.{word_digit}
use Rattle.segment_blocks.proofs.Limits.{bits_32}
use Rattle.segment_blocks.proofs.Offsets.{offsets_fit}
use Rattle.segment_blocks.proofs.Settling.{entry_bytes, flat_map_more, owner_le, part_front, values_more}
use Rattle.segment_blocks.proofs.Shapes.{some_voxels}

-- the bytes from a place on begin with these
abbrev pub Stands : List ℕ → ℕ → List ℕ → Type 0
Stands bytes p xs = take (length xs) (drop p bytes) ≡ xs

stands_in : (pre xs post : List ℕ) (p : ℕ) → length pre ≡ p → Stands (pre ++ (xs ++ post)) p xs
stands_in pre xs post p e = ap (take (length xs)) (drop_at pre (xs ++ post) p e) ∙ take_at xs post (length xs) refl

pub stands_part : (bytes : List ℕ) (p q : ℕ) (pre xs post : List ℕ) → Stands bytes p (pre ++ (xs ++ post)) → length pre ≡ q → Stands bytes (p + q) xs
stands_part bytes p q pre xs post h e =
    let whole : List ℕ = pre ++ (xs ++ post) in
    let d : List ℕ = drop p bytes in
    let fits : q + length xs ≤ length whole = omega (arith, e, length-append pre (xs ++ post), length-append xs post) in
    ap (take (length xs)) (sym (drop-drop q p bytes)) ∙ part_front q (length xs) (length whole) d fits ∙ ap (λ z. take (length xs) (drop q z)) h ∙ stands_in pre xs post q e

-- one piece among the pieces of a range
rest_of : (g : ℕ → List ℕ) (n k : ℕ) → List ℕ
rest_of g n k = flat_map g (range_with_len (0 + k + 1) (n - k - 1))

piece : (g : ℕ → List ℕ) (n k : ℕ) → k < n → flat_map g (range_with_len 0 n) ≡ flat_map g (range_with_len 0 k) ++ (g k ++ flat_map g (range_with_len (0 + k + 1) (n - k - 1)))
piece g n k h =
    let e : 0 + k ≡ k = omega arith in
    flat_split g 0 k n h ∙ ap (λ q. flat_map g (range_with_len 0 k) ++ (g q ++ flat_map g (range_with_len (0 + k + 1) (n - k - 1)))) e

-- lengths of fronts
length_headers : (s : SegSizes) (raw : List ℕ) (c k : ℕ) → length (flat_map (header s raw c) (range_with_len 0 k)) ≡ 8 * k
length_headers s raw c zero = refl
length_headers s raw c (suc k) =
    let e : suc k ≡ k + 1 = omega arith in
    ap (λ q. length (flat_map (header s raw c) (range_with_len 0 q))) e ∙ ap length (flat_map_more (header s raw c) k) ∙ omega (arith, length-append (flat_map (header s raw c) (range_with_len 0 k)) (header s raw c k), length_headers s raw c k)

length_table : (s : SegSizes) (raw : List ℕ) (c k : ℕ) → length (table_bytes s raw c k) ≡ 4 * table_len s raw c k
length_table s raw c k = by (places s raw c k)
  where
    by : (t : Bool) → length (if t then flat_map (bytes_of (width s)) (table s raw c k) else []) ≡ 4 * (if t then entry_words s * length (table s raw c k) else 0)
    by true = length_values (width s) (table s raw c k) ∙ entry_bytes s.wide (length (table s raw c k))
    by false = refl

values_zero : (s : SegSizes) (raw : List ℕ) (c : ℕ) → values_place s raw c 0 ≡ 2 * block_count s
unfolding values_place
values_zero s raw c = omega arith

length_bodies : (s : SegSizes) (raw : List ℕ) (c k : ℕ) → 8 * block_count s + length (flat_map (body s raw c) (range_with_len 0 k)) ≡ 4 * values_place s raw c k
length_bodies s raw c zero = let e = values_zero s raw c in omega (arith, e)
length_bodies s raw c (suc k) =
    let e : suc k ≡ k + 1 = omega arith in
    let f : length (flat_map (body s raw c) (range_with_len 0 (suc k))) ≡ length (flat_map (body s raw c) (range_with_len 0 k)) + (4 * packed_len s raw c k + 4 * table_len s raw c k) =
    ap (λ q. length (flat_map (body s raw c) (range_with_len 0 q))) e ∙ ap length (flat_map_more (body s raw c) k)
    ∙ omega (arith, length-append (flat_map (body s raw c) (range_with_len 0 k)) (body s raw c k), length-append (packed_bytes s raw c k) (table_bytes s raw c k), length_packed s raw c k, length_table s raw c k) in
    let m : values_place s raw c (suc k) ≡ values_place s raw c k + (packed_len s raw c k + table_len s raw c k) = ap (values_place s raw c) e ∙ values_more s raw c k in
    omega (arith, f, m, length_bodies s raw c k)

pub length_channel : (s : SegSizes) (raw : List ℕ) (c : ℕ) → length (channel_bytes s raw c) ≡ 4 * values_place s raw c (block_count s)
length_channel s raw c =
    omega (arith, length-append (flat_map (header s raw c) (range_with_len 0 (block_count s))) (flat_map (body s raw c) (range_with_len 0 (block_count s))), length_headers s raw c (block_count s), length_bodies s raw c (block_count s))

length_channels : (s : SegSizes) (raw : List ℕ) (c : ℕ) → 4 * s.channels + length (flat_map (channel_bytes s raw) (range_with_len 0 c)) ≡ 4 * channel_start s raw c
length_channels s raw zero = let e = start_first s raw in omega (arith, e)
length_channels s raw (suc c) =
    let e : suc c ≡ c + 1 = omega arith in
    let f : length (flat_map (channel_bytes s raw) (range_with_len 0 (suc c))) ≡ length (flat_map (channel_bytes s raw) (range_with_len 0 c)) + 4 * values_place s raw c (block_count s) =
    ap (λ q. length (flat_map (channel_bytes s raw) (range_with_len 0 q))) e ∙ ap length (flat_map_more (channel_bytes s raw) c) ∙ omega (arith, length-append (flat_map (channel_bytes s raw) (range_with_len 0 c)) (channel_bytes s raw c), length_channel s raw c) in
    let m : channel_start s raw (suc c) ≡ channel_start s raw c + values_place s raw c (block_count s) = ap (channel_start s raw) e ∙ start_more s raw c in
    omega (arith, f, m, length_channels s raw c)

length_starts : (s : SegSizes) (raw : List ℕ) (c : ℕ) → length (flat_map (λ d. bytes_of 4 (channel_start s raw d)) (range_with_len 0 c)) ≡ 4 * c
length_starts s raw zero = refl
length_starts s raw (suc c) =
    let g : ℕ → List ℕ = λ d. bytes_of 4 (channel_start s raw d) in
    let e : suc c ≡ c + 1 = omega arith in
    ap (λ q. length (flat_map g (range_with_len 0 q))) e ∙ ap length (flat_map_more g c) ∙ omega (arith, length-append (flat_map g (range_with_len 0 c)) (g c), length_starts s raw c)

pub length_seg : (s : SegSizes) (raw : List ℕ) → length (seg_bytes s raw) ≡ 4 * channel_start s raw s.channels
length_seg s raw =
    ap length (sym (seg_bytes_is s raw)) ∙ omega (arith, length-append (flat_map (λ d. bytes_of 4 (channel_start s raw d)) (range_with_len 0 s.channels)) (flat_map (channel_bytes s raw) (range_with_len 0 s.channels)), length_starts s raw s.channels, length_channels s raw s.channels)

-- where each part stands
start_stands : (s : SegSizes) (raw : List ℕ) (c : ℕ) → c < s.channels → Stands (seg_bytes s raw) (4 * c) (bytes_of 4 (channel_start s raw c))
start_stands s raw c lc =
    let g : ℕ → List ℕ = λ d. bytes_of 4 (channel_start s raw d) in
    let rest : List ℕ = flat_map g (range_with_len (0 + c + 1) (s.channels - c - 1)) in
    let tail : List ℕ = flat_map (channel_bytes s raw) (range_with_len 0 s.channels) in
    let whole : seg_bytes s raw ≡ flat_map g (range_with_len 0 c) ++ (g c ++ (rest ++ tail)) =
    sym (seg_bytes_is s raw) ∙ ap (λ q. q ++ tail) (piece g s.channels c lc) ∙ append_assoc (flat_map g (range_with_len 0 c)) (g c ++ rest) tail ∙ ap (λ q. flat_map g (range_with_len 0 c) ++ q) (append_assoc (g c) rest tail) in
    subst (λ q. Stands q (4 * c) (g c)) (sym whole) (stands_in (flat_map g (range_with_len 0 c)) (g c) (rest ++ tail) (4 * c) (length_starts s raw c))

pub channel_stands : (s : SegSizes) (raw : List ℕ) (c : ℕ) → c < s.channels → Stands (seg_bytes s raw) (4 * channel_start s raw c) (channel_bytes s raw c)
channel_stands s raw c lc =
    let g : ℕ → List ℕ = channel_bytes s raw in
    let front : List ℕ = flat_map (λ d. bytes_of 4 (channel_start s raw d)) (range_with_len 0 s.channels) in
    let before : List ℕ = flat_map g (range_with_len 0 c) in
    let rest : List ℕ = flat_map g (range_with_len (0 + c + 1) (s.channels - c - 1)) in
    let whole : seg_bytes s raw ≡ (front ++ before) ++ (g c ++ rest) = sym (seg_bytes_is s raw) ∙ ap (λ q. front ++ q) (piece g s.channels c lc) ∙ sym (append_assoc front before (g c ++ rest)) in
    subst (λ q. Stands q (4 * channel_start s raw c) (g c)) (sym whole)
    (stands_in (front ++ before) (g c) rest (4 * channel_start s raw c) (omega (arith, length-append front before, length_starts s raw s.channels, length_channels s raw c)))

header_stands : (s : SegSizes) (raw : List ℕ) (c k : ℕ) → c < s.channels → k < block_count s → Stands (seg_bytes s raw) (4 * channel_start s raw c + 8 * k) (header s raw c k)
header_stands s raw c k lc lk =
    let g : ℕ → List ℕ = header s raw c in
    let before : List ℕ = flat_map g (range_with_len 0 k) in
    let rest : List ℕ = flat_map g (range_with_len (0 + k + 1) (block_count s - k - 1)) in
    let tail : List ℕ = flat_map (body s raw c) (range_with_len 0 (block_count s)) in
    let whole : channel_bytes s raw c ≡ before ++ (g k ++ (rest ++ tail)) =
    ap (λ q. q ++ tail) (piece g (block_count s) k lk) ∙ append_assoc before (g k ++ rest) tail ∙ ap (λ q. before ++ q) (append_assoc (g k) rest tail) in
    stands_part (seg_bytes s raw) (4 * channel_start s raw c) (8 * k) before (g k) (rest ++ tail) (subst (Stands (seg_bytes s raw) (4 * channel_start s raw c)) whole (channel_stands s raw c lc)) (length_headers s raw c k)

pub body_stands : (s : SegSizes) (raw : List ℕ) (c k : ℕ) → c < s.channels → k < block_count s → Stands (seg_bytes s raw) (4 * channel_start s raw c + 4 * values_place s raw c k) (body s raw c k)
body_stands s raw c k lc lk =
    let g : ℕ → List ℕ = body s raw c in
    let front : List ℕ = flat_map (header s raw c) (range_with_len 0 (block_count s)) in
    let before : List ℕ = flat_map g (range_with_len 0 k) in
    let rest : List ℕ = flat_map g (range_with_len (0 + k + 1) (block_count s - k - 1)) in
    let whole : channel_bytes s raw c ≡ (front ++ before) ++ (g k ++ rest) = ap (λ q. front ++ q) (piece g (block_count s) k lk) ∙ sym (append_assoc front before (g k ++ rest)) in
    stands_part (seg_bytes s raw) (4 * channel_start s raw c) (4 * values_place s raw c k) (front ++ before) (g k) rest (subst (Stands (seg_bytes s raw) (4 * channel_start s raw c)) whole (channel_stands s raw c lc))
    (omega (arith, length-append front before, length_headers s raw c (block_count s), length_bodies s raw c k))

-- a word that stands at a place
word_stands : (bytes : List ℕ) (p i v : ℕ) → Stands bytes p (bytes_of 4 v) → p ≡ 4 * i → v < 2 ^ 32 → word bytes i ≡ v
word_stands bytes p i v h e small = word_digit bytes i ∙ ap (λ q. number (take 4 (drop q bytes))) (sym e) ∙ ap number h ∙ number_of_bytes 4 v (omega arith)

-- what the header of a block says
pub record Said (s : SegSizes) (raw : List ℕ) (c k : ℕ) : Type 0 where
  pub start : start (seg_bytes s raw) c ≡ channel_start s raw c
  pub table : table_at (seg_bytes s raw) c k ≡ table_place s raw c k
  pub bits : bits (seg_bytes s raw) c k ≡ block_bits s raw c k
  pub values : values_at (seg_bytes s raw) c k ≡ values_place s raw c k

pub table_fits : (s : SegSizes) (raw : List ℕ) (c k : ℕ) → IsShape s → padded s ≤ 2 ^ 22 → k < block_count s → table_place s raw c k < 2 ^ 24
table_fits s raw c k h limit lk = let o = owner_le s raw c k in offsets_fit s raw c (owner s raw c k) h limit (omega (arith, o, lk)) (some_voxels s h)

start_small : (s : SegSizes) (raw : List ℕ) (c : ℕ) → IsShape s → padded s * s.channels ≤ 2 ^ 22 → c < s.channels → channel_start s raw c < 2 ^ 32
start_small s raw c h limit lc =
    let a = start_le s raw c h in
    let b : c * padded s ≤ s.channels * padded s = mul-le-mul_right (padded s) (omega arith) in
    omega (arith, a, b, limit, h.few_channels)

pub start_said : (s : SegSizes) (raw : List ℕ) (c : ℕ) → IsShape s → padded s * s.channels ≤ 2 ^ 22 → c < s.channels → start (seg_bytes s raw) c ≡ channel_start s raw c
start_said s raw c h limit lc = word_stands (seg_bytes s raw) (4 * c) c (channel_start s raw c) (start_stands s raw c lc) refl (start_small s raw c h limit lc)

pub said : (s : SegSizes) (raw : List ℕ) (c k : ℕ) → IsShape s → padded s * s.channels ≤ 2 ^ 22 → padded s ≤ 2 ^ 22 → c < s.channels → k < block_count s → Said s raw c k
said s raw c k h limit one lc lk =
    let bytes : List ℕ = seg_bytes s raw in
    let at : ℕ = channel_start s raw c in
    let t : ℕ = table_place s raw c k in
    let b : ℕ = block_bits s raw c k in
    let st = start_said s raw c h limit lc in
    let lt = table_fits s raw c k h one lk in
    let lb : b ≤ 32 = bits_32 (length (table s raw c k)) in
    let lv = offsets_fit s raw c k h one lk (some_voxels s h) in
    let hs = header_stands s raw c k lc lk in
    let f : List ℕ = bytes_of 4 (t + 2 ^ 24 * b) in
    let g : List ℕ = bytes_of 4 (values_place s raw c k) in
    let first : Stands bytes (4 * at + 8 * k + 0) f = stands_part bytes (4 * at + 8 * k) 0 [] f g hs refl in
    let second : Stands bytes (4 * at + 8 * k + 4) g = stands_part bytes (4 * at + 8 * k) 4 f g [] (subst (λ q. Stands bytes (4 * at + 8 * k) (f ++ q)) (sym (append-nil g)) hs) refl in
    let w : word bytes (start bytes c + 2 * k) ≡ t + 2 ^ 24 * b = word_stands bytes (4 * at + 8 * k + 0) (start bytes c + 2 * k) (t + 2 ^ 24 * b) first (omega (arith, st)) (omega (arith, lt, lb)) in
    let v : word bytes (start bytes c + 2 * k + 1) ≡ values_place s raw c k = word_stands bytes (4 * at + 8 * k + 4) (start bytes c + 2 * k + 1) (values_place s raw c k) second (omega (arith, st)) (omega (arith, lv)) in
    record { start = st; table = ap (λ q. q % 2 ^ 24) w ∙ omega (arith, lt); bits = ap (λ q. q / 2 ^ 24) w ∙ omega (arith, lt); values = v }
