-- What is written of one channel more.
use Rattle.std.proofs.Common.{◌≡◌, ℕ, zero, suc, ◌+◌, ◌*◌, ◌<◌, ◌≤◌, List, [], ◌∷◌, ◌++◌, length, slice_index, set, take, drop, arith, refl, ap, ◌∙◌, sym, append-nil, length-take}
use Rattle.std.specs.Prelude.{flat_map, sum_by}
use Rattle.std.specs.List.{range_with_len}
use Rattle.std.proofs.lemmas.Grind.{flat_map-append}
use Rattle.std.proofs.lemmas.List.{drop_all, get_or-set_other, get_or-set_same}
use Rattle.std.proofs.Math.Nat.{mul-le-mul_right}
use Rattle.vol_spec.specs.BoxValues.{bytes_of}
use Rattle.vol_spec.specs.SegSizes.{SegSizes}
use Rattle.vol_spec.specs.SegBlocks.{block_count}
use Rattle.vol_spec.specs.SegWritten.{channel_bytes, channel_start, seg_bytes, values_place}
use Rattle.segment_blocks.specs.declared.room.Room.{Room}
use Rattle.segment_blocks.specs.Rooms.{SameRoom}
use Rattle.segment_blocks.specs.Shape.{IsShape, padded}
use Rattle.segment_blocks.proofs.Bodies.{drop_front}
use Rattle.segment_blocks.proofs.Distincts.{next}
use Rattle.segment_blocks.proofs.Offsets.{channel_room}
use Rattle.segment_blocks.proofs.Settling.{flat_map_more, sum_more, up_to}
use Rattle.segment_blocks.proofs.Shapes.{some_voxels}

pub start_first : (s : SegSizes) (raw : List ℕ) → channel_start s raw 0 ≡ s.channels
unfolding channel_start
start_first s raw = omega arith

pub start_more : (s : SegSizes) (raw : List ℕ) (c : ℕ) → channel_start s raw (c + 1) ≡ channel_start s raw c + values_place s raw c (block_count s)
unfolding channel_start
start_more s raw c = let e = sum_more (λ d. values_place s raw d (block_count s)) c in omega (arith, e)

sum_le : (f : ℕ → ℕ) (n m : ℕ) → ((d : ℕ) → f d ≤ m) → sum_by f (range_with_len 0 n) ≤ n * m
sum_le f zero m h = omega arith
sum_le f (suc n) m h =
    let e : suc n ≡ n + 1 = omega arith in
    let more : sum_by f (range_with_len 0 (suc n)) ≡ sum_by f (range_with_len 0 n) + f n = ap (λ q. sum_by f (range_with_len 0 q)) e ∙ sum_more f n in
    omega (arith, more, sum_le f n m h, h n)

-- the channels before one take at most four words for each padded voxel
pub start_le : (s : SegSizes) (raw : List ℕ) (c : ℕ) → IsShape s → channel_start s raw c ≤ s.channels + c * (4 * padded s)
unfolding channel_start
start_le s raw c h =
    let e = sum_le (λ d. values_place s raw d (block_count s)) c (4 * padded s) (λ d. channel_room s raw d h (some_voxels s h)) in
    omega (arith, e)

-- there is room for one more
pub start_room : (s : SegSizes) (raw : List ℕ) (c len : ℕ) → IsShape s → c < s.channels → 4 * s.channels + 16 * (padded s * s.channels) ≤ len → 4 * channel_start s raw c + 16 * padded s ≤ len
start_room s raw c len h lc room =
    let a = start_le s raw c h in
    let b : (c + 1) * padded s ≤ s.channels * padded s = mul-le-mul_right (padded s) (omega arith) in
    omega (arith, a, b)

take_more : (a n : ℕ) (xs ys : List ℕ) → a ≤ length xs → take (a + n) (take a xs ++ ys) ≡ take a xs ++ take n ys
take_more zero n xs ys h = let e : 0 + n ≡ n = omega arith in ap (λ q. take q ys) e
take_more (suc a) n [] ys h = absurd (omega arith)
take_more (suc a) n (x ∷ xs) ys h =
    let e : suc a + n ≡ suc (a + n) = omega arith in
    ap (λ q. take q (x ∷ (take a xs ++ ys))) e ∙ ap (λ q. x ∷ q) (take_more a n xs ys (omega arith))

pub channel_more : (s : SegSizes) (raw : List ℕ) (c at n : ℕ) (out new : List ℕ) → at ≤ length out → 4 * s.channels ≤ at → take n new ≡ channel_bytes s raw c
    → drop (4 * s.channels) (take at out) ≡ flat_map (channel_bytes s raw) (range_with_len 0 c)
    → drop (4 * s.channels) (take (at + n) (take at out ++ new)) ≡ flat_map (channel_bytes s raw) (range_with_len 0 (c + 1))
channel_more s raw c at n out new within low here was =
    ap (drop (4 * s.channels)) (take_more at n out new within) ∙ drop_front (4 * s.channels) (take at out) (take n new) (omega (arith, length-take at out))
    ∙ ap (λ q. q ++ take n new) was ∙ ap (λ q. flat_map (channel_bytes s raw) (range_with_len 0 c) ++ q) here ∙ sym (flat_map_more (channel_bytes s raw) c)

pub channels_first : (n : ℕ) (out : List ℕ) → drop n (take n out) ≡ []
channels_first n out = drop_all n (take n out) (omega (arith, length-take n out))

pub starts_more : (s : SegSizes) (raw starts : List ℕ) (c x : ℕ) → c < length starts → x ≡ channel_start s raw c → ((d : ℕ) → d < c → slice_index starts d ≡ channel_start s raw d)
    → (d : ℕ) → d < c + 1 → slice_index (set starts c x) d ≡ channel_start s raw d
starts_more s raw starts c x l e before = up_to (λ d. slice_index (set starts c x) d ≡ channel_start s raw d) c (λ d ld. get_or-set_other starts c d x 0 (λ q. omega arith) ∙ before d ld) (get_or-set_same starts c x 0 l ∙ e)

-- the words of the channels
pub starts_bytes : (s : SegSizes) (raw starts : List ℕ) (n c : ℕ) → c ≤ n → n ≤ length starts → ((d : ℕ) → d < n → slice_index starts d ≡ channel_start s raw d)
    → flat_map (bytes_of 4) (take c starts) ≡ flat_map (λ d. bytes_of 4 (channel_start s raw d)) (range_with_len 0 c)
starts_bytes s raw starts n zero l h x = refl
starts_bytes s raw starts n (suc c) l h x =
    let e : suc c ≡ c + 1 = omega arith in
    let v : ℕ = slice_index starts c in
    ap (λ q. flat_map (bytes_of 4) (take q starts)) e ∙ ap (flat_map (bytes_of 4)) (next starts c (omega arith)) ∙ flat_map-append (bytes_of 4) (take c starts) (v ∷ [])
    ∙ ap (λ q. q ++ flat_map (bytes_of 4) (v ∷ [])) (starts_bytes s raw starts n c (omega arith) h x)
    ∙ ap (λ q. flat_map (λ d. bytes_of 4 (channel_start s raw d)) (range_with_len 0 c) ++ q) (append-nil (bytes_of 4 v) ∙ ap (bytes_of 4) (x c (omega arith)))
    ∙ sym (flat_map_more (λ d. bytes_of 4 (channel_start s raw d)) c) ∙ ap (λ q. flat_map (λ d. bytes_of 4 (channel_start s raw d)) (range_with_len 0 q)) (sym e)

pub start_low : (s : SegSizes) (raw : List ℕ) (c : ℕ) → s.channels ≤ channel_start s raw c
unfolding channel_start
start_low s raw c = omega arith

pub front_of : (n : ℕ) (xs ys : List ℕ) → n ≤ length xs → take n (xs ++ ys) ≡ take n xs
front_of zero xs ys h = refl
front_of (suc n) [] ys h = absurd (omega arith)
front_of (suc n) (x ∷ xs) ys h = ap (λ q. x ∷ q) (front_of n xs ys (omega arith))

pub same_more : (a b c : Room) → SameRoom a b → SameRoom b c → SameRoom a c
same_more a b c p q = record { voxels = q.voxels ∙ p.voxels; table = q.table ∙ p.table; heads = q.heads ∙ p.heads; next = q.next ∙ p.next; at = q.at ∙ p.at; lens = q.lens ∙ p.lens; headers = q.headers ∙ p.headers }

-- the words of the channels, and the channels behind them
pub seg_bytes_is : (s : SegSizes) (raw : List ℕ) → flat_map (λ d. bytes_of 4 (channel_start s raw d)) (range_with_len 0 s.channels) ++ flat_map (channel_bytes s raw) (range_with_len 0 s.channels) ≡ seg_bytes s raw
unfolding seg_bytes
seg_bytes_is s raw = refl
