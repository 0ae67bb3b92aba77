-- What a chunk says, as values side by side.
use Rattle.std.proofs.Common.{◌≡◌, ℕ, zero, suc, ◌+◌, ◌*◌, ◌/◌, ◌%◌, ◌^◌, ◌<◌, ◌≤◌, List, [], ◌∷◌, ◌++◌, length, take, drop, arith, refl, ap, ◌∙◌, sym, length-take, length-drop}
use Rattle.std.specs.Prelude.{flat_map}
use Rattle.std.specs.List.{range_with_len}
use Rattle.std.proofs.lemmas.Nat.{mod_below, row_fits}
use Rattle.std.proofs.Math.Nat.{mul-le-mul_left}
use Rattle.vol_base.specs.Boxes.{value}
use Rattle.vol_spec.proofs.CutSteps.{bytes_again, bytes_part, decoded, in_channels, pieces}
use Rattle.vol_spec.proofs.RawSteps.{length-bytes_of, length-pieces, number-lt, number_again, value-pieces}
use Rattle.vol_spec.specs.BoxValues.{bytes_of}
use Rattle.vol_spec.specs.Raw.{digit, number}
use Rattle.vol_spec.specs.SegBlocks.{InChunk, block_of, num, number_in, raw_len, size, width}
use Rattle.vol_spec.specs.SegChunks.{entry, entry_at, index, seg_at}
use Rattle.vol_spec.specs.SegSizes.{SegSizes}
use Rattle.vol_spec.specs.SegWritten.{seg_bytes}
use Rattle.segment_blocks.specs.Own.{IsOwn}
use Rattle.segment_blocks.specs.Said.{said, said_at}
use Rattle.segment_blocks.specs.Shape.{IsShape, padded}
use Rattle.segment_blocks.proofs.Numbered.{on_axes, same_voxel}
use Rattle.segment_blocks.proofs.Sound.{reads_back}
use Rattle.segment_blocks.proofs.Values.{IsBytes}

abbrev count : SegSizes → ℕ
count s = size s 0 * size s 1 * size s 2 * s.channels

value_bytes : (raw : List ℕ) (w i m : ℕ) → IsBytes raw → length raw ≡ w * m → i < m → bytes_of w (digit raw w i) ≡ value w raw i
value_bytes raw w i m fits len li =
    let room : w * (i + 1) ≤ w * m = mul-le-mul_left w (omega arith) in
    bytes_again (take w (drop (w * i) raw)) w (omega (arith, length-take w (drop (w * i) raw), length-drop (w * i) raw, room, len)) (bytes_part w (w * i) raw fits)

-- values that a chunk says are what it says
pub is_said : (s : SegSizes) (chunk raw : List ℕ) → IsShape s → length raw ≡ raw_len s → IsBytes raw
    → ((x y z c : ℕ) → InChunk s x y z → c < s.channels → digit raw (width s) (num s x y z c) ≡ seg_at chunk s x y z c) → raw ≡ said s chunk
unfolding said
is_said s chunk raw h len fits says =
    let m : ℕ = count s in
    let w : ℕ = width s in
    let el : length raw ≡ w * m = omega (arith, len) in
    pieces w (said_at s chunk) m 0 raw el
    (λ i li.
    let x : ℕ = i % size s 0 in
    let y : ℕ = i / size s 0 % size s 1 in
    let z : ℕ = i / size s 0 / size s 1 % size s 2 in
    let c : ℕ = i / size s 0 / size s 1 / size s 2 in
    let in_it : InChunk s x y z = record { on_x = mod_below i (size s 0) h.size_0.0; on_y = mod_below (i / size s 0) (size s 1) h.size_1.0; on_z = mod_below (i / size s 0 / size s 1) (size s 2) h.size_2.0 } in
    let lc : c < s.channels = in_channels (size s 0) (size s 1) (size s 2) s.channels i h.size_0.0 h.size_1.0 h.size_2.0 li in
    let e : digit raw w i ≡ seg_at chunk s x y z c = ap (digit raw w) (sym (decoded (size s 0) (size s 1) (size s 2) i)) ∙ says x y z c in_it lc in
    let at : 0 + i ≡ i = omega arith in
    sym (value_bytes raw w i m fits el li) ∙ ap (bytes_of w) e ∙ ap (said_at s chunk) (sym at))

-- the values of a chunk that this writer spells are what it says, and its chunk is that of any values that it says
pub own_said : (s : SegSizes) (chunk : List ℕ) → IsShape s → padded s * s.channels ≤ 2 ^ 22 → padded s ≤ 2 ^ 22 → IsOwn s chunk → seg_bytes s (said s chunk) ≡ chunk
own_said s chunk h limit one own =
    let back : (x y z c : ℕ) → InChunk s x y z → c < s.channels → digit own.raw (width s) (num s x y z c) ≡ seg_at chunk s x y z c =
    λ x y z c i lc. sym (ap (λ q. seg_at q s x y z c) own.is ∙ reads_back s own.raw h own.bytes limit one x y z c i lc) in
    ap (seg_bytes s) (sym (is_said s chunk own.raw h own.len own.bytes back)) ∙ sym own.is

pub said_len : (s : SegSizes) (chunk : List ℕ) → length (said s chunk) ≡ raw_len s
unfolding said
said_len s chunk =
    let e = length-pieces (width s) (said_at s chunk) 0 (count s) (λ i. length-bytes_of (width s) _) in
    e ∙ omega arith

-- bytes side by side are bytes
append_bytes : (xs ys : List ℕ) → IsBytes xs → IsBytes ys → IsBytes (xs ++ ys)
append_bytes [] ys hx hy i = hy i
append_bytes (x ∷ xs) ys hx hy zero = hx 0
append_bytes (x ∷ xs) ys hx hy (suc i) = append_bytes xs ys (λ j. hx (suc j)) hy i

bytes_are : (w n : ℕ) → IsBytes (bytes_of w n)
bytes_are zero n i = omega arith
bytes_are (suc w) n zero = omega arith
bytes_are (suc w) n (suc i) = bytes_are w (n / 256) i

flat_bytes : (g : ℕ → List ℕ) (a n : ℕ) → ((i : ℕ) → IsBytes (g i)) → IsBytes (flat_map g (range_with_len a n))
flat_bytes g a zero h i = omega arith
flat_bytes g a (suc n) h i = append_bytes (g a) (flat_map g (range_with_len (a + 1) n)) (h a) (flat_bytes g (a + 1) n h) i

pub said_bytes : (s : SegSizes) (chunk : List ℕ) → IsBytes (said s chunk)
unfolding said
said_bytes s chunk = flat_bytes (said_at s chunk) 0 (count s) (λ i. bytes_are (width s) _)

-- the number of a voxel's value is below their count
num_below : (x y z c a b d m : ℕ) → x < a → y < b → z < d → c < m → x + a * (y + b * (z + d * c)) < a * b * d * m
num_below x y z c a b d m lx ly lz lc =
    let e : c * d + d ≤ m * d = row_fits c d m d lc (omega arith) in
    let f : (c * d + z) * b + b ≤ (m * d) * b = row_fits (c * d + z) b (m * d) b (omega arith) (omega arith) in
    let g : ((c * d + z) * b + y) * a + a ≤ ((m * d) * b) * a = row_fits ((c * d + z) * b + y) a ((m * d) * b) a (omega arith) (omega arith) in
    omega arith

entry_below : (chunk : List ℕ) (s : SegSizes) (c k n : ℕ) → IsBytes chunk → number (entry chunk s c k n) < 256 ^ width s
unfolding entry
entry_below chunk s c k n fits =
    let a : ℕ = 4 * entry_at chunk s c k (index chunk c k n) in
    number-lt (width s) (take (width s) (drop a chunk)) (omega (arith, length-take (width s) (drop a chunk))) (bytes_part (width s) a chunk fits)

pub said_digit : (s : SegSizes) (chunk : List ℕ) (x y z c : ℕ) → IsBytes chunk → InChunk s x y z → c < s.channels → digit (said s chunk) (width s) (num s x y z c) ≡ seg_at chunk s x y z c
unfolding said
said_digit s chunk x y z c fits i lc =
    let w : ℕ = width s in
    let n : ℕ = num s x y z c in
    let ln : n < count s = num_below x y z c (size s 0) (size s 1) (size s 2) s.channels i.on_x i.on_y i.on_z lc in
    let at : 0 + n ≡ n = omega arith in
    let t = on_axes x y z c (size s 0) (size s 1) (size s 2) n i.on_x i.on_y i.on_z refl in
    ap number (value-pieces w (said_at s chunk) 0 (count s) n (λ j. length-bytes_of w _) ln) ∙ ap (λ q. number (said_at s chunk q)) at
    ∙ ap (λ q. number (bytes_of w q)) (same_voxel (seg_at chunk s) t.0 t.1 t.2 t.3)
    ∙ number_again w (seg_at chunk s x y z c) (entry_below chunk s c (block_of s x y z) (number_in s x y z) fits)
