-- What has the value of each voxel and channel is the cutout.
use Rattle.std.proofs.Common.{◌≡◌, ℕ, zero, suc, ◌+◌, ◌*◌, ◌/◌, ◌%◌, ◌<◌, ◌≤◌, ◌++◌, ℤ, pos, ◌+ℤ◌, ◌-ℤ◌, ◌≤ℤ◌, ◌<ℤ◌, nat_abs, List, [], ◌∷◌, length, take, drop, slice_index, map, Result, Ok, refl, ap, ◌∙◌, sym, arith, lit<, length-take, length-drop, ⊎_elim}
use Rattle.std.specs.Prelude.{flat_map}
use Rattle.std.specs.List.{range_with_len}
use Rattle.std.proofs.lemmas.Int.{ints}
use Rattle.std.proofs.lemmas.Grind.{common_steps}
use Rattle.std.proofs.lemmas.Nat.{div_below, mod_below}
use Rattle.std.proofs.Math.Nat.{mod-add-div, mul-le-mul_left}
use Rattle.std.proofs.lemmas.Bool.{cases_lt}
use Rattle.std.proofs.Math.Seq.{drop-drop}
use Rattle.std.proofs.lemmas.List.{nil_from_length, take-append-drop}
use Rattle.vol_base.specs.declared.boxes.Box3.{Box3}
use Rattle.vol_base.specs.declared.faults.Fault.{Fault}
use Rattle.vol_base.specs.Boxes.{at, size, num, voxels, value, Covers, IsSome}
use Rattle.vol_base.specs.Bytes.{AreBytes}
use Rattle.vol_spec.specs.BoxValues.{place_on, position_of, channel_of, bytes_of, before_fault, values_of}
use Rattle.vol_spec.specs.Cut.{cut}
use Rattle.vol_base.specs.Outside.{Objects}
use Rattle.vol_spec.specs.Chunks.{value_in}
use Rattle.vol_spec.specs.Raw.{number, digit, raw_len}
use Rattle.vol_spec.specs.declared.scale.Scale.{Scale}

-- a list of values of w bytes is known from its values
pub pieces : (w : ℕ) (g : ℕ → List ℕ) (n a : ℕ) (out : List ℕ) → length out ≡ w * n → ((i : ℕ) → i < n → value w out i ≡ g (a + i)) → out ≡ flat_map g (range_with_len a n)
pieces w g zero a out len same = nil_from_length out (omega arith)
pieces w g (suc n) a out len same =
    let none : w * 0 ≡ 0 = omega arith in
    let at_a : a + 0 ≡ a = omega arith in
    let first : take w out ≡ g a = ap (λ k. take w (drop k out)) (sym none) ∙ same 0 (omega arith) ∙ ap g at_a in
    let rest : drop w out ≡ flat_map g (range_with_len (a + 1) n) = pieces w g n (a + 1) (drop w out) (omega (arith, length-drop w out))
    (λ i h.
    let k : w + w * i ≡ w * (i + 1) = omega arith in
    let m : a + (i + 1) ≡ (a + 1) + i = omega arith in
    ap (take w) (drop-drop (w * i) w out) ∙ ap (λ j. take w (drop j out)) k ∙ same (i + 1) (omega arith) ∙ ap g m) in
    sym (take-append-drop w out) ∙ ap (λ xs. xs ++ drop w out) first ∙ ap (λ xs. g a ++ xs) rest

-- each number below the count of values is that of its position and channel
pub decoded : (s0 s1 s2 n : ℕ) → n % s0 + s0 * (n / s0 % s1 + s1 * (n / s0 / s1 % s2 + s2 * (n / s0 / s1 / s2))) ≡ n
decoded s0 s1 s2 n =
    ap (λ q. n % s0 + s0 * q) (ap (λ q. n / s0 % s1 + s1 * q) (mod-add-div (n / s0 / s1) s2) ∙ mod-add-div (n / s0) s1) ∙ mod-add-div n s0

pub in_channels : (s0 s1 s2 channels n : ℕ) → 0 < s0 → 0 < s1 → 0 < s2 → n < s0 * s1 * s2 * channels → n / s0 / s1 / s2 < channels
in_channels s0 s1 s2 channels n h0 h1 h2 h =
    let a : n / s0 < channels * s2 * s1 = div_below n s0 (channels * s2 * s1) h0 (omega arith) in
    let b : n / s0 / s1 < channels * s2 = div_below (n / s0) s1 (channels * s2) h1 a in
    div_below (n / s0 / s1) s2 channels h2 b

back : (b : ℤ) (q : ℕ) → nat_abs ((b +ℤ pos q) -ℤ b) ≡ q
back b q = omega (arith, ints)

pub num_of : (b : Box3) (n : ℕ) → num b (position_of b n) (channel_of b n) ≡ n
num_of b n =
    rw (back (at b.begin 0) (place_on b n 0), back (at b.begin 1) (place_on b n 1), back (at b.begin 2) (place_on b n 2)) (decoded (size b 0) (size b 1) (size b 2) n)

axis_covered : (b : ℤ) (q n : ℕ) → q < n → (b ≤ℤ (b +ℤ pos q)) × ((b +ℤ pos q) <ℤ (b +ℤ pos n))
axis_covered b q n h = (omega (arith, ints), omega (arith, ints))

pub position_covered : (b : Box3) (n : ℕ) → IsSome b → Covers b (position_of b n)
position_covered b n some zero h = axis_covered _ _ _ (mod_below n (size b 0) (some 0 (lit< tt)))
position_covered b n some (suc zero) h = axis_covered _ _ _ (mod_below (n / size b 0) (size b 1) (some 1 (lit< tt)))
position_covered b n some (suc (suc zero)) h = axis_covered _ _ _ (mod_below (n / size b 0 / size b 1) (size b 2) (some 2 (lit< tt)))
position_covered b n some (suc (suc (suc a))) h = absurd (omega arith)

-- the number of w bytes, as w bytes
pub bytes_again : (xs : List ℕ) (w : ℕ) → length xs ≡ w → AreBytes xs → bytes_of w (number xs) ≡ xs
bytes_again [] zero len small = refl
bytes_again [] (suc w) len small = absurd (omega arith)
bytes_again (x ∷ xs) zero len small = absurd (omega arith)
bytes_again (x ∷ xs) (suc w) len small =
    let low : x < 256 = small 0 in
    let m : (x + 256 * number xs) % 256 ≡ x = omega arith in
    let d : (x + 256 * number xs) / 256 ≡ number xs = omega arith in
    let rest : bytes_of w (number xs) ≡ xs = bytes_again xs w (omega arith) (λ i. small (suc i)) in
    rw (m, d, rest) refl

-- a part of bytes is bytes
pub bytes_part : (n k : ℕ) (xs : List ℕ) → AreBytes xs → AreBytes (take n (drop k xs))
bytes_part n k xs small i =
    ⊎_elim (λ (lt : i < n). let e : slice_index (take n (drop k xs)) i ≡ slice_index xs (k + i) = grind (arith, common_steps) in rw e (small (k + i)))
    (λ (ge : n ≤ i). let e : slice_index (take n (drop k xs)) i ≡ 0 = grind (arith, common_steps) in rw e (lit< tt))
    (cases_lt i n)

pub length-value : (w : ℕ) (out : List ℕ) (i n : ℕ) → i < n → length out ≡ w * n → length (value w out i) ≡ w
length-value w out i n h len =
    let more : w * (i + 1) ≤ w * n = mul-le-mul_left w (omega arith) in
    omega (arith, length-take w (drop (w * i) out), length-drop (w * i) out)

-- values with no fault among them
pub none_faulty : (f : ℕ → Result ℕ Fault) (g : ℕ → ℕ) (a n : ℕ) → ((i : ℕ) → i < n → f (a + i) ≡ Ok (g (a + i))) → before_fault (map f (range_with_len a n)) ≡ map g (range_with_len a n)
none_faulty f g a zero same = refl
none_faulty f g a (suc n) same =
    let at_a : a + 0 ≡ a = omega arith in
    let first : f a ≡ Ok (g a) = ap f (sym at_a) ∙ same 0 (omega arith) ∙ ap (λ k. Ok (g k)) at_a in
    let rest = none_faulty f g (a + 1) n (λ i h.
    let m : a + (i + 1) ≡ (a + 1) + i = omega arith in
    ap f (sym m) ∙ same (i + 1) (omega arith) ∙ ap (λ k. Ok (g k)) m) in
    rw (first) (ap (λ xs. g a ∷ xs) rest)

pub flat_map-map : (f : ℕ → List ℕ) (g : ℕ → ℕ) (xs : List ℕ) → flat_map f (map g xs) ≡ flat_map (λ n. f (g n)) xs
flat_map-map f g [] = refl
flat_map-map f g (x ∷ xs) = ap (λ ys. f (g x) ++ ys) (flat_map-map f g xs)

-- bytes that hold the value of each voxel and channel are the cutout, with no voxel missing
pub cut_of : (b : Box3) (channels w : ℕ) (f : List ℤ → ℕ → Result ℕ Fault) (out : List ℕ) → IsSome b → length out ≡ raw_len b channels w → AreBytes out
    → ((p : List ℤ) (c : ℕ) → Covers b p → c < channels → f p c ≡ Ok (digit out w (num b p c)))
    → out ≡ flat_map (bytes_of w) (before_fault (values_of b channels f))
cut_of b channels w f out some len small same =
    let told : (i : ℕ) → i < voxels b * channels → f (position_of b i) (channel_of b i) ≡ Ok (digit out w i) = λ i h.
    same (position_of b i) (channel_of b i) (position_covered b i some) (in_channels (size b 0) (size b 1) (size b 2) channels i (some 0 (lit< tt)) (some 1 (lit< tt)) (some 2 (lit< tt)) h)
    ∙ ap (λ k. Ok (digit out w k)) (num_of b i) in
    let zero_more : (i : ℕ) → 0 + i ≡ i = λ i. omega arith in
    let all : before_fault (values_of b channels f) ≡ map (digit out w) (range_with_len 0 (voxels b * channels)) =
    none_faulty (λ i. f (position_of b i) (channel_of b i)) (digit out w) 0 (voxels b * channels)
    (λ i h. ap (λ k. f (position_of b k) (channel_of b k)) (zero_more i) ∙ told i h ∙ ap (λ k. Ok (digit out w k)) (sym (zero_more i))) in
    pieces w (λ i. bytes_of w (digit out w i)) (voxels b * channels) 0 out (omega arith)
    (λ i h.
    let fits : length (value w out i) ≡ w = length-value w out i (voxels b * channels) h (omega arith) in
    sym (bytes_again (value w out i) w fits (bytes_part w (w * i) out small)) ∙ ap (λ k. bytes_of w (digit out w k)) (sym (zero_more i)))
    ∙ sym (flat_map-map (bytes_of w) (digit out w) (range_with_len 0 (voxels b * channels)))
    ∙ ap (flat_map (bytes_of w)) (sym all)

-- the same for what objects say: bytes that hold the value of each voxel of a box are its cutout
pub is_cut : (objects : Objects) (dataset : List ℕ) (s : Scale) (b : Box3) (out : List ℕ) → IsSome b → length out ≡ raw_len b s.channels s.width → AreBytes out
    → ((p : List ℤ) (c : ℕ) → Covers b p → c < s.channels → value_in objects dataset s p c ≡ Ok (digit out s.width (num b p c)))
    → out ≡ cut objects dataset s b
unfolding cut
is_cut objects dataset s b out some len small same = cut_of b s.channels s.width (value_in objects dataset s) out some len small same
