-- Fronts of a cutout, and what it is whole.
use Rattle.std.proofs.Common.{◌≡◌, ◌∙◌, ◌≤◌, ◌<◌, ◌+◌, ◌-◌, ◌*◌, ◌++◌, ℕ, zero, suc, ℤ, pos, ◌+ℤ◌, ◌-ℤ◌, ◌≤ℤ◌, ◌<ℤ◌, nat_abs, List, [], ◌∷◌, map, length, length-append, append_assoc, Result, Ok, arith, ap, refl, sym, lit<, ⊎_elim}
use Rattle.std.specs.Prelude.{flat_map}
use Rattle.std.specs.List.{range_with_len}
use Rattle.std.proofs.lemmas.Bool.{cases_lt}
use Rattle.std.proofs.lemmas.Int.{ints}
use Rattle.std.proofs.lemmas.List.{map-append, nil_from_length}
use Rattle.std.proofs.Math.Nat.{lt_of_mul-lt-mul_left, mul-le-mul_left}
use Rattle.vol_base.proofs.Axes.{by_axis}
use Rattle.vol_base.specs.declared.boxes.Box3.{Box3}
use Rattle.vol_base.specs.declared.faults.Fault.{Fault}
use Rattle.vol_base.specs.Boxes.{at, Covers, end, from_begin, IsSome, num, size, value, voxels}
use Rattle.vol_base.specs.Bytes.{AreBytes}
use Rattle.vol_base.specs.Outside.{Objects}
use Rattle.vol_spec.proofs.CutSteps.{bytes_again, bytes_part, cut_of, flat_map-map, is_cut, length-value, num_of, pieces, position_covered}
use Rattle.vol_spec.proofs.RawSteps.{voxel_fits}
use Rattle.vol_spec.specs.BoxValues.{before_fault, bytes_of, channel_of, position_of, values_of}
use Rattle.vol_spec.specs.Chunks.{value_in}
use Rattle.vol_spec.specs.Cut.{cut}
use Rattle.vol_spec.specs.Raw.{digit, number, raw_len}
use Rattle.vol_spec.specs.Types.{Bytes, Name, Position}
use Rattle.vol_spec.specs.declared.scale.Scale.{Scale}
use Rattle.chunk_grid.proofs.ListSteps.{range-add}
use Rattle.cutout.proofs.JoinSteps.{joined_bytes, value-left, value-right}
use Rattle.cutout.specs.Layers.{planes}
use Rattle.cutout.specs.Streaming.{cut_channel, HasChannels, IsFront}

-- values with no fault among them, and what stands behind
fault_behind : (f : ℕ → Result ℕ Fault) (g : ℕ → ℕ) (a n : ℕ) (rest : List (Result ℕ Fault)) → ((i : ℕ) → i < n → f (a + i) ≡ Ok (g (a + i)))
    → before_fault (map f (range_with_len a n) ++ rest) ≡ map g (range_with_len a n) ++ before_fault rest
fault_behind f g a zero rest same = refl
fault_behind f g a (suc n) rest same =
    let at_a : a + 0 ≡ a = omega arith in
    let first : f a ≡ Ok (g a) = ap f (sym at_a) ∙ same 0 (omega arith) ∙ ap (λ k. Ok (g k)) at_a in
    let more = fault_behind f g (a + 1) n rest (λ i h.
    let m : a + (i + 1) ≡ (a + 1) + i = omega arith in
    ap f (sym m) ∙ same (i + 1) (omega arith) ∙ ap (λ k. Ok (g k)) m) in
    rw (first) (ap (λ xs. g a ∷ xs) more)

flat_map-joined : {X A : Type 0} (f : X → List A) (xs ys : List X) → flat_map f (xs ++ ys) ≡ flat_map f xs ++ flat_map f ys
flat_map-joined f [] ys = refl
flat_map-joined f (x ∷ xs) ys = ap (λ t. f x ++ t) (flat_map-joined f xs ys) ∙ sym (append_assoc (f x) (flat_map f xs) (flat_map f ys))

-- bytes are those of their values
own_values : (w n : ℕ) (out : Bytes) → length out ≡ w * n → AreBytes out → out ≡ flat_map (bytes_of w) (map (digit out w) (range_with_len 0 n))
own_values w n out len small =
    pieces w (λ i. bytes_of w (digit out w i)) n 0 out len
    (λ i h.
    let at_i : 0 + i ≡ i = omega arith in
    let fits = length-value w out i n h len in
    sym (bytes_again (value w out i) w fits (bytes_part w (w * i) out small)) ∙ ap (λ k. bytes_of w (digit out w k)) (sym at_i))
    ∙ sym (flat_map-map (bytes_of w) (digit out w) (range_with_len 0 n))

-- bytes that hold the first values of a box are a front of all
pub front_of : (b : Box3) (channels w : ℕ) (f : Position → ℕ → Result ℕ Fault) (n : ℕ) (out : Bytes) → n ≤ voxels b * channels → length out ≡ w * n → AreBytes out
    → ((i : ℕ) → i < n → f (position_of b i) (channel_of b i) ≡ Ok (digit out w i)) → IsFront out (flat_map (bytes_of w) (before_fault (values_of b channels f)))
front_of b channels w f n out few len small told =
    let all : ℕ = voxels b * channels in
    let F : ℕ → Result ℕ Fault = λ i. f (position_of b i) (channel_of b i) in
    let count : n + (all - n) ≡ all = omega (arith, few) in
    let behind : List (Result ℕ Fault) = map F (range_with_len (0 + n) (all - n)) in
    let values : before_fault (map F (range_with_len 0 all)) ≡ map (digit out w) (range_with_len 0 n) ++ before_fault behind =
    ap (λ k. before_fault (map F (range_with_len 0 k))) (sym count) ∙ ap (λ r. before_fault (map F r)) (range-add 0 n (all - n))
    ∙ ap before_fault (map-append F (range_with_len 0 n) (range_with_len (0 + n) (all - n)))
    ∙ fault_behind F (digit out w) 0 n behind (λ i h.
    let at_i : 0 + i ≡ i = omega arith in
    ap F at_i ∙ told i h ∙ ap (λ k. Ok (digit out w k)) (sym at_i)) in (
      flat_map (bytes_of w) (before_fault behind),
      ap (λ xs. xs ++ flat_map (bytes_of w) (before_fault behind)) (own_values w n out len small)
          ∙ sym (flat_map-joined (bytes_of w) (map (digit out w) (range_with_len 0 n)) (before_fault behind))
          ∙ ap (flat_map (bytes_of w)) (sym values),
    )

-- a voxel's number lies below some channels and planes only where it is in one of them
few_channels : (x y z s0 s1 s2 c n v : ℕ) → n ≤ s2 → v ≡ x + s0 * (y + s1 * (z + s2 * c)) → (k : ℕ) → v < s0 * s1 * s2 * k + s0 * s1 * n → k ≤ c → (c ≡ k) × (z < n)
few_channels x y z s0 s1 s2 c n v few e k low ge =
    let planes_less : s0 * s1 * (z + s2 * c) < s0 * s1 * (s2 * k + n) = omega (arith, e, low) in
    let less : z + s2 * c < s2 * k + n = lt_of_mul-lt-mul_left (s0 * s1) planes_less in
    let same : c ≡ k = ⊎_elim (λ (lt : k < c). let more : s2 * (k + 1) ≤ s2 * c = mul-le-mul_left s2 (omega (arith, lt)) in omega (arith, more, less, few)) (λ (le : c ≤ k). omega (arith, le, ge)) (cases_lt k c) in
    (same, omega (arith, less, (let e2 : s2 * c ≡ s2 * k = ap (λ j. s2 * j) same in e2)))

num_channel : (x y z z' s0 s1 s2 m c k : ℕ) → c ≡ k → z ≡ z' → x + s0 * (y + s1 * (z + s2 * c)) ≡ s0 * s1 * s2 * k + (x + s0 * (y + s1 * (z' + m * 0)))
num_channel x y z z' s0 s1 s2 m c k e f = rw (e, f) (omega arith)

lowest : (b p : ℤ) (n : ℕ) → b ≤ℤ p → nat_abs (p -ℤ b) < n → ((b +ℤ pos 0) ≤ℤ p) × (p <ℤ ((b +ℤ pos 0) +ℤ pos n))
lowest b p n low lt = (omega (arith, ints), omega (arith, ints))

no_planes : (b p : ℤ) → nat_abs (p -ℤ b) ≡ nat_abs (p -ℤ (b +ℤ pos 0))
no_planes b p = omega (arith, ints)

-- channels, and some planes of the next one
pub front_told : (m : Objects) (dataset : Name) (s : Scale) (b : Box3) (c n : ℕ) (low high : Bytes) → IsSome b → n ≤ size b 2
    → HasChannels m dataset s b 0 c low → HasChannels m dataset s (planes b 0 n) c 1 high
    → (i : ℕ) → i < voxels b * c + size b 0 * size b 1 * n → value_in m dataset s (position_of b i) (channel_of b i) ≡ Ok (digit (low ++ high) s.width i)
front_told m dataset s b c n low high some few has next i less =
    let p : Position = position_of b i in
    let k : ℕ = channel_of b i in
    let is : num b p k ≡ i = num_of b i in
    let covered : Covers b p = position_covered b i some in
    ⊎_elim (λ (lt : k < c).
    let fits = voxel_fits b c s.width p k covered lt in
    ap (value_in m dataset s p) (let at_k : k ≡ 0 + k = omega arith in at_k) ∙ has.values p k covered lt ∙ ap (λ v. Ok (number v)) (sym (value-left s.width (num b p k) low high (omega (arith, fits, has.len)))) ∙ ap (λ j. Ok (digit (low ++ high) s.width j)) is)
    (λ (ge : c ≤ k).
    let place = few_channels (from_begin b p 0) (from_begin b p 1) (from_begin b p 2) (size b 0) (size b 1) (size b 2) k n i few (sym is) c less ge in
    let own : Covers (planes b 0 n) p = by_axis (λ axis. (at (planes b 0 n).begin axis ≤ℤ at p axis) × (at p axis <ℤ end (planes b 0 n) axis)) (covered 0 (lit< tt)) (covered 1 (lit< tt)) (lowest (at b.begin 2) (at p 2) n (covered 2 (lit< tt)).0 place.1) in
    let channel : k ≡ c + 0 = omega (arith, place.0) in
    let number_is : num b p k ≡ voxels b * c + num (planes b 0 n) p 0 =
    num_channel (from_begin b p 0) (from_begin b p 1) (from_begin b p 2) (from_begin (planes b 0 n) p 2) (size b 0) (size b 1) (size b 2) n k c place.0 (no_planes (at b.begin 2) (at p 2)) in
    ap (value_in m dataset s p) channel ∙ next.values p 0 own (lit< tt)
    ∙ ap (λ v. Ok (number v)) (sym (value-right s.width (voxels b * c) (num (planes b 0 n) p 0) (num b p k) low high (omega (arith, has.len)) number_is))
    ∙ ap (λ j. Ok (digit (low ++ high) s.width j)) is)
    (cases_lt k c)

-- and are a front of the cutout
pub front_cut : (m : Objects) (dataset : Name) (s : Scale) (b : Box3) (c n : ℕ) (low high : Bytes) → IsSome b → n ≤ size b 2 → c < s.channels
    → HasChannels m dataset s b 0 c low → HasChannels m dataset s (planes b 0 n) c 1 high → IsFront (low ++ high) (cut m dataset s b)
unfolding cut
front_cut m dataset s b c n low high some few less has next =
    let more : voxels b * (c + 1) ≤ voxels b * s.channels = mul-le-mul_left (voxels b) (omega (arith, less)) in
    let planes_few : size b 0 * size b 1 * n ≤ size b 0 * size b 1 * size b 2 = mul-le-mul_left (size b 0 * size b 1) few in
    front_of b s.channels s.width (value_in m dataset s) (voxels b * c + size b 0 * size b 1 * n) (low ++ high) (omega (arith, more, planes_few))
    (omega (arith, length-append low high, has.len, next.len)) (joined_bytes low high has.small next.small)
    (front_told m dataset s b c n low high some few has next)

-- a front of a front
pub front_front : (a b c : Bytes) → IsFront a b → IsFront b c → IsFront a c
front_front a b c (r, e) (t, f) = (r ++ t, sym (append_assoc a r t) ∙ ap (λ x. x ++ t) e ∙ f)

pub front_behind : (low a b : Bytes) → IsFront a b → IsFront (low ++ a) (low ++ b)
front_behind low a b (r, e) = (r, append_assoc low a r ∙ ap (λ x. low ++ x) e)

-- all channels are the cutout
pub channels_cut : (m : Objects) (dataset : Name) (s : Scale) (b : Box3) (n : ℕ) (out : Bytes) → IsSome b → n ≡ s.channels → HasChannels m dataset s b 0 n out → out ≡ cut m dataset s b
channels_cut m dataset s b n out some e has =
    is_cut m dataset s b out some (has.len ∙ ap (λ k. raw_len b k s.width) e) has.small
    (λ p c covered low. ap (value_in m dataset s p) (let same : c ≡ 0 + c = omega arith in same) ∙ has.values p c covered (omega (arith, low, e)))

-- one channel of planes is that of their cutout
some_planes : (b : Box3) (n : ℕ) → IsSome b → IsSome (planes b 0 (suc n))
some_planes b n some = by_axis (λ axis. 0 < size (planes b 0 (suc n)) axis) (some 0 (lit< tt)) (some 1 (lit< tt)) (omega arith)

pub channel_cut : (m : Objects) (dataset : Name) (s : Scale) (b : Box3) (n c : ℕ) (out : Bytes) → IsSome b → HasChannels m dataset s (planes b 0 n) c 1 out → out ≡ cut_channel m dataset s (planes b 0 n) c
unfolding cut_channel
channel_cut m dataset s b zero c out some has =
    let none : size b 0 * size b 1 * 0 * 1 ≡ 0 = omega arith in
    nil_from_length out (omega (arith, has.len))
    ∙ sym (ap (λ k. flat_map (bytes_of s.width) (before_fault (map (λ i. value_in m dataset s (position_of (planes b 0 0) i) c) (range_with_len 0 k)))) none)
channel_cut m dataset s b (suc n) c out some has =
    cut_of (planes b 0 (suc n)) 1 s.width (λ p _. value_in m dataset s p c) out (some_planes b n some) has.len has.small
    (λ p k covered low. ap (value_in m dataset s p) (let same : c ≡ c + k = omega (arith, low) in same) ∙ has.values p k covered low)
