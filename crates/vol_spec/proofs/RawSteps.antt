-- Raw bytes: how many they are, and the value that they hold at each voxel.
use Rattle.std.proofs.Common.{◌≡◌, ℕ, zero, suc, ◌+◌, ◌-◌, ◌*◌, ◌/◌, ◌%◌, ◌^◌, ◌<◌, ◌≤◌, ◌++◌, ℤ, pos, ◌+ℤ◌, ◌-ℤ◌, ◌≤ℤ◌, ◌<ℤ◌, nat_abs, List, [], ◌∷◌, Bool, true, false, length, take, drop, refl, ap, ◌∙◌, sym, subst, arith, lit<}
use Rattle.std.specs.Prelude.{flat_map, reverse, All, if◌then◌else◌}
use Rattle.std.specs.List.{range_with_len}
use Rattle.std.proofs.lemmas.Int.{ints}
use Rattle.std.proofs.lemmas.List.{length-append, length-take, take_at, drop_at, drop-drop, get_or-reverse, length-reverse, reverse-append}
use Rattle.std.proofs.lemmas.List.Elements.{All-head, All-tail}
use Rattle.std.proofs.lemmas.Nat.{div_below, div-mul-add, mod-mul-add, mul-add-lt}
use Rattle.std.proofs.Math.Nat.{mul-le-mul_left}
use Rattle.vol_base.specs.declared.boxes.Box3.{Box3}
use Rattle.vol_base.specs.Boxes.{at, on_axes, size, num, voxels, value, from_begin, Covers, IsSome}
use Rattle.vol_base.specs.Bytes.{AreBytes}
use Rattle.vol_spec.specs.BoxValues.{position_of, channel_of, bytes_of}
use Rattle.vol_spec.specs.Grid.{cell_box}
use Rattle.vol_spec.specs.LastWrite.{AreValues, Before, covers, last, newest, zeros}
use Rattle.vol_spec.specs.Raw.{number, digit, raw_at, raw_len}
use Rattle.vol_spec.specs.StoredCells.{raw_bytes, written_raw}
use Rattle.vol_spec.specs.declared.scale.Scale.{Scale}
use Rattle.vol_spec.proofs.CutSteps.{pieces, in_channels, num_of, position_covered, bytes_again, bytes_part, length-value}

-- a number as so many bytes
pub length-bytes_of : (w n : ℕ) → length (bytes_of w n) ≡ w
length-bytes_of zero n = refl
length-bytes_of (suc w) n = ap suc (length-bytes_of w (n / 256))

more_bytes : (w : ℕ) → 256 ^ suc w ≡ 256 ^ w * 256
more_bytes w = omega arith

pub number_again : (w n : ℕ) → n < 256 ^ w → number (bytes_of w n) ≡ n
number_again zero n h = let one : 256 ^ 0 ≡ 1 = refl in omega arith
number_again (suc w) n h =
    let more = more_bytes w in
    let low : n / 256 < 256 ^ w = div_below n 256 (256 ^ w) (lit< tt) (omega arith) in
    let rest : number (bytes_of w (n / 256)) ≡ n / 256 = number_again w (n / 256) low in
    omega arith

some_numbers : (w : ℕ) → 0 < 256 ^ w
some_numbers zero = lit< tt
some_numbers (suc w) = let more = more_bytes w in let h = some_numbers w in omega arith

-- at most w bytes are a number below 256 ^ w
pub number-lt : (w : ℕ) (xs : List ℕ) → length xs ≤ w → AreBytes xs → number xs < 256 ^ w
number-lt w [] len small = some_numbers w
number-lt zero (x ∷ xs) len small = absurd (omega arith)
number-lt (suc w) (x ∷ xs) len small =
    let more = more_bytes w in
    let low : x < 256 = small 0 in
    let rest : number xs < 256 ^ w = number-lt w xs (omega arith) (λ i. small (suc i)) in
    omega arith

pub digit-lt : (bytes : List ℕ) (w n : ℕ) → AreBytes bytes → digit bytes w n < 256 ^ w
digit-lt bytes w n small =
    number-lt w (value w bytes n) (omega (arith, length-take w (drop (w * n) bytes))) (bytes_part w (w * n) bytes small)

-- pieces side by side
pub length-pieces : (w : ℕ) (g : ℕ → List ℕ) (a n : ℕ) → ((i : ℕ) → length (g i) ≡ w) → length (flat_map g (range_with_len a n)) ≡ w * n
length-pieces w g a zero same = omega arith
length-pieces w g a (suc n) same =
    let first = same a in
    let rest = length-pieces w g (a + 1) n same in
    length-append (g a) (flat_map g (range_with_len (a + 1) n)) ∙ omega arith

pub value-pieces : (w : ℕ) (g : ℕ → List ℕ) (a n i : ℕ) → ((i : ℕ) → length (g i) ≡ w) → i < n → value w (flat_map g (range_with_len a n)) i ≡ g (a + i)
value-pieces w g a zero i same h = absurd (omega arith)
value-pieces w g a (suc n) zero same h =
    let none : w * 0 ≡ 0 = omega arith in
    let at_a : a ≡ a + 0 = omega arith in
    ap (λ k. take w (drop k (g a ++ flat_map g (range_with_len (a + 1) n)))) none
    ∙ take_at (g a) (flat_map g (range_with_len (a + 1) n)) w (same a)
    ∙ ap g at_a
value-pieces w g a (suc n) (suc i) same h =
    let k : w * suc i ≡ w + w * i = omega arith in
    let m : a + 1 + i ≡ a + suc i = omega arith in
    let rest : List ℕ = flat_map g (range_with_len (a + 1) n) in
    ap (λ j. take w (drop j (g a ++ rest))) k
    ∙ ap (take w) (sym (drop-drop (w * i) w (g a ++ rest)))
    ∙ ap (λ xs. take w (drop (w * i) xs)) (drop_at (g a) rest w (same a))
    ∙ value-pieces w g (a + 1) n i same (omega arith)
    ∙ ap g m

-- the position and the channel of a voxel's number
split : (m x q : ℕ) → x < m → ((x + m * q) % m ≡ x) × ((x + m * q) / m ≡ q)
split m x q h =
    let turn : x + m * q ≡ q * m + x = omega arith in
    (ap (λ k. k % m) turn ∙ mod-mul-add q m x h, ap (λ k. k / m) turn ∙ div-mul-add q m x h)

pub place_of : (o p : ℤ) (m : ℕ) → o ≤ℤ p → p <ℤ (o +ℤ pos m) → nat_abs (p -ℤ o) < m
place_of o p m low high = omega (arith, ints)

back_at : (o p : ℤ) → o ≤ℤ p → (o +ℤ pos (nat_abs (p -ℤ o))) ≡ p
back_at o p low = omega (arith, ints)

module _ (b : Box3) (p : List ℤ) (c : ℕ) (covered : Covers b p) where
  place : (axis : ℕ) → axis < 3 → from_begin b p axis < size b axis
  place axis l = place_of (at b.begin axis) (at p axis) (size b axis) (covered axis l).0 (covered axis l).1

  first : (num b p c % size b 0 ≡ from_begin b p 0) × (num b p c / size b 0 ≡ from_begin b p 1 + size b 1 * (from_begin b p 2 + size b 2 * c))
  first = split (size b 0) (from_begin b p 0) (from_begin b p 1 + size b 1 * (from_begin b p 2 + size b 2 * c)) (place 0 (lit< tt))

  second : ((from_begin b p 1 + size b 1 * (from_begin b p 2 + size b 2 * c)) % size b 1 ≡ from_begin b p 1) × ((from_begin b p 1 + size b 1 * (from_begin b p 2 + size b 2 * c)) / size b 1 ≡ from_begin b p 2 + size b 2 * c)
  second = split (size b 1) (from_begin b p 1) (from_begin b p 2 + size b 2 * c) (place 1 (lit< tt))

  third : ((from_begin b p 2 + size b 2 * c) % size b 2 ≡ from_begin b p 2) × ((from_begin b p 2 + size b 2 * c) / size b 2 ≡ c)
  third = split (size b 2) (from_begin b p 2) c (place 2 (lit< tt))

  rows_of : num b p c / size b 0 / size b 1 ≡ from_begin b p 2 + size b 2 * c
  rows_of = ap (λ q. q / size b 1) first.1 ∙ second.1

  back_on : (axis q : ℕ) → axis < 3 → q ≡ from_begin b p axis → (at b.begin axis +ℤ pos q) ≡ at p axis
  back_on axis q l e = ap (λ k. at b.begin axis +ℤ pos k) e ∙ back_at (at b.begin axis) (at p axis) (covered axis l).0

  pub position_of-num : position_of b (num b p c) ≡ on_axes (at p)
  position_of-num =
      let x : (at b.begin 0 +ℤ pos (num b p c % size b 0)) ≡ at p 0 = back_on 0 _ (lit< tt) first.0 in
      let y : (at b.begin 1 +ℤ pos (num b p c / size b 0 % size b 1)) ≡ at p 1 = back_on 1 _ (lit< tt) (ap (λ q. q % size b 1) first.1 ∙ second.0) in
      let z : (at b.begin 2 +ℤ pos (num b p c / size b 0 / size b 1 % size b 2)) ≡ at p 2 = back_on 2 _ (lit< tt) (ap (λ q. q % size b 2) rows_of ∙ third.0) in
      ap (λ (k : ℤ). k ∷ (at b.begin 1 +ℤ pos (num b p c / size b 0 % size b 1)) ∷ (at b.begin 2 +ℤ pos (num b p c / size b 0 / size b 1 % size b 2)) ∷ []) x
      ∙ ap (λ (k : ℤ). at p 0 ∷ k ∷ (at b.begin 2 +ℤ pos (num b p c / size b 0 / size b 1 % size b 2)) ∷ []) y
      ∙ ap (λ (k : ℤ). at p 0 ∷ at p 1 ∷ k ∷ []) z

  pub channel_of-num : channel_of b (num b p c) ≡ c
  channel_of-num = ap (λ q. q / size b 2) rows_of ∙ third.1

  pub num-lt : (channels : ℕ) → c < channels → num b p c < voxels b * channels
  num-lt channels h =
      let z : c * size b 2 + from_begin b p 2 < size b 2 * channels = mul-add-lt c (size b 2) (from_begin b p 2) channels h (place 2 (lit< tt)) in
      let y : (from_begin b p 2 + size b 2 * c) * size b 1 + from_begin b p 1 < size b 1 * (size b 2 * channels) = mul-add-lt (from_begin b p 2 + size b 2 * c) (size b 1) (from_begin b p 1) (size b 2 * channels) (omega arith) (place 1 (lit< tt)) in
      let x : (from_begin b p 1 + size b 1 * (from_begin b p 2 + size b 2 * c)) * size b 0 + from_begin b p 0 < size b 0 * (size b 1 * (size b 2 * channels)) = mul-add-lt (from_begin b p 1 + size b 1 * (from_begin b p 2 + size b 2 * c)) (size b 0) (from_begin b p 0) (size b 1 * (size b 2 * channels)) (omega arith) (place 0 (lit< tt)) in
      omega arith

-- a voxel's bytes lie within the box's
pub voxel_fits : (b : Box3) (channels w : ℕ) (p : List ℤ) (c : ℕ) → Covers b p → c < channels → w * num b p c + w ≤ raw_len b channels w
voxel_fits b channels w p c covered h =
    let next : num b p c + 1 ≤ voxels b * channels = omega (arith, num-lt b p c covered channels h) in
    let within : w * (num b p c + 1) ≤ w * (voxels b * channels) = mul-le-mul_left w next in
    omega arith

-- raw bytes
pub length-raw_bytes : (b : Box3) (channels w : ℕ) (f : List ℤ → ℕ → ℕ) → length (raw_bytes b channels w f) ≡ raw_len b channels w
length-raw_bytes b channels w f =
    length-pieces w (λ n. bytes_of w (f (position_of b n) (channel_of b n))) 0 (voxels b * channels) (λ n. length-bytes_of w (f (position_of b n) (channel_of b n)))
    ∙ omega arith

-- hold the value of each voxel, by its three coordinates
pub digit-raw_bytes : (b : Box3) (channels w : ℕ) (f : List ℤ → ℕ → ℕ) (p : List ℤ) (c : ℕ) → Covers b p → c < channels → f (on_axes (at p)) c < 256 ^ w
    → digit (raw_bytes b channels w f) w (num b p c) ≡ f (on_axes (at p)) c
digit-raw_bytes b channels w f p c covered h small =
    let zero_more : 0 + num b p c ≡ num b p c = omega arith in
    ap number (value-pieces w (λ n. bytes_of w (f (position_of b n) (channel_of b n))) 0 (voxels b * channels) (num b p c) (λ n. length-bytes_of w (f (position_of b n) (channel_of b n))) (num-lt b p c covered channels h))
    ∙ ap (λ n. number (bytes_of w (f (position_of b n) (channel_of b n)))) zero_more
    ∙ ap (λ q. number (bytes_of w (f q (channel_of b (num b p c))))) (position_of-num b p c covered)
    ∙ ap (λ k. number (bytes_of w (f (on_axes (at p)) k))) (channel_of-num b p c covered)
    ∙ number_again w (f (on_axes (at p)) c) small

-- and bytes that hold those values are these
pub is_raw_bytes : (b : Box3) (channels w : ℕ) (f : List ℤ → ℕ → ℕ) (out : List ℕ) → IsSome b → length out ≡ raw_len b channels w → AreBytes out
    → ((p : List ℤ) (c : ℕ) → Covers b p → c < channels → digit out w (num b p c) ≡ f p c) → out ≡ raw_bytes b channels w f
is_raw_bytes b channels w f out some len small same =
    let zero_more : (i : ℕ) → 0 + i ≡ i = λ i. omega arith in
    let told : (i : ℕ) → i < voxels b * channels → digit out w i ≡ f (position_of b i) (channel_of b i) = λ i h.
    ap (digit out w) (sym (num_of b i))
    ∙ same (position_of b i) (channel_of b i) (position_covered b i some) (in_channels (size b 0) (size b 1) (size b 2) channels i (some 0 (lit< tt)) (some 1 (lit< tt)) (some 2 (lit< tt)) h) in
    pieces w (λ n. bytes_of w (f (position_of b n) (channel_of b n))) (voxels b * channels) 0 out (omega arith)
    (λ i h.
    let fits : length (value w out i) ≡ w = length-value w out i (voxels b * channels) h (omega arith) in
    sym (bytes_again (value w out i) w fits (bytes_part w (w * i) out small))
    ∙ ap (bytes_of w) (told i h)
    ∙ ap (λ k. bytes_of w (f (position_of b k) (channel_of b k))) (sym (zero_more i)))

-- what writes give: one write more,
pub last-more : (w : ℕ) (before : Before) (writes : List (Box3 × List ℕ)) (write : Box3 × List ℕ) (p : List ℤ) (c : ℕ)
    → last w before (writes ++ write ∷ []) p c ≡ (if covers write.0 p then digit write.1 w (num write.0 p c) else last w before writes p c)
last-more w before writes write p c = ap (λ ws. newest w before ws p c) (reverse-append writes (write ∷ []))

-- and bounds
pub All-reverse : {X : Type 0} (P : X → Type 0) (xs : List X) → All P xs → All P (reverse xs)
All-reverse P xs h k d l =
    let len = length-reverse xs in
    subst P (sym (get_or-reverse xs k d (omega arith))) (h (length xs - 1 - k) d (omega arith))

chosen-lt : (b : Bool) (m n k : ℕ) → m < k → n < k → (if b then m else n) < k
chosen-lt true m n k h l = h
chosen-lt false m n k h l = l

pub zeros_are : (w : ℕ) → AreValues w zeros
zeros_are w = record { fit = λ p c. some_numbers w; by_axes = λ p c. refl }

module _ (w : ℕ) (before : Before) (are : AreValues w before) where
  newest-lt : (writes : List (Box3 × List ℕ)) (p : List ℤ) (c : ℕ) → All (λ write. AreBytes write.1) writes → newest w before writes p c < 256 ^ w
  newest-lt [] p c small = are.fit p c
  newest-lt (write ∷ older) p c small =
      chosen-lt (covers write.0 p) (digit write.1 w (num write.0 p c)) (newest w before older p c) (256 ^ w)
      (digit-lt write.1 w (num write.0 p c) (All-head (λ (write : Box3 × List ℕ). AreBytes write.1) write older small))
      (newest-lt older p c (All-tail (λ (write : Box3 × List ℕ). AreBytes write.1) write older small))

  pub last-lt : (writes : List (Box3 × List ℕ)) (p : List ℤ) (c : ℕ) → All (λ write. AreBytes write.1) writes → last w before writes p c < 256 ^ w
  last-lt writes p c small = newest-lt (reverse writes) p c (All-reverse (λ (write : Box3 × List ℕ). AreBytes write.1) writes small)

  newest-on_axes : (writes : List (Box3 × List ℕ)) (p : List ℤ) (c : ℕ) → newest w before writes (on_axes (at p)) c ≡ newest w before writes p c
  newest-on_axes [] p c = are.by_axes p c
  newest-on_axes (write ∷ older) p c = ap (λ k. if covers write.0 p then digit write.1 w (num write.0 p c) else k) (newest-on_axes older p c)

  pub last-on_axes : (writes : List (Box3 × List ℕ)) (p : List ℤ) (c : ℕ) → last w before writes (on_axes (at p)) c ≡ last w before writes p c
  last-on_axes writes p c = newest-on_axes (reverse writes) p c

-- the bytes of a cell after writes
pub length-written_raw : (s : Scale) (before : Before) (writes : List (Box3 × List ℕ)) (cell : List ℕ) → length (written_raw s before writes cell) ≡ raw_len (cell_box s cell) s.channels s.width
unfolding written_raw
length-written_raw s before writes cell = length-raw_bytes (cell_box s cell) s.channels s.width (last s.width before writes)

pub is_written_raw : (s : Scale) (before : Before) (writes : List (Box3 × List ℕ)) (cell out : List ℕ) → IsSome (cell_box s cell) → length out ≡ raw_len (cell_box s cell) s.channels s.width → AreBytes out
    → ((p : List ℤ) (c : ℕ) → Covers (cell_box s cell) p → c < s.channels → digit out s.width (num (cell_box s cell) p c) ≡ last s.width before writes p c) → out ≡ written_raw s before writes cell
unfolding written_raw
is_written_raw s before writes cell out some len small same = is_raw_bytes (cell_box s cell) s.channels s.width (last s.width before writes) out some len small same

pub raw_at-written_raw : (s : Scale) (before : Before) (writes : List (Box3 × List ℕ)) (cell : List ℕ) (p : List ℤ) (c : ℕ) → AreValues s.width before → All (λ write. AreBytes write.1) writes → Covers (cell_box s cell) p → c < s.channels
    → raw_at (cell_box s cell) s.width (written_raw s before writes cell) p c ≡ last s.width before writes p c
unfolding written_raw
raw_at-written_raw s before writes cell p c are small covered h =
    digit-raw_bytes (cell_box s cell) s.channels s.width (last s.width before writes) p c covered h (last-lt s.width before are writes (on_axes (at p)) c small)
    ∙ last-on_axes s.width before are writes p c
