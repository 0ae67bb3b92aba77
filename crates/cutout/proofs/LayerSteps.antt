-- The layers of a box along z: what they are, and which cells meet them.
use Rattle.std.proofs.Common.{◌≡◌, ◌∙◌, ◌≤◌, ◌<◌, ◌+◌, ◌-◌, ◌*◌, ◌/◌, ◌%◌, ◌++◌, ◌^◌, min, ℕ, zero, suc, ℤ, pos, ◌+ℤ◌, ◌-ℤ◌, ◌≤ℤ◌, nat_abs, List, [], ◌∷◌, map, slice_index, arith, ap, refl, sym, lit<}
use Rattle.std.specs.List.{range_with_len}
use Rattle.std.proofs.lemmas.Int.{ints}
use Rattle.std.proofs.lemmas.List.{map-append}
use Rattle.std.proofs.lemmas.Nat.{div-mul-add, mod-mul-add, mod_below, div_below, le-div}
use Rattle.std.proofs.Math.Nat.{mod-add-div, mul-le-mul_left, mul-le-mul_right, lt-div-mul-add, div-mul-le_self}
use Rattle.vol_base.proofs.Axes.{by_axis}
use Rattle.vol_base.specs.declared.boxes.Box3.{Box3}
use Rattle.vol_base.specs.Boxes.{at, from_begin, size}
use Rattle.vol_spec.specs.Grid.{cell_at, cells_in, Inside, whole}
use Rattle.vol_spec.specs.Types.{Cell}
use Rattle.vol_spec.specs.declared.scale.Scale.{Scale}
use Rattle.chunk_grid.specs.Axes.{LiesOn}
use Rattle.chunk_grid.specs.Walks.{cell_by_number, cells_from, counts_between, last_position, total}
use Rattle.chunk_grid.proofs.GridSteps.{cells_in-block, Inside-from, Inside-on}
use Rattle.chunk_grid.proofs.ListSteps.{range-add}
use Rattle.vol_spec.specs.Raw.{raw_len}
use Rattle.cutout.specs.Layers.{end_layer, first_layer, layer, layer_room, planes_below}

-- planes below a number, over plain numbers: f planes of the scale lie below the box, which has m; k is the chunk's size
abbrev lower : ℕ → ℕ → ℕ → ℕ → ℕ
lower k f m number = min (number * k - f) m

lower-first : (k f m : ℕ) → 0 < k → lower k f m (f / k) ≡ 0
lower-first k f m some = let l = div-mul-le_self f k in omega (arith, l)

lower-end : (k f m : ℕ) → 0 < k → 0 < m → lower k f m ((f + m - 1) / k + 1) ≡ m
lower-end k f m some any =
    let l : f + m - 1 < (f + m - 1) / k * k + k = lt-div-mul-add some in
    omega (arith, l)

pub div_small : (x k : ℕ) → 0 < k → x / k ≤ x
div_small x k some =
    let l : x / k * k ≤ x = div-mul-le_self x k in
    let more : x / k * 1 ≤ x / k * k = mul-le-mul_left (x / k) (omega (arith, some)) in
    omega (arith, l, more)

-- how many bytes one channel of a layer has at most
pub room_is : (x y z k channels w height room : ℕ) → 1 ≤ channels → x * y * z * channels * w ≤ 2 ^ 30 → height ≡ min z k → room ≡ min (x * y * height * 1 * w) (2 ^ 128 - 1) → room ≡ x * y * min z k * w
room_is x y z k channels w height room some small e is =
    let planes_few : x * y * min z k ≤ x * y * z = mul-le-mul_left (x * y) (let l : min z k ≤ z = omega arith in l) in
    let bytes_few : x * y * min z k * w ≤ x * y * z * w = mul-le-mul_right w planes_few in
    let one : x * y * z * w * 1 ≤ x * y * z * w * channels = mul-le-mul_left (x * y * z * w) some in
    let same : x * y * height * 1 * w ≡ x * y * min z k * w = ap (λ h. x * y * h * 1 * w) e ∙ ap (λ n. n * w) (let l : x * y * min z k * 1 ≡ x * y * min z k = omega arith in l) in
    omega (arith, is, same, bytes_few, one, small)

-- a number of a cell that meets the box
pub record IsBetween (k f m number : ℕ) : Type 0 where
  pub first : f / k ≤ number
  pub last : number ≤ (f + m - 1) / k

-- its planes begin and end so
pub record Lies (k f m number : ℕ) : Type 0 where
  pub from : lower k f m number ≡ number * k - f
  pub some : lower k f m number < lower k f m (number + 1)
  pub within : lower k f m (number + 1) ≤ m
  pub begins : number * k ≤ f + lower k f m number
  pub ends : f + lower k f m (number + 1) ≤ number * k + k

pub lies : (k f m number : ℕ) → 0 < k → 0 < m → IsBetween k f m number → Lies k f m number
lies k f m number some any h =
    let low : f < f / k * k + k = lt-div-mul-add some in
    let up : (f + m - 1) / k * k ≤ f + m - 1 = div-mul-le_self (f + m - 1) k in
    let a : f / k * k ≤ number * k = mul-le-mul_right k h.first in
    let b : number * k ≤ (f + m - 1) / k * k = mul-le-mul_right k h.last in
    let next : (number + 1) * k ≡ number * k + k = omega arith in
    record {
      from = omega (arith, b, up);
      some = omega (arith, low, a, b, up, next);
      within = omega arith;
      begins = omega (arith, b, up);
      ends = omega (arith, low, a, next);
    }

-- a box of a scale on the axis z, over plain numbers
pub record Depth (s : Scale) (b : Box3) : Type 0 where
  pub chunk : 0 < slice_index s.chunk 2
  pub some : 0 < size b 2
  pub begin : at b.begin 2 ≡ at s.offset 2 +ℤ pos (from_begin (whole s) b.begin 2)
  pub within : from_begin (whole s) b.begin 2 + size b 2 ≤ slice_index s.size 2

axis_depth : (o b : ℤ) (n m : ℕ) → o ≤ℤ b → (b +ℤ pos n) ≤ℤ (o +ℤ pos m) → (b ≡ o +ℤ pos (nat_abs (b -ℤ o))) × (nat_abs (b -ℤ o) + n ≤ m)
axis_depth o b n m begins ends = (omega (arith, ints), omega (arith, ints))

pub depth : (s : Scale) (b : Box3) → Inside s b → Depth s b
depth s b inside =
    let on = Inside-on s b inside 2 (lit< tt) in
    let place = axis_depth (at s.offset 2) (at b.begin 2) (size b 2) (slice_index s.size 2) on.begins on.ends in
    let chunk = (s.chunk_ok 2 (lit< tt)).0 in
    record { chunk = omega (arith, chunk); some = on.some; begin = place.0; within = place.1 }

-- the numbers along z of the cells that meet a box
abbrev pub IsNumber : Scale → Box3 → ℕ → Type 0
IsNumber s b number = IsBetween (slice_index s.chunk 2) (from_begin (whole s) b.begin 2) (size b 2) number

pub number_lies : (s : Scale) (b : Box3) (number : ℕ) → Inside s b → IsNumber s b number → Lies (slice_index s.chunk 2) (from_begin (whole s) b.begin 2) (size b 2) number
number_lies s b number inside h = let d = depth s b inside in lies _ _ _ number d.chunk d.some h

pub below-first : (s : Scale) (b : Box3) → Inside s b → planes_below s b (first_layer s b) ≡ 0
below-first s b inside = lower-first _ _ _ (depth s b inside).chunk

pub below-end : (s : Scale) (b : Box3) → Inside s b → planes_below s b (end_layer s b) ≡ size b 2
below-end s b inside = let d = depth s b inside in lower-end _ _ _ d.chunk d.some

-- a layer is inside
layer_ends : (o b : ℤ) (f m n from next : ℕ) → b ≡ o +ℤ pos f → f + m ≤ n → from < next → next ≤ m
    → (0 < next - from) × (o ≤ℤ (b +ℤ pos from)) × (((b +ℤ pos from) +ℤ pos (next - from)) ≤ℤ (o +ℤ pos n))
layer_ends o b f m n from next e within some last = (omega arith, omega (arith, ints), omega (arith, ints))

pub layer-Inside : (s : Scale) (b : Box3) (number : ℕ) → Inside s b → IsNumber s b number → Inside s (layer s b number)
layer-Inside s b number inside h =
    let on = Inside-on s b inside in
    let d = depth s b inside in
    let l = number_lies s b number inside h in
    let z = layer_ends (at s.offset 2) (at b.begin 2) _ _ _ (planes_below s b number) (planes_below s b (number + 1)) d.begin d.within l.some l.within in
    Inside-from s (layer s b number) (by_axis (LiesOn s (layer s b number))
    (let x = on 0 (lit< tt) in record { some = x.some; begins = x.begins; ends = x.ends })
    (let y = on 1 (lit< tt) in record { some = y.some; begins = y.begins; ends = y.ends })
    (record { some = z.0; begins = z.1; ends = z.2 }))

-- the number of a place within one cell
pub number_at : (k number x : ℕ) → number * k ≤ x → x < number * k + k → x / k ≡ number
number_at k number x low high =
    let e : x ≡ number * k + (x - number * k) = omega (arith, low) in
    ap (λ y. y / k) e ∙ div-mul-add number k (x - number * k) (omega (arith, low, high))

layer_places : (o b : ℤ) (f from next : ℕ) → b ≡ o +ℤ pos f → from < next
    → (nat_abs ((b +ℤ pos from) -ℤ o) ≡ f + from) × (nat_abs ((((b +ℤ pos from) +ℤ pos (next - from)) -ℤ pos 1) -ℤ o) ≡ f + next - 1)
layer_places o b f from next e some = (omega (arith, ints), omega (arith, ints))

pub record HasNumber (s : Scale) (b : Box3) (number : ℕ) : Type 0 where
  pub first : slice_index (cell_at s (layer s b number).begin) 2 ≡ number
  pub last : slice_index (cell_at s (last_position (layer s b number))) 2 ≡ number

pub has_number : (s : Scale) (b : Box3) (number : ℕ) → Inside s b → IsNumber s b number → HasNumber s b number
has_number s b number inside h =
    let k : ℕ = slice_index s.chunk 2 in
    let f : ℕ = from_begin (whole s) b.begin 2 in
    let d = depth s b inside in
    let l = number_lies s b number inside h in
    let places = layer_places (at s.offset 2) (at b.begin 2) f (planes_below s b number) (planes_below s b (number + 1)) d.begin l.some in
    record {
      first = ap (λ x. x / k) places.0 ∙ number_at k number (f + planes_below s b number) l.begins (omega (arith, l.some, l.ends));
      last = ap (λ x. x / k) places.1 ∙ number_at k number (f + planes_below s b (number + 1) - 1) (omega (arith, l.some, l.begins)) (omega (arith, l.some, l.ends));
    }

-- the cells of a block, some planes on
shifted : (c0 c1 j i : ℕ) → 0 < c0 → 0 < c1
    → ((c0 * c1 * j + i) % c0 ≡ i % c0) × ((c0 * c1 * j + i) / c0 % c1 ≡ i / c0 % c1) × ((c0 * c1 * j + i) / c0 / c1 ≡ j + i / c0 / c1)
shifted c0 c1 j i h0 h1 =
    let whole : i % c0 + c0 * (i / c0) ≡ i = mod-add-div i c0 in
    let rows : i / c0 % c1 + c1 * (i / c0 / c1) ≡ i / c0 = mod-add-div (i / c0) c1 in
    let as_rows : c0 * c1 * j + i ≡ (c1 * j + i / c0) * c0 + i % c0 = omega (arith, whole) in
    let as_planes : c1 * j + i / c0 ≡ (j + i / c0 / c1) * c1 + i / c0 % c1 = omega (arith, rows) in
    let row : (c0 * c1 * j + i) / c0 ≡ c1 * j + i / c0 = ap (λ x. x / c0) as_rows ∙ div-mul-add (c1 * j + i / c0) c0 (i % c0) (mod_below i c0 h0) in (
      ap (λ x. x % c0) as_rows ∙ mod-mul-add (c1 * j + i / c0) c0 (i % c0) (mod_below i c0 h0),
      ap (λ x. x % c1) (row ∙ as_planes) ∙ mod-mul-add (j + i / c0 / c1) c1 (i / c0 % c1) (mod_below (i / c0) c1 h1),
      ap (λ x. x / c1) (row ∙ as_planes) ∙ div-mul-add (j + i / c0 / c1) c1 (i / c0 % c1) (mod_below (i / c0) c1 h1),
    )

map-shift : {A : Type 0} (f g : ℕ → A) (a b n : ℕ) → ((i : ℕ) → i < n → f (a + i) ≡ g (b + i)) → map f (range_with_len a n) ≡ map g (range_with_len b n)
map-shift f g a b zero same = refl
map-shift f g a b (suc n) same =
    let at_a : a + 0 ≡ a = omega arith in
    let at_b : b + 0 ≡ b = omega arith in
    let first : f a ≡ g b = ap f (sym at_a) ∙ same 0 (omega arith) ∙ ap g at_b in
    let rest = map-shift f g (a + 1) (b + 1) n (λ i h.
    let m : a + (i + 1) ≡ (a + 1) + i = omega arith in
    let k : b + (i + 1) ≡ (b + 1) + i = omega arith in
    ap f (sym m) ∙ same (i + 1) (omega arith) ∙ ap g k) in
    ap (λ x. x ∷ map f (range_with_len (a + 1) n)) first ∙ ap (λ xs. g b ∷ xs) rest

-- one layer of a block is a block
one_layer : (x y z first c0 c1 c2 d2 number : ℕ) → 0 < c0 → 0 < c1 → z ≡ number → d2 ≡ 1 → first ≤ number
    → cells_from (x ∷ y ∷ z ∷ []) (c0 ∷ c1 ∷ d2 ∷ []) 0 ≡ map (cell_by_number (x ∷ y ∷ first ∷ []) (c0 ∷ c1 ∷ c2 ∷ [])) (range_with_len (c0 * c1 * (number - first)) (c0 * c1))
one_layer x y z first c0 c1 c2 d2 number h0 h1 ez ed low =
    let count : c0 * c1 * d2 - 0 ≡ c0 * c1 = ap (λ d. c0 * c1 * d - 0) ed ∙ omega arith in
    ap (λ n. map (cell_by_number (x ∷ y ∷ z ∷ []) (c0 ∷ c1 ∷ d2 ∷ [])) (range_with_len 0 n)) count
    ∙ map-shift (cell_by_number (x ∷ y ∷ z ∷ []) (c0 ∷ c1 ∷ d2 ∷ [])) (cell_by_number (x ∷ y ∷ first ∷ []) (c0 ∷ c1 ∷ c2 ∷ [])) 0 (c0 * c1 * (number - first)) (c0 * c1) (λ i h.
    let at_i : 0 + i ≡ i = omega arith in
    let s = shifted c0 c1 (number - first) i h0 h1 in
    let row : i / c0 < c1 = div_below i c0 c1 h0 (omega (arith, h)) in
    let none : i / c0 / c1 < 1 = div_below (i / c0) c1 1 h1 (omega (arith, row)) in
    let plane : z + i / c0 / c1 ≡ first + (c0 * c1 * (number - first) + i) / c0 / c1 = omega (arith, s.2, none, ez, low) in
    ap (cell_by_number (x ∷ y ∷ z ∷ []) (c0 ∷ c1 ∷ d2 ∷ [])) at_i
    ∙ ap (λ v. (x + v) ∷ (y + i / c0 % c1) ∷ (z + i / c0 / c1) ∷ []) (sym s.0)
    ∙ ap (λ v. (x + (c0 * c1 * (number - first) + i) % c0) ∷ (y + v) ∷ (z + i / c0 / c1) ∷ []) (sym s.1)
    ∙ ap (λ v. (x + (c0 * c1 * (number - first) + i) % c0) ∷ (y + (c0 * c1 * (number - first) + i) / c0 % c1) ∷ v ∷ []) plane)

-- the block of a box's cells
abbrev pub first_cell : Scale → Box3 → Cell
first_cell s b = cell_at s b.begin

abbrev pub cell_count : Scale → Box3 → Cell
cell_count s b = counts_between (cell_at s b.begin) (cell_at s (last_position b))

abbrev pub layer_count : Scale → Box3 → ℕ
layer_count s b = slice_index (cell_count s b) 0 * slice_index (cell_count s b) 1

-- the cells of a box below those of a number along z
abbrev pub front_cells : Scale → Box3 → ℕ → List Cell
front_cells s b number = map (cell_by_number (first_cell s b) (cell_count s b)) (range_with_len 0 (layer_count s b * (number - first_layer s b)))

pub cells-layer : (s : Scale) (b : Box3) (number : ℕ) → Inside s b → IsNumber s b number
    → cells_in s (layer s b number) ≡ map (cell_by_number (first_cell s b) (cell_count s b)) (range_with_len (layer_count s b * (number - first_layer s b)) (layer_count s b))
cells-layer s b number inside h =
    let has = has_number s b number inside h in
    cells_in-block s (layer s b number) (layer-Inside s b number inside h)
    ∙ one_layer (slice_index (first_cell s b) 0) (slice_index (first_cell s b) 1) (slice_index (cell_at s (layer s b number).begin) 2) (first_layer s b)
    (slice_index (cell_count s b) 0) (slice_index (cell_count s b) 1) (slice_index (cell_count s b) 2) (slice_index (cell_count s (layer s b number)) 2) number
    (omega arith) (omega arith) has.first (omega (arith, has.first, has.last)) h.first

pub cells-none : (s : Scale) (b : Box3) → front_cells s b (first_layer s b) ≡ []
cells-none s b =
    let none : layer_count s b * (first_layer s b - first_layer s b) ≡ 0 = ap (λ n. layer_count s b * n) (let z : first_layer s b - first_layer s b ≡ 0 = omega arith in z) ∙ omega arith in
    ap (λ n. map (cell_by_number (first_cell s b) (cell_count s b)) (range_with_len 0 n)) none

block_more : (F C : Cell) (p j k : ℕ) → k ≡ j + 1
    → map (cell_by_number F C) (range_with_len 0 (p * k)) ≡ map (cell_by_number F C) (range_with_len 0 (p * j)) ++ map (cell_by_number F C) (range_with_len (p * j) p)
block_more F C p j k e =
    let count : p * k ≡ p * j + p = ap (λ n. p * n) e ∙ omega arith in
    let begin : 0 + p * j ≡ p * j = omega arith in
    ap (λ n. map (cell_by_number F C) (range_with_len 0 n)) count ∙ ap (map (cell_by_number F C)) (range-add 0 (p * j) p)
    ∙ map-append (cell_by_number F C) (range_with_len 0 (p * j)) (range_with_len (0 + p * j) p)
    ∙ ap (λ a. map (cell_by_number F C) (range_with_len 0 (p * j)) ++ map (cell_by_number F C) (range_with_len a p)) begin

pub cells-more : (s : Scale) (b : Box3) (number : ℕ) → Inside s b → IsNumber s b number → front_cells s b (number + 1) ≡ front_cells s b number ++ cells_in s (layer s b number)
cells-more s b number inside h =
    block_more (first_cell s b) (cell_count s b) (layer_count s b) (number - first_layer s b) (number + 1 - first_layer s b) (omega (arith, h.first))
    ∙ ap (λ xs. front_cells s b number ++ xs) (sym (cells-layer s b number inside h))

last_place : (o b : ℤ) (f m : ℕ) → b ≡ o +ℤ pos f → 0 < m → nat_abs (((b +ℤ pos m) -ℤ pos 1) -ℤ o) ≡ f + m - 1
last_place o b f m e some = omega (arith, ints)

pub last_number : (s : Scale) (b : Box3) → Inside s b → slice_index (cell_at s (last_position b)) 2 + 1 ≡ end_layer s b
last_number s b inside =
    let d = depth s b inside in
    ap (λ x. x / slice_index s.chunk 2 + 1) (last_place (at s.offset 2) (at b.begin 2) _ (size b 2) d.begin d.some)

-- some of the cells, and those behind them
block_rest : (F C : Cell) (n k : ℕ) → n ≤ k → (rest : List Cell) × (map (cell_by_number F C) (range_with_len 0 n) ++ rest ≡ map (cell_by_number F C) (range_with_len 0 k))
block_rest F C n k h =
    let count : n + (k - n) ≡ k = omega (arith, h) in (
      map (cell_by_number F C) (range_with_len (0 + n) (k - n)),
      sym (map-append (cell_by_number F C) (range_with_len 0 n) (range_with_len (0 + n) (k - n))) ∙ ap (map (cell_by_number F C)) (sym (range-add 0 n (k - n))) ∙ ap (λ j. map (cell_by_number F C) (range_with_len 0 j)) count,
    )

-- the numbers are in order
pub first-end : (s : Scale) (b : Box3) → Inside s b → first_layer s b < end_layer s b
first-end s b inside =
    let d = depth s b inside in
    let up : first_layer s b ≤ (from_begin (whole s) b.begin 2 + size b 2 - 1) / slice_index s.chunk 2 = le-div (first_layer s b) _ (slice_index s.chunk 2) d.chunk (let l = div-mul-le_self (from_begin (whole s) b.begin 2) (slice_index s.chunk 2) in omega (arith, l, d.some)) in
    omega (arith, up)

-- there are so many cells
cells_total : (s : Scale) (b : Box3) → Inside s b → total (cell_count s b) - 0 ≡ layer_count s b * (end_layer s b - first_layer s b)
cells_total s b inside =
    let last = last_number s b inside in
    let up = first-end s b inside in
    let layers : slice_index (cell_count s b) 2 ≡ end_layer s b - first_layer s b = omega (arith, last, up) in
    ap (λ n. layer_count s b * n - 0) layers ∙ (let z : (n : ℕ) → n - 0 ≡ n = λ n. omega arith in z _)

pub cells-rest : (s : Scale) (b : Box3) (number : ℕ) → Inside s b → number ≤ end_layer s b → (rest : List Cell) × (front_cells s b number ++ rest ≡ cells_in s b)
cells-rest s b number inside h =
    let few : layer_count s b * (number - first_layer s b) ≤ layer_count s b * (end_layer s b - first_layer s b) = mul-le-mul_left (layer_count s b) (omega (arith, h)) in
    let r = block_rest (first_cell s b) (cell_count s b) _ _ few in
    (r.0, r.1 ∙ ap (λ n. map (cell_by_number (first_cell s b) (cell_count s b)) (range_with_len 0 n)) (sym (cells_total s b inside)) ∙ sym (cells_in-block s b inside))

pub cells-all : (s : Scale) (b : Box3) → Inside s b → front_cells s b (end_layer s b) ≡ cells_in s b
cells-all s b inside = ap (λ n. map (cell_by_number (first_cell s b) (cell_count s b)) (range_with_len 0 n)) (sym (cells_total s b inside)) ∙ sym (cells_in-block s b inside)

-- a layer's channel has room
layer_short : (k f m number : ℕ) → 0 < k → 0 < m → IsBetween k f m number → lower k f m (number + 1) - lower k f m number ≤ min m k
layer_short k f m number some any h = let l = lies k f m number some any h in omega (arith, l.begins, l.ends, l.within, l.some)

pub layer-room : (s : Scale) (b : Box3) (number : ℕ) → Inside s b → IsNumber s b number → raw_len (layer s b number) 1 s.width ≤ layer_room s b
layer-room s b number inside h =
    let d = depth s b inside in
    let short = layer_short (slice_index s.chunk 2) (from_begin (whole s) b.begin 2) (size b 2) number d.chunk d.some h in
    let few : size b 0 * size b 1 * (planes_below s b (number + 1) - planes_below s b number) ≤ size b 0 * size b 1 * min (size b 2) (slice_index s.chunk 2) = mul-le-mul_left (size b 0 * size b 1) short in
    let more : size b 0 * size b 1 * (planes_below s b (number + 1) - planes_below s b number) * s.width ≤ size b 0 * size b 1 * min (size b 2) (slice_index s.chunk 2) * s.width = mul-le-mul_right s.width few in
    let one : size b 0 * size b 1 * (planes_below s b (number + 1) - planes_below s b number) * 1 * s.width ≡ size b 0 * size b 1 * (planes_below s b (number + 1) - planes_below s b number) * s.width =
    ap (λ n. n * s.width) (let l : size b 0 * size b 1 * (planes_below s b (number + 1) - planes_below s b number) * 1 ≡ size b 0 * size b 1 * (planes_below s b (number + 1) - planes_below s b number) = omega arith in l) in
    omega (arith, more, one)

-- a layer by its parts
pub layer_is : (s : Scale) (b : Box3) (number : ℕ) (x y z : ℤ) (from next : ℕ) → x ≡ at b.begin 0 → y ≡ at b.begin 1 → z ≡ (at b.begin 2 +ℤ pos from) → from ≡ planes_below s b number → next ≡ planes_below s b (number + 1)
    → ◌≡◌ {A = Box3} (record { begin = x ∷ y ∷ z ∷ []; size = size b 0 ∷ size b 1 ∷ (next - from) ∷ [] }) (layer s b number)
layer_is s b number x y z from next ex ey ez ef en = rw (ex, ey, ez, ef, en) refl

-- and no channel of a layer has more bytes than all of the box
room_most : (x y z k channels w : ℕ) → 1 ≤ channels → x * y * min z k * w ≤ x * y * z * channels * w
room_most x y z k channels w some =
    let planes_few : x * y * min z k ≤ x * y * z = mul-le-mul_left (x * y) (let l : min z k ≤ z = omega arith in l) in
    let bytes_few : x * y * min z k * w ≤ x * y * z * w = mul-le-mul_right w planes_few in
    let one : x * y * z * w * 1 ≤ x * y * z * w * channels = mul-le-mul_left (x * y * z * w) some in
    omega (arith, bytes_few, one)

pub room-small : (s : Scale) (b : Box3) → raw_len b s.channels s.width ≤ 2 ^ 30 → layer_room s b ≤ 2 ^ 30
room-small s b small =
    let most = room_most (size b 0) (size b 1) (size b 2) (slice_index s.chunk 2) s.channels s.width s.some_channels in
    omega (arith, most, small)
