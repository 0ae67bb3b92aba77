-- The grid of a scale: each position is in the box of one cell, and the cells that meet a part are a block.
use Rattle.std.proofs.Common.{◌≡◌, ℕ, ◌+◌, ◌-◌, ◌*◌, ◌/◌, ◌^◌, ◌<◌, ◌≤◌, min, List, [], ◌∷◌, Bool, map, length, refl, ap, ◌∙◌, sym, subst, arith, lit<}
use Rattle.std.specs.Prelude.{filter, ◌&&◌, nat_le, ℤ, pos, neg_ℤ, ◌+ℤ◌, ◌-ℤ◌, ◌≤ℤ◌, ◌<ℤ◌, int_lt, nat_abs, slice_index}
use Rattle.std.specs.Int.{int_max, int_min}
use Rattle.std.specs.List.{range_with_len}
use Rattle.std.proofs.lemmas.Int.{ints}
use Rattle.std.proofs.lemmas.Nat.{le-div, mul-le}
use Rattle.std.proofs.Math.Nat.{div-mul-le_self, mul-le-mul_right}
use Rattle.vol_base.proofs.Axes.{by_axis}
use Rattle.vol_base.specs.declared.boxes.Box3.{Box3}
use Rattle.vol_base.specs.Boxes.{at, end, size, from_begin, Covers, Within, IsSome}
use Rattle.vol_base.specs.Grids.{AreSizes}
use Rattle.vol_spec.specs.Limits.{cell_counts, first_bytes}
use Rattle.vol_spec.specs.Raw.{raw_len}
use Rattle.vol_spec.specs.Grid.{whole, Inside, cells_on, IsCell, cell_begin, cell_box, cell_at, meets, cells_in}
use Rattle.vol_spec.specs.declared.scale.Scale.{Scale}
use Rattle.vol_spec.proofs.RawSteps.{place_of}
use Rattle.chunk_grid.specs.Axes.{LiesOn, IsSmallOn}
use Rattle.chunk_grid.specs.Walks.{cell_by_number, total, cells_from, last_position, counts_between, AreEnds}
use Rattle.chunk_grid.proofs.AxisSteps.{counted, block_begins, in_block, one_block}
use Rattle.chunk_grid.proofs.ListSteps.{filter-between}
use Rattle.chunk_grid.proofs.MeetSteps.{meets_by_number, before_none, between_all, behind_none}
use Rattle.chunk_grid.proofs.BlockSteps.{filter_product, product_numbers}

pub AreSizes-counts : (sizes chunk : List ℕ) → AreSizes sizes → AreSizes chunk → AreSizes (cell_counts sizes chunk)
AreSizes-counts sizes chunk s c =
    let on : (axis : ℕ) → axis < 3 → (1 ≤ (slice_index sizes axis + slice_index chunk axis - 1) / slice_index chunk axis) × ((slice_index sizes axis + slice_index chunk axis - 1) / slice_index chunk axis ≤ 2 ^ 40) =
    λ axis h. let k = counted (slice_index sizes axis) (slice_index chunk axis) (s axis h).0 (c axis h).0 in let t = (s axis h).1 in (k.0, omega arith) in
    by_axis (λ axis. (1 ≤ slice_index (cell_counts sizes chunk) axis) × (slice_index (cell_counts sizes chunk) axis ≤ 2 ^ 40)) (on 0 (lit< tt)) (on 1 (lit< tt)) (on 2 (lit< tt))

own_begin : (b : ℤ) (n : ℕ) → 0 < n → (b ≤ℤ b) × (b <ℤ (b +ℤ pos n))
own_begin b n h = (omega (arith, ints), omega (arith, ints))

own_last : (b : ℤ) (n : ℕ) → 0 < n → (b ≤ℤ ((b +ℤ pos n) -ℤ pos 1)) × (((b +ℤ pos n) -ℤ pos 1) <ℤ (b +ℤ pos n))
own_last b n h = (omega (arith, ints), omega (arith, ints))

pub Covers-begin : (b : Box3) → IsSome b → Covers b b.begin
Covers-begin b some axis h = own_begin (at b.begin axis) (size b axis) (some axis h)

pub Covers-last : (b : Box3) → IsSome b → Covers b (last_position b)
Covers-last b some =
    by_axis (λ axis. (at b.begin axis ≤ℤ at (last_position b) axis) × (at (last_position b) axis <ℤ end b axis))
    (own_last (at b.begin 0) (size b 0) (some 0 (lit< tt))) (own_last (at b.begin 1) (size b 1) (some 1 (lit< tt))) (own_last (at b.begin 2) (size b 2) (some 2 (lit< tt)))

within_by_ends : (o b : ℤ) (m n : ℕ) → 0 < n → o ≤ℤ b → ((b +ℤ pos n) -ℤ pos 1) <ℤ (o +ℤ pos m) → (b +ℤ pos n) ≤ℤ (o +ℤ pos m)
within_by_ends o b m n h low high = omega (arith, ints)

pub Inside-on : (s : Scale) (b : Box3) → Inside s b → (axis : ℕ) → axis < 3 → LiesOn s b axis
Inside-on s b h =
    let first : Covers (whole s) b.begin = h.within b.begin (Covers-begin b h.some) in
    let last : Covers (whole s) (last_position b) = h.within (last_position b) (Covers-last b h.some) in
    by_axis (LiesOn s b)
    (record { some = h.some 0 (lit< tt); begins = (first 0 (lit< tt)).0; ends = within_by_ends (at s.offset 0) (at b.begin 0) (size (whole s) 0) (size b 0) (h.some 0 (lit< tt)) (first 0 (lit< tt)).0 (last 0 (lit< tt)).1 })
    (record { some = h.some 1 (lit< tt); begins = (first 1 (lit< tt)).0; ends = within_by_ends (at s.offset 1) (at b.begin 1) (size (whole s) 1) (size b 1) (h.some 1 (lit< tt)) (first 1 (lit< tt)).0 (last 1 (lit< tt)).1 })
    (record { some = h.some 2 (lit< tt); begins = (first 2 (lit< tt)).0; ends = within_by_ends (at s.offset 2) (at b.begin 2) (size (whole s) 2) (size b 2) (h.some 2 (lit< tt)) (first 2 (lit< tt)).0 (last 2 (lit< tt)).1 })

within_step : (o b p : ℤ) (m n : ℕ) → o ≤ℤ b → (b +ℤ pos n) ≤ℤ (o +ℤ pos m) → b ≤ℤ p → p <ℤ (b +ℤ pos n) → (o ≤ℤ p) × (p <ℤ (o +ℤ pos m))
within_step o b p m n begins ends low high = (omega (arith, ints), omega (arith, ints))

pub Inside-from : (s : Scale) (b : Box3) → ((axis : ℕ) → axis < 3 → LiesOn s b axis) → Inside s b
Inside-from s b h = record {
  some = λ axis l. (h axis l).some;
  within = λ p covers axis l. within_step (at s.offset axis) (at b.begin axis) (at p axis) (size (whole s) axis) (size b axis) (h axis l).begins (h axis l).ends (covers axis l).0 (covers axis l).1;
}

-- the place of a position of the scale on an axis
place_covered : (o p : ℤ) (m chunk : ℕ) → 1 ≤ chunk → o ≤ℤ p → p <ℤ (o +ℤ pos m)
    → ((o +ℤ pos (nat_abs (p -ℤ o) / chunk * chunk)) ≤ℤ p) × (p <ℤ ((o +ℤ pos (nat_abs (p -ℤ o) / chunk * chunk)) +ℤ pos (min chunk (m - nat_abs (p -ℤ o) / chunk * chunk))))
place_covered o p m chunk c low high =
    let q = in_block (nat_abs (p -ℤ o)) m chunk c (place_of o p m low high) in
    let a = q.0 in
    let b = q.1 in
    (omega (arith, ints), omega (arith, ints))

one_cell : (o p : ℤ) (m chunk g : ℕ) → 1 ≤ chunk → (o +ℤ pos (g * chunk)) ≤ℤ p → p <ℤ ((o +ℤ pos (g * chunk)) +ℤ pos (min chunk (m - g * chunk))) → g ≡ nat_abs (p -ℤ o) / chunk
one_cell o p m chunk g c low high =
    one_block (nat_abs (p -ℤ o)) m chunk g c (omega (arith, ints)) (omega (arith, ints))

pub three : (xs : List ℕ) (a b c : ℕ) → length xs ≡ 3 → slice_index xs 0 ≡ a → slice_index xs 1 ≡ b → slice_index xs 2 ≡ c → xs ≡ a ∷ b ∷ c ∷ []
three [] a b c h ea eb ec = absurd (omega arith)
three (x ∷ []) a b c h ea eb ec = absurd (omega arith)
three (x ∷ y ∷ []) a b c h ea eb ec = absurd (omega arith)
three (x ∷ y ∷ z ∷ []) a b c h ea eb ec = rw (ea, eb, ec) refl
three (x ∷ y ∷ z ∷ w ∷ ws) a b c h ea eb ec = absurd (omega arith)

-- the cell of a position: in the grid, its box covers the position, and no other cell's does
pub cell_at-IsCell : (s : Scale) (p : List ℤ) → Covers (whole s) p → IsCell s (cell_at s p)
cell_at-IsCell s p h =
    let on : (axis : ℕ) → axis < 3 → from_begin (whole s) p axis / slice_index s.chunk axis < (slice_index s.size axis + slice_index s.chunk axis - 1) / slice_index s.chunk axis =
    λ axis l. (in_block (from_begin (whole s) p axis) (slice_index s.size axis) (slice_index s.chunk axis) (s.chunk_ok axis l).0 (place_of (at s.offset axis) (at p axis) (slice_index s.size axis) (h axis l).0 (h axis l).1)).2 in
    record {
      axes = refl;
      below = by_axis (λ axis. slice_index (cell_at s p) axis < cells_on s axis) (on 0 (lit< tt)) (on 1 (lit< tt)) (on 2 (lit< tt));
    }

pub cell_at-Covers : (s : Scale) (p : List ℤ) → Covers (whole s) p → Covers (cell_box s (cell_at s p)) p
cell_at-Covers s p h =
    by_axis (λ axis. (at (cell_box s (cell_at s p)).begin axis ≤ℤ at p axis) × (at p axis <ℤ end (cell_box s (cell_at s p)) axis))
    (place_covered (at s.offset 0) (at p 0) (slice_index s.size 0) (slice_index s.chunk 0) (s.chunk_ok 0 (lit< tt)).0 (h 0 (lit< tt)).0 (h 0 (lit< tt)).1)
    (place_covered (at s.offset 1) (at p 1) (slice_index s.size 1) (slice_index s.chunk 1) (s.chunk_ok 1 (lit< tt)).0 (h 1 (lit< tt)).0 (h 1 (lit< tt)).1)
    (place_covered (at s.offset 2) (at p 2) (slice_index s.size 2) (slice_index s.chunk 2) (s.chunk_ok 2 (lit< tt)).0 (h 2 (lit< tt)).0 (h 2 (lit< tt)).1)

pub cell_at-only : (s : Scale) (p : List ℤ) (cell : List ℕ) → length cell ≡ 3 → Covers (cell_box s cell) p → cell ≡ cell_at s p
cell_at-only s p cell long h =
    three cell _ _ _ long
    (one_cell (at s.offset 0) (at p 0) (slice_index s.size 0) (slice_index s.chunk 0) (slice_index cell 0) (s.chunk_ok 0 (lit< tt)).0 (h 0 (lit< tt)).0 (h 0 (lit< tt)).1)
    (one_cell (at s.offset 1) (at p 1) (slice_index s.size 1) (slice_index s.chunk 1) (slice_index cell 1) (s.chunk_ok 1 (lit< tt)).0 (h 1 (lit< tt)).0 (h 1 (lit< tt)).1)
    (one_cell (at s.offset 2) (at p 2) (slice_index s.size 2) (slice_index s.chunk 2) (slice_index cell 2) (s.chunk_ok 2 (lit< tt)).0 (h 2 (lit< tt)).0 (h 2 (lit< tt)).1)

-- a cell's box lies in the scale, and no axis of it is empty
cell_within : (o p : ℤ) (m chunk g : ℕ) → (o +ℤ pos (g * chunk)) ≤ℤ p → p <ℤ ((o +ℤ pos (g * chunk)) +ℤ pos (min chunk (m - g * chunk))) → (o ≤ℤ p) × (p <ℤ (o +ℤ pos m))
cell_within o p m chunk g low high = (omega (arith, ints), omega (arith, ints))

pub cell_box-Within : (s : Scale) (cell : List ℕ) → Within (cell_box s cell) (whole s)
cell_box-Within s cell p h =
    by_axis (λ axis. (at s.offset axis ≤ℤ at p axis) × (at p axis <ℤ end (whole s) axis))
    (cell_within (at s.offset 0) (at p 0) (slice_index s.size 0) (slice_index s.chunk 0) (slice_index cell 0) (h 0 (lit< tt)).0 (h 0 (lit< tt)).1)
    (cell_within (at s.offset 1) (at p 1) (slice_index s.size 1) (slice_index s.chunk 1) (slice_index cell 1) (h 1 (lit< tt)).0 (h 1 (lit< tt)).1)
    (cell_within (at s.offset 2) (at p 2) (slice_index s.size 2) (slice_index s.chunk 2) (slice_index cell 2) (h 2 (lit< tt)).0 (h 2 (lit< tt)).1)

pub cell_begins : (s : Scale) (cell : List ℕ) → IsCell s cell → (axis : ℕ) → axis < 3 → cell_begin s cell axis < slice_index s.size axis
cell_begins s cell h =
    by_axis (λ axis. cell_begin s cell axis < slice_index s.size axis)
    (block_begins (slice_index s.size 0) (slice_index s.chunk 0) (slice_index cell 0) (s.size_ok 0 (lit< tt)).0 (s.chunk_ok 0 (lit< tt)).0 (h.below 0 (lit< tt)))
    (block_begins (slice_index s.size 1) (slice_index s.chunk 1) (slice_index cell 1) (s.size_ok 1 (lit< tt)).0 (s.chunk_ok 1 (lit< tt)).0 (h.below 1 (lit< tt)))
    (block_begins (slice_index s.size 2) (slice_index s.chunk 2) (slice_index cell 2) (s.size_ok 2 (lit< tt)).0 (s.chunk_ok 2 (lit< tt)).0 (h.below 2 (lit< tt)))

some_size : (chunk m g : ℕ) → 1 ≤ chunk → g < m → 0 < min chunk (m - g)
some_size chunk m g c h = omega arith

pub cell_box-IsSome : (s : Scale) (cell : List ℕ) → IsCell s cell → IsSome (cell_box s cell)
cell_box-IsSome s cell h =
    let begins = cell_begins s cell h in
    by_axis (λ axis. 0 < size (cell_box s cell) axis)
    (some_size (slice_index s.chunk 0) (slice_index s.size 0) (cell_begin s cell 0) (s.chunk_ok 0 (lit< tt)).0 (begins 0 (lit< tt)))
    (some_size (slice_index s.chunk 1) (slice_index s.size 1) (cell_begin s cell 1) (s.chunk_ok 1 (lit< tt)).0 (begins 1 (lit< tt)))
    (some_size (slice_index s.chunk 2) (slice_index s.size 2) (cell_begin s cell 2) (s.chunk_ok 2 (lit< tt)).0 (begins 2 (lit< tt)))

-- the cells of one axis that meet a part
abbrev axis_meets : (o b : ℤ) (m chunk n : ℕ) → ℕ → Bool
axis_meets o b m chunk n k = int_lt (int_max (o +ℤ pos (k * chunk)) b) (int_min ((o +ℤ pos (k * chunk)) +ℤ pos (min chunk (m - k * chunk))) (b +ℤ pos n))

abbrev first_on : (o b : ℤ) (chunk : ℕ) → ℕ
first_on o b chunk = nat_abs (b -ℤ o) / chunk

abbrev last_on : (o b : ℤ) (chunk n : ℕ) → ℕ
last_on o b chunk n = nat_abs (((b +ℤ pos n) -ℤ pos 1) -ℤ o) / chunk

record AxisBlock (o b : ℤ) (m chunk n : ℕ) : Type 0 where
  pub numbers : filter (axis_meets o b m chunk n) (range_with_len 0 ((m + chunk - 1) / chunk)) ≡ range_with_len (first_on o b chunk) (last_on o b chunk n - first_on o b chunk + 1)
  pub ordered : first_on o b chunk ≤ last_on o b chunk n

axis_block : (o b : ℤ) (m chunk n : ℕ) → 1 ≤ chunk → 0 < n → o ≤ℤ b → (b +ℤ pos n) ≤ℤ (o +ℤ pos m) → AxisBlock o b m chunk n
axis_block o b m chunk n c some begins ends =
    let f : ℕ = nat_abs (b -ℤ o) in
    let is_f : b ≡ o +ℤ pos f = omega (arith, ints) in
    let is_last : nat_abs (((b +ℤ pos n) -ℤ pos 1) -ℤ o) ≡ f + n - 1 = omega (arith, ints) in
    let within : f + n ≤ m = omega (arith, ints) in
    let test : (k : ℕ) → axis_meets o b m chunk n k ≡ (nat_le (f / chunk) k && nat_le k ((f + n - 1) / chunk)) =
    λ k. ap (λ d. axis_meets o d m chunk n k) is_f ∙ meets_by_number o m chunk n f k c some within in
    let lasts : last_on o b chunk n ≡ (f + n - 1) / chunk = ap (λ q. q / chunk) is_last in
    let low : (f + n - 1) / chunk < (m + chunk - 1) / chunk = (in_block (f + n - 1) m chunk c (omega arith)).2 in
    let up : f / chunk ≤ (f + n - 1) / chunk = le-div (f / chunk) (f + n - 1) chunk c (omega (arith, div-mul-le_self f chunk)) in
    record {
      numbers = filter-between (axis_meets o b m chunk n) (first_on o b chunk) (last_on o b chunk n - first_on o b chunk + 1) ((m + chunk - 1) / chunk) (omega arith)
          (λ k h. test k ∙ before_none _ _ k h)
          (λ k l h. test k ∙ between_all _ _ k l (omega arith))
          (λ k h. test k ∙ behind_none _ _ k (omega arith));
      ordered = omega arith;
    }

axis_of : (s : Scale) (b : Box3) → Inside s b → (axis : ℕ) → axis < 3 → AxisBlock (at s.offset axis) (at b.begin axis) (slice_index s.size axis) (slice_index s.chunk axis) (size b axis)
axis_of s b h axis l = let on = Inside-on s b h axis l in axis_block (at s.offset axis) (at b.begin axis) (slice_index s.size axis) (slice_index s.chunk axis) (size b axis) (s.chunk_ok axis l).0 on.some on.begins on.ends

-- the cells that meet a part are those from its first position's to its last position's
pub cells_in-block : (s : Scale) (b : Box3) → Inside s b → cells_in s b ≡ cells_from (cell_at s b.begin) (counts_between (cell_at s b.begin) (cell_at s (last_position b))) 0
cells_in-block s b h =
    let first : List ℕ = cell_at s b.begin in
    let count : List ℕ = counts_between first (cell_at s (last_position b)) in
    let none_taken : total count ≡ total count - 0 = omega arith in
    let x : AxisBlock (at s.offset 0) (at b.begin 0) (slice_index s.size 0) (slice_index s.chunk 0) (size b 0) = axis_of s b h 0 (lit< tt) in
    let y : AxisBlock (at s.offset 1) (at b.begin 1) (slice_index s.size 1) (slice_index s.chunk 1) (size b 1) = axis_of s b h 1 (lit< tt) in
    let z : AxisBlock (at s.offset 2) (at b.begin 2) (slice_index s.size 2) (slice_index s.chunk 2) (size b 2) = axis_of s b h 2 (lit< tt) in
    filter_product (meets s b)
    (axis_meets (at s.offset 0) (at b.begin 0) (slice_index s.size 0) (slice_index s.chunk 0) (size b 0))
    (axis_meets (at s.offset 1) (at b.begin 1) (slice_index s.size 1) (slice_index s.chunk 1) (size b 1))
    (axis_meets (at s.offset 2) (at b.begin 2) (slice_index s.size 2) (slice_index s.chunk 2) (size b 2))
    (range_with_len 0 (cells_on s 0)) (range_with_len 0 (cells_on s 1)) (range_with_len 0 (cells_on s 2)) (λ i j k. refl)
    ∙ rw (x.numbers, y.numbers, z.numbers) (product_numbers (slice_index first 0) (slice_index first 1) (slice_index first 2) (slice_index count 0) (slice_index count 1) (slice_index count 2))
    ∙ ap (λ k. map (cell_by_number first count) (range_with_len 0 k)) none_taken

pub Covers-first : (s : Scale) (b : Box3) → Inside s b → Covers (whole s) b.begin
Covers-first s b h = h.within b.begin (Covers-begin b h.some)

small_part : (o b : ℤ) (m n : ℕ) → 0 < n → o ≤ℤ b → (b +ℤ pos n) ≤ℤ (o +ℤ pos m) → m ≤ 2 ^ 40 → (neg_ℤ (pos (2 ^ 40)) ≤ℤ o) × (o ≤ℤ pos (2 ^ 40))
    → (n ≤ 2 ^ 40) × (neg_ℤ (pos (2 ^ 40)) ≤ℤ b) × (b ≤ℤ pos (2 ^ 41))
small_part o b m n some begins ends sized offset =
    let low = offset.0 in
    let high = offset.1 in
    (omega (arith, ints), omega (arith, ints), omega (arith, ints))

pub Inside-small : (s : Scale) (b : Box3) → Inside s b → (axis : ℕ) → axis < 3 → IsSmallOn b axis
Inside-small s b h axis l =
    let on = Inside-on s b h axis l in
    let small = small_part (at s.offset axis) (at b.begin axis) (slice_index s.size axis) (size b axis) on.some on.begins on.ends (s.size_ok axis l).1 (s.offset_ok axis l) in
    record { some = on.some; sized = small.0; low = small.1; high = small.2 }

last_small : (s : Scale) (p : List ℤ) → Covers (whole s) p → (axis : ℕ) → axis < 3 → slice_index (cell_at s p) axis < 2 ^ 40
last_small s p h axis l =
    let below = (cell_at-IsCell s p h).below axis l in
    let count = (AreSizes-counts s.size s.chunk s.size_ok s.chunk_ok axis l).1 in
    omega (arith, below, count)

AreEnds-cells : (s : Scale) (b : Box3) → Inside s b → AreEnds (cell_at s b.begin) (cell_at s (last_position b))
AreEnds-cells s b h = record {
  ordered = by_axis (λ axis. slice_index (cell_at s b.begin) axis ≤ slice_index (cell_at s (last_position b)) axis) (axis_of s b h 0 (lit< tt)).ordered (axis_of s b h 1 (lit< tt)).ordered (axis_of s b h 2 (lit< tt)).ordered;
  small = last_small s (last_position b) (h.within (last_position b) (Covers-last b h.some));
}

-- what the calls tell of a value that is known by an equation
pub counts_fit : (s : Scale) (x y z : ℕ) → x ≡ (slice_index s.size 0 + slice_index s.chunk 0 - 1) / slice_index s.chunk 0 → y ≡ (slice_index s.size 1 + slice_index s.chunk 1 - 1) / slice_index s.chunk 1
    → z ≡ (slice_index s.size 2 + slice_index s.chunk 2 - 1) / slice_index s.chunk 2 → AreSizes (x ∷ y ∷ z ∷ [])
counts_fit s x y z ex ey ez = rw (ex, ey, ez) (AreSizes-counts s.size s.chunk s.size_ok s.chunk_ok)

pub cell_found : (s : Scale) (p : List ℤ) (cell : List ℕ) → cell ≡ cell_at s p → Covers (whole s) p
    → IsCell s cell × Covers (cell_box s cell) p × ((other : List ℕ) → IsCell s other → Covers (cell_box s other) p → other ≡ cell)
cell_found s p cell e h =
    let P : List ℕ → Type 0 = λ cell. IsCell s cell × Covers (cell_box s cell) p × ((other : List ℕ) → IsCell s other → Covers (cell_box s other) p → other ≡ cell) in
    subst P (sym e) (cell_at-IsCell s p h, cell_at-Covers s p h, λ other is covers. cell_at-only s p other is.axes covers)

pub box_found : (s : Scale) (cell : List ℕ) (b : Box3) → b ≡ cell_box s cell → IsCell s cell → Within b (whole s) × IsSome b
box_found s cell b e h =
    let P : Box3 → Type 0 = λ b. Within b (whole s) × IsSome b in
    subst P (sym e) (cell_box-Within s cell, cell_box-IsSome s cell h)

pub ends_found : (s : Scale) (b : Box3) (p : List ℤ) (first last : List ℕ) → Inside s b → p ≡ last_position b → first ≡ cell_at s b.begin → last ≡ cell_at s p → AreEnds first last
ends_found s b p first last h ep ef el =
    let e : last ≡ cell_at s (last_position b) = el ∙ ap (cell_at s) ep in
    subst (λ c. AreEnds c last) (sym ef) (subst (λ c. AreEnds (cell_at s b.begin) c) (sym e) (AreEnds-cells s b h))

pub last_found : (s : Scale) (b : Box3) (p : List ℤ) → Inside s b → p ≡ last_position b → Covers (whole s) p
last_found s b p h e = subst (Covers (whole s)) (sym e) (h.within (last_position b) (Covers-last b h.some))

pub walk_found : (s : Scale) (b : Box3) (p : List ℤ) (first last : List ℕ) (left : List (List ℕ)) → Inside s b → p ≡ last_position b → first ≡ cell_at s b.begin → last ≡ cell_at s p
    → left ≡ cells_from first (counts_between first last) 0 → left ≡ cells_in s b
walk_found s b p first last left h ep ef el e =
    let same : last ≡ cell_at s (last_position b) = el ∙ ap (cell_at s) ep in
    e ∙ ap (λ c. cells_from c (counts_between c last) 0) ef ∙ ap (λ c. cells_from (cell_at s b.begin) (counts_between (cell_at s b.begin) c) 0) same ∙ sym (cells_in-block s b h)

pub cell_box-Inside : (s : Scale) (cell : List ℕ) → IsCell s cell → Inside s (cell_box s cell)
cell_box-Inside s cell h = record { some = cell_box-IsSome s cell h; within = cell_box-Within s cell }

-- no cell has more bytes of values than the first
size_short : (chunk m g : ℕ) → min chunk (m - g) ≤ min chunk m
size_short chunk m g = omega arith

pub cell_box-short : (s : Scale) (cell : List ℕ) → raw_len (cell_box s cell) s.channels s.width ≤ first_bytes s.width s.channels s.size s.chunk
cell_box-short s cell =
    let x = size_short (slice_index s.chunk 0) (slice_index s.size 0) (cell_begin s cell 0) in
    let y = size_short (slice_index s.chunk 1) (slice_index s.size 1) (cell_begin s cell 1) in
    let z = size_short (slice_index s.chunk 2) (slice_index s.size 2) (cell_begin s cell 2) in
    mul-le-mul_right s.width (mul-le-mul_right s.channels (mul-le _ _ _ _ (mul-le _ _ _ _ x y) z))
