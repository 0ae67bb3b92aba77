-- Each generated write is of its scale, so the stream of a generated list is read as the list.
use Rattle.std.proofs.Common.{◌≡◌, ℕ, ◌+◌, ◌-◌, ◌*◌, ◌/◌, ◌^◌, ◌<◌, ◌≤◌, min, List, length, sym, ap, ◌∙◌, refl, subst, arith, lit<}
use Rattle.std.specs.Prelude.{ℤ, pos, ◌+ℤ◌, ◌≤ℤ◌, slice_index}
use Rattle.std.specs.List.{All}
use Rattle.std.proofs.lemmas.Int.{ints}
use Rattle.std.proofs.lemmas.List.FromFn.{get_or-map-range_with_len, length-map-range_with_len}
use Rattle.std.proofs.lemmas.Nat.{mod_below}
use Rattle.vol_base.specs.Boxes.{at, voxels}
use Rattle.vol_base.proofs.Axes.{by_axis}
use Rattle.vol_spec.specs.Grid.{Inside}
use Rattle.vol_spec.specs.declared.scale.Scale.{Scale}
use Rattle.chunk_grid.specs.Axes.{LiesOn}
use Rattle.chunk_grid.proofs.GridSteps.{Inside-from}
use Rattle.write_plan.specs.Stream.{writes_of}
use Rattle.vectors_vol.specs.Draws.{draw, state_behind}
use Rattle.vectors_vol.specs.Generated.{begin_on, box_at, box_from, generated, nth_write, size_on, writes_from}
use Rattle.vectors_vol.specs.WriteStreams.{stream_of, unless_large}
use Rattle.vectors_vol.proofs.ReadSteps.{IsSpelled, read_spelled}
use Rattle.vectors_vol.proofs.ValueSteps.{length_values}

draw-below : (x n m : ℕ) → 0 < m → draw x n m < m
draw-below x n m some = mod_below (state_behind x (n + 1) / 2 ^ 8) m some

-- a box that lies in a scale on an axis, in numbers
record Lies (o : ℤ) (whole begin size : ℕ) : Type 0 where
  some : 0 < size
  begins : o ≤ℤ (o +ℤ pos begin)
  ends : ((o +ℤ pos begin) +ℤ pos size) ≤ℤ (o +ℤ pos whole)

lies_in : (o : ℤ) (whole begin rest : ℕ) → begin < whole → rest < min 64 (whole - begin) → Lies o whole begin (1 + rest)
lies_in o whole begin rest hb hr =
    let within : begin + (1 + rest) ≤ whole = omega arith in
    record { some = omega arith; begins = omega (arith, ints); ends = omega (arith, ints) }

drawn_on : (s : Scale) (x axis : ℕ) → axis < 3 → Lies (at s.offset axis) (slice_index s.size axis) (begin_on s x axis) (size_on s x axis)
drawn_on s x axis h =
    let some : 0 < slice_index s.size axis = omega (arith, s.size_ok axis h) in
    let begin : begin_on s x axis < slice_index s.size axis = draw-below x (2 * axis) (slice_index s.size axis) some in
    let most : ℕ = min 64 (slice_index s.size axis - begin_on s x axis) in
    lies_in (at s.offset axis) (slice_index s.size axis) (begin_on s x axis) (draw x (2 * axis + 1) most) begin
    (draw-below x (2 * axis + 1) most (omega arith))

box_lies : (s : Scale) (x : ℕ) → (axis : ℕ) → axis < 3 → LiesOn s (box_from s x) axis
box_lies s x =
    let a = drawn_on s x 0 (lit< tt) in
    let b = drawn_on s x 1 (lit< tt) in
    let c = drawn_on s x 2 (lit< tt) in
    by_axis (LiesOn s (box_from s x)) (record { some = a.some; begins = a.begins; ends = a.ends })
    (record { some = b.some; begins = b.begins; ends = b.ends }) (record { some = c.some; begins = c.begins; ends = c.ends })

box_inside : (s : Scale) (x : ℕ) → Inside s (box_from s x)
box_inside s x = Inside-from s (box_from s x) (box_lies s x)

pub spelled_at : (s : Scale) (number i : ℕ) → IsSpelled s (nth_write s number i)
spelled_at s number i =
    let count : ℕ = voxels (box_at s number i) * s.channels in
    record {
      axes = refl;
      of_scale = record {
        inside = box_inside s (state_behind number (6 * i));
        bytes = length_values s.width (number + 31 * i) 0 count ∙ turned s.width count;
      };
    }
  where
    turned : (w count : ℕ) → w * count ≡ count * w
    turned w count = omega arith

pub generated_spelled : (s : Scale) (number a count : ℕ) → All (IsSpelled s) (writes_from s number a count)
generated_spelled s number a count k d h =
    let within : k < count = omega (arith, length-map-range_with_len (nth_write s number) a count) in
    subst (IsSpelled s) (sym (get_or-map-range_with_len (nth_write s number) a count k (a + k) d within refl)) (spelled_at s number (a + k))

-- The stream of a generated list is read as the list, or refused at the first write with which the values have more than 2^30 bytes.
pub read_generated : (s : Scale) (number writes : ℕ) → writes ≤ 65536 → writes_of (stream_of (generated s number writes)) s ≡ unless_large (generated s number writes)
read_generated s number writes few =
    let len : length (generated s number writes) ≡ writes = length-map-range_with_len (nth_write s number) 0 writes in
    read_spelled s (generated s number writes) (generated_spelled s number 0 writes) (omega (arith, len))

-- the same of bytes that are the stream
pub read_stream : (s : Scale) (number writes : ℕ) (bytes : List ℕ) → writes ≤ 65536 → bytes ≡ stream_of (generated s number writes)
    → writes_of bytes s ≡ unless_large (generated s number writes)
read_stream s number writes bytes few h = ap (λ xs. writes_of xs s) h ∙ read_generated s number writes few
