-- The list of writes that a number stands for (this project's generator).
use Rattle.std.specs.Prelude.{ℕ, ◌+◌, ◌-◌, ◌*◌, ◌%◌, min, pos, ◌+ℤ◌, map, flat_map, slice_index}
use Rattle.std.specs.List.{range_with_len}
use Rattle.byteorder.specs.Endian.{little_bytes}
use Rattle.vol_base.specs.declared.boxes.Box3.{Box3}
use Rattle.vol_base.specs.Boxes.{at, on_axes, voxels}
use Rattle.vol_spec.specs.Types.{Bytes, Writes}
use Rattle.vol_spec.specs.declared.scale.Scale.{Scale}
use Rattle.vectors_vol.specs.Draws.{draw, state_behind}

-- on each axis, x first, a draw is how far the box begins from the scale's begin,
abbrev pub begin_on : Scale → ℕ → ℕ → ℕ
begin_on s x axis = draw x (2 * axis) (slice_index s.size axis)

-- and the next draw its size less 1: at most 64, and to the scale's end
abbrev pub size_on : Scale → ℕ → ℕ → ℕ
size_on s x axis = 1 + draw x (2 * axis + 1) (min 64 (slice_index s.size axis - begin_on s x axis))

-- the box that is drawn from a state
abbrev pub box_from : Scale → ℕ → Box3
box_from s x = record {
  begin = on_axes (λ axis. at s.offset axis +ℤ pos (begin_on s x axis));
  size = on_axes (size_on s x);
}

-- so many values of w bytes, the first from a number and each one more than the one before, modulo 256
abbrev pub counting_bytes : ℕ → ℕ → ℕ → Bytes
counting_bytes w first count = flat_map (λ n. little_bytes w ((first + n) % 256)) (range_with_len 0 count)

-- the box of write i: six draws for each write, the first from the number itself
abbrev pub box_at : Scale → ℕ → ℕ → Box3
box_at s number i = box_from s (state_behind number (6 * i))

-- value n of write i is number + 31 i + n, modulo 256
abbrev pub values_at : Scale → ℕ → ℕ → Bytes
values_at s number i = counting_bytes s.width (number + 31 * i) (voxels (box_at s number i) * s.channels)

-- write i
abbrev pub nth_write : Scale → ℕ → ℕ → Box3 × Bytes
nth_write s number i = (box_at s number i, values_at s number i)

-- the writes with these numbers: so many, the first of them write a
abbrev pub writes_from : Scale → ℕ → ℕ → ℕ → Writes
writes_from s number a count = map (nth_write s number) (range_with_len a count)

-- the list of so many writes
abbrev pub generated : Scale → ℕ → ℕ → Writes
generated s number writes = writes_from s number 0 writes
