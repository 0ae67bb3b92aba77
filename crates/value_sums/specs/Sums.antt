-- Sums of values.
use Rattle.std.specs.Prelude.{ℕ, ◌*◌, ◌%◌, ◌^◌, map, sum}
use Rattle.std.specs.List.{range_with_len}
use Rattle.vol_base.specs.Boxes.{voxels}
use Rattle.vol_spec.specs.BoxValues.{channel_of, position_of}
use Rattle.vol_spec.specs.Grid.{whole}
use Rattle.vol_spec.specs.LastWrite.{last, zeros}
use Rattle.vol_spec.specs.Raw.{digit}
use Rattle.vol_spec.specs.Types.{Bytes, Writes}
use Rattle.vol_spec.specs.declared.scale.Scale.{Scale}

-- the sum of the first values of w bytes, so many of them, modulo 2^64
abbrev pub sum_in : ℕ → ℕ → Bytes → ℕ
sum_in w count bytes = sum (map (digit bytes w) (range_with_len 0 count)) % 2 ^ 64

-- the sum of the last write at each voxel and channel of a scale, else 0, modulo 2^64
abbrev pub sum_of : Scale → Writes → ℕ
sum_of s writes =
    sum (map (λ n. last s.width zeros writes (position_of (whole s) n) (channel_of (whole s) n))
    (range_with_len 0 (voxels (whole s) * s.channels))) % 2 ^ 64
