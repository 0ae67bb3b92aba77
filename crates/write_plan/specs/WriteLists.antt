-- Writes of boxes (this project's).
use Rattle.std.specs.Prelude.{◌≡◌, ℕ, ◌<◌, ◌≤◌, ◌^◌, List, [], length, map, slice_index_or, sum}
use Rattle.std.specs.List.{All}
use Rattle.vol_base.specs.Bytes.{AreBytes}
use Rattle.vol_base.specs.declared.boxes.Box3.{Box3}
use Rattle.vol_base.specs.Boxes.{IsSome}
use Rattle.vol_spec.specs.Grid.{Inside}
use Rattle.vol_spec.specs.Raw.{raw_len}
use Rattle.vol_spec.specs.declared.scale.Scale.{Scale}
use Rattle.write_plan.specs.declared.writes.Write.{Write}

-- a box and the bytes of its values
abbrev pub BoxWrite : Type 0
BoxWrite = Box3 × List ℕ

abbrev pub write_in : Write → BoxWrite
write_in w = (w.part, w.bytes.items)

abbrev pub writes_in : List Write → List BoxWrite
writes_in ws = map write_in ws

-- a write of a list, by its number
abbrev pub write_of : List BoxWrite → ℕ → BoxWrite
write_of ws n = slice_index_or ws n (record { begin = []; size = [] }, [])

-- the bytes of all values
abbrev pub total : List BoxWrite → ℕ
total ws = sum (map (λ w. length w.1) ws)

-- no axis of the box is empty, and the bytes are bytes, those of its values, for some channels and some width
pub record IsWrite (w : BoxWrite) : Type 0 where
  pub some : IsSome w.0
  pub bytes : AreBytes w.1
  pub fits : (channels width : ℕ) × (0 < channels) × (0 < width) × (length w.1 ≡ raw_len w.0 channels width)

-- at most 65,536 writes, with at most 2^30 bytes of values (this project's limits)
pub record AreWrites (ws : List BoxWrite) : Type 0 where
  pub count : length ws ≤ 65536
  pub small : total ws ≤ 2 ^ 30
  pub each : All IsWrite ws

-- a write of a scale: its box lies inside, and its bytes are those of the box's values there
pub record IsWriteOf (s : Scale) (w : BoxWrite) : Type 0 where
  pub inside : Inside s w.0
  pub bytes : length w.1 ≡ raw_len w.0 s.channels s.width

-- writes of a scale, within the limits of a list of writes
pub record AreWritesOf (s : Scale) (ws : List BoxWrite) : Type 0 where
  pub each : All (IsWriteOf s) ws
  pub limits : AreWrites ws
