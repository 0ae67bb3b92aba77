-- The values of a box in order, x fastest, then y, z and the channel (this project's profile).
use Rattle.std.specs.Prelude.{ℕ, zero, suc, ◌*◌, ◌/◌, ◌%◌, pos, ◌+ℤ◌, List, [], ◌∷◌, map, Option, Some, None, Result, Ok, Err}
use Rattle.std.specs.List.{range_with_len}
use Rattle.vol_base.specs.declared.boxes.Box3.{Box3}
use Rattle.vol_base.specs.declared.faults.Fault.{Fault}
use Rattle.vol_base.specs.Boxes.{at, on_axes, size, voxels}
use Rattle.vol_spec.specs.Types.{Bytes, Position}

-- the position and the channel of the n-th value of a box
abbrev pub place_on : Box3 → ℕ → ℕ → ℕ
place_on b n zero = n % size b 0
place_on b n (suc zero) = n / size b 0 % size b 1
place_on b n (suc (suc axis)) = n / size b 0 / size b 1 % size b 2

abbrev pub position_of : Box3 → ℕ → Position
position_of b n = on_axes (λ axis. at b.begin axis +ℤ pos (place_on b n axis))

abbrev pub channel_of : Box3 → ℕ → ℕ
channel_of b n = n / size b 0 / size b 1 / size b 2

-- a number as so many bytes, the lowest first
abbrev pub bytes_of : ℕ → ℕ → Bytes
bytes_of zero n = []
bytes_of (suc w) n = (n % 256) ∷ bytes_of w (n / 256)

-- the values up to the first that is a fault
abbrev pub before_fault : List (Result ℕ Fault) → List ℕ
before_fault [] = []
before_fault (Ok v ∷ rest) = v ∷ before_fault rest
before_fault (Err fault ∷ rest) = []

-- the values of a box, in order
abbrev pub values_of : Box3 → ℕ → (Position → ℕ → Result ℕ Fault) → List (Result ℕ Fault)
values_of b channels f = map (λ n. f (position_of b n) (channel_of b n))
    (range_with_len 0 (voxels b * channels))

-- the first that there is
abbrev pub first_some : {A : Type 0} → List (Option A) → Option A
first_some [] = None
first_some (None ∷ rest) = first_some rest
first_some (Some a ∷ rest) = Some a
