-- Values put into raw bytes (this project's).
use Rattle.std.specs.Prelude.{◌≡◌, ◌≢◌, ℕ, ◌+◌, ◌*◌, ◌<◌, ◌≤◌, ◌^◌, List, length}
use Rattle.segment_blocks.specs.declared.block.Block.{Block}
use Rattle.segment_blocks.specs.Row.{index_in, Has}
use Rattle.vol_base.specs.Boxes.{value}
use Rattle.vol_spec.specs.Raw.{digit}

-- each place of a set has the value that it is to have, and every other value is as before
pub record Filled {A : Type 0} (P : A → Type 0) (spot : A → ℕ) (want : A →
    List ℕ) (w : ℕ) (old new : List ℕ) : Type 0 where
  pub placed : (a : A) → P a → value w new (spot a) ≡ want a
  pub kept : (m : ℕ) → ((a : A) → P a → m ≢ spot a) → value w new m ≡ value w old m

-- a voxel of a block, counted from the block's first
pub record Voxel : Type 0 where
  pub x : ℕ
  pub y : ℕ
  pub z : ℕ

-- the number of its value in the raw bytes
abbrev pub spot : Block → Voxel → ℕ
spot b v = (b.x + v.x) + b.size_x * ((b.y + v.y) + b.size_y * (b.z + v.z))

-- its number in the block
abbrev pub number_of : Block → Voxel → ℕ
number_of b v = v.x + b.block_x * (v.y + b.block_y * v.z)

-- the value that the block's indices and table give it
abbrev pub want : Block → List ℕ → List ℕ → ℕ → ℕ → Voxel → List ℕ
want b values table w bits v = value w table (index_in values bits (number_of b v))

abbrev pub HasFor : Block → List ℕ → List ℕ → ℕ → ℕ → Voxel → Type 0
HasFor b values table w bits v = Has w table (index_in values bits (number_of b v))

-- voxels of the chunk: of one row, of the first rows of a plane, of the first planes
abbrev pub InRow : Block → ℕ → ℕ → Voxel → Type 0
InRow b y z v = (v.x < b.count_x) × (v.y ≡ y) × (v.z ≡ z)

abbrev pub InRows : Block → ℕ → ℕ → Voxel → Type 0
InRows b y z v = (v.x < b.count_x) × (v.y < y) × (v.z ≡ z)

abbrev pub InPlanes : Block → ℕ → Voxel → Type 0
InPlanes b z v = (v.x < b.count_x) × (v.y < b.count_y) × (v.z < z)

-- so many values from a place on are this one
abbrev pub AreAll : List ℕ → ℕ → ℕ → ℕ → ℕ → Type 0
AreAll raw w from count value = (n : ℕ) → from ≤ n → n < from + count → digit raw w n ≡ value

-- each voxel of a set has this value in the raw bytes
abbrev pub HaveOne : (Voxel → Type 0) → Block → List ℕ → ℕ → ℕ → Type 0
HaveOne P b raw w value = (v : Voxel) → P v → digit raw w (spot b v) ≡ value

-- a block that lies in so many raw values
pub record Lies (b : Block) (values : ℕ) : Type 0 where
  pub x : b.x + b.count_x ≤ b.size_x
  pub y : b.y + b.count_y ≤ b.size_y
  pub z : (b.z + b.count_z) * (b.size_y * b.size_x) ≤ values
  pub row : b.count_x ≤ b.block_x
  pub plane : b.count_y ≤ b.block_y
  pub all : b.count_z * (b.block_y * b.block_x) ≤ b.indices
  pub some_x : 0 < b.size_x
  pub some_y : 0 < b.size_y
  pub some_block : 0 < b.block_x
  pub limit : b.indices < 2 ^ 32
  pub limit_values : values < 2 ^ 60

-- voxels of a set are filled, all with an entry of the table
pub record Done (P : Voxel → Type 0) (b : Block) (values table : List ℕ) (w bits : ℕ)
    (old new : List ℕ) : Type 0 where
  pub filled : Filled P (spot b) (want b values table w bits) w old new
  pub has : (v : Voxel) → P v → HasFor b values table w bits v

-- n is the number of the first voxel of a set that has none
pub record IsOut (P : Voxel → Type 0) (b : Block) (values table : List ℕ) (w bits n : ℕ) : Type 0 where
  pub at : (v : Voxel) × P v × (n ≡ number_of b v)
  pub out : length table < w * index_in values bits n + w
  pub before : (v : Voxel) → P v → number_of b v < n → HasFor b values table w bits v
