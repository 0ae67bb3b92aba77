-- The further views that are held to be judged (this project's).
use Rattle.std.specs.Prelude.{◌≡◌, ℕ, ◌≤◌, ◌^◌, length, map, All, List, None}
use Rattle.chunk_pool.specs.Frames.{Filled}
use Rattle.vol_base.specs.declared.boxes.Box3.{Box3}
use Rattle.vol_spec.specs.Grid.{Inside, whole}
use Rattle.vol_spec.specs.Limits.{first_bytes}
use Rattle.vol_spec.specs.Types.{Name}
use Rattle.vol_spec.specs.declared.scale.Scale.{Scale}
use Rattle.cutout.specs.Opened.{Opened}
use Rattle.size_laws.specs.Further.{further}
use Rattle.view_judge.specs.Regions.{own_regions, regions}

-- another scale of the same box, with values of the same widths and channels
pub record IsBeside (s v : Scale) : Type 0 where
  pub boxes : whole v ≡ whole s
  pub widths : v.width ≡ s.width
  pub channel_counts : v.channels ≡ s.channels

-- a view that is opened; it has no shards
pub record IsHeld (dataset : Name) (view : Scale) (reader : Opened) : Type 0 where
  pub unsharded : view.sharding ≡ None
  pub reads : reader ≡ record { dataset = dataset; scale = view }

-- a view of a data set
abbrev pub opened : Name → Scale → Opened
opened dataset view = record { dataset = dataset; scale = view }

-- all further views of a scale
abbrev pub all_opened : Name → Scale → List Opened
all_opened dataset s = map (opened dataset) (further s)

-- the further views of a first one, some and few, all opened, and a part inside it
pub record AreOpened (first : Opened) (further : List Opened) (part : Box3) : Type 0 where
  pub views : further ≡ all_opened first.dataset first.scale
  pub some : 1 ≤ length further
  pub few : length further ≤ 2 ^ 22
  pub inside : Inside first.scale part

-- a view of the same data set beside the first one, and a part inside it
pub record StandsBeside (first view : Opened) (part : Box3) : Type 0 where
  pub beside : IsBeside first.scale view.scale
  pub same_dataset : view.dataset ≡ first.dataset
  pub inside : Inside view.scale part

-- so many bytes are room for the values of the longest cell of a scale;
abbrev pub HasRoom : Scale → ℕ → Type 0
HasRoom v len = first_bytes v.width v.channels v.size v.chunk ≤ len

-- and for those of the longest cell of each further view, and of the longest region
pub record HasRooms (s : Scale) (len : ℕ) : Type 0 where
  pub region : HasRoom (regions s) len
  pub own : All (λ v. HasRoom (own_regions s v) len) (further s)
  pub cells : All (λ v. HasRoom v len) (further s)

-- a judge of the further views of a scale: all are opened, and there is room for the values of each box twice
pub record IsJudge (first : Opened) (further : List Opened) (scale : Scale) (found wanted : Filled) : Type 0 where
  pub views : further ≡ all_opened first.dataset first.scale
  pub scale_is : scale ≡ first.scale
  pub room : HasRooms first.scale (length found.bytes)
  pub beside : HasRooms first.scale (length wanted.bytes)
