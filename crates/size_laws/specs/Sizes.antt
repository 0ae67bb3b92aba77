-- Scales that differ in their chunk sizes alone: the views of one scale, stored side by side in its folder (precomputed volume format,
-- chunk sizes). The first of them is read; the others are copies in other cells.
use Rattle.std.specs.Prelude.{◌≡◌, ◌≤◌, ◌<◌, ◌^◌, ℕ, false, List, length, flat_map, All, None}
use Rattle.vol_base.specs.Boxes.{Covers}
use Rattle.vol_base.specs.Bytes.{AreBytes}
use Rattle.vol_base.specs.Outside.{Objects, any_under}
use Rattle.vol_base.specs.declared.boxes.Box3.{Box3}
use Rattle.vol_spec.specs.CellNames.{folder_of}
use Rattle.vol_spec.specs.Chunks.{fault_in, value_in}
use Rattle.vol_spec.specs.Grid.{cells_in}
use Rattle.vol_spec.specs.LastWrite.{zeros}
use Rattle.vol_spec.specs.StoredCells.{chunks_of, met_cells, put_in}
use Rattle.vol_spec.specs.StoredLists.{stored_list}
use Rattle.vol_spec.specs.Types.{Listed, Name, Position, Writes}
use Rattle.vol_spec.specs.Verdicts.{Sound}
use Rattle.vol_spec.specs.Writable.{IsWritable}
use Rattle.vol_spec.specs.declared.scale.Scale.{Scale}

-- an unsharded scale of the same volume and folder, with any chunk size
pub record IsView (s v : Scale) : Type 0 where
  pub keys : v.key ≡ s.key
  pub widths : v.width ≡ s.width
  pub channel_counts : v.channels ≡ s.channels
  pub sizes : v.size ≡ s.size
  pub offsets : v.offset ≡ s.offset
  pub encodings : v.encoding ≡ s.encoding
  pub unsharded : v.sharding ≡ None

-- the objects of writes in every view, one view after the other
abbrev pub stored_all : Name → List Scale → Writes → Listed
stored_all dataset views writes = flat_map (λ v. stored_list dataset v (chunks_of v zeros writes)) views

-- objects with these put in
abbrev pub written_all : Objects → Name → List Scale → Writes → Objects
written_all m dataset views writes = put_in m (stored_all dataset views writes)

-- Views of a scale, writes that meet at most 2^22 cells in each, of bytes; of a segmentation no more padded voxels than are written; and no
-- object in the scale's folder
pub record CanWriteViews (m : Objects) (dataset : Name) (s : Scale) (views : List Scale) (writes : Writes) : Type 0 where
  pub alike : All (IsView s) views
  pub few : All (λ v. length (met_cells v writes) ≤ 2 ^ 22) views
  pub writable : All IsWritable views
  pub bytes : All (λ write. AreBytes write.1) writes
  pub empty : any_under m (folder_of dataset s) ≡ false

-- a view says what another says: no cell that meets a box has a fault, and each value of the box is the other's
pub record Agrees (objects : Objects) (dataset : Name) (first v : Scale) (b : Box3) : Type 0 where
  pub faultless : All (λ cell. fault_in objects dataset v cell ≡ None) (cells_in v b)
  pub values : (p : Position) (c : ℕ) → Covers b p → c < first.channels →
      value_in objects dataset v p c ≡ value_in objects dataset first p c

-- nothing is wrong with the first view, and the further ones agree with it
pub record AllSound (objects : Objects) (dataset : Name) (first : Scale) (further : List Scale) (b : Box3) : Type 0 where
  pub first_sound : Sound objects dataset first b
  pub others : All (λ v. Agrees objects dataset first v b) further
