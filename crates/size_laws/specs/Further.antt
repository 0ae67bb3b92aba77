-- What a scale of one or several chunk sizes is stored as, and when that can be done.
use Rattle.std.specs.Prelude.{◌≡◌, ◌≤◌, ◌^◌, false, List, ◌∷◌, length, map, All}
use Rattle.std.specs.List.{range_with_len}
use Rattle.vol_base.specs.Bytes.{AreBytes}
use Rattle.vol_base.specs.Outside.{Objects, any_under}
use Rattle.vol_spec.specs.CellNames.{folder_of}
use Rattle.vol_spec.specs.StoredCells.{met_cells}
use Rattle.vol_spec.specs.Types.{Name, Writes}
use Rattle.vol_spec.specs.Views.{view}
use Rattle.vol_spec.specs.Writable.{IsWritable}
use Rattle.vol_spec.specs.declared.scale.Scale.{Scale}
use Rattle.size_laws.specs.Sizes.{written_all}

-- the further views, in the order of their sizes; a sharded scale has none
abbrev pub further : Scale → List Scale
further s = map (view s) (range_with_len 1 (length s.more))

-- all views; the scale itself, which is read by its first size, stands for the first
abbrev pub all_views : Scale → List Scale
all_views s = s ∷ further s

-- writes that meet at most 2^22 cells in each view, of bytes; each view keeps the writing limit; and no object in the folder
pub record CanStore (m : Objects) (dataset : Name) (s : Scale) (writes : Writes) : Type 0 where
  pub few : All (λ v. length (met_cells v writes) ≤ 2 ^ 22) (all_views s)
  pub writable : All IsWritable (all_views s)
  pub bytes : All (λ write. AreBytes write.1) writes
  pub empty : any_under m (folder_of dataset s) ≡ false

-- objects with the writes stored in them, once for each view
abbrev pub written_views : Objects → Name → Scale → Writes → Objects
written_views m dataset s writes = written_all m dataset (all_views s) writes
