-- What the laws of reductions say (this project's).
use Rattle.std.specs.Prelude.{◌≡◌, ◌↔◌, ◌<◌, ◌≤◌, ◌^◌, ℕ, true, false, length, map, All, Contains, None}
use Rattle.vol_base.specs.Boxes.{Covers, num}
use Rattle.vol_base.specs.Bytes.{AreBytes}
use Rattle.vol_base.specs.Outside.{HaveBytes, Objects, any_under}
use Rattle.vol_base.specs.declared.boxes.Box3.{Box3}
use Rattle.vol_spec.specs.CellNames.{folder_of}
use Rattle.vol_spec.specs.Chunks.{chunk_in}
use Rattle.vol_spec.specs.Copies.{is_there}
use Rattle.vol_spec.specs.Cut.{cut, first_fault}
use Rattle.vol_spec.specs.Grid.{Inside, IsCell, cell_at, cell_box, whole}
use Rattle.vol_spec.specs.Raw.{digit, raw_len}
use Rattle.vol_spec.specs.Types.{Bytes, Cell, Name, Position}
use Rattle.vol_spec.specs.Writable.{IsWritable}
use Rattle.vol_spec.specs.declared.scale.Scale.{Scale}
use Rattle.chunk_laws.specs.Told.{HasNoFault}
use Rattle.reduce_laws.specs.Halves.{under}
use Rattle.reduce_laws.specs.Reduced.{IsNext, is_reduced, reduced_cells, reduced_raw, source_box}
use Rattle.reduce_laws.specs.Reducing.{reduce}
use Rattle.reduce_laws.specs.declared.method.Method.{Method}
use Rattle.coarse_laws.specs.Coarse.{reduced_in, ReadsAsReduced}

-- A reduction can be stored: the target is the scale after the source, at most 2^22 cells are stored, a segmentation has no more padded
-- voxels than are written, no object is in the target's folder, and all objects are bytes.
pub record CanReduce (m : Objects) (dataset : Name) (from to : Scale) : Type 0 where
  pub next : IsNext from to
  pub few : length (reduced_cells m dataset from to) ≤ 2 ^ 22
  pub writable : IsWritable to
  pub empty : any_under m (folder_of dataset to) ≡ false
  pub bytes : HaveBytes m

-- no job reads a faulty cell, exactly where the source has none
abbrev pub MeetsFaults : Objects → Name → Scale → Scale → Type 0
MeetsFaults m dataset from to =
    All (λ cell. first_fault m dataset from (source_box from to cell) ≡ None) (reduced_cells m dataset from to)
    ↔ HasNoFault m dataset from

-- what is reduced of a cell's source box, cut out without a fault, are the cell's bytes
abbrev pub ReducesCut : Method → Objects → Name → Scale → Scale → Type 0
ReducesCut method m dataset from to =
    (cell : Cell) (raw out : Bytes) → IsCell to cell
    → first_fault m dataset from (source_box from to cell) ≡ None
    → raw ≡ cut m dataset from (source_box from to cell) → AreBytes out
    → length out ≡ raw_len (cell_box to cell) to.channels to.width
    → ((p : Position) (c : ℕ) → Covers (cell_box to cell) p → c < to.channels
    → digit out to.width (num (cell_box to cell) p c) ≡ reduce method (map (λ q.
    digit raw from.width (num (source_box from to cell) q c)) (under (source_box from to cell) p)))
    → out ≡ reduced_raw method m dataset from to cell

-- some position of the cell has a position of a source cell that is there under it
abbrev pub LiesOver : Objects → Name → Scale → Scale → Cell → Type 0
LiesOver m dataset from to cell = (p q : Position) × Covers (cell_box to cell) p × Contains (under (whole from) p) q
    × (is_there (chunk_in m dataset from (cell_at from q)) ≡ true)

-- so these are the cells that are reduced
abbrev pub AreOver : Objects → Name → Scale → Scale → Type 0
AreOver m dataset from to = (cell : Cell) → IsCell to cell →
    is_reduced m dataset from to cell ≡ true ↔ LiesOver m dataset from to cell

-- each box inside the target reads as the reduced source
abbrev pub ReadsReduced : Method → Objects → Name → Scale → Scale → Type 0
ReadsReduced method m dataset from to =
    (b : Box3) → Inside to b → ReadsAsReduced method m (reduced_in method m dataset from to) dataset from to b
