-- What the steps of judging a view answer (this project's).
use Rattle.std.specs.Prelude.{◌≡◌, ℕ, ◌+◌, ◌*◌, ◌<◌, All, Bool, not, map, filter, length, slice_index_or, List, Option, Some, None, Result, Ok, Err, ⊤}
use Rattle.std.specs.FinMap as fin
use Rattle.std.specs.List.{sum_by}
use Rattle.std.specs.Option.{is_some}
use Rattle.vol_base.specs.Boxes.{IsSome, Within, voxels}
use Rattle.vol_base.specs.Outside.{Objects}
use Rattle.vol_base.specs.declared.boxes.Box3.{Box3}
use Rattle.vol_base.specs.declared.faults.Fault.{Fault}
use Rattle.vol_spec.specs.BoxValues.{channel_of, first_some, position_of}
use Rattle.vol_spec.specs.CellNames.{cell_name}
use Rattle.vol_spec.specs.Chunks.{chunk_in}
use Rattle.vol_spec.specs.Cut.{first_fault}
use Rattle.vol_spec.specs.Grid.{cell_box, cells_in}
use Rattle.vol_spec.specs.Raw.{digit}
use Rattle.vol_spec.specs.Types.{Bytes, Cell, Name, Position}
use Rattle.vol_spec.specs.Verdicts.{Sound}
use Rattle.vol_spec.specs.declared.scale.Scale.{Scale}
use Rattle.cutout.specs.Reading.{HasCut}
use Rattle.cutout.specs.declared.fault.CutFault.{CutFault}
use Rattle.cutout.specs.declared.fault.CutFault.TheVariants as cutting
use Rattle.size_laws.specs.Findings.{Damaged as DamagedIn, Differs as DiffersIn, common, difference_in, finding_in, view_finding}
use Rattle.size_laws.specs.Further.{further}
use Rattle.compare_values.specs.Differences.{IsFirst}
use Rattle.view_judge.specs.Further.{IsBeside}
use Rattle.view_judge.specs.Judging.{FindsViews, is_absent, is_stored}
use Rattle.view_judge.specs.Regions.{regions}
use Rattle.view_judge.specs.declared.fault.ViewFault.{ViewFault}
use Rattle.view_judge.specs.declared.fault.ViewFault.TheVariants.{StoreFault, First, Damaged, Differs}
use Rattle.view_judge.specs.declared.report.ViewsReport.{ViewsReport}

-- why a box of a view wasn't read, and why one of the first view wasn't
abbrev pub of_view : ℕ → CutFault → ViewFault
of_view view (cutting.Damaged cell fault) = Damaged view cell fault
of_view view cutting.StoreFault = StoreFault
of_view view cutting.OutsideScale = StoreFault

abbrev pub of_first : CutFault → ViewFault
of_first (cutting.Damaged cell fault) = First cell fault
of_first cutting.StoreFault = StoreFault
of_first cutting.OutsideScale = StoreFault

-- the first of the values of a box that differs, as it is told
pub record IsDifference (b : Box3) (channels w : ℕ) (found wanted : Bytes) (place : Position)
    (channel u v n : ℕ) : Type 0 where
  pub within : n < voxels b * channels
  pub first : IsFirst w found wanted n
  pub place_is : place ≡ position_of b n
  pub channel_is : channel ≡ channel_of b n
  pub found_is : u ≡ digit found w n
  pub wanted_is : v ≡ digit wanted w n

-- what comparing the values of a box in a view with those of the first view answers
abbrev pub Compares : Result ⊤ ViewFault → ℕ → Box3 → ℕ → ℕ → Bytes → Bytes → Type 0
Compares (Ok same) view b channels w found wanted = found ≡ wanted
Compares (Err (Differs k place c u v)) view b channels w found wanted =
    (k ≡ view) × (n : ℕ) × IsDifference b channels w found wanted place c u v n
Compares (Err (Damaged k cell fault)) view b channels w found wanted = ⊥
Compares (Err (First cell fault)) view b channels w found wanted = ⊥
Compares (Err StoreFault) view b channels w found wanted = ⊥

-- what judging a box of a view beside the first view answers
abbrev pub JudgesBox : Result ⊤ ViewFault → Objects → Name → Scale → ℕ → Scale → Box3 → Type 0
JudgesBox (Ok done) m dataset s view v b = (first_fault m dataset v b ≡ None) ×
    (difference_in m dataset s view v b ≡ None)
JudgesBox (Err (Damaged k cell fault)) m dataset s view v b = (k ≡ view) ×
    (first_fault m dataset v b ≡ Some (cell, fault))
JudgesBox (Err (Differs k place c found wanted)) m dataset s view v b = (first_fault m dataset v b ≡ None) ×
    (difference_in m dataset s view v b ≡ Some (DiffersIn k place c found wanted))
JudgesBox (Err (First cell fault)) m dataset s view v b = first_fault m dataset s b ≡ Some (cell, fault)
JudgesBox (Err StoreFault) m dataset s view v b = Unit {0}

-- a chunk without a fault is stored or absent
pub record HasStored (stored : Bool) (seen : Result (Option Bytes) Fault) : Type 0 where
  pub stored_is : is_stored seen ≡ stored
  pub absent_is : is_absent seen ≡ not stored

-- what judging a cell of a view answers: that nothing is wrong with it, and whether its chunk is stored; or what is wrong first. A fault of
-- the first view is told only where the part isn't sound
abbrev pub JudgesCell : Result Bool ViewFault → Objects → Name → Scale → ℕ → Scale → Box3 → Cell → Type 0
JudgesCell (Ok stored) m dataset s view v part cell = (finding_in m dataset s view v part cell ≡ None) ×
    HasStored stored (chunk_in m dataset v cell)
JudgesCell (Err (Damaged k at fault)) m dataset s view v part cell =
    finding_in m dataset s view v part cell ≡ Some (DamagedIn k at fault)
JudgesCell (Err (Differs k place c found wanted)) m dataset s view v part cell =
    finding_in m dataset s view v part cell ≡ Some (DiffersIn k place c found wanted)
JudgesCell (Err (First at fault)) m dataset s view v part cell = Sound m dataset s part → ⊥
JudgesCell (Err StoreFault) m dataset s view v part cell = Unit {0}

-- what comparing a box of a view with some values answers: where these are those of another scale beside it, what judging the box beside that does
abbrev pub ComparesBox : Result ⊤ ViewFault → Objects → Name → ℕ → Scale → Box3 → Bytes → Type 0
ComparesBox result m dataset view v b wanted = (s : Scale) → IsBeside s v → HasCut (Ok tt) m dataset s b wanted →
    JudgesBox result m dataset s view v b

-- what judging a box of all further views answers: each says what the first one does, or something is wrong with one
abbrev pub JudgesBoxes : Result ⊤ ViewFault → Objects → Name → Scale → Box3 → Type 0
JudgesBoxes (Ok done) m dataset s b = (k : ℕ) → k < length (further s) →
    JudgesBox (Ok tt) m dataset s (k + 1) (slice_index_or (further s) k s) b
JudgesBoxes (Err fault) m dataset s b = (k : ℕ) × (k < length (further s)) ×
    JudgesBox (Err fault) m dataset s (k + 1) (slice_index_or (further s) k s) b

-- a view says what the first one does at the positions of some cells of a grid in a part: no chunk of it has a fault, and no value differs
abbrev pub Agree : Objects → Name → Scale → ℕ → Scale → Scale → Box3 → List Cell → Type 0
Agree m dataset s view v grid part cells =
    All (λ cell. JudgesBox (Ok tt) m dataset s view v (common (cell_box grid cell) part)) cells

-- and all further views so in some regions
abbrev pub AllAgree : Objects → Name → Scale → Box3 → List Cell → Type 0
AllAgree m dataset s part cells =
    All (λ region. JudgesBoxes (Ok tt) m dataset s (common (cell_box (regions s) region) part)) cells

-- something is wrong with a box in a part
pub record IsWrong (m : Objects) (dataset : Name) (s : Scale) (part : Box3) (fault : ViewFault) : Type 0 where
  pub region : Box3
  pub some : IsSome region
  pub within : Within region part
  pub judged : JudgesBoxes (Err fault) m dataset s region

-- what judging the regions answers: all views agree with the first one, or one doesn't
abbrev pub JudgesRegions : Result ⊤ ViewFault → Objects → Name → Scale → Box3 → Type 0
JudgesRegions (Ok done) m dataset s part = AllAgree m dataset s part (cells_in (regions s) part)
JudgesRegions (Err fault) m dataset s part = IsWrong m dataset s part fault

-- the same of the regions of one view
abbrev pub JudgesOwn : Result ⊤ ViewFault → Objects → Name → Scale → ℕ → Scale → Scale → Box3 → Type 0
JudgesOwn (Ok done) m dataset s view v grid part = Agree m dataset s view v grid part (cells_in grid part)
JudgesOwn (Err fault) m dataset s view v grid part = (b : Box3) × IsSome b × Within b part ×
    JudgesBox (Err fault) m dataset s view v b

-- a view agrees with the first one by some regions
pub record AgreesSo (m : Objects) (dataset : Name) (s : Scale) (view : ℕ) (v : Scale) (part : Box3) : Type 0 where
  pub grid : Scale
  pub beside : IsBeside v grid
  pub agree : Agree m dataset s view v grid part (cells_in grid part)

-- what comparing all views answers: each agrees with the first one, or one doesn't
abbrev pub ComparesAll : Result ⊤ ViewFault → Objects → Name → Scale → Box3 → Type 0
ComparesAll (Ok done) m dataset s part = (k : ℕ) → k < length (further s) →
    AgreesSo m dataset s (k + 1) (slice_index_or (further s) k s) part
ComparesAll (Err fault) m dataset s part = IsWrong m dataset s part fault

-- what judging all views answers: they agree, or what is wrong first, where the first view is sound
abbrev pub JudgesAll : Result ⊤ ViewFault → Objects → Name → Scale → Box3 → Type 0
JudgesAll (Ok done) m dataset s part = ComparesAll (Ok done) m dataset s part
JudgesAll (Err fault) m dataset s part = Sound m dataset s part → FindsViews (Err fault) m dataset s part

-- whether there is an object of a cell's own
abbrev pub is_named : Objects → Name → Scale → Cell → Bool
is_named m dataset v cell = is_some (fin.get m (cell_name dataset v cell))

-- of how many of some cells of a view there is one, and of how many there is none
pub record AreNamed (m : Objects) (dataset : Name) (v : Scale) (cells : List Cell)
    (report : ViewsReport) : Type 0 where
  pub stored : report.stored ≡ length (filter (is_named m dataset v) cells)
  pub absent : report.absent ≡ length (filter (λ cell. not (is_named m dataset v cell)) cells)

-- the same of the cells of some views in a part
abbrev pub named_in : Objects → Name → Box3 → Scale → ℕ
named_in m dataset part v = length (filter (is_named m dataset v) (cells_in v part))

abbrev pub unnamed_in : Objects → Name → Box3 → Scale → ℕ
unnamed_in m dataset part v = length (filter (λ cell. not (is_named m dataset v cell)) (cells_in v part))

pub record AreAllNamed (m : Objects) (dataset : Name) (part : Box3) (views : List Scale)
    (report : ViewsReport) : Type 0 where
  pub stored : report.stored ≡ sum_by (named_in m dataset part) views
  pub absent : report.absent ≡ sum_by (unnamed_in m dataset part) views

-- some cells of a view with which nothing is wrong, and of how many the chunk is stored, and absent
pub record AreCells (m : Objects) (dataset : Name) (s : Scale) (view : ℕ) (v : Scale) (part : Box3)
    (cells : List Cell) (report : ViewsReport) : Type 0 where
  pub agree : first_some (map (finding_in m dataset s view v part) cells) ≡ None
  pub stored : report.stored ≡ length (filter (λ cell. is_stored (chunk_in m dataset v cell)) cells)
  pub absent : report.absent ≡ length (filter (λ cell. is_absent (chunk_in m dataset v cell)) cells)

-- what judging a view answers: its numbers, or what is wrong with it first
abbrev pub JudgesView : Result ViewsReport ViewFault → Objects → Name → Scale → ℕ → Scale → Box3 → List Cell →
    Type 0
JudgesView (Ok report) m dataset s view v part cells = AreCells m dataset s view v part cells report
JudgesView (Err (Damaged k at fault)) m dataset s view v part cells =
    view_finding m dataset s view v part ≡ Some (DamagedIn k at fault)
JudgesView (Err (Differs k place c found wanted)) m dataset s view v part cells =
    view_finding m dataset s view v part ≡ Some (DiffersIn k place c found wanted)
JudgesView (Err (First at fault)) m dataset s view v part cells = Sound m dataset s part → ⊥
JudgesView (Err StoreFault) m dataset s view v part cells = Unit {0}
