-- What judging the further views of a scale says, and what it asks for (this project's profile).
use Rattle.std.specs.Prelude.{◌≡◌, ℕ, ◌+◌, Bool, true, false, length, filter, List, [], ◌∷◌, Option, Some, None, Result, Ok, Err, if◌then◌else◌}
use Rattle.std.specs.List.{sum_by}
use Rattle.vol_base.specs.Outside.{Objects}
use Rattle.vol_base.specs.declared.boxes.Box3.{Box3}
use Rattle.vol_base.specs.declared.faults.Fault.{Fault}
use Rattle.vol_spec.specs.Chunks.{chunk_in}
use Rattle.vol_spec.specs.Costs.{cost}
use Rattle.vol_spec.specs.Grid.{cell_box, cells_in}
use Rattle.vol_spec.specs.Types.{Bytes, Cell, Name}
use Rattle.vol_spec.specs.declared.scale.Scale.{Scale}
use Rattle.size_laws.specs.Findings.{Damaged as DamagedIn, Differs as DiffersIn, common, first_finding}
use Rattle.size_laws.specs.Further.{further}
use Rattle.view_judge.specs.Regions.{is_joint, own_regions, regions}
use Rattle.view_judge.specs.declared.fault.ViewFault.{ViewFault}
use Rattle.view_judge.specs.declared.fault.ViewFault.TheVariants.{StoreFault, First, Damaged, Differs}
use Rattle.view_judge.specs.declared.report.ViewsReport.{ViewsReport}

-- whether a chunk is stored, or absent
abbrev pub is_stored : Result (Option Bytes) Fault → Bool
is_stored (Ok (Some bytes)) = true
is_stored (Ok None) = false
is_stored (Err fault) = false

abbrev pub is_absent : Result (Option Bytes) Fault → Bool
is_absent (Ok (Some bytes)) = false
is_absent (Ok None) = true
is_absent (Err fault) = false

-- how many chunks are stored, and absent, of the cells that meet a box
abbrev pub stored_in : Objects → Name → Scale → Box3 → ℕ
stored_in m dataset s b = length (filter (λ cell. is_stored (chunk_in m dataset s cell)) (cells_in s b))

abbrev pub absent_in : Objects → Name → Scale → Box3 → ℕ
absent_in m dataset s b = length (filter (λ cell. is_absent (chunk_in m dataset s cell)) (cells_in s b))

-- how many cells of some views meet a box, and of how many the chunk is stored, and absent
abbrev pub cells_of : List Scale → Box3 → ℕ
cells_of views part = sum_by (λ v. length (cells_in v part)) views

abbrev pub stored_of : Objects → Name → List Scale → Box3 → ℕ
stored_of m dataset views part = sum_by (λ v. stored_in m dataset v part) views

abbrev pub absent_of : Objects → Name → List Scale → Box3 → ℕ
absent_of m dataset views part = sum_by (λ v. absent_in m dataset v part) views

-- how many bytes are asked for at most: what reading a box costs, by a view and by the scale itself;
abbrev pub pair_cost : Objects → Name → Scale → Scale → Box3 → ℕ
pair_cost m dataset s v b = cost m dataset v b + cost m dataset s b

-- what the positions of each cell of a view in a part cost so;
abbrev pub cells_cost : Objects → Name → Scale → Box3 → Scale → ℕ
cells_cost m dataset s part v = sum_by (λ cell. pair_cost m dataset s v (common (cell_box v cell) part)) (cells_in v part)

-- what reading a box costs by each of some views, and once by the scale itself; nothing where there is no view;
abbrev pub joint_cost : Objects → Name → Scale → List Scale → Box3 → ℕ
joint_cost m dataset s [] b = 0
joint_cost m dataset s (v ∷ others) b = cost m dataset s b + sum_by (λ w. cost m dataset w b) (v ∷ others)

-- what the positions of each region in a part cost so, by all further views;
abbrev pub region_cost : Objects → Name → Scale → Box3 → Cell → ℕ
region_cost m dataset s part region = joint_cost m dataset s (further s) (common (cell_box (regions s) region) part)

abbrev pub regions_cost : Objects → Name → Scale → Box3 → ℕ
regions_cost m dataset s part = sum_by (region_cost m dataset s part) (cells_in (regions s) part)

-- or where each view has its own regions, by that view;
abbrev pub own_cost : Objects → Name → Scale → Box3 → Scale → ℕ
own_cost m dataset s part v = sum_by (λ region. pair_cost m dataset s v (common (cell_box (own_regions s v) region) part)) (cells_in (own_regions s v) part)

abbrev pub compare_cost : Objects → Name → Scale → Box3 → ℕ
compare_cost m dataset s part = if is_joint s then regions_cost m dataset s part else sum_by (own_cost m dataset s part) (further s)

-- what the regions cost, and where they don't all agree what the cells of each further view cost besides
abbrev pub views_cost : Objects → Name → Scale → Box3 → ℕ
views_cost m dataset s part = compare_cost m dataset s part + sum_by (cells_cost m dataset s part) (further s)

-- a report of views with which nothing is wrong
pub record IsViewsReport (m : Objects) (dataset : Name) (s : Scale) (part : Box3) (report : ViewsReport) : Type 0 where
  pub agree : first_finding m dataset s (further s) part ≡ None
  pub stored : report.stored ≡ stored_of m dataset (further s) part
  pub absent : report.absent ≡ absent_of m dataset (further s) part

-- what judging the further views of a scale answers, where nothing is wrong with the scale itself: their numbers, or the first that is wrong
abbrev pub FindsViews : Result ViewsReport ViewFault → Objects → Name → Scale → Box3 → Type 0
FindsViews (Ok report) m dataset s part = IsViewsReport m dataset s part report
FindsViews (Err (Damaged view cell fault)) m dataset s part =
    first_finding m dataset s (further s) part ≡ Some (DamagedIn view cell fault)
FindsViews (Err (Differs view at channel found wanted)) m dataset s part =
    first_finding m dataset s (further s) part ≡ Some (DiffersIn view at channel found wanted)
FindsViews (Err (First cell fault)) m dataset s part = ⊥
FindsViews (Err StoreFault) m dataset s part = Unit {0}
