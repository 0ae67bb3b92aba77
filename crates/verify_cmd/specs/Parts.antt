-- What judging the cells of a part, and then the part in all views, answers (this project's).
use Rattle.std.specs.Prelude.{◌≡◌, ◌≢◌, ℕ, ◌+◌, Bool, length, Option, Some, None, Result, Ok, Err}
use Rattle.std.specs.FinMap as fin
use Rattle.vol_base.specs.Outside.{Objects}
use Rattle.vol_base.specs.declared.boxes.Box3.{Box3}
use Rattle.vol_spec.specs.Chunks.{chunk_in}
use Rattle.vol_spec.specs.Grid.{cells_in}
use Rattle.vol_spec.specs.Places.{id_of}
use Rattle.vol_spec.specs.StoredBytes.{object_of}
use Rattle.vol_spec.specs.Types.{Cell, Name}
use Rattle.vol_spec.specs.Verdicts.{Sound, Wrong, index_wrong, judge}
use Rattle.vol_spec.specs.Verdicts.Wrong.{Damaged as DamagedBy, Misplaced as MisplacedAt}
use Rattle.vol_spec.specs.declared.scale.Scale.{Scale}
use Rattle.size_laws.specs.Findings.{first_finding}
use Rattle.size_laws.specs.Findings.Finding.{Damaged as DamagedIn, Differs as DiffersIn}
use Rattle.size_laws.specs.Further.{further}
use Rattle.cutout.specs.Finding.{Finds}
use Rattle.index_judge.specs.Judging.{Says}
use Rattle.index_judge.specs.declared.fault.JudgeFault.{JudgeFault}
use Rattle.index_judge.specs.declared.fault.JudgeFault.TheVariants as judging
use Rattle.view_judge.specs.Judging.{absent_in, stored_in}
use Rattle.view_judge.specs.declared.fault.ViewFault.{ViewFault}
use Rattle.view_judge.specs.declared.fault.ViewFault.TheVariants as views
use Rattle.verify_cmd.specs.declared.fault.VerifyFault.{VerifyFault}
use Rattle.verify_cmd.specs.declared.fault.VerifyFault.TheVariants.{OutsideScale, TooManyCells, StoreFault, Damaged, Misplaced, ViewDamaged, Conflict, OutOfMemory}
use Rattle.verify_cmd.specs.declared.report.Report.{Report}
use Rattle.verify_cmd.specs.Verifying.{first_wrong, IsReport}

-- what is wrong with the index that has the chunk of a cell
abbrev pub index_of_cell : Objects → Name → Scale → Cell → Option Wrong
index_of_cell m dataset s cell = index_wrong s.sharding (id_of s cell) (fin.get m (object_of dataset s cell))

-- what judging a cell answers: nothing is wrong, and whether its chunk is stored; or the first that is wrong
abbrev pub JudgesCell : Result Bool JudgeFault → Objects → Name → Scale → Cell → Type 0
JudgesCell (Ok stored) m dataset s cell = (judge m dataset s cell ≡ None) ×
    Finds (Ok stored) (chunk_in m dataset s cell)
JudgesCell (Err fault) m dataset s cell = Says {A = Bool} (judge m dataset s cell) (Err fault)

-- a report of the cells of the first view alone, with none of which anything is wrong
pub record IsCellReport (m : Objects) (dataset : Name) (s : Scale) (b : Box3) (report : Report) : Type 0 where
  pub sound : Sound m dataset s b
  pub cells : report.cells ≡ length (cells_in s b)
  pub stored : report.stored ≡ stored_in m dataset s b
  pub absent : report.absent ≡ absent_in m dataset s b

-- what is told of a part, by what is wrong with a cell
abbrev pub found_at : Cell → JudgeFault → VerifyFault
found_at cell judging.NotRead = StoreFault
found_at cell (judging.Damaged fault) = Damaged cell fault
found_at cell (judging.Misplaced shard m id) = Misplaced shard m id

-- and by what is wrong with a further view
abbrev pub found_in : ViewFault → VerifyFault
found_in views.StoreFault = StoreFault
found_in (views.First cell fault) = Damaged cell fault
found_in (views.Damaged view cell fault) = ViewDamaged view cell fault
found_in (views.Differs view place channel found wanted) = Conflict view place channel found wanted

-- what judging a part answers: its numbers, where it is sound in all views; or else the first cell of the first view with
-- which something is wrong, with that; or, where there is none, the first finding in the further views
abbrev pub Verifies : Result Report VerifyFault → Objects → Name → Scale → Box3 → Type 0
Verifies (Ok report) m dataset s b = IsReport m dataset s b report
Verifies (Err (Damaged cell fault)) m dataset s b = first_wrong m dataset s b ≡ Some (cell, DamagedBy fault)
Verifies (Err (Misplaced shard minishard id)) m dataset s b = (cell : Cell) ×
    (first_wrong m dataset s b ≡ Some (cell, MisplacedAt shard minishard id))
Verifies (Err (ViewDamaged view cell fault)) m dataset s b = (first_wrong m dataset s b ≡ None) ×
    (first_finding m dataset s (further s) b ≡ Some (DamagedIn view cell fault))
Verifies (Err (Conflict view place channel found wanted)) m dataset s b = (first_wrong m dataset s b ≡ None) ×
    (first_finding m dataset s (further s) b ≡ Some (DiffersIn view place channel found wanted))
Verifies (Err StoreFault) m dataset s b = Unit {0}
Verifies (Err OutOfMemory) m dataset s b = Unit {0}
Verifies (Err OutsideScale) m dataset s b = Unit {0}
Verifies (Err (TooManyCells n)) m dataset s b = Unit {0}

-- what judging the cells of the first view answers: their numbers, where nothing is wrong with them
abbrev pub JudgesCells : Result Report VerifyFault → Objects → Name → Scale → Box3 → Type 0
JudgesCells (Ok report) m dataset s b = IsCellReport m dataset s b report
JudgesCells (Err fault) m dataset s b = Verifies (Err fault) m dataset s b

-- a report's numbers: so many cells, and the stored and the absent ones are together all of them
pub record Counts (wanted : ℕ) (report : Report) : Type 0 where
  pub cells : report.cells ≡ wanted
  pub both : report.stored + report.absent ≡ report.cells

-- what a judgement that has begun can't answer: that its part is refused, or that there is no memory
pub record IsBegun {A : Type 0} (result : Result A VerifyFault) : Type 0 where
  pub inside : result ≢ Err OutsideScale
  pub within : (n : ℕ) → result ≢ Err (TooManyCells n)
  pub memory : result ≢ Err OutOfMemory
