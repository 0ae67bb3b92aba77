-- What `verify` answers (this project's profile).
use Rattle.std.specs.Prelude.{◌≡◌, ℕ, ◌+◌, ◌^◌, ◌≤◌, Option, Some, None, Result, Ok as Done, Err, IfSome, IsOkAnd, IsSomeAnd}
use Rattle.vol_base.specs.declared.boxes.Box3.{Box3}
use Rattle.vol_base.specs.Boxes.{Within}
use Rattle.vol_base.specs.Outside.{Objects}
use Rattle.vol_spec.specs.Cut.{first_fault}
use Rattle.vol_spec.specs.Grid.{Inside, whole}
use Rattle.vol_spec.specs.Types.{Bytes, Cell, Name}
use Rattle.vol_spec.specs.Verdicts.Wrong.{Damaged as DamagedBy, Misplaced as MisplacedAt}
use Rattle.vol_spec.specs.declared.scale.Scale.{Scale}
use Rattle.size_laws.specs.Findings.{first_finding}
use Rattle.size_laws.specs.Findings.Finding.{Damaged as DamagedIn, Differs as DiffersIn}
use Rattle.size_laws.specs.Further.{further}
use Rattle.size_laws.specs.Sizes.{AllSound}
use Rattle.verify_cmd.specs.Verifying.{CanJudge, first_wrong, IsReport, IsTooMany, part_cost}
use Rattle.verify_cmd.specs.declared.fault.VerifyFault.{VerifyFault}
use Rattle.verify_cmd.specs.declared.fault.VerifyFault.TheVariants as fault
use Rattle.verify_cmd.specs.declared.report.Report.{Report}
use Rattle.command_base.specs.Scales.{stored_scale}
use Rattle.command_base.specs.declared.refusal.NoScale.{NoScale}
use Rattle.verify_cmd.specs.declared.refusal.VerifyRefusal.{VerifyRefusal}
use Rattle.verify_cmd.specs.declared.refusal.VerifyRefusal.TheVariants as refused
use Rattle.command_base.specs.declared.status.Status.{Status}
use Rattle.command_base.specs.Outlets.{Outlets}
use Rattle.command_base.specs.Ending.{Ends}
use Rattle.verify_cmd.specs.Lines.{verified_line}
use Rattle.verify_cmd.specs.Refusals.{verify_line, verify_status}

-- the box that is judged: all of the scale where none is given
abbrev pub part_in : Scale → Option Box3 → Box3
part_in s (Some part) = part
part_in s None = whole s

-- a part that can be judged, and with no cell of which anything is wrong in any view
abbrev pub IsFoundSound : Objects → Name → Scale → Box3 → Type 0
IsFoundSound m dataset s part = CanJudge s part × AllSound m dataset s (further s) part

-- the scale is there, and the part of it is found sound
abbrev pub CanVerify : Objects → Name → Name → Option Box3 → Type 0
CanVerify m dataset key part = IsOkAnd (stored_scale m dataset key) (λ s.
    IsFoundSound m dataset s (part_in s part))

-- what a fault of the judgement is, as a refusal, over the part and all of the scale
abbrev pub unverified : Box3 → Box3 → VerifyFault → VerifyRefusal
unverified part all fault.OutsideScale = refused.Outside part all
unverified part all (fault.TooManyCells cells) = refused.TooManyCells cells
unverified part all (fault.Damaged cell found) = refused.Damaged cell found
unverified part all (fault.Misplaced shard minishard id) = refused.Misplaced shard minishard id
unverified part all (fault.ViewDamaged view cell found) = refused.ViewDamaged view cell found
unverified part all (fault.Conflict view place channel found wanted) =
    refused.Conflict view place channel found wanted
unverified part all fault.StoreFault = refused.StoreFault
unverified part all fault.OutOfMemory = refused.NoMemory

-- no cutout of a box inside a part is damaged
abbrev pub IsUndamaged : Objects → Name → Scale → Box3 → Type 0
IsUndamaged m dataset s part = (b : Box3) → Within b part → first_fault m dataset s b ≡ None

-- what judging a part of a scale answers
abbrev pub JudgesScale : Result Report VerifyRefusal → Objects → Name → Scale → Box3 → Type 0
JudgesScale (Done report) m dataset s part = CanJudge s part × IsReport m dataset s part report ×
    IsUndamaged m dataset s part
JudgesScale (Err (refused.NoScale why)) m dataset s part = ⊥
JudgesScale (Err (refused.Outside told all)) m dataset s part = (told ≡ part) × (all ≡ whole s) ×
    ¬ Inside s part
JudgesScale (Err (refused.TooManyCells cells)) m dataset s part = IsTooMany s part cells
JudgesScale (Err (refused.Damaged cell found)) m dataset s part = CanJudge s part ×
    (first_wrong m dataset s part ≡ Some (cell, DamagedBy found))
JudgesScale (Err (refused.Misplaced shard minishard id)) m dataset s part =
    CanJudge s part × (cell : Cell) × (first_wrong m dataset s part
    ≡ Some (cell, MisplacedAt shard minishard id))
JudgesScale (Err (refused.ViewDamaged view cell found)) m dataset s part = CanJudge s part ×
    (first_wrong m dataset s part ≡ None) ×
    (first_finding m dataset s (further s) part ≡ Some (DamagedIn view cell found))
JudgesScale (Err (refused.Conflict view place channel found wanted)) m dataset s part = CanJudge s part ×
    (first_wrong m dataset s part ≡ None) ×
    (first_finding m dataset s (further s) part ≡ Some (DiffersIn view place channel found wanted))
JudgesScale (Err refused.StoreFault) m dataset s part = Unit {0}
JudgesScale (Err refused.NoMemory) m dataset s part = Unit {0}

-- what `verify` answers before it prints, by the scale that is told
abbrev pub JudgesStored : Result Report VerifyRefusal → Result Scale NoScale → Objects → Name → Option Box3 →
    Type 0
JudgesStored (Err (refused.NoScale why)) told m dataset part = told ≡ Err why
JudgesStored (Err refused.StoreFault) told m dataset part = Unit {0}
JudgesStored (Err refused.NoMemory) told m dataset part = Unit {0}
JudgesStored result told m dataset part = IsOkAnd told (λ s. JudgesScale result m dataset s (part_in s part))

-- what an answer says where nothing is told: a box that is refused is the one that was asked for, and the stored and
-- the absent cells are together all
abbrev pub IsAsked : Result Report VerifyRefusal → Option Box3 → Type 0
IsAsked (Done report) part = report.stored + report.absent ≡ report.cells
IsAsked (Err (refused.Outside told all)) part = IsSomeAnd part (λ asked. told ≡ asked)
IsAsked (Err other) part = Unit {0}

-- the line of a report
abbrev pub report_line : Report → Bytes
report_line report = verified_line report.cells report.stored report.absent

-- an answer that is right over the objects, where they are told
pub record IsRight (answer : Result Report VerifyRefusal) (told : Option Objects) (dataset key : Name)
    (part : Option Box3) : Type 0 where
  pub judges : IfSome told (λ m. JudgesStored answer (stored_scale m dataset key) m dataset part)
  pub asked : IsAsked answer part

-- `verify` ends as a right answer is told
abbrev pub Verified : Status → Option Objects → Name → Name → Option Box3 → Outlets → Type 0
Verified status told dataset key part o = (answer : Result Report VerifyRefusal) ×
    IsRight answer told dataset key part × Ends report_line verify_status (verify_line dataset) answer status o

-- how many bytes of the store judging a part costs at most: twice what the cells of the first view cost, what the further
-- views cost beside it, and none where there is no scale
abbrev pub judgement_cost : Result Scale NoScale → Objects → Name → Option Box3 → ℕ
judgement_cost (Done s) m dataset part = part_cost m dataset s (part_in s part)
judgement_cost (Err why) m dataset part = 0

-- it asks for no more: one byte more than an info document has at most, and what the judgement costs
abbrev pub AsksTwice : Objects → Name → Name → Option Box3 → ℕ → ℕ → Type 0
AsksTwice m dataset key part old new = new ≤ old + (2 ^ 20 + 1
    + judgement_cost (stored_scale m dataset key) m dataset part)
