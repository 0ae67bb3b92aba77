-- What `cutout` answers (this project's profile).
use Rattle.std.specs.Prelude.{◌≡◌, ℕ, ◌+◌, ◌-◌, ◌*◌, ◌^◌, ◌<◌, ◌≤◌, min, slice_index, [], Option, Some, None, Result, Ok as Done, Err, ⊤, IfSome, IsOkAnd}
use Rattle.vol_base.specs.declared.boxes.Box3.{Box3}
use Rattle.vol_base.specs.Outside.{Objects}
use Rattle.vol_spec.specs.Costs.{cost}
use Rattle.vol_spec.specs.Cut.{cut, first_fault}
use Rattle.vol_spec.specs.Grid.{Inside, whole}
use Rattle.vol_spec.specs.Raw.{raw_len}
use Rattle.vol_spec.specs.Types.{Bytes, Cell, Name}
use Rattle.vol_spec.specs.declared.scale.Scale.{Scale}
use Rattle.vol_base.specs.Gains.{Gains, GainsFront}
use Rattle.cutout.specs.Layers.{below}
use Rattle.cutout.specs.Streaming.{cut_channel}
use Rattle.cutout.specs.declared.fault.StreamFault.{StreamFault}
use Rattle.cutout.specs.declared.fault.StreamFault.TheVariants as broken
use Rattle.command_base.specs.Ending.{Refuses}
use Rattle.command_base.specs.Outlets.{Outlets}
use Rattle.command_base.specs.Scales.{stored_scale}
use Rattle.command_base.specs.declared.refusal.NoScale.{NoScale}
use Rattle.cutout_cmd.specs.Refusals.{cutout_line, cutout_status}
use Rattle.cutout_cmd.specs.declared.refusal.CutoutRefusal.{CutoutRefusal}
use Rattle.cutout_cmd.specs.declared.refusal.CutoutRefusal.TheVariants as refused
use Rattle.command_base.specs.declared.status.Status.{Status}
use Rattle.command_base.specs.declared.status.Status.TheVariants.{Ok}

-- a cutout has at most so many bytes (this project's limit)
abbrev pub cutout_limit : ℕ
cutout_limit = 2 ^ 30

-- a box that can be asked for
abbrev pub IsRequest : Scale → Box3 → Type 0
IsRequest s part = Inside s part × (raw_len part s.channels s.width ≤ cutout_limit)

-- the box can be cut out: it is inside, not too large, and no cell that meets it has a fault
abbrev pub IsSound : Objects → Name → Scale → Box3 → Type 0
IsSound m dataset s part = IsRequest s part × (first_fault m dataset s part ≡ None)

-- the scale is there, and the box can be cut out of it
abbrev pub CanCut : Objects → Name → Name → Box3 → Type 0
CanCut m dataset key part = IsOkAnd (stored_scale m dataset key) (λ s. IsSound m dataset s part)

-- why a box is no request, and the number of bytes that is told (at most 2^128 - 1)
abbrev pub IsTooLarge : Scale → Box3 → ℕ → Type 0
IsTooLarge s part bytes = Inside s part × (cutout_limit < raw_len part s.channels s.width) ×
    (bytes ≡ min (raw_len part s.channels s.width) (2 ^ 128 - 1))

-- what judging a box answers
abbrev pub JudgesPart : Result ⊤ CutoutRefusal → Scale → Box3 → Type 0
JudgesPart (Done done) s part = IsRequest s part
JudgesPart (Err (refused.Outside told all)) s part = (told ≡ part) × (all ≡ whole s) × ¬ Inside s part
JudgesPart (Err (refused.TooLarge bytes)) s part = IsTooLarge s part bytes
JudgesPart (Err other) s part = ⊥

-- of the values of channel 0, those whose cells lie below the layer of a cell along z
abbrev pub below_fault : Objects → Name → Scale → Box3 → Cell → Bytes
below_fault m dataset s part cell = cut_channel m dataset s (below s part (slice_index cell 2)) 0

-- the refusal of a box that isn't written whole
abbrev pub broken_by : StreamFault → CutoutRefusal
broken_by broken.StoreFault = refused.StoreFault
broken_by (broken.Damaged cell fault) = refused.Damaged cell fault
broken_by broken.OutFault = refused.OutFault
broken_by broken.OutOfMemory = refused.NoMemory
broken_by broken.OutsideScale = refused.NoMemory

-- such refusals
abbrev pub IsBroken : CutoutRefusal → Type 0
IsBroken refused.StoreFault = Unit {0}
IsBroken (refused.Damaged cell fault) = Unit {0}
IsBroken refused.OutFault = Unit {0}
IsBroken refused.NoMemory = Unit {0}
IsBroken other = ⊥

-- what a cutout of a scale answers, and what the outlet gains
abbrev pub CutsScale : Result ⊤ CutoutRefusal → Objects → Name → Scale → Box3 → Option Bytes → Option Bytes →
    Type 0
CutsScale (Done done) m dataset s part old new = IsSound m dataset s part ×
    Gains old new (cut m dataset s part)
CutsScale (Err (refused.NoScale why)) m dataset s part old new = ⊥
CutsScale (Err (refused.Outside told all)) m dataset s part old new = (told ≡ part) × (all ≡ whole s) ×
    ¬ Inside s part
CutsScale (Err (refused.TooLarge bytes)) m dataset s part old new = IsTooLarge s part bytes
CutsScale (Err (refused.Damaged cell fault)) m dataset s part old new =
    IsRequest s part × (first_fault m dataset s part ≡ Some (cell, fault)) ×
    Gains old new (below_fault m dataset s part cell) × GainsFront old new (cut m dataset s part)
CutsScale (Err refused.OutFault) m dataset s part old new =
    IsRequest s part × GainsFront old new (cut m dataset s part)
CutsScale (Err refused.StoreFault) m dataset s part old new = GainsFront old new (cut m dataset s part)
CutsScale (Err refused.NoMemory) m dataset s part old new = Unit {0}

-- the bytes of a cutout, none where there is no scale
abbrev pub cut_of : Result Scale NoScale → Objects → Name → Box3 → Bytes
cut_of (Done s) m dataset part = cut m dataset s part
cut_of (Err why) m dataset part = []

-- what a cutout answers, by the scale that is told, and what the outlet gains
abbrev pub Cuts : Result ⊤ CutoutRefusal → Result Scale NoScale → Objects → Name → Box3 → Option Bytes →
    Option Bytes → Type 0
Cuts (Err (refused.NoScale why)) told m dataset part old new = told ≡ Err why
Cuts (Err refused.StoreFault) told m dataset part old new = GainsFront old new (cut_of told m dataset part)
Cuts (Err refused.NoMemory) told m dataset part old new = Unit {0}
Cuts result told m dataset part old new = IsOkAnd told (λ s. CutsScale result m dataset s part old new)

-- how many bytes of the store the cells of a box cost at most: what they cost for each channel
abbrev pub parts_cost : Objects → Name → Scale → Box3 → ℕ
parts_cost m dataset s part = s.channels * cost m dataset s part

-- and none where there is no scale
abbrev pub cells_cost : Result Scale NoScale → Objects → Name → Box3 → ℕ
cells_cost (Done s) m dataset part = parts_cost m dataset s part
cells_cost (Err why) m dataset part = 0

-- it asks for no more: one byte more than an info document has at most, and what the cells cost
abbrev pub AsksFor : Objects → Name → Name → Box3 → ℕ → ℕ → Type 0
AsksFor m dataset key part old new = new ≤ old + (2 ^ 20 + 1
    + cells_cost (stored_scale m dataset key) m dataset part)

-- what a cutout answers where nothing is told: a box that it refuses is the one that was asked for, and nothing is written but by a
-- cutout that succeeds or breaks off on the way
abbrev pub Writes : Result ⊤ CutoutRefusal → Box3 → Option Bytes → Option Bytes → Type 0
Writes (Done done) part old new = Unit {0}
Writes (Err refused.OutFault) part old new = Unit {0}
Writes (Err refused.StoreFault) part old new = Unit {0}
Writes (Err (refused.Damaged cell fault)) part old new = Unit {0}
Writes (Err (refused.Outside told all)) part old new = (told ≡ part) × (new ≡ old)
Writes (Err other) part old new = new ≡ old

-- an answer that is right over the objects, where they are told, and by what the output gained
pub record IsRightCut (answer : Result ⊤ CutoutRefusal) (told : Option Objects) (dataset key : Name) (part : Box3)
    (o : Outlets) : Type 0 where
  pub cuts : IfSome told (λ m. Cuts answer (stored_scale m dataset key) m dataset part o.out_old o.out_new)
  pub writes : Writes answer part o.out_old o.out_new

-- what is told of an answer: nothing of a cutout that is whole, and a refusal by its line
abbrev pub TellsCut : Result ⊤ CutoutRefusal → Name → Status → Outlets → Type 0
TellsCut (Done done) dataset status o = (status ≡ Ok) × (o.err_new ≡ o.err_old)
TellsCut (Err refusal) dataset status o = Refuses cutout_status (cutout_line dataset) refusal status o

-- `cutout` ends as a right answer is told
abbrev pub CutsOut : Status → Option Objects → Name → Name → Box3 → Outlets → Type 0
CutsOut status told dataset key part o =
    (answer : Result ⊤ CutoutRefusal) × IsRightCut answer told dataset key part o × TellsCut answer dataset status o
