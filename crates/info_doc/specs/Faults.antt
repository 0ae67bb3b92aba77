-- Rows of a judgement, each a condition with its fault, and the steps that they make (this project's
-- profile).
use Rattle.std.specs.Prelude.{◌≡◌, Bool, List, [], ◌∷◌, Option, Some, None, Result, Ok, Err, if◌then◌else◌, refl}
use Rattle.info_doc.specs.declared.fault.InfoFault.{InfoFault}

-- the fault of the first row whose condition holds
abbrev pub fault_by : List (Bool × InfoFault) → Option InfoFault
fault_by [] = None
fault_by (row ∷ rows) = if row.0 then Some row.1 else fault_by rows

-- the first fault of a list of steps
abbrev pub first : List (Option InfoFault) → Option InfoFault
first [] = None
first (None ∷ steps) = first steps
first (Some fault ∷ steps) = Some fault

-- a value, where its step has no fault
abbrev pub judged : {A : Type 0} → Option InfoFault → A → Result A InfoFault
judged None value = Ok value
judged (Some fault) value = Err fault

-- the same for a value that exists only where there is no fault
abbrev pub unless : {A : Type 0} (fault : Option InfoFault) → (fault ≡ None → A) → Result A InfoFault
unless None value = Ok (value refl)
unless (Some fault) value = Err fault
