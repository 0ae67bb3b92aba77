-- Steps without a fault, and what is made of them.
use Rattle.std.proofs.Common.{◌≡◌, Bool, true, false, Option, Some, None, Ok, Err, refl, ap}
use Rattle.info_doc.specs.declared.fault.InfoFault.{InfoFault}
use Rattle.info_doc.specs.Faults.{judged, unless}
use Rattle.info_doc.specs.Steps.{only_if}
use Rattle.info_doc.specs.Info.{optional}

-- a value that was judged
pub judged_value : {A : Type 0} (fault : Option InfoFault) (value found : A) → Ok found ≡ judged fault value → (fault ≡ None) × (found ≡ value)
judged_value None value found e = (refl, cc)
judged_value (Some fault) value found e = cc

pub unless_none : {A : Type 0} (fault : Option InfoFault) (value : fault ≡ None → A) (found : A) → fault ≡ None → ((e : fault ≡ None) → found ≡ value e) → Ok found ≡ unless fault value
unless_none None value found none same = ap Ok (same refl)
unless_none (Some fault) value found none same = cc

unless_map : {A : Type 0} (fault : Option InfoFault) (value : fault ≡ None → A) (found : A) → Ok found ≡ unless fault value → Ok (Some found) ≡ unless fault (λ none. Some (value none))
unless_map None value found e = cc
unless_map (Some fault) value found e = cc

pub optional_some : {A : Type 0} (condition : Bool) (fault : Option InfoFault) (value : fault ≡ None → A) (found : A) → condition ≡ true → Ok found ≡ unless fault value
    → Ok (Some found) ≡ unless (only_if condition fault) (optional condition fault value)
optional_some true fault value found is e = unless_map fault value found e
optional_some false fault value found is e = cc

pub optional_none : {A : Type 0} (condition : Bool) (fault : Option InfoFault) (value : fault ≡ None → A) → condition ≡ false → Ok None ≡ unless (only_if condition fault) (optional condition fault value)
optional_none true fault value is = cc
optional_none false fault value is = refl

pub optional_err : {A : Type 0} (condition : Bool) (fault : Option InfoFault) (value : fault ≡ None → A) (e : InfoFault) → condition ≡ true → Err e ≡ unless fault value
    → Err e ≡ unless (only_if condition fault) (optional condition fault value)
optional_err true None value e is h = cc
optional_err true (Some fault) value e is h = cc
optional_err false fault value e is h = cc
