-- The scale of a key, as objects have it (this project's profile).
use Rattle.std.specs.Prelude.{◌≡◌, ℕ, true, false, length, take, Option, Some, None, Result, Ok, Err, IfSome, codes}
use Rattle.std.specs.FinMap as fin
use Rattle.vol_base.specs.Outside.{any_under, Objects, Reads}
use Rattle.vol_base.specs.declared.outside.Got.TheVariants.{Bytes as Got}
use Rattle.info_doc.specs.declared.fault.InfoFault.{InfoFault}
use Rattle.info_doc.specs.Info.{scale_in}
use Rattle.vol_spec.specs.CellNames.{folder_of, joined}
use Rattle.vol_spec.specs.Types.{Bytes, Name}
use Rattle.vol_spec.specs.Writable.{IsWritable}
use Rattle.vol_spec.specs.declared.scale.Scale.{Scale}
use Rattle.command_base.specs.declared.refusal.NoScale.{NoScale}
use Rattle.command_base.specs.declared.refusal.NoScale.TheVariants.{Absent, Refused}
use Rattle.command_base.specs.declared.refusal.ScaleRefusal.{ScaleRefusal}
use Rattle.command_base.specs.declared.refusal.ScaleRefusal.TheVariants.{NoScale as WithoutScale, StoreFault, NoMemory}

-- the object of a data set's info document
abbrev pub info_name : Name → Name
info_name dataset = joined dataset (codes "info")

-- the info document that the objects have under a data set
abbrev pub info_of : Objects → Name → Option Bytes
info_of objects dataset = fin.get objects (info_name dataset)

-- the scale of a document, or why there is none
abbrev pub judged_info : Result Scale InfoFault → Result Scale NoScale
judged_info (Ok s) = Ok s
judged_info (Err fault) = Err (Refused fault)

abbrev pub scale_from : Option Bytes → Name → Result Scale NoScale
scale_from None key = Err Absent
scale_from (Some bytes) key = judged_info (scale_in bytes key)

-- the scale of a key that the objects have under a data set, or why there is none
unfoldable pub stored_scale : Objects → Name → Name → Result Scale NoScale
stored_scale objects dataset key = scale_from (info_of objects dataset) key

-- what reading a scale answers
abbrev pub ReadsScale : Result Scale ScaleRefusal → Result Scale NoScale → Type 0
ReadsScale (Ok s) told = told ≡ Ok s
ReadsScale (Err (WithoutScale why)) told = told ≡ Err why
ReadsScale (Err StoreFault) told = Unit {0}
ReadsScale (Err NoMemory) told = Unit {0}

-- what reading a piece of a document answers: how many of its bytes it begins with
abbrev pub ReadsPiece : Result ℕ ScaleRefusal → Option Bytes → ℕ → Bytes → Bytes → Type 0
ReadsPiece (Ok len) document at old new = Reads document at old new (Got len)
ReadsPiece (Err (WithoutScale why)) document at old new = (why ≡ Absent) × (document ≡ None)
ReadsPiece (Err StoreFault) document at old new = Unit {0}
ReadsPiece (Err NoMemory) document at old new = ⊥

-- a document begins with some bytes
abbrev pub BeginsWith : Option Bytes → Bytes → Type 0
BeginsWith document front = IfSome document (λ bytes. take (length front) bytes ≡ front)

-- the scale has one chunk size
abbrev pub HasOneSize : Scale → Type 0
HasOneSize s = length s.more ≡ 0

-- it keeps the writing limit, and has one chunk size
abbrev pub IsWritableAlone : Scale → Type 0
IsWritableAlone s = IsWritable s × HasOneSize s

-- the scale keeps the writing limit, and its folder is empty
abbrev pub IsReady : Objects → Name → Scale → Type 0
IsReady m dataset s = IsWritable s × (any_under m (folder_of dataset s) ≡ false)

-- or its folder isn't
abbrev pub IsFull : Objects → Name → Scale → Type 0
IsFull m dataset s = IsWritable s × (any_under m (folder_of dataset s) ≡ true)
