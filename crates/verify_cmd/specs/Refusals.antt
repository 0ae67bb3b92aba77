-- The status and the line of each refusal of `verify` (this project's).
use Rattle.vol_shell.specs.Lines.{memory_line, store_line}
use Rattle.vol_spec.specs.Types.{Bytes, Name}
use Rattle.command_base.specs.Lines.{cells_line, damaged_line, info_line, outside_line}
use Rattle.command_base.specs.Refusals.{info_text}
use Rattle.command_base.specs.declared.refusal.ScaleRefusal.{ScaleRefusal}
use Rattle.command_base.specs.declared.refusal.ScaleRefusal.TheVariants as scale
use Rattle.command_base.specs.declared.status.Status.{Status}
use Rattle.command_base.specs.declared.status.Status.TheVariants.{InfoRefused, RequestRefused, Damaged, StoreFault, NoMemory}
use Rattle.verify_cmd.specs.Lines.{conflict_line, misplaced_line, view_damaged_line}
use Rattle.verify_cmd.specs.declared.refusal.VerifyRefusal.{VerifyRefusal}
use Rattle.verify_cmd.specs.declared.refusal.VerifyRefusal.TheVariants as verify

-- what a scale that isn't read is, as a refusal of a judgement
abbrev pub verify_without : ScaleRefusal → VerifyRefusal
verify_without (scale.NoScale why) = verify.NoScale why
verify_without scale.StoreFault = verify.StoreFault
verify_without scale.NoMemory = verify.NoMemory

abbrev pub verify_status : VerifyRefusal → Status
verify_status (verify.NoScale why) = InfoRefused
verify_status (verify.Outside part whole) = RequestRefused
verify_status (verify.TooManyCells cells) = RequestRefused
verify_status (verify.Damaged cell fault) = Damaged
verify_status (verify.Misplaced shard minishard id) = Damaged
verify_status (verify.ViewDamaged view cell fault) = Damaged
verify_status (verify.Conflict view place channel found wanted) = Damaged
verify_status verify.StoreFault = StoreFault
verify_status verify.NoMemory = NoMemory

abbrev pub verify_line : Name → VerifyRefusal → Bytes
verify_line dataset (verify.NoScale why) = info_line dataset (info_text why)
verify_line dataset (verify.Outside part whole) = outside_line part whole
verify_line dataset (verify.TooManyCells cells) = cells_line cells
verify_line dataset (verify.Damaged cell fault) = damaged_line cell fault
verify_line dataset (verify.Misplaced shard minishard id) = misplaced_line shard minishard id
verify_line dataset (verify.ViewDamaged view cell fault) = view_damaged_line view cell fault
verify_line dataset (verify.Conflict view place channel found wanted) = conflict_line view place channel found
    wanted
verify_line dataset verify.StoreFault = store_line
verify_line dataset verify.NoMemory = memory_line
