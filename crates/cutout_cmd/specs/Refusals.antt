-- The status and the line of each refusal of `cutout` (this project's).
use Rattle.std.specs.Prelude.{◌≡◌, IfSome, refl}
use Rattle.vol_shell.specs.Lines.{memory_line, output_line, store_line}
use Rattle.vol_spec.specs.Types.{Bytes, Name}
use Rattle.command_base.specs.Lines.{damaged_line, info_line, large_line, outside_line}
use Rattle.command_base.specs.Refusals.{info_text}
use Rattle.command_base.specs.Statuses.{fixed_line}
use Rattle.command_base.specs.declared.refusal.ScaleRefusal.{ScaleRefusal}
use Rattle.command_base.specs.declared.refusal.ScaleRefusal.TheVariants as scale
use Rattle.command_base.specs.declared.status.Status.{Status}
use Rattle.command_base.specs.declared.status.Status.TheVariants.{InfoRefused, RequestRefused, Damaged, StoreFault, OutFault, NoMemory}
use Rattle.cutout_cmd.specs.declared.refusal.CutoutRefusal.{CutoutRefusal}
use Rattle.cutout_cmd.specs.declared.refusal.CutoutRefusal.TheVariants as cutout

-- what a scale that isn't read is, as a refusal of a cutout
abbrev pub cutout_without : ScaleRefusal → CutoutRefusal
cutout_without (scale.NoScale why) = cutout.NoScale why
cutout_without scale.StoreFault = cutout.StoreFault
cutout_without scale.NoMemory = cutout.NoMemory

-- the status that a refusal ends the command with
abbrev pub cutout_status : CutoutRefusal → Status
cutout_status (cutout.NoScale why) = InfoRefused
cutout_status (cutout.Outside part whole) = RequestRefused
cutout_status (cutout.TooLarge bytes) = RequestRefused
cutout_status (cutout.Damaged cell fault) = Damaged
cutout_status cutout.StoreFault = StoreFault
cutout_status cutout.OutFault = OutFault
cutout_status cutout.NoMemory = NoMemory

-- the line that is told of it, over the name of the data set
abbrev pub cutout_line : Name → CutoutRefusal → Bytes
cutout_line dataset (cutout.NoScale why) = info_line dataset (info_text why)
cutout_line dataset (cutout.Outside part whole) = outside_line part whole
cutout_line dataset (cutout.TooLarge bytes) = large_line bytes
cutout_line dataset (cutout.Damaged cell fault) = damaged_line cell fault
cutout_line dataset cutout.StoreFault = store_line
cutout_line dataset cutout.OutFault = output_line
cutout_line dataset cutout.NoMemory = memory_line

-- where the status of a refusal always has the same line, the refusal has it
pub cutout_fixed : (dataset : Name) (refusal : CutoutRefusal) →
    IfSome (fixed_line (cutout_status refusal)) (λ text. cutout_line dataset refusal ≡ text)
cutout_fixed dataset (cutout.NoScale why) = tt
cutout_fixed dataset (cutout.Outside part whole) = tt
cutout_fixed dataset (cutout.TooLarge bytes) = tt
cutout_fixed dataset (cutout.Damaged cell fault) = tt
cutout_fixed dataset cutout.StoreFault = refl
cutout_fixed dataset cutout.OutFault = refl
cutout_fixed dataset cutout.NoMemory = refl
