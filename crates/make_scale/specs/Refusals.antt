-- The status and the line of each refusal to make a scale of another one (this project's).
use Rattle.std.specs.Prelude.{◌≡◌, IfSome, refl}
use Rattle.info_doc.specs.Texts.{item_text}
use Rattle.vol_shell.specs.Lines.{folder_line, memory_line, store_line}
use Rattle.vol_spec.specs.Types.{Bytes, Name}
use Rattle.command_base.specs.Lines.{cells_line, damaged_line, info_line, sizes_line, voxels_line}
use Rattle.command_base.specs.Refusals.{info_text}
use Rattle.command_base.specs.Statuses.{fixed_line}
use Rattle.command_base.specs.declared.refusal.ScaleRefusal.{ScaleRefusal}
use Rattle.command_base.specs.declared.refusal.ScaleRefusal.TheVariants as scale
use Rattle.command_base.specs.declared.status.Status.{Status}
use Rattle.command_base.specs.declared.status.Status.TheVariants.{InfoRefused, RequestRefused, Damaged, StoreFault, NoMemory}
use Rattle.make_scale.specs.Lines.{differs_line}
use Rattle.make_scale.specs.declared.refusal.MakeRefusal.{MakeRefusal}
use Rattle.make_scale.specs.declared.refusal.MakeRefusal.TheVariants as refused
use Rattle.make_scale.specs.declared.fault.MakeFault.TheVariants as fault

-- what a scale that isn't read is, as a refusal to make one of it
abbrev pub unsourced : ScaleRefusal → MakeRefusal
unsourced (scale.NoScale why) = refused.NoSource why
unsourced scale.StoreFault = refused.Unmade fault.StoreFault
unsourced scale.NoMemory = refused.Unmade fault.OutOfMemory

abbrev pub refusal_status : MakeRefusal → Status
refusal_status (refused.NoSource why) = InfoRefused
refusal_status (refused.NoTarget why) = InfoRefused
refusal_status (refused.TooManyVoxels voxels) = RequestRefused
refusal_status refused.SeveralSizes = RequestRefused
refusal_status (refused.Unmade (fault.Differs item)) = RequestRefused
refusal_status (refused.Unmade (fault.TooManyCells cells)) = RequestRefused
refusal_status (refused.Unmade fault.NotEmpty) = RequestRefused
refusal_status (refused.Unmade (fault.Damaged cell found)) = Damaged
refusal_status (refused.Unmade fault.StoreFault) = StoreFault
refusal_status (refused.Unmade fault.OutOfMemory) = NoMemory

abbrev pub refusal_line : Name → MakeRefusal → Bytes
refusal_line dataset (refused.NoSource why) = info_line dataset (info_text why)
refusal_line dataset (refused.NoTarget why) = info_line dataset (info_text why)
refusal_line dataset (refused.TooManyVoxels voxels) = voxels_line voxels
refusal_line dataset refused.SeveralSizes = sizes_line
refusal_line dataset (refused.Unmade (fault.Differs item)) = differs_line (item_text item)
refusal_line dataset (refused.Unmade (fault.TooManyCells cells)) = cells_line cells
refusal_line dataset (refused.Unmade fault.NotEmpty) = folder_line
refusal_line dataset (refused.Unmade (fault.Damaged cell found)) = damaged_line cell found
refusal_line dataset (refused.Unmade fault.StoreFault) = store_line
refusal_line dataset (refused.Unmade fault.OutOfMemory) = memory_line

-- where the status of a refusal always has the same line, the refusal has it
pub refusal_fixed : (dataset : Name) (refusal : MakeRefusal) →
    IfSome (fixed_line (refusal_status refusal)) (λ text. refusal_line dataset refusal ≡ text)
refusal_fixed dataset (refused.NoSource why) = tt
refusal_fixed dataset (refused.NoTarget why) = tt
refusal_fixed dataset (refused.TooManyVoxels voxels) = tt
refusal_fixed dataset refused.SeveralSizes = tt
refusal_fixed dataset (refused.Unmade (fault.Differs item)) = tt
refusal_fixed dataset (refused.Unmade (fault.TooManyCells cells)) = tt
refusal_fixed dataset (refused.Unmade fault.NotEmpty) = tt
refusal_fixed dataset (refused.Unmade (fault.Damaged cell found)) = tt
refusal_fixed dataset (refused.Unmade fault.StoreFault) = refl
refusal_fixed dataset (refused.Unmade fault.OutOfMemory) = refl
