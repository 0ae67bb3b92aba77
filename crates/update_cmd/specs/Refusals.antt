-- The status and the line of each refusal of `update` (this project's).
use Rattle.std.specs.Prelude.{◌≡◌, IfSome, refl}
use Rattle.vol_shell.specs.Lines.{feed_line, memory_line, store_line}
use Rattle.vol_spec.specs.Types.{Bytes, Name}
use Rattle.command_base.specs.Lines.{cells_line, damaged_line, info_line, sizes_line, voxels_line}
use Rattle.command_base.specs.Refusals.{info_text}
use Rattle.command_base.specs.Statuses.{fixed_line}
use Rattle.command_base.specs.declared.refusal.ScaleRefusal.{ScaleRefusal}
use Rattle.command_base.specs.declared.refusal.ScaleRefusal.TheVariants as scale
use Rattle.command_base.specs.declared.status.Status.{Status}
use Rattle.command_base.specs.declared.status.Status.TheVariants.{InfoRefused, RequestRefused, Damaged, StoreFault, FeedFault, NoMemory}
use Rattle.write_cmd.specs.Lines.{stream_line}
use Rattle.write_plan.specs.declared.fault.PlanFault.{PlanFault}
use Rattle.write_plan.specs.declared.fault.PlanFault.TheVariants.{FeedFault as StreamFeed, OutOfMemory as StreamMemory}
use Rattle.update_cmd.specs.Lines.{shard_line}
use Rattle.update_cmd.specs.declared.fault.UpdateFault.{UpdateFault}
use Rattle.update_cmd.specs.declared.fault.UpdateFault.TheVariants as fault
use Rattle.update_cmd.specs.declared.refusal.UpdateRefusal.{UpdateRefusal}
use Rattle.update_cmd.specs.declared.refusal.UpdateRefusal.TheVariants as update

-- what a scale that isn't read is, as a refusal of an update,
abbrev pub update_without : ScaleRefusal → UpdateRefusal
update_without (scale.NoScale why) = update.NoScale why
update_without scale.StoreFault = update.StoreFault
update_without scale.NoMemory = update.NoMemory

-- a stream that isn't read,
abbrev pub unstreamed : PlanFault → UpdateRefusal
unstreamed StreamFeed = update.FeedFault
unstreamed StreamMemory = update.NoMemory
unstreamed fault = update.Stream fault

-- and a scale that isn't updated
abbrev pub not_updated : UpdateFault → UpdateRefusal
not_updated (fault.TooManyCells cells) = update.TooManyCells cells
not_updated (fault.BadShard shard minishard found) = update.BadShard shard minishard found
not_updated (fault.Damaged cell found) = update.Damaged cell found
not_updated fault.StoreFault = update.StoreFault
not_updated fault.OutOfMemory = update.NoMemory

abbrev pub update_status : UpdateRefusal → Status
update_status (update.NoScale why) = InfoRefused
update_status (update.TooManyVoxels voxels) = RequestRefused
update_status update.SeveralSizes = RequestRefused
update_status (update.Stream fault) = RequestRefused
update_status (update.TooManyCells cells) = RequestRefused
update_status (update.BadShard shard minishard fault) = Damaged
update_status (update.Damaged cell fault) = Damaged
update_status update.StoreFault = StoreFault
update_status update.FeedFault = FeedFault
update_status update.NoMemory = NoMemory

abbrev pub update_line : Name → UpdateRefusal → Bytes
update_line dataset (update.NoScale why) = info_line dataset (info_text why)
update_line dataset (update.TooManyVoxels voxels) = voxels_line voxels
update_line dataset update.SeveralSizes = sizes_line
update_line dataset (update.Stream fault) = stream_line fault
update_line dataset (update.TooManyCells cells) = cells_line cells
update_line dataset (update.BadShard shard minishard fault) = shard_line shard minishard fault
update_line dataset (update.Damaged cell fault) = damaged_line cell fault
update_line dataset update.StoreFault = store_line
update_line dataset update.FeedFault = feed_line
update_line dataset update.NoMemory = memory_line

-- where the status of a refusal always has the same line, the refusal has it
pub update_fixed : (dataset : Name) (refusal : UpdateRefusal) →
    IfSome (fixed_line (update_status refusal)) (λ text. update_line dataset refusal ≡ text)
update_fixed dataset (update.NoScale why) = tt
update_fixed dataset (update.TooManyVoxels voxels) = tt
update_fixed dataset update.SeveralSizes = tt
update_fixed dataset (update.Stream fault) = tt
update_fixed dataset (update.TooManyCells cells) = tt
update_fixed dataset (update.BadShard shard minishard fault) = tt
update_fixed dataset (update.Damaged cell fault) = tt
update_fixed dataset update.StoreFault = refl
update_fixed dataset update.FeedFault = refl
update_fixed dataset update.NoMemory = refl
