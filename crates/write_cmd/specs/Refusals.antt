-- The status and the line of each refusal of `write` (this project's).
use Rattle.vol_shell.specs.Lines.{feed_line, folder_line, memory_line, store_line}
use Rattle.vol_spec.specs.Types.{Bytes, Name}
use Rattle.command_base.specs.Lines.{cells_line, info_line, voxels_line}
use Rattle.command_base.specs.Refusals.{info_text}
use Rattle.command_base.specs.declared.refusal.ScaleRefusal.{ScaleRefusal}
use Rattle.command_base.specs.declared.refusal.ScaleRefusal.TheVariants as scale
use Rattle.command_base.specs.declared.status.Status.{Status}
use Rattle.command_base.specs.declared.status.Status.TheVariants.{InfoRefused, RequestRefused, StoreFault, FeedFault, NoMemory}
use Rattle.write_plan.specs.declared.fault.PlanFault.{PlanFault}
use Rattle.write_plan.specs.declared.fault.PlanFault.TheVariants.{FeedFault as StreamFeed, OutOfMemory as StreamMemory}
use Rattle.write_cmd.specs.Lines.{stream_line}
use Rattle.write_cmd.specs.declared.refusal.WriteRefusal.{WriteRefusal}
use Rattle.write_cmd.specs.declared.refusal.WriteRefusal.TheVariants as write

-- what a scale that isn't read is, as a refusal of a write,
abbrev pub write_without : ScaleRefusal → WriteRefusal
write_without (scale.NoScale why) = write.NoScale why
write_without scale.StoreFault = write.StoreFault
write_without scale.NoMemory = write.NoMemory

-- and a stream that isn't read
abbrev pub unstreamed : PlanFault → WriteRefusal
unstreamed StreamFeed = write.FeedFault
unstreamed StreamMemory = write.NoMemory
unstreamed fault = write.Stream fault

abbrev pub write_status : WriteRefusal → Status
write_status (write.NoScale why) = InfoRefused
write_status (write.TooManyVoxels voxels) = RequestRefused
write_status write.NotEmpty = RequestRefused
write_status (write.Stream fault) = RequestRefused
write_status (write.TooManyCells cells) = RequestRefused
write_status write.StoreFault = StoreFault
write_status write.FeedFault = FeedFault
write_status write.NoMemory = NoMemory

abbrev pub write_line : Name → WriteRefusal → Bytes
write_line dataset (write.NoScale why) = info_line dataset (info_text why)
write_line dataset (write.TooManyVoxels voxels) = voxels_line voxels
write_line dataset write.NotEmpty = folder_line
write_line dataset (write.Stream fault) = stream_line fault
write_line dataset (write.TooManyCells cells) = cells_line cells
write_line dataset write.StoreFault = store_line
write_line dataset write.FeedFault = feed_line
write_line dataset write.NoMemory = memory_line
