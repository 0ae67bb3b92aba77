use Rattle.std.proofs.Common.{◌∙◌, ap}
use Rattle.folder_store.specs.Disks.{is_object}
use Rattle.folder_store.proofs.KeptSteps.{removed_keeps}
use Rattle.folder_store.proofs.memory.MemoryFolderFolder.remove.Goals as goal

pub note-requires : goal.note-requires
note-requires c = removed_keeps c.args.self.now.changes.items c.in_ok-path.path (ap is_object c.in_ok-path.ensures.ok ∙ c.requires)
