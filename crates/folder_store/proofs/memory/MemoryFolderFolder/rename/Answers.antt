use Rattle.std.proofs.Common.{◌≡◌, ◌∙◌, ap, sym, subst, rules, Some, string_bytes}
use Rattle.folder_store.specs.Changes.{disk_of, kept_of}
use Rattle.folder_store.specs.Disks.{file_at, is_object, IsSettled}
use Rattle.folder_store.proofs.KeptSteps.{moved_keeps}
use Rattle.folder_store.proofs.memory.MemoryFolderFolder.rename.Goals as goal

pub note-requires : goal.note-requires
note-requires c =
    let cs = c.args.self.now.changes.items in
    let from = c.in_ok-from.ensures.ok in
    let stands : file_at (disk_of c.args.self.now.changes.items) c.args.from.now ≡ Some c.in-Some.number = search rules in
    moved_keeps cs c.in_ok-from.from c.in_ok-to.to c.in-Some.number (ap is_object from ∙ c.requires.part) (ap (file_at (disk_of cs)) from ∙ stands)
    (subst (λ p. IsSettled (disk_of cs) (kept_of cs) p (string_bytes c.in_ok-to.to)) (sym from) (subst (λ p. IsSettled (disk_of cs) (kept_of cs) c.args.from.now p) (sym c.in_ok-to.ensures.ok) c.requires.settled))
