use Rattle.std.proofs.Common.{subst, map as map_list}
use Rattle.std.specs.Option.{option_map}
use Rattle.vol_base.specs.Outside.{Turns}
use Rattle.folder_store.specs.Disks.{objects_of, objects_at}
use Rattle.folder_store.proofs.MomentSteps.{turns_kept}
use Rattle.std.proofs.Common.{◌∙◌, ap}
use Rattle.folder_store.specs.Shown.{Shown}
use Rattle.folder_store.proofs.ObjectSteps.{spares_told}
use Rattle.folder_store.proofs.directory.DirStoreStore.append.Goals as goal

pub returns-in-Ok-clause-objects : goal.returns-in-Ok-clause-objects
returns-in-Ok-clause-objects g c = spares_told (g.F.Folder.disk c.self.inside.folder) (g.F.Folder.disk c.extend.new.folder) c.in-Ok.ensures.spared.spares ∙ ap (λ (s : Shown). s.objects) c.self.view_is

pub returns-in-Err-clause-objects : goal.returns-in-Err-clause-objects
returns-in-Err-clause-objects g c = spares_told (g.F.Folder.disk c.self.inside.folder) (g.F.Folder.disk c.extend.new.folder) c.in-Err.ensures.spared.spares ∙ ap (λ (s : Shown). s.objects) c.self.view_is

pub returns-in-Ok-clause-history : goal.returns-in-Ok-clause-history
returns-in-Ok-clause-history g c =
    subst (λ (s : Shown). Turns s.objects (option_map objects_of (g.F.Folder.disk c.extend.new.folder)) s.history (map_list objects_at (g.F.Folder.moments c.extend.new.folder))) c.self.view_is
    (turns_kept (g.F.Folder.disk c.self.inside.folder) (g.F.Folder.disk c.extend.new.folder) (g.F.Folder.moments c.self.inside.folder) (g.F.Folder.moments c.extend.new.folder) c.in-Ok.ensures.spared)

pub returns-in-Err-clause-history : goal.returns-in-Err-clause-history
returns-in-Err-clause-history g c =
    subst (λ (s : Shown). Turns s.objects (option_map objects_of (g.F.Folder.disk c.extend.new.folder)) s.history (map_list objects_at (g.F.Folder.moments c.extend.new.folder))) c.self.view_is
    (turns_kept (g.F.Folder.disk c.self.inside.folder) (g.F.Folder.disk c.extend.new.folder) (g.F.Folder.moments c.self.inside.folder) (g.F.Folder.moments c.extend.new.folder) c.in-Err.ensures.spared)
