use Rattle.folder_store.proofs.MomentSteps.{keeps_at_once}
use Rattle.folder_store.proofs.ToldSteps.{removed_spares}
use Rattle.folder_store.proofs.directory.remove_part.Goals as goal

pub returns-in-Ok : goal.returns-in-Ok
returns-in-Ok g c =
    keeps_at_once (g.F.Folder.disk c.args.folder.now) (g.F.Folder.disk c.remove.new.self) (g.F.Folder.moments c.args.folder.now) (g.F.Folder.moments c.remove.new.self)
    (removed_spares c.remove.result (g.F.Folder.disk c.args.folder.now) (g.F.Folder.disk c.remove.new.self) c.args.path.now c.requires c.remove.ensures.removed c.remove.ensures.same)
    c.remove.ensures.moments

pub returns-in-Err : goal.returns-in-Err
returns-in-Err g c =
    keeps_at_once (g.F.Folder.disk c.args.folder.now) (g.F.Folder.disk c.remove.new.self) (g.F.Folder.moments c.args.folder.now) (g.F.Folder.moments c.remove.new.self)
    (removed_spares c.remove.result (g.F.Folder.disk c.args.folder.now) (g.F.Folder.disk c.remove.new.self) c.args.path.now c.requires c.remove.ensures.removed c.remove.ensures.same)
    c.remove.ensures.moments
