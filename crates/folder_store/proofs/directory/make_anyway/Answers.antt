use Rattle.folder_store.proofs.MomentSteps.{keeps_same, keeps_joined}
use Rattle.folder_store.proofs.directory.make_anyway.Goals as goal

pub returns-clause-spared : goal.returns-clause-spared
returns-clause-spared g c =
    keeps_joined (g.F.Folder.disk c.args.folder.now) (g.F.Folder.disk c.make_parents.new.folder) (g.F.Folder.disk c.make_new.new.folder) (g.F.Folder.moments c.args.folder.now) (g.F.Folder.moments c.make_parents.new.folder) (g.F.Folder.moments c.make_new.new.folder)
    (keeps_same (g.F.Folder.disk c.args.folder.now) (g.F.Folder.disk c.make_parents.new.folder) (g.F.Folder.moments c.args.folder.now) (g.F.Folder.moments c.make_parents.new.folder) c.make_parents.ensures.same c.make_parents.ensures.moments)
    (keeps_joined (g.F.Folder.disk c.make_parents.new.folder) (g.F.Folder.disk c.make_room.new.folder) (g.F.Folder.disk c.make_new.new.folder) (g.F.Folder.moments c.make_parents.new.folder) (g.F.Folder.moments c.make_room.new.folder) (g.F.Folder.moments c.make_new.new.folder) c.make_room.ensures c.make_new.ensures.spared)
