use Rattle.folder_store.proofs.PowerSteps.{survives}
use Rattle.folder_store.proofs.directory.DirStore.into_folder.Goals as goal

pub returns-clause-power : goal.returns-clause-power
returns-clause-power g c = survives (g.F.Folder.moments c.self.inside.folder) (g.F.Folder.lasts c.self.inside.folder)
