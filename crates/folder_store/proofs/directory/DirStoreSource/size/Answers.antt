use Rattle.std.proofs.Common.{◌≡◌, length, IfSome, subst}
use Rattle.std.specs.FinMap as map
use Rattle.std.specs.Option.{option_map}
use Rattle.folder_store.specs.Shown.{Shown}
use Rattle.folder_store.proofs.ObjectSteps.{size_told}
use Rattle.folder_store.proofs.directory.DirStoreSource.size.Goals as goal

pub returns-in-Ok-clause-found : goal.returns-in-Ok-clause-found
returns-in-Ok-clause-found g c =
    subst (λ (s : Shown). IfSome s.objects (λ m. c.size_of.result ≡ option_map length (map.get m c.args.name.now))) c.self.view_is
    (rw c.size_of.ensures (size_told _ (λ o. g.F.Folder.opened o.file) _ _ c.args.name.now _ c.in-Ok.ensures.name c.in-Ok.ensures.found))
