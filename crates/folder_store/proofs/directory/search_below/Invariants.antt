use Rattle.std.proofs.Common.{◌≡◌, IfSome, map as map_list, string_bytes}
use Rattle.folder_store.specs.Searching.{AreLeft}
use Rattle.folder_store.proofs.directory.search_below.Given as goal

-- the folders that are left
abbrev pub invariant-loop : goal.invariant-loop
invariant-loop g l = record {
  left : IfSome (g.F.Folder.disk l.fn.folder) (λ d. AreLeft d l.name (map_list string_bytes l.folders.items));
  same : g.F.Folder.disk l.folder ≡ g.F.Folder.disk l.fn.folder;
  moments : g.F.Folder.moments l.folder ≡ g.F.Folder.moments l.fn.folder;
}
