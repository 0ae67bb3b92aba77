use Rattle.std.proofs.Common.{◌≡◌, IfSome, map as map_list, string_bytes}
use Rattle.folder_store.specs.Searching.{Progress}
use Rattle.folder_store.proofs.directory.search_names.Given as goal

-- the paths that came are dealt with
abbrev pub invariant-loop : goal.invariant-loop
invariant-loop g l = record {
  passed : IfSome (g.F.Folder.disk l.fn.folder) (λ d. Progress d (g.F.Folder.to_come l.fn.names) (g.F.Folder.to_come l.names) (map_list string_bytes l.fn.folders.items) (map_list string_bytes l.folders.items));
  same : g.F.Folder.disk l.folder ≡ g.F.Folder.disk l.fn.folder;
  moments : g.F.Folder.moments l.folder ≡ g.F.Folder.moments l.fn.folder;
}
