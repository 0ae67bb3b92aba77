use Rattle.std.proofs.Common.{◌≡◌, ◌∷◌, ◌∙◌, [], Ok, ap, subst, string_bytes, map as map_list, IfSome, MatchOption}
use Rattle.folder_store.specs.Searching.{IsPassed, IsObjectAt}
use Rattle.folder_store.proofs.SearchSteps.{progress_found, progress_more}
use Rattle.folder_store.proofs.directory.search_names.Goals as goal

pub returns-then-branch-clause-found : goal.returns-then-branch-clause-found
returns-then-branch-clause-found g c =
    let now = g.F.Folder.disk c.loop.folder in
    let coming = g.F.Folder.to_come c.loop.names in
    let rest = g.F.Folder.to_come c.next_path.new.names in
    let next = subst (λ r. IfSome now (λ _. MatchOption r (coming ≡ []) (λ path. coming ≡ string_bytes path ∷ rest))) c.in-Some.is c.in_ok-next_path.ensures.next in
    λ _. progress_found (g.F.Folder.disk c.args.folder.now) now (g.F.Folder.to_come c.args.names.now) coming rest (string_bytes c.in-Some.path) (map_list string_bytes c.args.folders.now.items) (map_list string_bytes c.loop.folders.items) c.loop.invariant.same c.loop.invariant.passed next
    (subst (λ o. IfSome o (λ d. IsObjectAt d (string_bytes c.in-Some.path))) c.next_path.ensures.same (c.search_entry.ensures.found (c.in_ok-search_entry-in-Some.was ∙ ap Ok c.if-branch.true)))

pub loop-preserved : goal.loop-preserved
loop-preserved g c =
    let now = g.F.Folder.disk c.loop.folder in
    let coming = g.F.Folder.to_come c.loop.names in
    let rest = g.F.Folder.to_come c.next_path.new.names in
    let fs = map_list string_bytes c.loop.folders.items in
    let gs = map_list string_bytes c.search_entry.new.folders.items in
    let next = subst (λ r. IfSome now (λ _. MatchOption r (coming ≡ []) (λ path. coming ≡ string_bytes path ∷ rest))) c.in-Some.is c.in_ok-next_path.ensures.next in
    record {
      passed = progress_more (g.F.Folder.disk c.args.folder.now) now (g.F.Folder.to_come c.args.names.now) coming rest (string_bytes c.in-Some.path) (map_list string_bytes c.args.folders.now.items) fs gs c.loop.invariant.same c.loop.invariant.passed next
          (subst (λ o. IfSome o (λ d. IsPassed d (string_bytes c.in-Some.path) fs gs)) c.next_path.ensures.same (c.search_entry.ensures.left (c.in_ok-search_entry-in-Some.was ∙ ap Ok c.if-branch.false)));
      same = c.search_entry.ensures.same ∙ c.next_path.ensures.same ∙ c.loop.invariant.same;
      moments = c.search_entry.ensures.moments ∙ c.next_path.ensures.moments ∙ c.loop.invariant.moments;
    }
