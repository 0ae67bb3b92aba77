use Rattle.std.proofs.Common.{◌≡◌, ◌++◌, ◌∷◌, ◌∙◌, [], rules, Ok, ap, subst, length, string_bytes, map as map_list, IfSome}
use Rattle.folder_store.specs.Searching.{HasBelow, IsSearched}
use Rattle.folder_store.proofs.SearchSteps.{below_found, none_below, left_more, popped_paths, none_popped}
use Rattle.folder_store.proofs.directory.search_below.Goals as goal

pub returns-in_default-pop-clause-found : goal.returns-in_default-pop-clause-found
returns-in_default-pop-clause-found g c =
    let none : length c.loop.folders.items ≡ 0 = search rules in
    none_below (g.F.Folder.disk c.args.folder.now) c.args.name.now (map_list string_bytes c.loop.folders.items) c.loop.invariant.left (none_popped string_bytes c.loop.folders.items c.pop.new.self.items c.pop.result none)

pub returns-then-branch-clause-found : goal.returns-then-branch-clause-found
returns-then-branch-clause-found g c =
    let cut : map_list string_bytes c.loop.folders.items ≡ map_list string_bytes c.pop.new.self.items ++ string_bytes c.in-Some.path ∷ [] = popped_paths string_bytes c.loop.folders.items c.pop.new.self.items c.pop.result c.in-Some.path c.pop.ensures.items c.in-Some.is in
    below_found (g.F.Folder.disk c.args.folder.now) (g.F.Folder.disk c.loop.folder) c.args.name.now (string_bytes c.in-Some.path) (map_list string_bytes c.loop.folders.items) (map_list string_bytes c.pop.new.self.items) c.loop.invariant.same c.loop.invariant.left cut
    (subst (λ p. IfSome (g.F.Folder.disk c.loop.folder) (λ d. HasBelow d p)) c.as_str.ensures.value (c.search_folder.ensures.found (c.in_ok-search_folder.was ∙ ap Ok c.if-branch.true)))

pub loop-preserved : goal.loop-preserved
loop-preserved g c =
    let cut : map_list string_bytes c.loop.folders.items ≡ map_list string_bytes c.pop.new.self.items ++ string_bytes c.in-Some.path ∷ [] = popped_paths string_bytes c.loop.folders.items c.pop.new.self.items c.pop.result c.in-Some.path c.pop.ensures.items c.in-Some.is in
    let fs = map_list string_bytes c.pop.new.self.items in
    let gs = map_list string_bytes c.search_folder.new.folders.items in
    record {
      left = left_more (g.F.Folder.disk c.args.folder.now) (g.F.Folder.disk c.loop.folder) c.args.name.now (string_bytes c.in-Some.path) (map_list string_bytes c.loop.folders.items) fs gs c.loop.invariant.same c.loop.invariant.left cut
          (subst (λ p. IfSome (g.F.Folder.disk c.loop.folder) (λ d. IsSearched d p fs gs)) c.as_str.ensures.value (c.search_folder.ensures.left (c.in_ok-search_folder.was ∙ ap Ok c.if-branch.false)));
      same = c.search_folder.ensures.same ∙ c.loop.invariant.same;
      moments = c.search_folder.ensures.moments ∙ c.loop.invariant.moments;
    }
