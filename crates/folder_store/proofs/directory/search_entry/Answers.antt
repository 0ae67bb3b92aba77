use Rattle.std.proofs.Common.{◌∙◌, Ok, ap, refl, subst, string_bytes, map as map_list, IfOk, IfSome}
use Rattle.folder_store.specs.Searching.{JudgesPath}
use Rattle.folder_store.specs.declared.directory.Entry.TheVariants.{Nothing}
use Rattle.folder_store.proofs.SearchSteps.{nothing_passed}
use Rattle.folder_store.proofs.directory.search_entry.Goals as goal

pub returns-in-Nothing-clause-left : goal.returns-in-Nothing-clause-left
returns-in-Nothing-clause-left g c =
    let fs = map_list string_bytes c.args.folders.now.items in
    λ _. nothing_passed (g.F.Folder.disk c.args.folder.now) (string_bytes c.args.path) fs fs
    (subst (λ p. IfSome (g.F.Folder.disk c.args.folder.now) (λ d. JudgesPath d p Nothing)) c.as_str.ensures.value
    (subst (λ r. IfOk r (λ entry. IfSome (g.F.Folder.disk c.args.folder.now) (λ d. JudgesPath d c.as_str.result.now entry))) (c.in_ok-judge_entry.was ∙ ap Ok c.in-Nothing.is) c.judge_entry.ensures.judged)) refl
