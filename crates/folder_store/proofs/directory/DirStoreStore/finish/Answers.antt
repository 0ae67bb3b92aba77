use Rattle.std.proofs.Common.{map as map_list, rules, ◌≡◌, ◌∙◌, ap, subst, string_bytes, Some, IfSome}
use Rattle.std.specs.Option.{option_map}
use Rattle.vol_base.specs.Outside.{finished, Turns}
use Rattle.folder_store.proofs.MomentSteps.{turns_kept, turns_at}
use Rattle.folder_store.specs.Disks.{objects_of, objects_at}
use Rattle.folder_store.specs.Shown.{Shown, draft_of}
use Rattle.folder_store.proofs.ObjectSteps.{spares_told}
use Rattle.folder_store.proofs.ShownSteps.{second_told, draft_at, finished_any}
use Rattle.folder_store.proofs.directory.DirStoreStore.finish.Goals as goal

pub returns-in-Ok-clause-finished : goal.returns-in-Ok-clause-finished
returns-in-Ok-clause-finished g c =
    let old = g.F.Folder.disk c.self.inside.folder in
    let now = g.F.Folder.disk c.put.new.folder in
    let is : c.self.inside.writing ≡ Some c.in-Some.unfinished = search rules in
    subst (λ (s : Shown). IfSome (draft_of s) (λ d. option_map objects_of now ≡ option_map (finished d.told) s.objects)) c.self.view_is
    (finished_any (λ w. w.name) (λ w. string_bytes w.path) (λ w. g.F.Folder.writes w.file) (λ w. w.len) old now c.self.inside.writing c.in-Some.unfinished is
    (draft_at (λ w. w.name) (λ w. string_bytes w.path) (λ w. g.F.Folder.writes w.file) (λ w. w.len) old c.self.inside.writing c.in-Some.unfinished is (second_told old _ _ c.self.invariant.0)) c.in-Ok.ensures.put)

pub returns-in-Err-clause-refused : goal.returns-in-Err-clause-refused
returns-in-Err-clause-refused g c =
    rw c.refuse-in-Err.ensures.result (spares_told (g.F.Folder.disk c.self.inside.folder) (g.F.Folder.disk c.put.new.folder) c.in-Err.ensures.spared.spares ∙ ap (λ (s : Shown). s.objects) c.self.view_is)

pub returns-in-Ok-clause-history : goal.returns-in-Ok-clause-history
returns-in-Ok-clause-history g c =
    subst (λ (s : Shown). Turns s.objects (option_map objects_of (g.F.Folder.disk c.put.new.folder)) s.history (map_list objects_at (g.F.Folder.moments c.put.new.folder))) c.self.view_is
    (turns_at (g.F.Folder.disk c.self.inside.folder) (g.F.Folder.disk c.put.new.folder) (g.F.Folder.moments c.self.inside.folder) (g.F.Folder.moments c.put.new.folder) c.in-Ok.ensures.turned)

pub returns-in-Err-clause-history : goal.returns-in-Err-clause-history
returns-in-Err-clause-history g c =
    subst (λ (s : Shown). Turns s.objects (option_map objects_of (g.F.Folder.disk c.put.new.folder)) s.history (map_list objects_at (g.F.Folder.moments c.put.new.folder))) c.self.view_is
    (turns_kept (g.F.Folder.disk c.self.inside.folder) (g.F.Folder.disk c.put.new.folder) (g.F.Folder.moments c.self.inside.folder) (g.F.Folder.moments c.put.new.folder) c.in-Err.ensures.spared)
