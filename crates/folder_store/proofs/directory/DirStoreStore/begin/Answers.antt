use Rattle.std.proofs.Common.{map as map_list, ◌∙◌, ap, string_bytes, sym, subst, IfSome}
use Rattle.std.specs.Option.{option_map}
use Rattle.vol_base.specs.Outside.{Turns}
use Rattle.folder_store.proofs.MomentSteps.{turns_kept, keeps_joined}
use Rattle.folder_store.specs.Disks.{objects_of, objects_at}
use Rattle.folder_store.specs.Shown.{Shown, IsDraft}
use Rattle.folder_store.proofs.ObjectSteps.{spares_told}
use Rattle.folder_store.proofs.ToldSteps.{joined}
use Rattle.folder_store.proofs.ShownSteps.{open_after, both_told, first_told}
use Rattle.folder_store.proofs.directory.DirStoreStore.begin.Goals as goal

pub returns-in-Ok-clause-objects : goal.returns-in-Ok-clause-objects
returns-in-Ok-clause-objects g c = spares_told (g.F.Folder.disk c.self.inside.folder) (g.F.Folder.disk c.start.new.folder) (joined _ (g.F.Folder.disk c.drop_draft.new.folder) _ c.drop_draft.ensures.spared.spares c.in-Ok.ensures.spared.spares) ∙ ap (λ (s : Shown). s.objects) c.self.view_is

pub returns-in-Err-clause-objects : goal.returns-in-Err-clause-objects
returns-in-Err-clause-objects g c = spares_told (g.F.Folder.disk c.self.inside.folder) (g.F.Folder.disk c.start.new.folder) (joined _ (g.F.Folder.disk c.drop_draft.new.folder) _ c.drop_draft.ensures.spared.spares c.in-Err.ensures.spared.spares) ∙ ap (λ (s : Shown). s.objects) c.self.view_is

pub invariant_of-self : goal.invariant_of-self
invariant_of-self g c =
    let u = c.in-Ok.unfinished in
    let old = g.F.Folder.disk c.self.inside.folder in
    let now = g.F.Folder.disk c.start.new.folder in (
      both_told now _ _
          (open_after (λ o. o.name) (λ o. g.F.Folder.opened o.file) (λ o. o.len) old now c.self.inside.opened (joined old (g.F.Folder.disk c.drop_draft.new.folder) now c.drop_draft.ensures.spared.spares c.in-Ok.ensures.spared.spares) (first_told old _ _ c.self.invariant.0))
          (subst (λ n. IfSome now (λ d. IsDraft d n (string_bytes u.path) (g.F.Folder.writes u.file) u.len)) (sym c.in-Ok.ensures.name.0) (first_told now _ _ c.in-Ok.ensures.started)),
      c.in-Ok.ensures.name.2,
    )

pub returns-in-Ok-clause-history : goal.returns-in-Ok-clause-history
returns-in-Ok-clause-history g c =
    subst (λ (s : Shown). Turns s.objects (option_map objects_of (g.F.Folder.disk c.start.new.folder)) s.history (map_list objects_at (g.F.Folder.moments c.start.new.folder))) c.self.view_is
    (turns_kept (g.F.Folder.disk c.self.inside.folder) (g.F.Folder.disk c.start.new.folder) (g.F.Folder.moments c.self.inside.folder) (g.F.Folder.moments c.start.new.folder) (keeps_joined (g.F.Folder.disk c.self.inside.folder) (g.F.Folder.disk c.drop_draft.new.folder) (g.F.Folder.disk c.start.new.folder) (g.F.Folder.moments c.self.inside.folder) (g.F.Folder.moments c.drop_draft.new.folder) (g.F.Folder.moments c.start.new.folder) c.drop_draft.ensures.spared c.in-Ok.ensures.spared))

pub returns-in-Err-clause-history : goal.returns-in-Err-clause-history
returns-in-Err-clause-history g c =
    subst (λ (s : Shown). Turns s.objects (option_map objects_of (g.F.Folder.disk c.start.new.folder)) s.history (map_list objects_at (g.F.Folder.moments c.start.new.folder))) c.self.view_is
    (turns_kept (g.F.Folder.disk c.self.inside.folder) (g.F.Folder.disk c.start.new.folder) (g.F.Folder.moments c.self.inside.folder) (g.F.Folder.moments c.start.new.folder) (keeps_joined (g.F.Folder.disk c.self.inside.folder) (g.F.Folder.disk c.drop_draft.new.folder) (g.F.Folder.disk c.start.new.folder) (g.F.Folder.moments c.self.inside.folder) (g.F.Folder.moments c.drop_draft.new.folder) (g.F.Folder.moments c.start.new.folder) c.drop_draft.ensures.spared c.in-Err.ensures.spared))
