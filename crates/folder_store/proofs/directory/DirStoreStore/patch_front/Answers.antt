use Rattle.std.proofs.Common.{map as map_list, rules, ◌≡◌, ◌∙◌, ◌+◌, ◌≤◌, ap, length, subst, sym, string_bytes, Some, IfSome, false}
use Rattle.std.specs.Option.{option_map}
use Rattle.vol_base.specs.Outside.{patched, Turns}
use Rattle.folder_store.proofs.MomentSteps.{turns_kept}
use Rattle.folder_store.specs.Disks.{objects_of, objects_at, is_object}
use Rattle.folder_store.specs.Shown.{Shown, draft_of, draft_in, shown_in}
use Rattle.folder_store.proofs.ObjectSteps.{spares_told}
use Rattle.folder_store.proofs.ShownSteps.{both_told, first_told, second_told, open_after, draft_at, fits_any, patched_any, patched_draft}
use Rattle.folder_store.proofs.directory.DirStoreStore.patch_front.Goals as goal

pub returns-in-Ok-clause-objects : goal.returns-in-Ok-clause-objects
returns-in-Ok-clause-objects g c = spares_told (g.F.Folder.disk c.self.inside.folder) (g.F.Folder.disk c.overwrite.new.folder) c.in-Ok.ensures.spared.spares ∙ ap (λ (s : Shown). s.objects) c.self.view_is

pub returns-in-Err-clause-objects : goal.returns-in-Err-clause-objects
returns-in-Err-clause-objects g c = spares_told (g.F.Folder.disk c.self.inside.folder) (g.F.Folder.disk c.overwrite.new.folder) c.in-Err.ensures.spared.spares ∙ ap (λ (s : Shown). s.objects) c.self.view_is

pub returns-in-Ok-clause-patched : goal.returns-in-Ok-clause-patched
returns-in-Ok-clause-patched g c =
    let old = g.F.Folder.disk c.self.inside.folder in
    let now = g.F.Folder.disk c.overwrite.new.folder in
    let is : c.self.inside.writing ≡ Some c.in-Some.unfinished = search rules in
    let draft = draft_at (λ w. w.name) (λ w. string_bytes w.path) (λ w. g.F.Folder.writes w.file) (λ w. w.len) old c.self.inside.writing c.in-Some.unfinished is (second_told old _ _ c.self.invariant.0) in
    let fits = fits_any (λ w. w.name) (λ w. string_bytes w.path) (λ w. g.F.Folder.writes w.file) (λ w. w.len) old c.self.inside.writing c.in-Some.unfinished (c.args.at + length c.args.piece.now) is draft (subst (λ (s : Shown). IfSome (draft_of s) (λ d. c.args.at + length c.args.piece.now ≤ d.len)) (sym c.self.view_is) c.requires.within) in
    subst (λ (s : Shown). Some (draft_in (option_map objects_of now) (shown_in now c.in-Ok.patched.name (g.F.Folder.writes c.in-Ok.patched.file) c.in-Ok.patched.len)) ≡ option_map (λ d. patched d c.args.at c.args.piece.now) (draft_of s)) c.self.view_is
    (patched_any (λ w. w.name) (λ w. string_bytes w.path) (λ w. g.F.Folder.writes w.file) (λ w. w.len) old now c.self.inside.writing c.in-Some.unfinished c.in-Ok.patched c.args.at c.args.piece.now is
    (draft_at (λ w. w.name) (λ w. string_bytes w.path) (λ w. g.F.Folder.writes w.file) (λ w. w.len) old c.self.inside.writing c.in-Some.unfinished is (second_told old _ _ c.self.invariant.0)) fits c.in-Ok.ensures.patched c.in-Ok.ensures.same.0 c.in-Ok.ensures.same.2 c.in-Ok.ensures.same.3)

pub invariant_of-self-in-Ok : goal.invariant_of-self-in-Ok
invariant_of-self-in-Ok g c =
    let old = g.F.Folder.disk c.self.inside.folder in
    let now = g.F.Folder.disk c.overwrite.new.folder in
    let is : c.self.inside.writing ≡ Some c.in-Some.unfinished = search rules in
    let draft = draft_at (λ w. w.name) (λ w. string_bytes w.path) (λ w. g.F.Folder.writes w.file) (λ w. w.len) old c.self.inside.writing c.in-Some.unfinished is (second_told old _ _ c.self.invariant.0) in
    let fits = fits_any (λ w. w.name) (λ w. string_bytes w.path) (λ w. g.F.Folder.writes w.file) (λ w. w.len) old c.self.inside.writing c.in-Some.unfinished (c.args.at + length c.args.piece.now) is draft (subst (λ (s : Shown). IfSome (draft_of s) (λ d. c.args.at + length c.args.piece.now ≤ d.len)) (sym c.self.view_is) c.requires.within) in
    let same = c.in-Ok.ensures.same in (
      both_told now _ _
          (open_after (λ o. o.name) (λ o. g.F.Folder.opened o.file) (λ o. o.len) old now c.self.inside.opened c.in-Ok.ensures.spared.spares (first_told old _ _ c.self.invariant.0))
          (patched_draft (λ w. w.name) (λ w. string_bytes w.path) (λ w. g.F.Folder.writes w.file) (λ w. w.len) old now c.in-Some.unfinished c.in-Ok.patched c.args.at c.args.piece.now draft fits c.in-Ok.ensures.patched same.0 (ap string_bytes same.1) same.2 same.3),
      ap is_object (ap string_bytes same.1) ∙ subst (λ o. IfSome o (λ w. is_object (string_bytes w.path) ≡ false)) is c.self.invariant.1,
    )

pub returns-in-Ok-clause-history : goal.returns-in-Ok-clause-history
returns-in-Ok-clause-history g c =
    subst (λ (s : Shown). Turns s.objects (option_map objects_of (g.F.Folder.disk c.overwrite.new.folder)) s.history (map_list objects_at (g.F.Folder.moments c.overwrite.new.folder))) c.self.view_is
    (turns_kept (g.F.Folder.disk c.self.inside.folder) (g.F.Folder.disk c.overwrite.new.folder) (g.F.Folder.moments c.self.inside.folder) (g.F.Folder.moments c.overwrite.new.folder) c.in-Ok.ensures.spared)

pub returns-in-Err-clause-history : goal.returns-in-Err-clause-history
returns-in-Err-clause-history g c =
    subst (λ (s : Shown). Turns s.objects (option_map objects_of (g.F.Folder.disk c.overwrite.new.folder)) s.history (map_list objects_at (g.F.Folder.moments c.overwrite.new.folder))) c.self.view_is
    (turns_kept (g.F.Folder.disk c.self.inside.folder) (g.F.Folder.disk c.overwrite.new.folder) (g.F.Folder.moments c.self.inside.folder) (g.F.Folder.moments c.overwrite.new.folder) c.in-Err.ensures.spared)
