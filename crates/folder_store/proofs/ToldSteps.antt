-- Calls on a folder, where its disk is told and where it isn't.
use Rattle.std.proofs.Common.{◌≡◌, ℕ, ◌+◌, ◌≤◌, List, [], length, take, false, Option, Some, None, IfSome, Result, Ok, Err, OnOk, OnErr, refl, ap, sym, subst, ◌∙◌, arith}
use Rattle.std.specs.Option.{option_map}
use Rattle.std.proofs.lemmas.Grind.{common_steps}
use Rattle.vol_base.specs.Outside.{overwritten}
use Rattle.folder_store.specs.Disks.{Disk, file_at, IsNew, is_object, with_bytes, made, written, removed}
use Rattle.folder_store.specs.Shown.{IsFresh, IsDraft, SparesTold}
use Rattle.folder_store.proofs.ObjectSteps.{spares_made, spares_removed, spares_with_bytes, spares_itself, spares_twice}
use Rattle.folder_store.proofs.WriteSteps.{there, with_same}
use Rattle.folder_store.proofs.DraftSteps.{fresh_made, no_object}

pub same_spares : (old new : Option Disk) → new ≡ old → SparesTold old new
same_spares old new e = subst (SparesTold old) (sym e) (spares_itself old)

pub removed_spares : {T E : Type 0} (r : Result T E) (old new : Option Disk) (path : List ℕ) → is_object path ≡ false → OnOk r (new ≡ option_map (λ d. removed d path) old) → OnErr r (new ≡ old) → SparesTold old new
removed_spares (Ok x) None new path part e f = same_spares None new e
removed_spares (Ok x) (Some d) new path part e f = subst (SparesTold (Some d)) (sym e) (spares_removed d path part)
removed_spares (Err x) old new path part e f = same_spares old new f

-- the file of a draft is removed
pub discarded : {T E : Type 0} (r : Result T E) (old new : Option Disk) (name path : List ℕ) (number len : ℕ) → IfSome old (λ d. IsDraft d name path number len) → OnOk r (new ≡ option_map (λ d. removed d path) old) → OnErr r (new ≡ old) → SparesTold old new
discarded (Ok x) None new name path number len draft e f = same_spares None new e
discarded (Err x) None new name path number len draft e f = same_spares None new f
discarded r (Some d) new name path number len draft e f = removed_spares r (Some d) new path (no_object d name path number len draft) e f

pub made_spares : (old new : Option Disk) (path : List ℕ) (number : ℕ) → is_object path ≡ false → new ≡ option_map (λ d. made d path number) old → IfSome old (λ d. IsNew d number × (file_at d path ≡ None)) → SparesTold old new
made_spares None new path number part e h = same_spares None new e
made_spares (Some d) new path number part e h = subst (SparesTold (Some d)) (sym e) (spares_made d path number part h.0)

pub made_fresh : (old new : Option Disk) (path : List ℕ) (number : ℕ) → new ≡ option_map (λ d. made d path number) old → IfSome old (λ d. IsNew d number × (file_at d path ≡ None)) → IfSome new (λ d. IsFresh d path number)
made_fresh None new path number e h = subst (λ o. IfSome o (λ d. IsFresh d path number)) (sym e) tt
made_fresh (Some d) new path number e h = subst (λ o. IfSome o (λ x. IsFresh x path number)) (sym e) (fresh_made d path number h.0)

pub joined : (a b c : Option Disk) → SparesTold a b → SparesTold b c → SparesTold a c
joined = spares_twice

-- a call that left the file as it was
pub left_same : (old new : Option Disk) (number : ℕ) → new ≡ old → (bytes : List ℕ) × (new ≡ option_map (λ d. with_bytes d number bytes) old)
left_same None new number e = ([], e)
left_same (Some d) new number e = (d.holds number, e ∙ ap Some (sym (with_same d number (d.holds number) refl)))

pub left_none : (old p new : Option Disk) (number at : ℕ) (piece : List ℕ) → p ≡ old → new ≡ option_map (λ d. written d number at piece) p → (bytes : List ℕ) × (new ≡ option_map (λ d. with_bytes d number bytes) old)
left_none None p new number at piece s e = ([], e ∙ ap (option_map (λ d. written d number at piece)) s)
left_none (Some d) p new number at piece s e = (overwritten (d.holds number) at piece, e ∙ ap (option_map (λ x. written x number at piece)) s)

-- there is room for the next piece
room_over : (bytes piece : List ℕ) (at done : ℕ) → at ≤ length bytes → done ≤ length piece → at + done ≤ length (overwritten bytes at (take done piece))
room_over bytes piece at done fits few =
    let front : length (take at bytes) ≡ at = grind (arith, common_steps) in
    let mid : length (take done piece) ≡ done = grind (arith, common_steps) in
    grind (arith, common_steps, front, mid)

pub room_told : (old now : Option Disk) (number at done : ℕ) (piece : List ℕ) → IfSome old (λ d. at ≤ length (d.holds number)) → done ≤ length piece → now ≡ option_map (λ d. written d number at (take done piece)) old → IfSome now (λ d. at + done ≤ length (d.holds number))
room_told None now number at done piece fits few e = subst (λ o. IfSome o (λ d. at + done ≤ length (d.holds number))) (sym e) tt
room_told (Some d) now number at done piece fits few e =
    subst (λ o. IfSome o (λ x. at + done ≤ length (x.holds number))) (sym e) (subst (λ xs. at + done ≤ length xs) (sym (there d number _)) (room_over (d.holds number) piece at done fits few))

-- a draft whose file a write changed
pub written_spares : (old new : Option Disk) (name path : List ℕ) (number k len : ℕ) → k ≡ number → IfSome old (λ d. IsDraft d name path number len) → ((bytes : List ℕ) × (new ≡ option_map (λ d. with_bytes d k bytes) old)) → SparesTold old new
written_spares None new name path number k len same draft h = same_spares None new h.1
written_spares (Some d) new name path number k len same draft h =
    subst (SparesTold (Some d)) (sym (h.1 ∙ ap (λ m. Some (with_bytes d m h.0)) same)) (spares_with_bytes d name path number len h.0 draft)
