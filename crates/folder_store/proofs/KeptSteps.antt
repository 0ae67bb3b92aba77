-- What is kept of files in memory, change by change.
use Rattle.std.proofs.Common.{◌≡◌, ◌≢◌, ℕ, ◌==◌, List, ◌∷◌, Bool, true, false, cond, Option, Some, None, IsSome, IfSome, string_bytes, refl, ap, sym, subst, ◌∙◌, inl, inr, ne_eqb}
use Rattle.std.proofs.lemmas.Bool.{cases_Bool}
use Rattle.std.specs.Option.{unwrap_or}
use Rattle.std.specs.Str.{bytes_eq}
use Rattle.std.specs.Cmp.Lexicographic.{bytes_decides}
use Rattle.folder_store.specs.Changes.{disk_of, kept_of, moment_of, told_path}
use Rattle.folder_store.specs.Disks.{file_at, is_object, IsApart, IsNew, IsSettled}
use Rattle.folder_store.specs.Power.{is_kept, KeepsKept}
use Rattle.folder_store.specs.declared.memory.Change.{Change}
use Rattle.folder_store.specs.declared.memory.Change.TheVariants.{Made, Wrote, Synced, Moved, Removed}
use Rattle.folder_store.proofs.ChangeSteps.{one_on}
use Rattle.folder_store.proofs.ObjectSteps.{other_path}
use Rattle.folder_store.proofs.PowerSteps.{is_kept_by, file_kept}

-- paths that differ
apart_paths : (p q : List ℕ) → p ≢ q → bytes_eq p q ≡ false
apart_paths p q h =
    elim (cases_Bool (bytes_eq p q)) [
      | inl same ↦ absurd (h ((bytes_decides p q).0 same))
      | inr apart ↦ apart
    ]

some_none : (n : ℕ) → ◌≡◌ {A = Option ℕ} (Some n) None → ⊥
some_none n e = cc

-- a change that tells nothing of an object's path leaves it kept, if it leaves the file so
stays_kept : (c : Change) (cs : List Change) (q : List ℕ) (n : ℕ) → told_path c q ≡ None → file_at (disk_of cs) q ≡ Some n → (moment_of (c ∷ cs)).kept n ≡ true → is_kept (moment_of (c ∷ cs)) q ≡ true
stays_kept c cs q n e h k = is_kept_by (moment_of (c ∷ cs)) q n (one_on c (disk_of cs) q ∙ ap (λ o. unwrap_or o (file_at (disk_of cs) q)) e ∙ h) k

pub made_keeps : (cs : List Change) (path : _) (number : ℕ) → file_at (disk_of cs) (string_bytes path) ≡ None → IsNew (disk_of cs) number → KeepsKept (moment_of cs) (moment_of (Made path number ∷ cs))
made_keeps cs path number none new q is kept =
    let there = file_kept (moment_of cs) q kept in
    let other : q ≢ string_bytes path = λ e. some_none there.0 (sym there.1 ∙ ap (file_at (disk_of cs)) e ∙ none) in
    stays_kept (Made path number) cs q there.0 (ap (λ b. cond b (Some (Some number)) None) (apart_paths q (string_bytes path) other)) there.1
    (ap (λ b. cond b false (kept_of cs there.0)) (ne_eqb there.0 number (λ e. new q (there.1 ∙ ap Some e))) ∙ there.2)

pub wrote_keeps : (cs : List Change) (number : ℕ) (content : _) → IsApart (disk_of cs) number → KeepsKept (moment_of cs) (moment_of (Wrote number content ∷ cs))
wrote_keeps cs number content apart q is kept =
    let there = file_kept (moment_of cs) q kept in
    stays_kept (Wrote number content) cs q there.0 refl there.1
    (ap (λ b. cond b false (kept_of cs there.0)) (ne_eqb there.0 number (λ e. apart q is (there.1 ∙ ap Some e))) ∙ there.2)

either_kept : (b x : Bool) → x ≡ true → cond b true x ≡ true
either_kept true x h = refl
either_kept false x h = h

pub synced_keeps : (cs : List Change) (number : ℕ) → KeepsKept (moment_of cs) (moment_of (Synced number ∷ cs))
synced_keeps cs number q is kept =
    let there = file_kept (moment_of cs) q kept in
    stays_kept (Synced number) cs q there.0 refl there.1 (either_kept (there.0 == number) (kept_of cs there.0) there.2)

pub removed_keeps : (cs : List Change) (path : _) → is_object (string_bytes path) ≡ false → KeepsKept (moment_of cs) (moment_of (Removed path ∷ cs))
removed_keeps cs path part q is kept =
    let there = file_kept (moment_of cs) q kept in
    stays_kept (Removed path) cs q there.0 (ap (λ b. cond b (Some None) None) (apart_paths q (string_bytes path) (other_path q (string_bytes path) is part))) there.1 there.2

moved_file : (cs : List Change) (from to : _) (number : ℕ) (q : List ℕ) → q ≡ string_bytes to → file_at (disk_of (Moved from to number ∷ cs)) q ≡ Some number
moved_file cs from to number q e =
    one_on (Moved from to number) (disk_of cs) q ∙ ap (λ b. unwrap_or (cond b (Some (Some number)) (cond (bytes_eq q (string_bytes from)) (Some None) None)) (file_at (disk_of cs) q)) ((bytes_decides q (string_bytes to)).1 e)

pub moved_keeps : (cs : List Change) (from to : _) (number : ℕ) → is_object (string_bytes from) ≡ false → file_at (disk_of cs) (string_bytes from) ≡ Some number → IsSettled (disk_of cs) (kept_of cs) (string_bytes from) (string_bytes to) → KeepsKept (moment_of cs) (moment_of (Moved from to number ∷ cs))
moved_keeps cs from to number part stands settled q is kept =
    let there = file_kept (moment_of cs) q kept in
    elim (cases_Bool (bytes_eq q (string_bytes to))) [
      | inl same ↦
          let e : q ≡ string_bytes to = (bytes_decides q (string_bytes to)).0 same in
          let some : IsSome (file_at (disk_of cs) (string_bytes to)) = subst IsSome (sym there.1 ∙ ap (file_at (disk_of cs)) e) refl in
          is_kept_by (moment_of (Moved from to number ∷ cs)) q number (moved_file cs from to number q e) (subst (λ o. IfSome o (λ n. kept_of cs n ≡ true)) stands (settled some))
      | inr apart ↦
          stays_kept (Moved from to number) cs q there.0
          (ap (λ b. cond b (Some (Some number)) (cond (bytes_eq q (string_bytes from)) (Some None) None)) apart
          ∙ ap (λ b. cond b (Some None) None) (apart_paths q (string_bytes from) (other_path q (string_bytes from) is part))) there.1 there.2
    ]
