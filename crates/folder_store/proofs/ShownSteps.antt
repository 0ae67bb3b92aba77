-- What is seen of a store over a folder, call by call.
use Rattle.std.proofs.Common.{◌≡◌, ℕ, ◌+◌, ◌≤◌, List, [], ◌++◌, length, Option, Some, None, IfSome, ap, sym, subst, ◌∙◌, arith, rules}
use Rattle.std.specs.Option.{option_map}
use Rattle.std.proofs.lemmas.List.{places, same_lists}
use Rattle.std.proofs.lemmas.Grind.{common_steps}
use Rattle.vol_base.specs.Outside.{Draft, overwritten, begun, appended, patched, finished}
use Rattle.folder_store.specs.Disks.{Disk, objects_of, with_bytes, written, renamed}
use Rattle.folder_store.specs.Shown.{IsOpen, IsDraft, shown_in, draft_in, SparesTold}
use Rattle.folder_store.proofs.ObjectSteps.{open_spared}
use Rattle.folder_store.proofs.DraftSteps.{put_in, draft_written}
use Rattle.folder_store.proofs.WriteSteps.{there}

module _ {X : Type 0} (nm : X → List ℕ) (num : X → Option ℕ) (len : X → ℕ) where
  -- what is open stays so
  pub open_after : (old new : Option Disk) (opened : Option X) → SparesTold old new → IfSome old (λ d. IfSome opened (λ o. IsOpen d (nm o) (num o) (len o))) → IfSome new (λ d. IfSome opened (λ o. IsOpen d (nm o) (num o) (len o)))
  open_after None None opened s h = tt
  open_after None (Some e) opened s h = absurd s
  open_after (Some d) None opened s h = tt
  open_after (Some d) (Some e) None s h = tt
  open_after (Some d) (Some e) (Some o) s h = open_spared d e (nm o) (num o) (len o) s h

pub both_told : (disk : Option Disk) (P Q : Disk → Type 0) → IfSome disk P → IfSome disk Q → IfSome disk (λ d. P d × Q d)
both_told None P Q p q = tt
both_told (Some d) P Q p q = (p, q)

pub first_told : (disk : Option Disk) (P Q : Disk → Type 0) → IfSome disk (λ d. P d × Q d) → IfSome disk P
first_told None P Q h = tt
first_told (Some d) P Q h = h.0

pub second_told : (disk : Option Disk) (P Q : Disk → Type 0) → IfSome disk (λ d. P d × Q d) → IfSome disk Q
second_told None P Q h = tt
second_told (Some d) P Q h = h.1

pub begun_shown : (old new : Option Disk) (name : List ℕ) (number len : ℕ) → SparesTold old new → len ≡ 0 → IfSome new (λ d. d.holds number ≡ []) → draft_in (option_map objects_of new) (shown_in new name number len) ≡ begun (option_map objects_of old) name
begun_shown None None name number len s e h = ap (λ n. record { len = n; told = None }) e
begun_shown None (Some y) name number len s e h = absurd s
begun_shown (Some x) None name number len s e h = absurd s
begun_shown (Some x) (Some y) name number len s e h = ap (λ xs. record { len = length xs; told = Some (name, xs) }) h

over_end : (bytes piece : List ℕ) (len : ℕ) → len ≡ length bytes → overwritten bytes len piece ≡ bytes ++ piece
over_end bytes piece len e = same_lists _ _ (search (rules, places)) (λ k d b. grind (arith, places))

told_record : (name xs : List ℕ) (n : ℕ) → length xs ≡ n → ◌≡◌ {A = Draft} (record { len = length xs; told = Some (name, xs) }) (record { len = n; told = Some (name, xs) })
told_record name xs n e = ap (λ k. record { len = k; told = Some (name, xs) }) e

pub appended_shown : (old new : Option Disk) (name path piece : List ℕ) (number len longer : ℕ) → IfSome old (λ d. IsDraft d name path number len) → new ≡ option_map (λ d. written d number len piece) old → longer ≡ len + length piece → draft_in (option_map objects_of new) (shown_in new name number longer) ≡ appended (draft_in (option_map objects_of old) (shown_in old name number len)) piece
appended_shown None new name path piece number len longer draft e l =
    subst (λ o. draft_in (option_map objects_of o) (shown_in o name number longer) ≡ record { len = len + length piece; told = None }) (sym e) (ap (λ n. record { len = n; told = None }) l)
appended_shown (Some d) new name path piece number len longer draft e l =
    let bytes : (written d number len piece).holds number ≡ d.holds number ++ piece = there d number _ ∙ over_end (d.holds number) piece len draft.length_is in
    let sum : length (d.holds number ++ piece) ≡ length (d.holds number) + length piece = grind (arith, common_steps) in
    subst (λ o. draft_in (option_map objects_of o) (shown_in o name number longer) ≡ appended (record { len = length (d.holds number); told = Some (name, d.holds number) }) piece) (sym e)
    (ap (λ xs. record { len = length xs; told = Some (name, xs) }) bytes ∙ told_record name (d.holds number ++ piece) _ sum)

over_len : (bytes piece : List ℕ) (at : ℕ) → at + length piece ≤ length bytes → length (overwritten bytes at piece) ≡ length bytes
over_len bytes piece at fits = search (rules, places)

pub patched_shown : (old new : Option Disk) (name path piece : List ℕ) (number len at same : ℕ) → IfSome old (λ d. IsDraft d name path number len) → at + length piece ≤ len → new ≡ option_map (λ d. written d number at piece) old → same ≡ len → draft_in (option_map objects_of new) (shown_in new name number same) ≡ patched (draft_in (option_map objects_of old) (shown_in old name number len)) at piece
patched_shown None new name path piece number len at same draft fits e l =
    subst (λ o. draft_in (option_map objects_of o) (shown_in o name number same) ≡ record { len = len; told = None }) (sym e) (ap (λ n. record { len = n; told = None }) l)
patched_shown (Some d) new name path piece number len at same draft fits e l =
    let bytes : (written d number at piece).holds number ≡ overwritten (d.holds number) at piece = there d number _ in
    let long : length (overwritten (d.holds number) at piece) ≡ length (d.holds number) = over_len (d.holds number) piece at (subst (λ n. at + length piece ≤ n) draft.length_is fits) in
    subst (λ o. draft_in (option_map objects_of o) (shown_in o name number same) ≡ patched (record { len = length (d.holds number); told = Some (name, d.holds number) }) at piece) (sym e)
    (ap (λ xs. record { len = length xs; told = Some (name, xs) }) bytes ∙ told_record name (overwritten (d.holds number) at piece) _ long)

pub finished_shown : (old new : Option Disk) (name path : List ℕ) (number len : ℕ) → IfSome old (λ d. IsDraft d name path number len) → new ≡ option_map (λ d. renamed d path name) old → option_map objects_of new ≡ option_map (finished (draft_in (option_map objects_of old) (shown_in old name number len)).told) (option_map objects_of old)
finished_shown None new name path number len draft e = ap (option_map objects_of) e
finished_shown (Some d) new name path number len draft e = ap (option_map objects_of) e ∙ ap Some (put_in d name path number len draft)

pub draft_after : (old new : Option Disk) (name path bytes : List ℕ) (number len n : ℕ) → IfSome old (λ d. IsDraft d name path number len) → new ≡ option_map (λ d. with_bytes d number bytes) old → n ≡ length bytes → IfSome new (λ d. IsDraft d name path number n)
draft_after None new name path bytes number len n draft e l = subst (λ o. IfSome o (λ d. IsDraft d name path number n)) (sym e) tt
draft_after (Some d) new name path bytes number len n draft e l =
    subst (λ o. IfSome o (λ x. IsDraft x name path number n)) (sym e) (subst (λ k. IsDraft (with_bytes d number bytes) name path number k) (sym l) (draft_written d name path number len bytes draft))

pub patched_after : (old new : Option Disk) (name path piece : List ℕ) (number len at : ℕ) → IfSome old (λ d. IsDraft d name path number len) → at + length piece ≤ len → new ≡ option_map (λ d. written d number at piece) old → IfSome new (λ d. IsDraft d name path number len)
patched_after None new name path piece number len at draft fits e = subst (λ o. IfSome o (λ d. IsDraft d name path number len)) (sym e) tt
patched_after (Some d) new name path piece number len at draft fits e =
    let long : length (overwritten (d.holds number) at piece) ≡ len = over_len (d.holds number) piece at (subst (λ n. at + length piece ≤ n) draft.length_is fits) ∙ sym draft.length_is in
    subst (λ o. IfSome o (λ x. IsDraft x name path number len)) (sym e) (subst (λ k. IsDraft (written d number at piece) name path number k) long (draft_written d name path number len (overwritten (d.holds number) at piece) draft))

module _ {X : Type 0} (nm pt : X → List ℕ) (num len : X → ℕ) where
  -- the one that is being written
  pub draft_at : (disk : Option Disk) (writing : Option X) (w : X) → writing ≡ Some w → IfSome disk (λ d. IfSome writing (λ x. IsDraft d (nm x) (pt x) (num x) (len x))) → IfSome disk (λ d. IsDraft d (nm w) (pt w) (num w) (len w))
  draft_at disk writing w e h = subst (λ o. IfSome disk (λ d. IfSome o (λ x. IsDraft d (nm x) (pt x) (num x) (len x)))) e h

  pub finished_any : (old new : Option Disk) (writing : Option X) (w : X) → writing ≡ Some w → IfSome old (λ d. IsDraft d (nm w) (pt w) (num w) (len w)) → new ≡ option_map (λ d. renamed d (pt w) (nm w)) old → IfSome (option_map (draft_in (option_map objects_of old)) (option_map (λ x. shown_in old (nm x) (num x) (len x)) writing)) (λ d. option_map objects_of new ≡ option_map (finished d.told) (option_map objects_of old))
  finished_any old new writing w e draft put =
      subst (λ o. IfSome (option_map (draft_in (option_map objects_of old)) (option_map (λ x. shown_in old (nm x) (num x) (len x)) o)) (λ d. option_map objects_of new ≡ option_map (finished d.told) (option_map objects_of old))) (sym e)
      (finished_shown old new (nm w) (pt w) (num w) (len w) draft put)

  pub patched_any : (old new : Option Disk) (writing : Option X) (w v : X) (at : ℕ) (piece : List ℕ) → writing ≡ Some w → IfSome old (λ d. IsDraft d (nm w) (pt w) (num w) (len w)) → at + length piece ≤ len w → new ≡ option_map (λ d. written d (num w) at piece) old → nm v ≡ nm w → num v ≡ num w → len v ≡ len w
      → Some (draft_in (option_map objects_of new) (shown_in new (nm v) (num v) (len v))) ≡ option_map (λ d. patched d at piece) (option_map (draft_in (option_map objects_of old)) (option_map (λ x. shown_in old (nm x) (num x) (len x)) writing))
  patched_any old new writing w v at piece e draft fits put a b l =
      ap (λ n. Some (draft_in (option_map objects_of new) (shown_in new n (num v) (len v)))) a
      ∙ ap (λ n. Some (draft_in (option_map objects_of new) (shown_in new (nm w) n (len v)))) b
      ∙ ap Some (patched_shown old new (nm w) (pt w) piece (num w) (len w) at (len v) draft fits put l)
      ∙ sym (ap (λ o. option_map (λ d. patched d at piece) (option_map (draft_in (option_map objects_of old)) (option_map (λ x. shown_in old (nm x) (num x) (len x)) o))) e)

  -- what is asked of a patch, of the object's length
  fits_at : (old : Option Disk) (w : X) (n : ℕ) → IfSome old (λ d. IsDraft d (nm w) (pt w) (num w) (len w)) → n ≤ (draft_in (option_map objects_of old) (shown_in old (nm w) (num w) (len w))).len → n ≤ len w
  fits_at None w n draft h = h
  fits_at (Some d) w n draft h = subst (λ k. n ≤ k) (sym draft.length_is) h

  pub fits_any : (old : Option Disk) (writing : Option X) (w : X) (n : ℕ) → writing ≡ Some w → IfSome old (λ d. IsDraft d (nm w) (pt w) (num w) (len w)) → IfSome (option_map (draft_in (option_map objects_of old)) (option_map (λ x. shown_in old (nm x) (num x) (len x)) writing)) (λ d. n ≤ d.len) → n ≤ len w
  fits_any old writing w n e draft h =
      fits_at old w n draft (subst (λ o. IfSome (option_map (draft_in (option_map objects_of old)) (option_map (λ x. shown_in old (nm x) (num x) (len x)) o)) (λ d. n ≤ d.len)) e h)

  pub patched_draft : (old new : Option Disk) (w v : X) (at : ℕ) (piece : List ℕ) → IfSome old (λ d. IsDraft d (nm w) (pt w) (num w) (len w)) → at + length piece ≤ len w → new ≡ option_map (λ d. written d (num w) at piece) old → nm v ≡ nm w → pt v ≡ pt w → num v ≡ num w → len v ≡ len w → IfSome new (λ d. IsDraft d (nm v) (pt v) (num v) (len v))
  patched_draft old new w v at piece draft fits put a p b l =
      subst (λ x. IfSome new (λ d. IsDraft d x (pt v) (num v) (len v))) (sym a)
      (subst (λ x. IfSome new (λ d. IsDraft d (nm w) x (num v) (len v))) (sym p)
      (subst (λ x. IfSome new (λ d. IsDraft d (nm w) (pt w) x (len v))) (sym b)
      (subst (λ x. IfSome new (λ d. IsDraft d (nm w) (pt w) (num w) x)) (sym l) (patched_after old new (nm w) (pt w) piece (num w) (len w) at draft fits put))))
