-- A buffer that is filled piece by piece.
use Rattle.std.proofs.Common.{◌≡◌, ℕ, ◌+◌, ◌≤◌, List, ◌++◌, length, take, drop, ap, sym, subst, Option, Some, None, IfSome, min, ◌-◌, ◌∙◌, arith, rules}
use Rattle.std.specs.FinMap as map
use Rattle.std.proofs.Math.Seq.{take-add}
use Rattle.std.proofs.lemmas.List.{drop-drop, places, same_lists}
use borrow.Rule.Slice.PartMut.{put_mid}
use Rattle.vol_base.specs.Outside.{Reads}
use Rattle.vol_base.specs.declared.outside.Got.TheVariants.{Bytes}
use Rattle.folder_store.specs.Disks.{Disk, objects_of}
use Rattle.folder_store.specs.Shown.{IsOpen}
use Rattle.folder_store.proofs.ObjectSteps.{object_there}

-- n bytes more, behind those that are there
pub filled_more : (whole out new : List ℕ) (at done n : ℕ) → take done out ≡ take done (drop at whole) → done ≤ length out → n ≤ length new → take n new ≡ take n (drop (at + done) whole) → take (done + n) (take done out ++ new) ≡ take (done + n) (drop at whole)
filled_more whole out new at done n h fits few e =
    let front : take (done + n) (take done out ++ new) ≡ take done out ++ take n new = same_lists _ _ (search (rules, places)) (λ k d b. grind (arith, places)) in
    front ∙ ap (λ xs. xs ++ take n new) h ∙ ap (λ xs. take done (drop at whole) ++ xs) (e ∙ ap (take n) (sym (drop-drop done at whole))) ∙ sym (take-add done n (drop at whole))

pub filled_told : (disk p : Option Disk) (number : Option ℕ) (out new : List ℕ) (at done n : ℕ) → p ≡ disk → IfSome disk (λ d. IfSome number (λ k. take done out ≡ take done (drop at (d.holds k)))) → done ≤ length out → n ≤ length new → length new ≡ length out - done → IfSome p (λ d. IfSome number (λ k. take n new ≡ take n (drop (at + done) (d.holds k)))) → IfSome disk (λ d. IfSome number (λ k. take (done + n) (put_mid done (length out - done) out new) ≡ take (done + n) (drop at (d.holds k))))
filled_told None p number out new at done n same was fits few long now = tt
filled_told (Some d) p None out new at done n same was fits few long now = tt
filled_told (Some d) p (Some k) out new at done n same was fits few long now =
    let put : put_mid done (length out - done) out new ≡ take done out ++ new = same_lists _ _ (search (rules, places)) (λ i x b. grind (arith, places)) in
    let here : take n new ≡ take n (drop (at + done) (d.holds k)) = subst (λ o. IfSome o (λ e. take n new ≡ take n (drop (at + done) (e.holds k)))) same now in
    ap (take (done + n)) put ∙ filled_more (d.holds k) out new at done n was fits few here

-- what a read of an object leaves in the buffer
pub reads_part : (bytes old new : List ℕ) (at len n : ℕ) → len ≡ length bytes → n ≡ min (len - at) (length old) → new ≡ take n (drop at bytes) ++ drop n old → Reads (Some bytes) at old new (Bytes n)
reads_part bytes old new at len n e m h =
    let front : take n (drop at bytes) ≡ take (length old) (drop at bytes) = same_lists _ _ (search (rules, places)) (λ i x b. grind (arith, places)) in
    let count : n ≡ length (take (length old) (drop at bytes)) = search (rules, places) in
    record {
      got = ap Bytes count;
      bytes = h ∙ ap (λ xs. xs ++ drop n old) front ∙ ap (λ k. take (length old) (drop at bytes) ++ drop k old) count;
    }

reads_open : (d : Disk) (name old new : List ℕ) (number : Option ℕ) (at len n : ℕ) → IsOpen d name number len → n ≡ min (len - at) (length old) → IfSome number (λ k. new ≡ take n (drop at (d.holds k)) ++ drop n old) → Reads (map.get (objects_of d) name) at old new (Bytes n)
reads_open d name old new number at len n is m h =
    let now : new ≡ take n (drop at (d.holds is.file)) ++ drop n old = subst (λ o. IfSome o (λ k. new ≡ take n (drop at (d.holds k)) ++ drop n old)) is.opened h in
    subst (λ o. Reads o at old new (Bytes n)) (sym (object_there d name is.file is.is is.stands)) (reads_part (d.holds is.file) old new at len n is.length_is m now)

pub reads_told : (disk : Option Disk) (name old new : List ℕ) (number : Option ℕ) (at len n : ℕ) → IfSome disk (λ d. IsOpen d name number len) → n ≡ min (len - at) (length old) → IfSome disk (λ d. IfSome number (λ k. new ≡ take n (drop at (d.holds k)) ++ drop n old)) → IfSome disk (λ d. Reads (map.get (objects_of d) name) at old new (Bytes n))
reads_told None name old new number at len n is m h = tt
reads_told (Some d) name old new number at len n is m h = reads_open d name old new number at len n is m h
