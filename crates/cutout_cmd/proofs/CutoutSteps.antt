-- How a cutout ends that is refused.
use Rattle.std.proofs.Common.{◌≡◌, ◌∙◌, ◌⊎◌, Option, Result, Ok, Err, arith, ap, refl, inl, inr, ⊎_elim}
use Rattle.std.specs.Prelude.{IsOkAnd}
use Rattle.vol_base.specs.declared.boxes.Box3.{Box3}
use Rattle.vol_base.specs.Outside.{Objects}
use Rattle.vol_shell.specs.Lines.{memory_line}
use Rattle.vol_spec.proofs.Told.{in_told}
use Rattle.vol_spec.specs.Types.{Name}
use Rattle.vol_spec.specs.declared.scale.Scale.{Scale}
use Rattle.command_base.specs.Ending.{EndsWell, Refuses}
use Rattle.command_base.specs.Outlets.{Outlets, Silent, Tells}
use Rattle.command_base.specs.Scales.{stored_scale}
use Rattle.command_base.specs.declared.refusal.NoScale.{NoScale as WhyNot}
use Rattle.command_base.specs.declared.status.Status.{Status}
use Rattle.command_base.specs.declared.status.Status.TheVariants.{NoMemory as MemoryStatus}
use Rattle.cutout_cmd.specs.Cutouts.{CanCut, Cuts, CutsOut, CutsScale, IsRightCut, IsSound}
use Rattle.cutout_cmd.specs.Refusals.{cutout_line, cutout_status}
use Rattle.cutout_cmd.specs.declared.refusal.CutoutRefusal.{CutoutRefusal}
use Rattle.cutout_cmd.specs.declared.refusal.CutoutRefusal.TheVariants.{NoScale, Outside, TooLarge, Damaged, StoreFault, OutFault, NoMemory}

-- want of memory is a right answer where nothing was written,
pub memory_right : (told : Option Objects) (dataset key : Name) (part : Box3) (o : Outlets) → Silent o → IsRightCut (Err NoMemory) told dataset key part o
memory_right told dataset key part o silent = record { cuts = in_told told _ (λ m is. tt); writes = silent }

-- and the command ends so where that is told
pub memory_ends : (told : Option Objects) (dataset key : Name) (part : Box3) (o : Outlets) → Silent o → Tells o memory_line → CutsOut MemoryStatus told dataset key part o
memory_ends told dataset key part o silent tells = (Err NoMemory, memory_right told dataset key part o silent, inl (refl, tells))

-- a scale that is there is one that each fact of it holds of
clash : (told : Result Scale WhyNot) (P Q : Scale → Type 0) → IsOkAnd told P → IsOkAnd told Q → ((s : Scale) → P s → Q s → ⊥) → ⊥
clash (Ok s) P Q p q f = f s p q
clash (Err why) P Q p q f = p

unscaled : (told : Result Scale WhyNot) (why : WhyNot) (P : Scale → Type 0) → told ≡ Err why → IsOkAnd told P → ⊥
unscaled (Ok s) why P is p = cc is
unscaled (Err other) why P is p = p

-- a box that can be cut out is refused only where a store, an outlet or memory fails
cut_refused : (refusal : CutoutRefusal) (m : Objects) (dataset key : Name) (part : Box3) (o : Outlets) → Cuts (Err refusal) (stored_scale m dataset key) m dataset part o.out_old o.out_new → CanCut m dataset key part
    → (refusal ≡ StoreFault) ⊎ ((refusal ≡ OutFault) ⊎ (refusal ≡ NoMemory))
cut_refused (NoScale why) m dataset key part o cuts can = absurd (unscaled (stored_scale m dataset key) why (λ s. IsSound m dataset s part) cuts can)
cut_refused (Outside asked all) m dataset key part o cuts can =
    absurd (clash (stored_scale m dataset key) (λ s. CutsScale (Err (Outside asked all)) m dataset s part o.out_old o.out_new) (λ s. IsSound m dataset s part) cuts can (λ s h k. h.2 k.0.0))
cut_refused (TooLarge bytes) m dataset key part o cuts can =
    absurd (clash (stored_scale m dataset key) (λ s. CutsScale (Err (TooLarge bytes)) m dataset s part o.out_old o.out_new) (λ s. IsSound m dataset s part) cuts can (λ s h k.
    let over = h.1 in
    let within = k.0.1 in omega (arith, over, within)))
cut_refused (Damaged cell fault) m dataset key part o cuts can =
    absurd (clash (stored_scale m dataset key) (λ s. CutsScale (Err (Damaged cell fault)) m dataset s part o.out_old o.out_new) (λ s. IsSound m dataset s part) cuts can (λ s h k.
    let some = h.1 in
    let none = k.1 in cc (some, none)))
cut_refused StoreFault m dataset key part o cuts can = inl refl
cut_refused OutFault m dataset key part o cuts can = inr (inl refl)
cut_refused NoMemory m dataset key part o cuts can = inr (inr refl)

pub cutout_complete : (refusal : CutoutRefusal) (status : Status) (m : Objects) (dataset key : Name) (part : Box3) (o : Outlets) → Cuts (Err refusal) (stored_scale m dataset key) m dataset part o.out_old o.out_new
    → CanCut m dataset key part → ¬ (refusal ≡ StoreFault) → ¬ (refusal ≡ OutFault) → Refuses cutout_status (cutout_line dataset) refusal status o → EndsWell status
cutout_complete refusal status m dataset key part o cuts can stored written (inr told) = inr told.0
cutout_complete refusal status m dataset key part o cuts can stored written (inl told) =
    ⊎_elim (λ is. absurd (stored is)) (λ rest. ⊎_elim (λ is. absurd (written is)) (λ is. inr (told.0 ∙ ap cutout_status is)) rest) (cut_refused refusal m dataset key part o cuts can)
