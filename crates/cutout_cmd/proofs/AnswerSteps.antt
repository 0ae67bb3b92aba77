-- What a cutout answers.
use Rattle.std.proofs.Common.{◌≡◌, ◌∙◌, ◌≤◌, ◌++◌, Option, None, Some, Result, Ok, Err, IfSome, arith, ap, length, length-append, refl, subst, sym, take}
use Rattle.std.specs.Bool.{⊤}
use Rattle.std.specs.Option.{option_map}
use Rattle.std.proofs.Math.Seq.{take-append_seam}
use Rattle.vol_base.specs.Gains.{Gains, GainsFront}
use Rattle.vol_base.specs.declared.boxes.Box3.{Box3}
use Rattle.vol_base.specs.Outside.{Objects}
use Rattle.vol_spec.specs.Types.{Bytes, Name}
use Rattle.vol_spec.specs.declared.scale.Scale.{Scale}
use Rattle.cutout.specs.Streaming.{IsFront, Streams}
use Rattle.cutout.specs.declared.fault.StreamFault.{StreamFault}
use Rattle.cutout.specs.declared.fault.StreamFault.TheVariants as broken
use Rattle.command_base.specs.Scales.{stored_scale}
use Rattle.cutout_cmd.specs.Cutouts.{broken_by, Cuts, CutsScale, IsBroken, IsRequest, Writes}
use Rattle.cutout_cmd.specs.declared.refusal.CutoutRefusal.{CutoutRefusal}
use Rattle.cutout_cmd.specs.declared.refusal.CutoutRefusal.TheVariants as refused

-- a front that was gained
pub front_gained : (old new : Option Bytes) (gained whole : Bytes) → Gains old new gained → IsFront gained whole → GainsFront old new whole
front_gained old new gained whole is (rest, joined) =
    let within : length gained ≤ length whole = omega (arith, length-append gained rest, ap length joined) in
    let front : take (length gained) whole ≡ gained = ap (take (length gained)) (sym joined) ∙ take-append_seam gained rest in
    (length gained, within, is ∙ ap (λ xs. option_map (λ w. w ++ xs) old) (sym front))

-- a box that isn't written whole, as what a cutout answers
pub broken_cuts : (fault : StreamFault) (m : Objects) (dataset : Name) (s : Scale) (part : Box3) (old new : Option Bytes) (gained : Bytes) → ¬ (fault ≡ broken.OutsideScale) → IsRequest s part
    → Gains old new gained → Streams (Err fault) m dataset s part gained → CutsScale (Err (broken_by fault)) m dataset s part old new
broken_cuts broken.OutsideScale m dataset s part old new gained inside request is streams = absurd (inside refl)
broken_cuts broken.StoreFault m dataset s part old new gained inside request is streams = front_gained old new gained _ is streams
broken_cuts (broken.Damaged cell fault) m dataset s part old new gained inside request is streams =
    (request, streams.0, subst (λ bytes. Gains old new bytes) streams.1 is, front_gained old new gained _ is streams.2)
broken_cuts broken.OutFault m dataset s part old new gained inside request is streams = (request, front_gained old new gained _ is streams)
broken_cuts broken.OutOfMemory m dataset s part old new gained inside request is streams = tt

pub broken_comes : (fault : StreamFault) → ¬ (fault ≡ broken.OutsideScale) → IsBroken (broken_by fault)
broken_comes broken.OutsideScale inside = absurd (inside refl)
broken_comes broken.StoreFault inside = tt
broken_comes (broken.Damaged cell fault) inside = tt
broken_comes broken.OutFault inside = tt
broken_comes broken.OutOfMemory inside = tt

pub broken_writes : (fault : StreamFault) (part : Box3) (old new : Option Bytes) → ¬ (fault ≡ broken.OutsideScale) → (fault ≡ broken.OutOfMemory → new ≡ old)
    → Writes (Err (broken_by fault)) part old new
broken_writes broken.OutsideScale part old new inside kept = absurd (inside refl)
broken_writes broken.StoreFault part old new inside kept = tt
broken_writes (broken.Damaged cell fault) part old new inside kept = tt
broken_writes broken.OutFault part old new inside kept = tt
broken_writes broken.OutOfMemory part old new inside kept = kept refl

pub broken_store : (fault : StreamFault) → ¬ (fault ≡ broken.OutsideScale) → broken_by fault ≡ refused.StoreFault → fault ≡ broken.StoreFault
broken_store broken.OutsideScale inside e = absurd (inside refl)
broken_store broken.StoreFault inside e = refl
broken_store (broken.Damaged cell fault) inside e = cc e
broken_store broken.OutFault inside e = cc e
broken_store broken.OutOfMemory inside e = cc e

pub broken_out : (fault : StreamFault) → ¬ (fault ≡ broken.OutsideScale) → broken_by fault ≡ refused.OutFault → fault ≡ broken.OutFault
broken_out broken.OutsideScale inside e = absurd (inside refl)
broken_out broken.StoreFault inside e = cc e
broken_out (broken.Damaged cell fault) inside e = cc e
broken_out broken.OutFault inside e = refl
broken_out broken.OutOfMemory inside e = cc e

-- what a cutout of the scale that is told answers
of_scale : (r : Result ⊤ CutoutRefusal) (m : Objects) (dataset : Name) (s : Scale) (part : Box3) (old new : Option Bytes) → CutsScale r m dataset s part old new → Cuts r (Ok s) m dataset part old new
of_scale (Ok done) m dataset s part old new h = h
of_scale (Err (refused.NoScale why)) m dataset s part old new h = absurd h
of_scale (Err (refused.Outside told all)) m dataset s part old new h = h
of_scale (Err (refused.TooLarge bytes)) m dataset s part old new h = h
of_scale (Err (refused.Damaged cell fault)) m dataset s part old new h = h
of_scale (Err refused.OutFault) m dataset s part old new h = h
of_scale (Err refused.StoreFault) m dataset s part old new h = h
of_scale (Err refused.NoMemory) m dataset s part old new h = tt

-- the same of the scale of a key
pub key_cuts : (r : Result ⊤ CutoutRefusal) (o same : Option Objects) (dataset key : Name) (s : Scale) (part : Box3) (old new : Option Bytes) → same ≡ o → IfSome o (λ m. stored_scale m dataset key ≡ Ok s)
    → IfSome same (λ m. CutsScale r m dataset s part old new) → IfSome o (λ m. Cuts r (stored_scale m dataset key) m dataset part old new)
key_cuts r None same dataset key s part old new kept is cuts = tt
key_cuts r (Some m) same dataset key s part old new kept is cuts =
    subst (λ told. Cuts r told m dataset part old new) (sym is) (of_scale r m dataset s part old new (subst (λ o. IfSome o (λ m. CutsScale r m dataset s part old new)) kept cuts))
