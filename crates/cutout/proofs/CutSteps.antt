-- What a cutout answers.
use Rattle.std.proofs.Common.{◌≡◌, ◌+◌, ◌∙◌, ap, arith, length, Option, Some, None, Ok, Err, IfSome}
use Rattle.vol_base.specs.declared.boxes.Box3.{Box3}
use Rattle.vol_base.specs.Bytes.{AreBytes}
use Rattle.vol_base.specs.Outside.{Objects}
use Rattle.vol_spec.proofs.CutSteps.{is_cut}
use Rattle.vol_spec.specs.Chunks.{value_in}
use Rattle.vol_spec.specs.Grid.{Inside}
use Rattle.vol_spec.specs.Raw.{raw_len}
use Rattle.vol_spec.specs.Types.{Bytes, Name}
use Rattle.vol_spec.specs.declared.scale.Scale.{Scale}
use Rattle.cutout.specs.declared.channels.Channels.{Channels}
use Rattle.cutout.specs.Reading.{HasCut, ReadsAll, ReadWhole}
use Rattle.cutout.specs.declared.fault.CutFault.{CutFault}
use Rattle.cutout.specs.declared.fault.CutFault.TheVariants.{OutsideScale, StoreFault, Damaged}

-- bytes that hold the value of each voxel are the cutout
has_cut : (m : Objects) (dataset : Name) (s : Scale) (part : Box3) (picked : Channels) (out : Bytes) → ReadWhole m dataset s part picked out → picked.first ≡ 0 → picked.count ≡ s.channels → Inside s part
    → length out ≡ raw_len part s.channels s.width → AreBytes out → HasCut (Ok tt) m dataset s part out
has_cut m dataset s part picked out whole first count inside len small = (
  whole.sound,
  is_cut m dataset s part out inside.some len small (λ p c covered low.
      ap (value_in m dataset s p) (let same : c ≡ picked.first + c = omega (arith, first) in same) ∙ whole.values p c covered (omega (arith, low, count))),
)

-- what stands against reading the cells stands against the cutout
has_none : (fault : CutFault) (m : Objects) (dataset : Name) (s : Scale) (part : Box3) (picked : Channels) (out : Bytes) → ReadsAll (Err fault) m dataset s part picked out → HasCut (Err fault) m dataset s part out
has_none OutsideScale m dataset s part picked out read = tt
has_none StoreFault m dataset s part picked out read = tt
has_none (Damaged cell fault) m dataset s part picked out read = read

-- the same where the objects may be untold
pub cut_told : (o : Option Objects) (dataset : Name) (s : Scale) (part : Box3) (picked : Channels) (out : Bytes) → picked.first ≡ 0 → picked.count ≡ s.channels → Inside s part → length out ≡ raw_len part s.channels s.width → AreBytes out
    → IfSome o (λ m. ReadsAll (Ok tt) m dataset s part picked out) → IfSome o (λ m. HasCut (Ok tt) m dataset s part out)
cut_told None dataset s part picked out first count inside len small read = tt
cut_told (Some m) dataset s part picked out first count inside len small read = has_cut m dataset s part picked out read first count inside len small

pub none_told : (o : Option Objects) (fault : CutFault) (dataset : Name) (s : Scale) (part : Box3) (picked : Channels) (out : Bytes) → IfSome o (λ m. ReadsAll (Err fault) m dataset s part picked out)
    → IfSome o (λ m. HasCut (Err fault) m dataset s part out)
none_told None fault dataset s part picked out read = tt
none_told (Some m) fault dataset s part picked out read = has_none fault m dataset s part picked out read
