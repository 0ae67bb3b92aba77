-- What is judged before a scale is copied (this project's profile): that both scales are of one volume.
use Rattle.std.specs.Prelude.{◌≡◌, Result}
use Rattle.vol_spec.specs.Copies.{AreOfOneVolume}
use Rattle.vol_spec.specs.declared.scale.Scale.{Scale}
use Rattle.info_doc.specs.declared.fault.Item.{Item}
use Rattle.make_scale.specs.Judging.{DiffersAt, JudgesAs}
use Rattle.make_scale.specs.declared.fault.MakeFault.{MakeFault as ReshardFault}

-- the first item in which two scales differ
abbrev pub DiffersFirst : Scale → Scale → Item → Type 0
DiffersFirst from to item = DiffersAt (from.size ≡ to.size) (from.offset ≡ to.offset) from to item

abbrev pub JudgesCopy : {A : Type 0} → Result A ReshardFault → Scale → Scale → Type 0
JudgesCopy result from to = JudgesAs (DiffersFirst from to) (AreOfOneVolume from to) result from to
