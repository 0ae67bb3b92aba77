-- What is judged before a scale is reduced (this project's profile): that the target is half the source, that no grid has too many cells, and
-- that no object is under the target's folder, in this order.
use Rattle.std.specs.Prelude.{◌≡◌, ℕ, ◌+◌, ◌/◌, ◌<◌, Result, slice_index}
use Rattle.vol_base.specs.Boxes.{at}
use Rattle.vol_spec.specs.declared.scale.Scale.{Scale}
use Rattle.info_doc.specs.declared.fault.Item.{Item}
use Rattle.reduce_laws.specs.Halves.{twice}
use Rattle.reduce_laws.specs.Reduced.{IsNext}
use Rattle.make_scale.specs.Judging.{DiffersAt, JudgesAs}
use Rattle.make_scale.specs.declared.fault.MakeFault.{MakeFault as ReshardFault}

-- on each axis the target has half the source's size, rounded up,
abbrev pub HasHalfSize : Scale → Scale → Type 0
HasHalfSize from to =
    (axis : ℕ) → axis < 3 → slice_index to.size axis ≡ (slice_index from.size axis + 1) / 2

-- and the source begins at twice the target's begin
abbrev pub HasTwiceOffset : Scale → Scale → Type 0
HasTwiceOffset from to = (axis : ℕ) → axis < 3 → at from.offset axis ≡ twice (at to.offset axis)

-- the first item in which the target isn't the next scale. The data type and the number of channels never differ in one document
abbrev pub DiffersNext : Scale → Scale → Item → Type 0
DiffersNext from to item = DiffersAt (HasHalfSize from to) (HasTwiceOffset from to) from to item

-- what is answered by the scales alone
abbrev pub JudgesNext : {A : Type 0} → Result A ReshardFault → Scale → Scale → Type 0
JudgesNext result from to = JudgesAs (DiffersNext from to) (IsNext from to) result from to
