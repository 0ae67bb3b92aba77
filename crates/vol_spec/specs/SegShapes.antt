-- The sizes of a shape (this project's words for proofs).
use Rattle.vol_spec.specs.SegSizes.{SegSizes}
use Rattle.vol_spec.specs.declared.seg_shape.SegShape.{SegShape}

abbrev pub sizes_of : SegShape → SegSizes
sizes_of s = record { size = s.size; block = s.block; channels = s.channels; wide = s.wide }
