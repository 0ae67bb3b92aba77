-- What a scratch is reserved for (this project's).
use Rattle.vol_spec.specs.SegShapes.{sizes_of}
use Rattle.vol_spec.specs.SegSizes.{SegSizes}
use Rattle.segment_blocks.specs.declared.scratch.Scratch.{Scratch}

abbrev pub sizes_for : Scratch → SegSizes
sizes_for s = sizes_of s.shape
