-- A scratch for the chunks of a scale (this project's).
use Rattle.vol_spec.specs.Encodings.{sizes_in}
use Rattle.vol_spec.specs.Grid.{IsCell}
use Rattle.vol_spec.specs.Types.{Cell}
use Rattle.vol_spec.specs.declared.scale.Scale.{Scale}
use Rattle.segment_blocks.specs.Reserved.{sizes_for}
use Rattle.segment_blocks.specs.Rooms.{Serves}
use Rattle.segment_blocks.specs.declared.scratch.Scratch.{Scratch}

-- it serves each cell's chunk
abbrev pub ServesScale : Scale → Scratch → Type 0
ServesScale s scratch = (cell : Cell) → IsCell s cell → Serves (sizes_for scratch) (sizes_in s cell)
