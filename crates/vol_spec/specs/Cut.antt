-- A cutout: the values of a box in order, x fastest, then y, z and the channel (this project's profile).
use Rattle.std.specs.Prelude.{map, flat_map, Option}
use Rattle.std.specs.Option.{option_map}
use Rattle.vol_base.specs.Outside.{Objects}
use Rattle.vol_base.specs.declared.boxes.Box3.{Box3}
use Rattle.vol_base.specs.declared.faults.Fault.{Fault}
use Rattle.vol_spec.specs.Chunks.{fault_in, value_in}
use Rattle.vol_spec.specs.BoxValues.{before_fault, bytes_of, first_some, values_of}
use Rattle.vol_spec.specs.Grid.{cells_in}
use Rattle.vol_spec.specs.Types.{Bytes, Cell, Name}
use Rattle.vol_spec.specs.declared.scale.Scale.{Scale}

-- the values of a box as bytes, up to the first voxel whose value is a fault
unfoldable pub cut : Objects → Name → Scale → Box3 → Bytes
cut objects dataset s b = flat_map (bytes_of s.width)
    (before_fault (values_of b s.channels (value_in objects dataset s)))

-- a cell that has a fault, with the fault
abbrev pub faulty : Objects → Name → Scale → Cell → Option (Cell × Fault)
faulty objects dataset s cell = option_map (λ fault. (cell, fault)) (fault_in objects dataset s cell)

-- the first cell that meets a box and has a fault, with that fault
unfoldable pub first_fault : Objects → Name → Scale → Box3 → Option (Cell × Fault)
first_fault objects dataset s b = first_some (map (faulty objects dataset s) (cells_in s b))
