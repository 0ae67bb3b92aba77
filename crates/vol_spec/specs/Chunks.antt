-- What stored objects say of a cell and of a voxel. That an absent chunk reads as zero is this project's profile.
use Rattle.std.specs.Prelude.{ℕ, Option, Some, None, Result, Ok, Err}
use Rattle.vol_base.specs.Outside.{Objects}
use Rattle.vol_base.specs.declared.faults.ChunkFault.{ChunkFault}
use Rattle.vol_base.specs.declared.faults.Fault.{Fault}
use Rattle.vol_base.specs.declared.faults.Fault.TheVariants.{Chunk}
use Rattle.vol_spec.specs.Encodings.{chunk_fault, value_at}
use Rattle.vol_spec.specs.Grid.{cell_at}
use Rattle.vol_spec.specs.StoredBytes.{stored_bytes}
use Rattle.vol_spec.specs.Types.{Bytes, Cell, Name, Position}
use Rattle.vol_spec.specs.declared.scale.Scale.{Scale}

-- bytes with no fault, or their fault
abbrev pub unless : Option ChunkFault → Bytes → Result (Option Bytes) Fault
unless None bytes = Ok (Some bytes)
unless (Some fault) bytes = Err (Chunk fault)

abbrev pub judged : Scale → Cell → Result (Option Bytes) Fault → Result (Option Bytes) Fault
judged s cell (Ok None) = Ok None
judged s cell (Ok (Some bytes)) = unless (chunk_fault s cell bytes) bytes
judged s cell (Err fault) = Err fault

-- what the objects say of a cell: nothing, its chunk's bytes, or a fault
unfoldable pub chunk_in : Objects → Name → Scale → Cell → Result (Option Bytes) Fault
chunk_in objects dataset s cell = judged s cell (stored_bytes objects dataset s cell)

-- the fault of a cell, or none
abbrev pub fault_of : Result (Option Bytes) Fault → Option Fault
fault_of (Ok chunk) = None
fault_of (Err fault) = Some fault

abbrev pub fault_in : Objects → Name → Scale → Cell → Option Fault
fault_in objects dataset s cell = fault_of (chunk_in objects dataset s cell)

-- the value of a voxel and channel by what is said of its cell
abbrev pub value_of : Scale → Cell → Result (Option Bytes) Fault → Position → ℕ → Result ℕ Fault
value_of s cell (Ok None) p c = Ok 0
value_of s cell (Ok (Some bytes)) p c = Ok (value_at s cell bytes p c)
value_of s cell (Err fault) p c = Err fault

-- the value that the objects give a voxel and channel
abbrev pub value_in : Objects → Name → Scale → Position → ℕ → Result ℕ Fault
value_in objects dataset s p c = value_of s (cell_at s p) (chunk_in objects dataset s (cell_at s p)) p c
