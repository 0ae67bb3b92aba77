-- What reading and judging the chunk of a cell answers (this project's).
use Rattle.std.specs.Prelude.{◌≡◌, Bool, true, false, Option, None, Some, Result, Ok, Err, take}
use Rattle.chunk_pool.specs.Frames.{Filled}
use Rattle.vol_base.specs.declared.faults.Fault.{Fault}
use Rattle.vol_spec.specs.Types.{Bytes}
use Rattle.shard_reader.specs.declared.bytes.LookupFault.{LookupFault}
use Rattle.shard_reader.specs.declared.bytes.LookupFault.TheVariants.{NotRead, Faulty}

-- that it is absent, that its bytes are those in use of a frame, or a fault on the way to them
abbrev pub HasRead : Result Bool LookupFault → Filled → Result (Option Bytes) Fault → Type 0
HasRead (Ok true) frame stored = stored ≡ Ok (Some (take frame.used frame.bytes))
HasRead (Ok false) frame stored = stored ≡ Ok None
HasRead (Err (Faulty fault)) frame stored = stored ≡ Err fault
HasRead (Err NotRead) frame stored = Unit {0}

-- whether it is stored, or its fault
abbrev pub Finds : Result Bool LookupFault → Result (Option Bytes) Fault → Type 0
Finds (Ok true) seen = (bytes : Bytes) × (seen ≡ Ok (Some bytes))
Finds (Ok false) seen = seen ≡ Ok None
Finds (Err (Faulty fault)) seen = seen ≡ Err fault
Finds (Err NotRead) seen = Unit {0}
