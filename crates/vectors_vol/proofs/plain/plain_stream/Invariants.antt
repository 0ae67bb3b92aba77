use Rattle.std.proofs.Common.{◌≡◌, ◌++◌}
use Rattle.byteorder.specs.Endian.{little_bytes}
use Rattle.write_plan.specs.Stream.{magic}
use Rattle.vectors_vol.specs.Generated.{writes_from}
use Rattle.vectors_vol.specs.WriteStreams.{written}
use Rattle.vectors_vol.proofs.plain.plain_stream.Given as goal

abbrev pub invariant-loop-write : goal.invariant-loop-write
invariant-loop-write l = l.bytes.items ≡ magic ++ little_bytes 4 l.writes ++ written (writes_from l.scale l.number 0 l.write)
