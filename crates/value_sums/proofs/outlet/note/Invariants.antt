use Rattle.std.proofs.Common.{◌≡◌, ◌++◌, take}
use Rattle.value_sums.specs.Weights.{noted}
use Rattle.value_sums.proofs.outlet.note.Given as goal

abbrev pub invariant-loop-byte : goal.invariant-loop-byte
invariant-loop-byte l = noted l.log.items ≡ noted l.initial.log.items ++ take l.byte-index l.bytes
