use Rattle.std.proofs.Common.{◌≡◌, ◌++◌}
use Rattle.vectors_vol.specs.Generated.{counting_bytes}
use Rattle.vectors_vol.proofs.plain.push_values.Given as goal

abbrev pub invariant-loop-n : goal.invariant-loop-n
invariant-loop-n l = l.bytes.items ≡ l.fn.bytes.items ++ counting_bytes l.width l.first l.n
