use Rattle.std.proofs.Common.{◌≡◌, ◌%◌, ◌^◌}
use Rattle.morton_code.proofs.Steps.{code_from}
use Rattle.morton_code.proofs.codes.code.Given as goal

abbrev pub invariant-loop-bit : goal.invariant-loop-bit
invariant-loop-bit l = l.code ≡ code_from l.grid.size l.fn.cell l.bit % 2 ^ 64
