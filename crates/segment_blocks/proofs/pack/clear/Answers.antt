use Rattle.std.proofs.Common.{arith, refl}
use Rattle.segment_blocks.proofs.Zeros.{number_zeros}
use Rattle.segment_blocks.proofs.pack.clear.Goals as goal

pub returns : goal.returns
returns c = number_zeros c.fill.new.self (λ i l. c.fill.ensures.clones i 0 (omega (arith, l, c.fill.ensures.len)) refl)
