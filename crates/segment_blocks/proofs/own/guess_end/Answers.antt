use Rattle.std.proofs.Common.{arith}
use Rattle.segment_blocks.proofs.own.guess_end.Goals as goal

pub loop-low-smaller-then-read_word-table : goal.loop-low-smaller-then-read_word-table
loop-low-smaller-then-read_word-table c = omega (arith, c.loop-low-test.true)

pub loop-low-smaller : goal.loop-low-smaller
loop-low-smaller c = omega (arith, c.loop-low-test.true)
