use Rattle.std.proofs.Common.{◌≡◌, length, reverse}
use Rattle.request_heads.specs.Words.{skip_blank}
use Rattle.request_heads.proofs.words.trim.Given as goal

abbrev pub invariant-loop-rest : goal.invariant-loop-rest
invariant-loop-rest l = skip_blank (reverse l.rest) ≡ skip_blank (reverse (skip_blank l.text))

abbrev pub decreases-loop-rest : goal.decreases-loop-rest
decreases-loop-rest l = length l.rest
