use Rattle.std.proofs.Common.{◌≡◌, length}
use Rattle.request_heads.specs.Words.{skip_blank}
use Rattle.request_heads.proofs.words.skip_front.Given as goal

abbrev pub invariant-loop-rest : goal.invariant-loop-rest
invariant-loop-rest l = skip_blank l.rest ≡ skip_blank l.text

abbrev pub decreases-loop-rest : goal.decreases-loop-rest
decreases-loop-rest l = length l.rest
