use Rattle.std.proofs.Common.{◌<◌, ◌≤◌, length, arith, rules}
use Rattle.command_line.proofs.LineSteps.{no_write}
use Rattle.command_line.proofs.words.read_write.Goals as goal
use Rattle.command_line.proofs.words.read_write.Goals.{in_default-via-then-plain-lt2, in_default-via-else-plain-lt2+else-plain-lt3}

-- not two plain words
pub returns-in_default : goal.returns-in_default
returns-in_default c = no_write c.args.plain.now c.args.others.now (λ two.
    elim c.in_default.branch [ in_default-via-then-plain-lt2 w ↦ let few : length c.args.plain.now < 2 = search rules in omega arith | in_default-via-else-plain-lt2+else-plain-lt3 w ↦ let many : 3 ≤ length c.args.plain.now = search rules in omega arith ])
