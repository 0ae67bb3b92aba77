use Rattle.std.proofs.Common.{◌<◌, ◌≤◌, length, arith, rules}
use Rattle.command_line.proofs.LineSteps.{no_reshard}
use Rattle.command_line.proofs.resharding.read_reshard.Goals as goal
use Rattle.command_line.proofs.resharding.read_reshard.Goals.{in_default-via-then-plain-lt4, in_default-via-else-plain-lt4+else-plain-lt5}

-- not four plain words
pub returns-in_default : goal.returns-in_default
returns-in_default c = no_reshard c.args.plain.now c.args.others.now (λ four.
    elim c.in_default.branch [ in_default-via-then-plain-lt4 w ↦ let few : length c.args.plain.now < 4 = search rules in omega arith | in_default-via-else-plain-lt4+else-plain-lt5 w ↦ let many : 5 ≤ length c.args.plain.now = search rules in omega arith ])
