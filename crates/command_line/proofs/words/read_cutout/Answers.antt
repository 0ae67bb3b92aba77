use Rattle.std.proofs.Common.{◌<◌, ◌≤◌, length, arith, rules}
use Rattle.command_line.proofs.LineSteps.{no_cutout}
use Rattle.command_line.proofs.words.read_cutout.Goals as goal
use Rattle.command_line.proofs.words.read_cutout.Goals.{in_default-via-then-plain-lt3, in_default-via-in-len3+else-is_empty, in_default-via-else-plain-lt3+else-plain-lt4}

-- not three plain words, or an option
pub returns-in_default : goal.returns-in_default
returns-in_default c = no_cutout c.args.plain.now c.args.others.now (λ three.
    elim c.in_default.branch [ in_default-via-then-plain-lt3 w ↦ let few : length c.args.plain.now < 3 = search rules in absurd (omega arith) | in_default-via-in-len3+else-is_empty w ↦ search rules | in_default-via-else-plain-lt3+else-plain-lt4 w ↦ let many : 4 ≤ length c.args.plain.now = search rules in absurd (omega arith) ])
