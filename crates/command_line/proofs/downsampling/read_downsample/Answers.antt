use Rattle.std.proofs.Common.{◌<◌, ◌≤◌, length, arith, rules}
use Rattle.command_line.proofs.LineSteps.{no_downsample}
use Rattle.command_line.proofs.downsampling.read_downsample.Goals as goal
use Rattle.command_line.proofs.downsampling.read_downsample.Goals.{in_default-via-then-plain-lt3, in_default-via-else-plain-lt3+else-plain-lt4}

-- not three plain words
pub returns-in_default : goal.returns-in_default
returns-in_default c = no_downsample c.args.plain.now c.args.others.now (λ three.
    elim c.in_default.branch [ in_default-via-then-plain-lt3 w ↦ let few : length c.args.plain.now < 3 = search rules in omega arith | in_default-via-else-plain-lt3+else-plain-lt4 w ↦ let many : 4 ≤ length c.args.plain.now = search rules in omega arith ])
