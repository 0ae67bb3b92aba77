use Rattle.std.proofs.Common.{◌<◌, ◌≤◌, length, arith, rules}
use Rattle.command_line.proofs.ServeSteps.{no_serve}
use Rattle.command_line.proofs.serving.read_serve.Goals as goal
use Rattle.command_line.proofs.serving.read_serve.Goals.{in_default-via-then-plain-lt1, in_default-via-else-plain-lt1+then-this-lt2+then-this-lt2-2, in_default-via-else-plain-lt1+then-this-lt2+else-this-lt2-2+else-this-lt3, in_default-via-else-plain-lt1+else-this-lt2}

-- not one plain word and two others
pub returns-in_default : goal.returns-in_default
returns-in_default c = no_serve c.args.plain.now c.args.others.now (λ one two.
    elim c.in_default.branch [
      | in_default-via-then-plain-lt1 w ↦ let none : length c.args.plain.now < 1 = search rules in omega arith
      | in_default-via-else-plain-lt1+then-this-lt2+then-this-lt2-2 w ↦ let few : length c.args.others.now < 2 = search rules in omega arith
      | in_default-via-else-plain-lt1+then-this-lt2+else-this-lt2-2+else-this-lt3 w ↦ let many : 3 ≤ length c.args.others.now = search rules in omega arith
      | in_default-via-else-plain-lt1+else-this-lt2 w ↦ let many : 2 ≤ length c.args.plain.now = search rules in omega arith
    ])
