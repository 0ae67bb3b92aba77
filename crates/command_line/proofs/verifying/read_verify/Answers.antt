use Rattle.std.proofs.Common.{◌≡◌, ◌<◌, ◌≤◌, length, arith, rules}
use Rattle.command_line.proofs.LineSteps.{no_verify}
use Rattle.command_line.proofs.verifying.read_verify.Goals as goal
use Rattle.command_line.proofs.verifying.read_verify.Goals.{in_default-via-then-plain-lt2, in_default-via-in-len2+else-is_empty, in_default-via-in-len3+else-is_empty-2, in_default-via-else-plain-lt2+else-plain-lt3+else-plain-lt4}

-- not two or three plain words, or an option
pub returns-in_default : goal.returns-in_default
returns-in_default c = no_verify c.args.plain.now c.args.others.now
    (λ two.
    elim c.in_default.branch [
      | in_default-via-then-plain-lt2 w ↦ let few : length c.args.plain.now < 2 = search rules in absurd (omega arith)
      | in_default-via-in-len2+else-is_empty w ↦ search rules
      | in_default-via-in-len3+else-is_empty-2 w ↦ let other : length c.args.plain.now ≡ 3 = search rules in absurd (omega arith)
      | in_default-via-else-plain-lt2+else-plain-lt3+else-plain-lt4 w ↦ let many : 4 ≤ length c.args.plain.now = search rules in absurd (omega arith)
    ])
    (λ three.
    elim c.in_default.branch [
      | in_default-via-then-plain-lt2 w ↦ let few : length c.args.plain.now < 2 = search rules in absurd (omega arith)
      | in_default-via-in-len2+else-is_empty w ↦ let other : length c.args.plain.now ≡ 2 = search rules in absurd (omega arith)
      | in_default-via-in-len3+else-is_empty-2 w ↦ search rules
      | in_default-via-else-plain-lt2+else-plain-lt3+else-plain-lt4 w ↦ let many : 4 ≤ length c.args.plain.now = search rules in absurd (omega arith)
    ])
