use Rattle.std.proofs.Common.{◌≡◌, false, rules}
use Rattle.std.specs.Prelude.{IsTrue}
use Rattle.downsample_cmd.proofs.JudgeSteps.{is_next}
use Rattle.downsample_cmd.proofs.judge.find_difference.Goals as goal

pub returns-then-not-has_twice_offset : goal.returns-then-not-has_twice_offset
returns-then-not-has_twice_offset c =
    let half : IsTrue c.has_half_size.result = search rules in
    let no : c.has_twice_offset.result ≡ false = search rules in
    (c.has_half_size.ensures.0 half, λ twice. let yes = c.has_twice_offset.ensures.1 twice in cc (yes, no))

pub returns-then-from-to-2 : goal.returns-then-from-to-2
returns-then-from-to-2 c =
    let half : IsTrue c.has_half_size.result = search rules in
    let twice : IsTrue c.has_twice_offset.result = search rules in
    (c.has_half_size.ensures.0 half, c.has_twice_offset.ensures.0 twice, search rules, search rules)

pub returns : goal.returns
returns c =
    let half : IsTrue c.has_half_size.result = search rules in
    let twice : IsTrue c.has_twice_offset.result = search rules in
    is_next c.args.from.now c.args.to.now (c.has_half_size.ensures.0 half) (c.has_twice_offset.ensures.0 twice) (search rules) (search rules)
