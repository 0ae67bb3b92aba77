use Rattle.std.proofs.Common.{◌≡◌, rules}
use Rattle.generate_cmd.proofs.GenerateSteps.{widest}
use Rattle.generate_cmd.proofs.generate.sum_whole.Goals as goal

pub sum_values-requires-in_default-clause-width : goal.sum_values-requires-in_default-clause-width
sum_values-requires-in_default-clause-width g c =
    let one : c.args.scale.now.width ≡ 1 → ⊥ = search rules in
    let two : c.args.scale.now.width ≡ 2 → ⊥ = search rules in
    let four : c.args.scale.now.width ≡ 4 → ⊥ = search rules in
    widest c.args.scale.now.width c.args.scale.now.width_ok one two four
