use Rattle.std.proofs.Common.{◌*◌, ◌+◌, ◌^◌, ◌%◌, ap, ◌∙◌}
use Rattle.std.proofs.Math.Nat.{add-mod-mod}
use Rattle.value_sums.proofs.WeighSteps.{weight}
use Rattle.value_sums.proofs.sums.add_byte.Goals as goal

pub returns : goal.returns
returns c =
    add-mod-mod c.args.sum (c.args.byte * 2 ^ (8 * c.args.place)) (2 ^ 64)
    ∙ ap (λ k. (c.args.sum + c.args.byte * k) % 2 ^ 64) (weight c.args.place)
