use Rattle.std.proofs.Common.{ap, ◌∙◌, length}
use Rattle.value_sums.specs.Weights.{noted}
use Rattle.value_sums.proofs.WeighSteps.{sum_is}
use Rattle.value_sums.proofs.outlet.SumOutlet.sum.Goals as goal

pub returns : goal.returns
returns g c = λ count len. rw (← c.self.view_is) (
    sum_is g.row.WIDTH c.self.inside.place c.self.inside.sum count (noted c.self.inside.log.items) c.self.invariant (ap length c.self.view_is ∙ len)
    )
