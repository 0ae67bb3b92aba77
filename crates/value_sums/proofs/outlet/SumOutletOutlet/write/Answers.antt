use Rattle.std.proofs.Common.{refl, arith}
use Rattle.value_sums.specs.Weights.{noted}
use Rattle.value_sums.proofs.WeighSteps.{first_added, front_added}
use Rattle.value_sums.proofs.outlet.SumOutletOutlet.write.Goals as goal

pub invariant_of-self : goal.invariant_of-self
invariant_of-self g c = rw (c.note.ensures, c.add_byte-self-inside.ensures) (
    first_added g.row.WIDTH c.self.inside.place c.self.inside.sum (noted c.self.inside.log.items) c.args.piece.now c.self.invariant c.requires
    )

pub invariant_of-self-2 : goal.invariant_of-self-2
invariant_of-self-2 g c = rw (c.note-2.ensures, c.sum_values.ensures) (
    front_added g.row.WIDTH c.self.inside.place c.self.inside.sum _ (noted c.self.inside.log.items) c.args.piece.now c.self.invariant (omega arith) refl
    )
