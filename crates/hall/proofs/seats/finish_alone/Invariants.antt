use Rattle.std.proofs.Common.{◌≡◌, ◌≤◌, ◌-◌, None}
use Rattle.hall.specs.Halls.{Paid}
use Rattle.hall.proofs.seats.finish_alone.Given as goal

abbrev pub invariant-loop-guest : goal.invariant-loop-guest
invariant-loop-guest g l = (l.seat.job ≡ None) × (l.cuts.parts ≡ 1) × Paid (g.S.Source.faults l.initial.store) (g.S.Source.faults l.store) l.cuts.amount
    × (g.S.Source.objects l.store ≡ g.S.Source.objects l.initial.store) × (g.S.Source.draft l.store ≡ g.S.Source.draft l.initial.store)
    × (g.S.Source.faults l.initial.store ≤ g.S.Source.faults l.store)

abbrev pub decreases-loop-guest : goal.decreases-loop-guest
decreases-loop-guest g l = l.order.total - l.porch.given
