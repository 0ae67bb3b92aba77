use Rattle.std.proofs.Common.{◌≡◌, ◌+◌, All, length, map}
use Rattle.hall.specs.Halls.{Fits, owed}
use Rattle.hall.proofs.rest.deposit_rest.Given as goal

abbrev pub invariant-loop-last : goal.invariant-loop-last
invariant-loop-last g l = (l.host.parts ≡ l.initial.host.parts) × (l.host.outs ≡ length l.left.items) × (l.cuts.parts ≡ l.initial.cuts.parts)
    × (l.cuts.amount + owed (map (λ x. x.outcome) l.left.items) ≡ l.initial.cuts.amount + owed (map (λ x. x.outcome) l.initial.left.items))
    × All (λ x. Fits g.N.Hall.told g.N.Hall.dataset x.outcome (g.E.Link.stream x.end) (g.E.Link.sent x.end) (g.E.Link.faults x.end)) l.left.items

abbrev pub decreases-loop-last : goal.decreases-loop-last
decreases-loop-last g l = length l.left.items
