use Rattle.std.proofs.Common.{◌≡◌, ◌<◌, ◌≤◌, ◌+◌, ℕ, length, IfSome, IsSome, option_map, slice_index_or, vec_capacity}
use Rattle.hall.specs.Halls.{IsIdle}
use Rattle.hall.proofs.PlaceSteps.{IsFront}
use Rattle.hall.proofs.places.seat_all.Given as goal

abbrev pub invariant-loop-store : goal.invariant-loop-store
invariant-loop-store g l = (l.host.parts ≡ length l.stores.items + 1) × (l.host.outs ≡ l.initial.host.outs) × (l.all.parts ≡ length l.stores.items + 1) × (l.all.amount ≡ 0)
    × (length l.stores.items ≤ length l.places) × (vec_capacity l.initial.stores ≤ vec_capacity l.stores) × IsFront l.stores.items l.initial.stores.items
    × ((i : ℕ) (d : _) → length l.stores.items ≤ i → i < length l.places → IsSome (slice_index_or l.places i d)
    × IfSome (slice_index_or l.places i d) (λ p. IsIdle g.N.Hall.told g.N.Hall.drafts g.N.Hall.counts i p.seat.number p.seat.job (option_map (λ k. k.outcome) p.kept) (g.S.Source.objects p.store) (g.S.Source.draft p.store) (g.S.Source.faults p.store) p.cuts.parts p.cuts.amount))

abbrev pub decreases-loop-store : goal.decreases-loop-store
decreases-loop-store g l = length l.stores.items
