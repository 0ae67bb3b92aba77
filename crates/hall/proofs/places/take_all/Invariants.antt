use Rattle.std.proofs.Common.{◌≡◌, ◌<◌, ◌≤◌, ◌+◌, ℕ, All, length, map, take, IfSome, IsSome, option_map, slice_index_or, vec_capacity}
use Rattle.hall.specs.Halls.{Fits, IsRested, NoneFell, PaidBy, owed}
use Rattle.hall.proofs.places.take_all.Given as goal

abbrev pub invariant-loop-i : goal.invariant-loop-i
invariant-loop-i g l = (l.host.parts ≡ l.initial.host.parts + l.i) × (l.host.outs ≡ length l.left.items) × (length l.left.items ≤ l.i) × (l.all.parts ≡ l.initial.all.parts + l.i)
    × (length l.stores.items ≡ l.i) × (map g.S.Source.objects l.stores.items ≡ take l.i g.N.Hall.told)
    × PaidBy (take l.i g.N.Hall.counts) (map g.S.Source.faults l.stores.items) (l.all.amount + owed (map (λ k. k.outcome) l.left.items))
    × (vec_capacity l.initial.stores ≤ vec_capacity l.stores) × (vec_capacity l.initial.left ≤ vec_capacity l.left)
    × All (λ k. Fits g.N.Hall.told g.N.Hall.dataset k.outcome (g.E.Link.stream k.end) (g.E.Link.sent k.end) (g.E.Link.faults k.end)) l.left.items
    × ((i : ℕ) (d : _) → l.i ≤ i → i < length l.places → IsSome (slice_index_or l.places i d)
    × IfSome (slice_index_or l.places i d) (λ p. IsRested g.N.Hall.told g.N.Hall.drafts g.N.Hall.counts i p.seat.job (option_map (λ k. k.outcome) p.kept) (g.S.Source.objects p.store) (g.S.Source.draft p.store) (g.S.Source.faults p.store) p.cuts.parts p.cuts.amount))
    × ((i : ℕ) (d : _) → l.i ≤ i → i < length l.places → IfSome (slice_index_or l.places i d) (λ p. IfSome p.kept (λ k. Fits g.N.Hall.told g.N.Hall.dataset k.outcome (g.E.Link.stream k.end) (g.E.Link.sent k.end) (g.E.Link.faults k.end))))
    × NoneFell (take l.i g.N.Hall.counts) (map g.S.Source.faults l.stores.items)
    × (map g.S.Source.draft l.stores.items ≡ take l.i g.N.Hall.drafts)
