use Rattle.std.proofs.Common.{◌≡◌, ◌≤◌, None}
use Rattle.std.specs.Prelude.{slice_index_or}
use Rattle.hall.specs.Halls.{Paid, TellsAs}
use Rattle.hall.proofs.seats.run_seat.Given as goal

abbrev pub invariant-loop : goal.invariant-loop
invariant-loop g l = (l.place.seat.number ≡ l.initial.place.seat.number) × (l.place.seat.job ≡ None) × (l.place.kept ≡ None) × (l.place.cuts.parts ≡ 1) × Paid (slice_index_or g.N.Hall.counts l.place.seat.number 0) (g.S.Source.faults l.place.store) l.place.cuts.amount
    × (g.S.Source.objects l.place.store ≡ slice_index_or g.N.Hall.told l.place.seat.number None) × TellsAs g.N.Hall.told (g.S.Source.objects l.place.store)
    × (slice_index_or g.N.Hall.counts l.place.seat.number 0 ≤ g.S.Source.faults l.place.store)
    × (g.S.Source.draft l.place.store ≡ slice_index_or g.N.Hall.drafts l.place.seat.number None)
