use Rattle.std.proofs.Common.{◌≡◌, ◌<◌, ◌∙◌, IfSome, IsSome, length, option_map, slice_index_or, ap, subst, sym, take, rules, arith}
use Rattle.std.proofs.lemmas.List.{get_or-take, length-take}
use Rattle.hall.specs.Halls.{Fits, IsIdle, IsRested}
use Rattle.hall.proofs.PlaceSteps.{idle_own, joined_places, none_back, number_kept, rested_none, some_both, some_kept, some_more}
use Rattle.hall.proofs.places.run_first.Goals as goal

pub run_places-requires-clause-idle : goal.run_places-requires-clause-idle
run_places-requires-clause-idle g c κs within = λ i d below.
    let places = c.args.places.now in
    let less : i < c.args.workers = omega (arith, below, length-take c.args.workers places) in
    subst (λ o. IfSome o (λ p. IsIdle g.N.Hall.told g.N.Hall.drafts g.N.Hall.counts p.seat.number p.seat.number p.seat.job (option_map (λ k. k.outcome) p.kept) (g.S.Source.objects p.store) (g.S.Source.draft p.store) (g.S.Source.faults p.store) p.cuts.parts p.cuts.amount))
    (sym (get_or-take c.args.workers places i d less))
    (some_more (slice_index_or places i d)
    (λ p. IsIdle g.N.Hall.told g.N.Hall.drafts g.N.Hall.counts i p.seat.number p.seat.job (option_map (λ k. k.outcome) p.kept) (g.S.Source.objects p.store) (g.S.Source.draft p.store) (g.S.Source.faults p.store) p.cuts.parts p.cuts.amount)
    (λ p. IsIdle g.N.Hall.told g.N.Hall.drafts g.N.Hall.counts p.seat.number p.seat.number p.seat.job (option_map (λ k. k.outcome) p.kept) (g.S.Source.objects p.store) (g.S.Source.draft p.store) (g.S.Source.faults p.store) p.cuts.parts p.cuts.amount)
    (λ p idle. idle_own g.N.Hall.told g.N.Hall.drafts g.N.Hall.counts i p.seat.number p.seat.job (option_map (λ k. k.outcome) p.kept) (g.S.Source.objects p.store) (g.S.Source.draft p.store) (g.S.Source.faults p.store) p.cuts.parts p.cuts.amount idle)
    ((c.requires.idle i d (omega (arith, less, c.requires.few))).1))

pub returns-clause-rested : goal.returns-clause-rested
returns-clause-rested g c =
    let places = c.args.places.now in
    let front = c.run_places.new.places in
    joined_places front places c.args.workers
    (λ i o. IsSome o × IfSome o (λ p. IsRested g.N.Hall.told g.N.Hall.drafts g.N.Hall.counts i p.seat.job (option_map (λ k. k.outcome) p.kept) (g.S.Source.objects p.store) (g.S.Source.draft p.store) (g.S.Source.faults p.store) p.cuts.parts p.cuts.amount))
    (search rules) c.requires.few
    (λ i d below.
    let within : i < length (take c.args.workers places) = omega (arith, below, length-take c.args.workers places, c.requires.few) in
    let same : option_map (λ p. p.seat.number) (slice_index_or front i d) ≡ option_map (λ p. p.seat.number) (slice_index_or places i d) =
    c.run_places.ensures.numbers i d within ∙ ap (option_map (λ p. p.seat.number)) (get_or-take c.args.workers places i d below) in
    let idle = c.requires.idle i d (omega (arith, below, c.requires.few)) in (
      some_kept (λ p. p.seat.number) (slice_index_or places i d) (slice_index_or front i d) same idle.0,
      some_both (slice_index_or front i d)
          (λ p. p.seat.number ≡ i)
          (λ p. IsRested g.N.Hall.told g.N.Hall.drafts g.N.Hall.counts p.seat.number p.seat.job (option_map (λ k. k.outcome) p.kept) (g.S.Source.objects p.store) (g.S.Source.draft p.store) (g.S.Source.faults p.store) p.cuts.parts p.cuts.amount)
          (λ p. IsRested g.N.Hall.told g.N.Hall.drafts g.N.Hall.counts i p.seat.job (option_map (λ k. k.outcome) p.kept) (g.S.Source.objects p.store) (g.S.Source.draft p.store) (g.S.Source.faults p.store) p.cuts.parts p.cuts.amount)
          (λ p is rested. subst (λ j. IsRested g.N.Hall.told g.N.Hall.drafts g.N.Hall.counts j p.seat.job (option_map (λ k. k.outcome) p.kept) (g.S.Source.objects p.store) (g.S.Source.draft p.store) (g.S.Source.faults p.store) p.cuts.parts p.cuts.amount) is rested)
          (number_kept (λ p. p.seat.number) (slice_index_or places i d) (slice_index_or front i d) i same
          (some_more (slice_index_or places i d)
          (λ p. IsIdle g.N.Hall.told g.N.Hall.drafts g.N.Hall.counts i p.seat.number p.seat.job (option_map (λ k. k.outcome) p.kept) (g.S.Source.objects p.store) (g.S.Source.draft p.store) (g.S.Source.faults p.store) p.cuts.parts p.cuts.amount)
          (λ p. p.seat.number ≡ i) (λ p one. one.mine) idle.1))
          (c.run_places.ensures.rested i d within),
    ))
    (λ i d past below. (
      (c.requires.idle i d below).0,
      some_more (slice_index_or places i d) (λ p. IsIdle g.N.Hall.told g.N.Hall.drafts g.N.Hall.counts i p.seat.number p.seat.job (option_map (λ k. k.outcome) p.kept) (g.S.Source.objects p.store) (g.S.Source.draft p.store) (g.S.Source.faults p.store) p.cuts.parts p.cuts.amount)
          (λ p. IsRested g.N.Hall.told g.N.Hall.drafts g.N.Hall.counts i p.seat.job (option_map (λ k. k.outcome) p.kept) (g.S.Source.objects p.store) (g.S.Source.draft p.store) (g.S.Source.faults p.store) p.cuts.parts p.cuts.amount)
          (λ p idle. rested_none g.N.Hall.told g.N.Hall.drafts g.N.Hall.counts i p.seat.number p.seat.job (option_map (λ k. k.outcome) p.kept) (g.S.Source.objects p.store) (g.S.Source.draft p.store) (g.S.Source.faults p.store) p.cuts.parts p.cuts.amount idle)
          ((c.requires.idle i d below).1),
    ))

pub returns-clause-fits : goal.returns-clause-fits
returns-clause-fits g c =
    let places = c.args.places.now in
    joined_places c.run_places.new.places places c.args.workers
    (λ i o. IfSome o (λ p. IfSome p.kept (λ k. Fits g.N.Hall.told g.N.Hall.dataset k.outcome (g.D.End.Link.stream k.end) (g.D.End.Link.sent k.end) (g.D.End.Link.faults k.end))))
    (search rules) c.requires.few
    (λ i d below. c.run_places.ensures.fits i d (omega (arith, below, length-take c.args.workers places, c.requires.few)))
    (λ i d past below.
    some_more (slice_index_or places i d) (λ p. IsIdle g.N.Hall.told g.N.Hall.drafts g.N.Hall.counts i p.seat.number p.seat.job (option_map (λ k. k.outcome) p.kept) (g.S.Source.objects p.store) (g.S.Source.draft p.store) (g.S.Source.faults p.store) p.cuts.parts p.cuts.amount)
    (λ p. IfSome p.kept (λ k. Fits g.N.Hall.told g.N.Hall.dataset k.outcome (g.D.End.Link.stream k.end) (g.D.End.Link.sent k.end) (g.D.End.Link.faults k.end)))
    (λ p idle. none_back (λ k. k.outcome) (λ k. Fits g.N.Hall.told g.N.Hall.dataset k.outcome (g.D.End.Link.stream k.end) (g.D.End.Link.sent k.end) (g.D.End.Link.faults k.end)) p.kept idle.back)
    ((c.requires.idle i d below).1))
