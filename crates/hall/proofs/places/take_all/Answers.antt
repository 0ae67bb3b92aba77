use Rattle.std.proofs.Common.{◌<◌, ◌≤◌, ◌+◌, ◌∷◌, [], ◌∙◌, None, IfSome, IsSome, length, map, option_map, ap, subst, sym, arith, rules}
use Rattle.std.proofs.lemmas.List.{length-append, map-append, take_all}
use Rattle.hall.specs.Halls.{Fits, IsRested, NoneFell, PaidBy, kept_weight, owed}
use Rattle.hall.proofs.PlaceSteps.{after_take, at_place, told_more}
use Rattle.hall.proofs.Sums.{none_step, paid_step}
use Rattle.hall.proofs.places.take_all.Goals as goal

pub take_place-requires-clause-rested : goal.take_place-requires-clause-rested
take_place-requires-clause-rested g c =
    let o = c.index-places-i.result in
    at_place c.loop-i.places c.loop-i.i o c.in-Some.place (λ p. IsRested g.N.Hall.told g.N.Hall.drafts g.N.Hall.counts c.loop-i.i p.seat.job (option_map (λ k. k.outcome) p.kept) (g.S.Source.objects p.store) (g.S.Source.draft p.store) (g.S.Source.faults p.store) p.cuts.parts p.cuts.amount)
    c.index-places-i.is (c.index-places-i.is ∙ sym c.take.ensures.value ∙ c.in-Some.is) ((c.loop-i.invariant.10 c.loop-i.i o (omega arith) (search rules)).1)

pub take_place-requires-clause-fits : goal.take_place-requires-clause-fits
take_place-requires-clause-fits g c =
    let o = c.index-places-i.result in
    at_place c.loop-i.places c.loop-i.i o c.in-Some.place (λ p. IfSome p.kept (λ k. Fits g.N.Hall.told g.N.Hall.dataset k.outcome (g.E.Link.stream k.end) (g.E.Link.sent k.end) (g.E.Link.faults k.end)))
    c.index-places-i.is (c.index-places-i.is ∙ sym c.take.ensures.value ∙ c.in-Some.is) (c.loop-i.invariant.11 c.loop-i.i o (omega arith) (search rules))

pub loop-i-preserved : goal.loop-i-preserved
loop-i-preserved g c =
    let inv = c.loop-i.invariant in
    let t = c.take_place.ensures in
    let i = c.loop-i.i in
    let place = c.in-Some.place in
    let o = c.index-places-i.result in
    let rested : IsRested g.N.Hall.told g.N.Hall.drafts g.N.Hall.counts i place.seat.job (option_map (λ k. k.outcome) place.kept) (g.S.Source.objects place.store) (g.S.Source.draft place.store) (g.S.Source.faults place.store) place.cuts.parts place.cuts.amount =
    at_place c.loop-i.places i o place (λ p. IsRested g.N.Hall.told g.N.Hall.drafts g.N.Hall.counts i p.seat.job (option_map (λ k. k.outcome) p.kept) (g.S.Source.objects p.store) (g.S.Source.draft p.store) (g.S.Source.faults p.store) p.cuts.parts p.cuts.amount)
    c.index-places-i.is (c.index-places-i.is ∙ sym c.take.ensures.value ∙ c.in-Some.is) ((inv.10 i o (omega arith) (search rules)).1) in
    let below : i < length c.loop-i.places = search rules in
    let told : i < length g.N.Hall.told = search rules in
    let counts : i < length g.N.Hall.counts = search rules in
    let drafts : i < length g.N.Hall.drafts = search rules in
    let objects = g.S.Source.objects in
    let faults = g.S.Source.faults in
    let draft = g.S.Source.draft in
    let stores = c.loop-i.stores.items in (
      omega (arith, t.parts, inv.0),
      t.outs,
      omega (arith, t.more, inv.2),
      omega (arith, t.cuts, inv.3),
      omega (arith, ap length t.stores, length-append stores (place.store ∷ []), inv.4),
      told_more g.N.Hall.told (map objects stores) (map objects c.take_place.new.stores.items) i (objects place.store) None told inv.5 rested.store (ap (map objects) t.stores ∙ map-append objects stores (place.store ∷ [])),
      paid_step g.N.Hall.counts (map faults stores) (map faults c.take_place.new.stores.items) i (faults place.store) (c.loop-i.all.amount + owed (map (λ k. k.outcome) c.loop-i.left.items)) (place.cuts.amount + kept_weight (option_map (λ k. k.outcome) place.kept)) (c.take_place.new.all.amount + owed (map (λ k. k.outcome) c.take_place.new.left.items))
          counts ((g.met.S.Source.counts place.store).1) inv.6 rested.paid (ap (map faults) t.stores ∙ map-append faults stores (place.store ∷ [])) t.owed,
      omega (arith, t.room, inv.7),
      omega (arith, t.left_room, inv.8),
      t.left,
      after_take c.loop-i.places i c.take.new.self (λ i o. IsSome o × IfSome o (λ p. IsRested g.N.Hall.told g.N.Hall.drafts g.N.Hall.counts i p.seat.job (option_map (λ k. k.outcome) p.kept) (g.S.Source.objects p.store) (g.S.Source.draft p.store) (g.S.Source.faults p.store) p.cuts.parts p.cuts.amount)) inv.10,
      after_take c.loop-i.places i c.take.new.self (λ i o. IfSome o (λ p. IfSome p.kept (λ k. Fits g.N.Hall.told g.N.Hall.dataset k.outcome (g.E.Link.stream k.end) (g.E.Link.sent k.end) (g.E.Link.faults k.end)))) inv.11,
      none_step g.N.Hall.counts (map faults stores) (map faults c.take_place.new.stores.items) i (faults place.store) counts inv.12 rested.later (ap (map faults) t.stores ∙ map-append faults stores (place.store ∷ [])),
      told_more g.N.Hall.drafts (map draft stores) (map draft c.take_place.new.stores.items) i (draft place.store) None drafts inv.13 rested.writes (ap (map draft) t.stores ∙ map-append draft stores (place.store ∷ [])),
    )

pub returns-clause-paid : goal.returns-clause-paid
returns-clause-paid g c =
    let all : length g.N.Hall.counts ≤ c.loop-i.i = omega (arith, c.requires.counts) in
    subst (λ cs. PaidBy cs (map g.S.Source.faults c.loop-i.stores.items) (c.loop-i.all.amount + owed (map (λ k. k.outcome) c.loop-i.left.items))) (take_all c.loop-i.i g.N.Hall.counts all) c.loop-i.invariant.6

pub returns-clause-later : goal.returns-clause-later
returns-clause-later g c =
    let all : length g.N.Hall.counts ≤ c.loop-i.i = omega (arith, c.requires.counts) in
    subst (λ cs. NoneFell cs (map g.S.Source.faults c.loop-i.stores.items)) (take_all c.loop-i.i g.N.Hall.counts all) c.loop-i.invariant.12
