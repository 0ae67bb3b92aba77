use Rattle.std.proofs.Common.{◌≡◌, ◌<◌, ◌+◌, ◌++◌, ◌∷◌, [], ◌∙◌, None, IfSome, IsSome, length, option_map, ap, sym, arith, rules}
use Rattle.std.specs.Prelude.{slice_index_or}
use Rattle.std.proofs.lemmas.List.{length-append, length-map, length-set}
use Rattle.hall.specs.Halls.{IsIdle}
use Rattle.hall.proofs.PlaceSteps.{at_pop, front_pop, put_below, tells_at}
use Rattle.hall.proofs.places.seat_all.Goals as goal

pub seat_place-requires-clause-store : goal.seat_place-requires-clause-store
seat_place-requires-clause-store g c =
    let was : c.loop-store.stores.items ≡ c.pop.new.self.items ++ c.in-Some.store ∷ [] = search rules in
    let i : c.len-i.result ≡ length c.pop.new.self.items = search rules in
    at_pop g.S.Source.objects c.args.stores.now.items c.loop-store.stores.items c.pop.new.self.items c.in-Some.store None c.loop-store.invariant.6 was
    ∙ ap (λ told. slice_index_or told (length c.pop.new.self.items) None) (sym c.requires.told) ∙ ap (λ j. slice_index_or g.N.Hall.told j None) (sym i)

pub seat_place-requires-clause-draft : goal.seat_place-requires-clause-draft
seat_place-requires-clause-draft g c =
    let was : c.loop-store.stores.items ≡ c.pop.new.self.items ++ c.in-Some.store ∷ [] = search rules in
    let i : c.len-i.result ≡ length c.pop.new.self.items = search rules in
    at_pop g.S.Source.draft c.args.stores.now.items c.loop-store.stores.items c.pop.new.self.items c.in-Some.store None c.loop-store.invariant.6 was
    ∙ ap (λ drafts. slice_index_or drafts (length c.pop.new.self.items) None) (sym c.requires.drafts) ∙ ap (λ j. slice_index_or g.N.Hall.drafts j None) (sym i)

pub seat_place-requires-clause-stands : goal.seat_place-requires-clause-stands
seat_place-requires-clause-stands g c =
    let was : c.loop-store.stores.items ≡ c.pop.new.self.items ++ c.in-Some.store ∷ [] = search rules in
    let i : c.len-i.result ≡ length c.pop.new.self.items = search rules in
    at_pop g.S.Source.faults c.args.stores.now.items c.loop-store.stores.items c.pop.new.self.items c.in-Some.store 0 c.loop-store.invariant.6 was
    ∙ ap (λ counts. slice_index_or counts (length c.pop.new.self.items) 0) (sym c.requires.counts) ∙ ap (λ j. slice_index_or g.N.Hall.counts j 0) (sym i)

pub seat_place-requires-clause-tells : goal.seat_place-requires-clause-tells
seat_place-requires-clause-tells g c =
    let was : c.loop-store.stores.items ≡ c.pop.new.self.items ++ c.in-Some.store ∷ [] = search rules in
    let i : c.len-i.result ≡ length c.pop.new.self.items = search rules in
    let less : length c.pop.new.self.items < length c.loop-store.stores.items = omega (arith, ap length was, length-append c.pop.new.self.items (c.in-Some.store ∷ [])) in
    let told : length g.N.Hall.told ≡ length c.args.stores.now.items = ap length c.requires.told ∙ length-map c.args.stores.now.items g.S.Source.objects in
    let store = at_pop g.S.Source.objects c.args.stores.now.items c.loop-store.stores.items c.pop.new.self.items c.in-Some.store None c.loop-store.invariant.6 was
    ∙ ap (λ told. slice_index_or told (length c.pop.new.self.items) None) (sym c.requires.told) ∙ ap (λ j. slice_index_or g.N.Hall.told j None) (sym i) in
    tells_at g.N.Hall.told c.len-i.result (g.S.Source.objects c.in-Some.store) (omega (arith, i, less, told, c.requires.each, c.loop-store.invariant.4)) store

pub loop-store-preserved : goal.loop-store-preserved
loop-store-preserved g c =
    let inv = c.loop-store.invariant in
    let e = c.seat_place.ensures in
    let was : c.loop-store.stores.items ≡ c.pop.new.self.items ++ c.in-Some.store ∷ [] = search rules in
    let i : c.len-i.result ≡ length c.pop.new.self.items = search rules in
    let one : length c.loop-store.stores.items ≡ length c.pop.new.self.items + 1 = ap length was ∙ length-append c.pop.new.self.items (c.in-Some.store ∷ []) in
    let here = put_below c.loop-store.places c.len-i.result c.seat_place.new.place
    (λ i o. IsSome o × IfSome o (λ p. IsIdle g.N.Hall.told g.N.Hall.drafts g.N.Hall.counts i p.seat.number p.seat.job (option_map (λ k. k.outcome) p.kept) (g.S.Source.objects p.store) (g.S.Source.draft p.store) (g.S.Source.faults p.store) p.cuts.parts p.cuts.amount))
    (omega (arith, i, one, inv.4)) (e.there, e.idle) (λ k d from l. inv.7 k d (omega (arith, i, one, from)) l) in (
      omega (arith, e.parts, inv.0, one),
      e.outs ∙ inv.1,
      omega (arith, e.cuts.0, inv.2, one),
      e.cuts.1,
      omega (arith, one, inv.4, length-set c.loop-store.places c.len-i.result c.seat_place.new.place),
      omega (arith, inv.5, c.pop.ensures.capacity),
      front_pop c.args.stores.now.items c.loop-store.stores.items c.pop.new.self.items c.in-Some.store inv.6 was,
      λ k d from l. here k d (omega (arith, i, from)) l,
    )
