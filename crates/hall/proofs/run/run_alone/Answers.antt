use Rattle.std.proofs.Common.{◌≡◌, ◌+◌, ◌++◌, ◌∷◌, [], ◌∙◌, ap, map, subst, sym, arith, rules}
use Rattle.std.proofs.lemmas.List.{map-append}
use Rattle.hall.specs.Halls.{NoneFell, PaidBy}
use Rattle.hall.proofs.Sums.{none_last, paid_last}
use Rattle.hall.proofs.run.run_alone.Goals as goal

pub returns-clause-paid : goal.returns-clause-paid
returns-clause-paid g c =
    let f = g.S.Source.faults in
    let rest = c.pop.new.self.items in
    let now = c.finish_alone.new.store in
    let was : c.args.stores.now.items ≡ rest ++ c.in-Some.store ∷ [] = search rules in
    let old : map f c.args.stores.now.items ≡ map f rest ++ f c.in-Some.store ∷ [] = ap (map f) was ∙ map-append f rest (c.in-Some.store ∷ []) in
    let new : map f c.put_store.new.stores.items ≡ map f rest ++ f now ∷ [] = ap (map f) c.put_store.ensures.stores ∙ map-append f rest (now ∷ []) in
    let amount : c.merge.new.self.amount ≡ c.args.all.now.amount + c.finish_alone.new.cuts.amount = omega (arith, c.merge.ensures.amount, c.split_off-cuts.ensures.amount_left) in
    subst (λ n. PaidBy g.N.Hall.counts (map f c.put_store.new.stores.items) n) (sym amount)
    (subst (λ ns. PaidBy g.N.Hall.counts ns (c.args.all.now.amount + c.finish_alone.new.cuts.amount)) (sym new)
    (paid_last g.N.Hall.counts (map f rest) (f c.in-Some.store) (f now) c.args.all.now.amount c.finish_alone.new.cuts.amount ((g.met.S.Source.counts now).1)
    (subst (λ ns. PaidBy g.N.Hall.counts ns c.args.all.now.amount) old c.requires.paid) c.finish_alone.ensures.paid))

pub returns-clause-later : goal.returns-clause-later
returns-clause-later g c =
    let f = g.S.Source.faults in
    let rest = c.pop.new.self.items in
    let now = c.finish_alone.new.store in
    let was : c.args.stores.now.items ≡ rest ++ c.in-Some.store ∷ [] = search rules in
    let old : map f c.args.stores.now.items ≡ map f rest ++ f c.in-Some.store ∷ [] = ap (map f) was ∙ map-append f rest (c.in-Some.store ∷ []) in
    let new : map f c.put_store.new.stores.items ≡ map f rest ++ f now ∷ [] = ap (map f) c.put_store.ensures.stores ∙ map-append f rest (now ∷ []) in
    subst (NoneFell g.N.Hall.counts) (sym new) (none_last g.N.Hall.counts (map f rest) (f c.in-Some.store) (f now) (subst (NoneFell g.N.Hall.counts) old c.requires.later) c.finish_alone.ensures.later)
