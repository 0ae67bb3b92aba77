use Rattle.std.proofs.Common.{◌≡◌, ◌++◌, ◌∷◌, [], ◌∙◌, ◌+◌, ap, arith, rules, length}
use Rattle.std.proofs.lemmas.List.{length-append}
use Rattle.hall.specs.Halls.{Fits}
use Rattle.hall.proofs.Fronts.{all_front}
use Rattle.hall.proofs.Sums.{owed-pop}
use Rattle.hall.proofs.rest.deposit_rest.Goals as goal

pub loop-last-preserved : goal.loop-last-preserved
loop-last-preserved g c =
    let was : c.loop-last.left.items ≡ c.pop.new.self.items ++ c.in-Some.last ∷ [] = search rules in
    let count : length c.loop-last.left.items ≡ length c.pop.new.self.items + 1 = ap length was ∙ length-append c.pop.new.self.items (c.in-Some.last ∷ []) in
    let less = owed-pop (λ x. x.outcome) c.loop-last.left.items c.pop.new.self.items c.in-Some.last was in (
      c.close_left.ensures.host ∙ c.loop-last.invariant.0,
      omega (arith, count, c.close_left.ensures.outs, c.loop-last.invariant.1),
      c.close_left.ensures.parts ∙ c.loop-last.invariant.2,
      omega (arith, less, c.close_left.ensures.amount, c.loop-last.invariant.3),
      all_front c.loop-last.left.items c.pop.new.self.items c.in-Some.last was (λ x. Fits g.N.Hall.told g.N.Hall.dataset x.outcome (g.E.Link.stream x.end) (g.E.Link.sent x.end) (g.E.Link.faults x.end)) c.loop-last.invariant.4,
    )
