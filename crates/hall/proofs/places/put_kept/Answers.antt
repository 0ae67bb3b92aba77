use Rattle.std.proofs.Common.{◌≡◌, ◌+◌, ◌++◌, ◌∷◌, [], ◌∙◌, All, map, option_map, ap, subst, sym, rules}
use Rattle.std.proofs.lemmas.List.Elements.{All-push}
use Rattle.hall.specs.Halls.{Fits, kept_weight, owed}
use Rattle.hall.proofs.Fronts.{some_is}
use Rattle.hall.proofs.Sums.{owed-pop}
use Rattle.hall.proofs.places.put_kept.Goals as goal

pub returns-in-Ok-clause-left : goal.returns-in-Ok-clause-left
returns-in-Ok-clause-left g c =
    let pushed : c.push.new.self.items ≡ c.args.left.now.items ++ c.in-Some.kept ∷ [] = search rules in
    let P = λ (k : _). Fits g.N.Hall.told g.N.Hall.dataset k.outcome (g.E.Link.stream k.end) (g.E.Link.sent k.end) (g.E.Link.faults k.end) in
    subst (All P) (sym pushed) (All-push P c.args.left.now.items c.in-Some.kept c.requires.left (some_is P c.args.kept c.in-Some.kept c.in-Some.is c.requires.fits))

pub returns-in-Ok-clause-owed : goal.returns-in-Ok-clause-owed
returns-in-Ok-clause-owed g c =
    let pushed : c.push.new.self.items ≡ c.args.left.now.items ++ c.in-Some.kept ∷ [] = search rules in
    owed-pop (λ k. k.outcome) c.push.new.self.items c.args.left.now.items c.in-Some.kept pushed
    ∙ ap (λ n. owed (map (λ k. k.outcome) c.args.left.now.items) + n) (sym (ap (λ o. kept_weight (option_map (λ k. k.outcome) o)) c.in-Some.is))
