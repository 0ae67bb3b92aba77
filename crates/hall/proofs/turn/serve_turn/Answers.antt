use Rattle.std.proofs.Common.{[], ◌∷◌, subst, sym}
use Rattle.hall.specs.Halls.{Turned}
use Rattle.hall.proofs.TurnSteps.{turn}
use Rattle.hall.proofs.turn.serve_turn.Goals as goal

pub returns-clause-turned : goal.returns-clause-turned
returns-clause-turned g c =
    let link = c.args.link.now in
    let e = c.serve_to_end-served.ensures in
    subst (λ outcome. Turned (g.S.Source.objects c.args.store.now ∷ []) c.args.dataset.now outcome (g.L.Link.stream c.serve_to_end-served.new.link) (g.L.Link.sent c.serve_to_end-served.new.link) (g.L.Link.faults c.serve_to_end-served.new.link) (g.S.Source.faults c.args.store.now) (g.S.Source.faults c.serve_to_end-served.new.store)) (sym c.judge.ensures)
    (turn (g.S.Source.objects c.args.store.now) c.args.dataset.now (g.L.Link.stream link) (g.L.Link.left link) (g.L.Link.sent link) (g.L.Link.stream c.serve_to_end-served.new.link) (g.L.Link.sent c.serve_to_end-served.new.link)
    (g.L.Link.faults link) (g.L.Link.faults c.serve_to_end-served.new.link) (g.S.Source.faults c.args.store.now) (g.S.Source.faults c.serve_to_end-served.new.store)
    c.requires.fresh.0 c.requires.fresh.1 c.requires.fresh.2 e.stream c.serve_to_end-served.result.ended c.serve_to_end-served.result.failing e.ended e.failed e.stopped e.failing e.cause)
