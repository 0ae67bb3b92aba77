use Rattle.std.proofs.Common.{◌-◌, ◌∙◌, None, ap, arith, map, refl, subst, sym}
use Rattle.hall.specs.Halls.{EachServed}
use Rattle.hall.proofs.EndSteps.{each_none}
use Rattle.hall.proofs.Sums.{none_stands}
use Rattle.serve_cmd.proofs.ServeSteps.{told_first}
use Rattle.vol_serve.specs.Statuses.{Accepted, lacks_memory}
use Rattle.vol_serve.proofs.Closings.{gives, gives_none, lacks_by}
use Rattle.vol_serve.proofs.top.serve.Goals as goal

pub returns-in-Ok-clause-each : goal.returns-in-Ok-clause-each
returns-in-Ok-clause-each g c =
    let end = c.run_hall-end.result.end in
    subst (λ short. EachServed (map g.S.Source.objects c.args.stores.items) c.args.serving.now.dataset short (g.X.Exit.served c.run_hall-end.result.exit) (map g.S.Source.faults c.args.stores.items) (map g.S.Source.faults c.run_hall-end.result.stores.items))
    (sym (ap lacks_memory c.ended.ensures ∙ lacks_by end)) c.run_hall-end.ensures.each

pub returns-in-Err-clause-each : goal.returns-in-Err-clause-each
returns-in-Err-clause-each g c =
    each_none (map g.S.Source.objects c.args.stores.items) c.args.serving.now.dataset (lacks_memory c.refused.result) (g.X.Exit.served c.args.exit) (map g.S.Source.faults c.args.stores.items) (map g.S.Source.faults c.args.stores.items) c.requires.noted refl

pub returns-in-Err-clause-stores_later : goal.returns-in-Err-clause-stores_later
returns-in-Err-clause-stores_later g c = none_stands (map g.S.Source.faults c.args.stores.items)

pub returns-in-Ok-clause-given : goal.returns-in-Ok-clause-given
returns-in-Ok-clause-given g c =
    let now = c.run_hall-end.result.entrance in
    subst (λ s. Accepted s c.args.serving.now.connections (g.D.Entrance.faults c.args.entrance) (g.D.Entrance.faults now) (g.D.Entrance.accepted now - g.D.Entrance.accepted c.args.entrance)) (sym c.ended.ensures)
    (gives c.run_hall-end.result.end c.args.serving.now.connections (g.D.Entrance.faults c.args.entrance) (g.D.Entrance.faults c.announce.new.entrance) (g.D.Entrance.faults now)
    (g.D.Entrance.accepted c.args.entrance) (g.D.Entrance.accepted c.announce.new.entrance) (g.D.Entrance.accepted now) c.in-Ok.ensures.entrance_cause.stands c.announce.ensures.accepted c.run_hall-end.ensures.given)

pub returns-in-Err-clause-given : goal.returns-in-Err-clause-given
returns-in-Err-clause-given g c =
    let now = c.announce.new.entrance in
    subst (λ s. Accepted s c.args.serving.now.connections (g.D.Entrance.faults c.args.entrance) (g.D.Entrance.faults now) (g.D.Entrance.accepted now - g.D.Entrance.accepted c.args.entrance)) (sym c.refused.ensures)
    (gives_none c.in-Err.refusal c.args.serving.now.connections (g.D.Entrance.faults c.args.entrance) (g.D.Entrance.faults now) (g.D.Entrance.accepted c.args.entrance) (g.D.Entrance.accepted now) c.announce.ensures.accepted (omega (arith, c.requires.limits.0)))

pub returns-in-Ok-clause-first : goal.returns-in-Ok-clause-first
returns-in-Ok-clause-first g c =
    told_first (g.D.Entrance.bound c.announce.new.entrance) (g.O.Outlet.written c.args.out.now) (g.O.Outlet.written c.announce.new.out)
    (record { bound = None; accepted = g.D.Entrance.accepted c.args.entrance; served = None })
    (record { bound = None; accepted = g.D.Entrance.accepted c.run_hall-end.result.entrance; served = None })
    c.in-Ok.ensures.told
