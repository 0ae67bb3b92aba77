use Rattle.std.proofs.Common.{◌≡◌, ◌∙◌, refl, subst, arith}
use Rattle.range_server.specs.Serving.{AddsServed}
use Rattle.range_server.proofs.EndSteps.{gave_later, noted_more, noted_none, served_by, served_more, served_none}
use Rattle.range_server.proofs.ends.serve_ends.Goals as goal

pub loop-init : goal.loop-init
loop-init g c = record {
  served = λ m told list is. served_none m c.args.dataset.now (g.S.Source.faults c.args.store.now) list (g.D.Door.served c.args.door.now) is;
  accepted = omega arith;
  noted = noted_none (g.D.Door.served c.args.door.now) (g.D.Door.accepted c.args.door.now);
  bound = refl;
  kept = record { same_objects = refl; same_draft = refl };
  history = refl;
  store_later = omega arith;
  later = omega arith;
}

pub loop-preserved : goal.loop-preserved
loop-preserved g c = record {
  served = λ m told list is.
      served_more m c.args.dataset.now c.loop.counter (g.S.Source.faults c.args.store.now) (g.S.Source.faults c.loop.store) (g.S.Source.faults c.serve_end.new.store) list (g.D.Door.served c.loop.door) (g.D.Door.served c.serve_end.new.door)
      (c.loop.invariant.served m told list is) c.serve_end.ensures.store_later (c.in-Ok.ensures.served m (c.loop.invariant.kept.same_objects ∙ told));
  accepted = omega (arith, c.loop.invariant.accepted, c.in-Ok.ensures.accepted);
  noted =
      noted_more (g.D.Door.served c.args.door.now) (g.D.Door.served c.loop.door) (g.D.Door.served c.serve_end.new.door) (g.D.Door.accepted c.args.door.now) (g.D.Door.accepted c.loop.door) (g.D.Door.accepted c.serve_end.new.door)
      c.loop.invariant.noted c.serve_end.ensures.noted;
  bound = c.serve_end.ensures.bound ∙ c.loop.invariant.bound;
  kept = record { same_objects = c.serve_end.ensures.kept.same_objects ∙ c.loop.invariant.kept.same_objects; same_draft = c.serve_end.ensures.kept.same_draft ∙ c.loop.invariant.kept.same_draft };
  history = c.serve_end.ensures.history ∙ c.loop.invariant.history;
  store_later = omega (arith, c.loop.invariant.store_later, c.serve_end.ensures.store_later);
  later = omega (arith, c.loop.invariant.later, c.in-Ok.ensures.cause.stands);
}

pub returns-in-Err-clause-cut : goal.returns-in-Err-clause-cut
returns-in-Err-clause-cut g c = λ m told list is.
    served_by m c.args.dataset.now c.loop.counter (g.S.Source.faults c.args.store.now) (g.S.Source.faults c.loop.store) (g.S.Source.faults c.serve_end.new.store) list (g.D.Door.served c.loop.door) (g.D.Door.served c.serve_end.new.door)
    (c.loop.invariant.served m told list is) c.serve_end.ensures.store_later c.in-Err.refusal c.args.connections (g.D.Door.accepted c.args.door.now) (g.D.Door.accepted c.loop.door) (g.D.Door.accepted c.serve_end.new.door)
    c.loop.invariant.accepted c.loop-test.true c.in-Err.ensures.refused (c.in-Err.ensures.cut m (c.loop.invariant.kept.same_objects ∙ told))

pub returns-in-Err-clause-refused : goal.returns-in-Err-clause-refused
returns-in-Err-clause-refused g c =
    gave_later c.in-Err.refusal c.args.connections c.loop.counter (g.D.Door.accepted c.args.door.now) (g.D.Door.accepted c.loop.door) (g.D.Door.accepted c.serve_end.new.door) c.loop.invariant.accepted c.loop-test.true c.in-Err.ensures.refused

pub returns-in-Err-clause-noted : goal.returns-in-Err-clause-noted
returns-in-Err-clause-noted g c =
    noted_more (g.D.Door.served c.args.door.now) (g.D.Door.served c.loop.door) (g.D.Door.served c.serve_end.new.door) (g.D.Door.accepted c.args.door.now) (g.D.Door.accepted c.loop.door) (g.D.Door.accepted c.serve_end.new.door)
    c.loop.invariant.noted c.serve_end.ensures.noted

pub returns-clause-served : goal.returns-clause-served
returns-clause-served g c = λ m told list is.
    let all : c.loop.counter ≡ c.args.connections = omega (arith, c.loop-test.false, c.loop.auto.counter-end) in
    subst (λ n. AddsServed m c.args.dataset.now n (g.S.Source.faults c.args.store.now) (g.S.Source.faults c.loop.store) list (g.D.Door.served c.loop.door)) all (c.loop.invariant.served m told list is)
