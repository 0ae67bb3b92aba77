use Rattle.std.proofs.Common.{◌∙◌, arith, subst, sym}
use Rattle.range_server.specs.Replies.{Stopped}
use Rattle.range_server.specs.Serving.{EndServed, NotesGiven}
use Rattle.range_server.specs.declared.fault.ServeFault.TheVariants as fault
use Rattle.range_server.proofs.EndSteps.{closed, ended, ended_short, noted_none, noted_one}
use Rattle.range_server.proofs.ends.serve_end.Goals as goal

pub returns-in-Err-clause-cut : goal.returns-in-Err-clause-cut
returns-in-Err-clause-cut g c = λ m told list is. (c.accept.ensures.served ∙ is, omega arith)

pub returns-then-ran_out-clause-cut : goal.returns-then-ran_out-clause-cut
returns-then-ran_out-clause-cut g c = λ m told list is.
    let before = g.S.Source.faults c.args.store.now in
    let now = g.S.Source.faults c.serve_conn-served.new.store in
    closed list _ _ _ _ _ _ _ _ _ _ _ is (g.met.D.Door.notes c.args.door.now) c.in-Ok.ensures.accepted c.accept.ensures.served c.in-Ok.ensures.told c.in-Ok.ensures.fresh.0 c.in-Ok.ensures.fresh.1 c.serve_conn-served.ensures.stream c.close.ensures.served
    (λ end. Stopped m c.args.dataset.now before now fault.OutOfMemory end.0 end.1)
    (λ s e. ended_short m c.args.dataset.now before now _ _ _ _ told s e c.serve_conn-served.result c.if-ran_out.ensures c.serve_conn-served.ensures.stopped)

pub returns-clause-served : goal.returns-clause-served
returns-clause-served g c = λ m told list is.
    let before = g.S.Source.faults c.args.store.now in
    let now = g.S.Source.faults c.serve_conn-served.new.store in
    closed list _ _ _ _ _ _ _ _ _ _ _ is (g.met.D.Door.notes c.args.door.now) c.in-Ok.ensures.accepted c.accept.ensures.served c.in-Ok.ensures.told c.in-Ok.ensures.fresh.0 c.in-Ok.ensures.fresh.1 c.serve_conn-served.ensures.stream c.close.ensures.served
    (λ end. EndServed m c.args.dataset.now before now end)
    (λ s e. ended m c.args.dataset.now before now _ _ _ _ told s e c.serve_conn-served.result _ _ c.in-Ok.ensures.fresh.2 c.if-ran_out.ensures c.serve_conn-served.ensures.cause c.serve_conn-served.ensures.served c.serve_conn-served.ensures.stopped)

pub returns-in-Err-clause-noted : goal.returns-in-Err-clause-noted
returns-in-Err-clause-noted g c =
    subst (λ n. NotesGiven (g.D.Door.served c.args.door.now) n (g.D.Door.accepted c.args.door.now) (g.D.Door.accepted c.accept.new.self)) (sym c.accept.ensures.served)
    (subst (λ n. NotesGiven (g.D.Door.served c.args.door.now) (g.D.Door.served c.args.door.now) (g.D.Door.accepted c.args.door.now) n) (sym c.in-Err.ensures.refused) (noted_none (g.D.Door.served c.args.door.now) (g.D.Door.accepted c.args.door.now)))

pub returns-then-ran_out-clause-noted : goal.returns-then-ran_out-clause-noted
returns-then-ran_out-clause-noted g c = λ list is.
    noted_one list _ _ _ _ _ _ _ _ _ _ _ (g.met.D.Door.notes c.args.door.now) c.in-Ok.ensures.accepted c.close.ensures.accepted c.accept.ensures.served c.in-Ok.ensures.told c.serve_conn-served.ensures.stream
    (g.met.D.End.Link.course c.serve_conn-served.new.link) c.close.ensures.served is

pub returns-clause-noted : goal.returns-clause-noted
returns-clause-noted g c = λ list is.
    noted_one list _ _ _ _ _ _ _ _ _ _ _ (g.met.D.Door.notes c.args.door.now) c.in-Ok.ensures.accepted c.close.ensures.accepted c.accept.ensures.served c.in-Ok.ensures.told c.serve_conn-served.ensures.stream
    (g.met.D.End.Link.course c.serve_conn-served.new.link) c.close.ensures.served is
