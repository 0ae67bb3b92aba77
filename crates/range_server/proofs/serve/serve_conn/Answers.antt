use Rattle.std.proofs.Common.{Ok, Some, IfErr, IfOk, ap, subst, ◌≡◌, ◌∙◌, List, ℕ}
use Rattle.vol_base.specs.Outside.{Objects}
use Rattle.range_server.proofs.CauseSteps.{is_failing}
use Rattle.range_server.proofs.ServeSteps.{served_as, stopped_by}
use Rattle.range_server.specs.Bodies.{failures}
use Rattle.range_server.specs.Replies.{Gained, ServedIn, Stopped}
use Rattle.range_server.proofs.serve.serve_conn.Goals as goal

pub returns-in-Ok-clause-served : goal.returns-in-Ok-clause-served
returns-in-Ok-clause-served g c = λ m told stream all.
    let e = c.serve_to_end-served.ensures in
    let ended = subst (λ r. IfOk r (λ ending. (m : Objects) → g.S.Source.objects c.args.store.now ≡ Some m → (stream : List ℕ) → g.L.Link.left c.args.link.now ≡ Some stream
    → Gained (ServedIn m c.args.dataset.now ending stream) (g.L.Link.sent c.args.link.now) (g.L.Link.sent c.serve_to_end-served.new.link))) c.in-Ok.is e.ended in
    let got = ended m told stream all in
    (got.0, served_as m c.args.dataset.now stream (g.S.Source.faults c.args.store.now) (g.S.Source.faults c.serve_to_end-served.new.store) c.in-Ok.field-0 got.0 (λ is. e.failed (c.in-Ok.is ∙ ap Ok is)) got.1, got.2)

pub returns-in-Err-clause-stopped : goal.returns-in-Err-clause-stopped
returns-in-Err-clause-stopped g c = λ m told stream all.
    let e = c.serve_to_end-served.ensures in
    let failing = c.serve_to_end-served.result.failing in
    let stopped = subst (λ r. IfErr r (λ fault. (m : Objects) → g.S.Source.objects c.args.store.now ≡ Some m → (stream : List ℕ) → g.L.Link.left c.args.link.now ≡ Some stream
    → Gained (Stopped m c.args.dataset.now 0 (failures failing) fault stream) (g.L.Link.sent c.args.link.now) (g.L.Link.sent c.serve_to_end-served.new.link))) c.in-Err.is e.stopped in
    let got = stopped m told stream all in
    (got.0, stopped_by m c.args.dataset.now stream 0 (failures failing) (g.S.Source.faults c.args.store.now) (g.S.Source.faults c.serve_to_end-served.new.store) c.in-Err.fault got.0 (λ rose. e.failing (is_failing failing rose)) got.1, got.2)
