use Rattle.std.proofs.Common.{◌≡◌, ◌≢◌, ◌∙◌, ◌<◌, ◌≤◌, ◌+◌, ℕ, List, false, Some, inl, inr, subst, arith}
use Rattle.std.proofs.lemmas.Bool.{cases_eq, cases_lt}
use Rattle.vol_base.specs.Outside.{Objects}
use Rattle.request_heads.specs.Heads.{pending}
use Rattle.range_server.specs.Bodies.{failures}
use Rattle.range_server.specs.Replies.{EndsIn, Gained, GoesOn}
use Rattle.range_server.specs.Turns.{IfEnd, IfNext}
use Rattle.range_server.proofs.ServeSteps.{reached_more, served_all, served_front}
use Rattle.range_server.proofs.conn.serve_link.Goals as goal

pub loop-number-preserved : goal.loop-number-preserved
loop-number-preserved g c =
    let waiting = pending c.loop-number.desk.received.items c.loop-number.len (g.L.Link.left c.loop-number.link) in
    let sent = g.L.Link.sent c.loop-number.link in
    let next = g.L.Link.sent c.serve_one.new.link in
    let within = subst (λ t. IfNext t (λ more. more ≤ 8192)) c.in-Ok-Next.field-0-is c.in-Ok-Next.ensures.within in
    let last = subst (λ t. IfNext t (λ _. c.loop-number.number ≢ 65535)) c.in-Ok-Next.field-0-is c.in-Ok-Next.ensures.last in
    let calm = subst (λ t. IfNext t (λ _. c.serve_one.new.desk.writer.failing ≡ false)) c.in-Ok-Next.field-0-is c.in-Ok-Next.ensures.calm in
    let on = subst (λ t. IfNext t (λ more. (m : Objects) → g.S.Source.objects c.loop-number.store ≡ Some m → (rest : List ℕ) → waiting ≡ Some rest
    → GoesOn m c.args.dataset.now c.loop-number.number rest sent next (pending c.serve_one.new.desk.received.items more (g.L.Link.left c.serve_one.new.link)))) c.in-Ok-Next.field-0-is c.in-Ok-Next.ensures.goes_on in
    record {
      calm = calm;
      within = within;
      alive = elim (cases_eq (c.loop-number.number + 1) 65536) [ inl e ↦ absurd (last (omega (arith, e))) | inr apart ↦ below c.loop-number-test.true apart ];
      reached = λ m told stream all. reached_more m c.args.dataset.now stream c.loop-number.number waiting (pending c.serve_one.new.desk.received.items c.in-Ok-Next.more (g.L.Link.left c.serve_one.new.link)) (g.L.Link.sent c.args.link.now) sent next
          (c.loop-number.invariant.reached m told stream all) (λ rest is. on m (c.loop-number.invariant.kept.same_objects ∙ told) rest is);
      stream = c.serve_one.ensures.serves.stream ∙ c.loop-number.invariant.stream;
      kept = record { same_objects = c.serve_one.ensures.serves.kept.same_objects ∙ c.loop-number.invariant.kept.same_objects; same_draft = c.serve_one.ensures.serves.kept.same_draft ∙ c.loop-number.invariant.kept.same_draft };
      history = c.serve_one.ensures.serves.history ∙ c.loop-number.invariant.history;
      link_stands = c.serve_one.ensures.serves.cause.link_stands (λ no. absurd (cc no)) ∙ c.loop-number.invariant.link_stands;
      store_later = omega (arith, c.loop-number.invariant.store_later, c.serve_one.ensures.serves.cause.store_later);
    }
  where
    below : {n : ℕ} → n < 65536 → (n + 1 ≡ 65536 → ⊥) → n + 1 < 65536
    below {n} lt apart = elim (cases_lt (n + 1) 65536) [ inl less ↦ less | inr le ↦ absurd (apart (omega (arith, lt, le))) ]

pub returns-in-Ok-End-clause-ended : goal.returns-in-Ok-End-clause-ended
returns-in-Ok-End-clause-ended g c = λ m told stream all.
    let ends = subst (λ t. IfEnd t (λ how. (m : Objects) → g.S.Source.objects c.loop-number.store ≡ Some m → (rest : List ℕ) → pending c.loop-number.desk.received.items c.loop-number.len (g.L.Link.left c.loop-number.link) ≡ Some rest
    → Gained (EndsIn m c.args.dataset.now how c.loop-number.number rest) (g.L.Link.sent c.loop-number.link) (g.L.Link.sent c.serve_one.new.link))) c.in-Ok-End.field-0-is c.in-Ok-End.ensures.ends in
    served_all m c.args.dataset.now stream c.in-Ok-End.ending c.loop-number.number
    (pending c.loop-number.desk.received.items c.loop-number.len (g.L.Link.left c.loop-number.link)) (g.L.Link.sent c.args.link.now) (g.L.Link.sent c.loop-number.link) (g.L.Link.sent c.serve_one.new.link)
    (c.loop-number.invariant.reached m told stream all)
    (λ rest is. ends m (c.loop-number.invariant.kept.same_objects ∙ told) rest is)

pub returns-in-Err-clause-stopped : goal.returns-in-Err-clause-stopped
returns-in-Err-clause-stopped g c = λ m told stream all.
    served_front m c.args.dataset.now stream 0 0 (failures c.serve_one.new.desk.writer.failing) c.loop-number.number c.in-Err.fault
    (pending c.loop-number.desk.received.items c.loop-number.len (g.L.Link.left c.loop-number.link)) (g.L.Link.sent c.args.link.now) (g.L.Link.sent c.loop-number.link) (g.L.Link.sent c.serve_one.new.link)
    (omega arith) (c.loop-number.invariant.reached m told stream all)
    (λ rest is. c.in-Err.ensures.stops m (c.loop-number.invariant.kept.same_objects ∙ told) rest is)
