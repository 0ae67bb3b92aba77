use Rattle.std.proofs.Common.{◌≡◌, ◌∙◌, Some, length, length-append, length-drop, length-take, drop, take, subst, arith}
use Rattle.range_server.specs.Bodies.{CutsPart, SendsPart, object_in}
use Rattle.range_server.proofs.SendSteps.{more_sent, more_cut}
use Rattle.range_server.proofs.send.send_rest.Goals as goal

pub returns-in-Err-clause-cut : goal.returns-in-Err-clause-cut
returns-in-Err-clause-cut g c = λ m told.
    let room : length (take c.min-n.result c.loop-at.piece) ≡ c.min-n.result = omega (arith, length-take c.min-n.result c.loop-at.piece, c.min-n.ensures) in
    more_cut (object_in m (Some c.args.name.now)) c.args.from c.loop-at.at c.min-n.result c.args.end (g.L.Link.sent c.args.link.now) (g.L.Link.sent c.loop-at.link) (g.L.Link.sent c.send_piece.new.link) c.in-Err.fault
    c.loop-at.invariant.begun (omega (arith, c.min-n.ensures, c.loop-at.invariant.within)) (c.loop-at.invariant.gained m told) (subst (λ n. CutsPart (object_in m (Some c.args.name.now)) c.loop-at.at n (g.L.Link.sent c.loop-at.link) (g.L.Link.sent c.send_piece.new.link) c.in-Err.fault) room (c.in-Err.ensures.cut m (c.loop-at.invariant.kept.same_objects ∙ told)))

pub loop-at-preserved : goal.loop-at-preserved
loop-at-preserved g c =
    let room : length (take c.min-n.result c.loop-at.piece) ≡ c.min-n.result = omega (arith, length-take c.min-n.result c.loop-at.piece, c.min-n.ensures) in
    record {
      room = omega (arith, c.send_piece.auto.piece, c.loop-at.invariant.room, c.min-n.ensures, length-append c.send_piece.new.piece (drop c.min-n.result c.loop-at.piece), length-drop c.min-n.result c.loop-at.piece);
      begun = omega (arith, c.loop-at.invariant.begun);
      within = omega (arith, c.min-n.ensures, c.loop-at.invariant.within);
      gained = λ m told. more_sent (object_in m (Some c.args.name.now)) c.args.from c.loop-at.at c.min-n.result c.args.end (g.L.Link.sent c.args.link.now) (g.L.Link.sent c.loop-at.link) (g.L.Link.sent c.send_piece.new.link)
          c.loop-at.invariant.begun (omega (arith, c.min-n.ensures, c.loop-at.invariant.within)) (c.loop-at.invariant.gained m told) (subst (λ n. SendsPart (object_in m (Some c.args.name.now)) c.loop-at.at n (g.L.Link.sent c.loop-at.link) (g.L.Link.sent c.send_piece.new.link)) room (c.in-Ok.ensures.sent m (c.loop-at.invariant.kept.same_objects ∙ told)));
      left = c.send_piece.ensures.left ∙ c.loop-at.invariant.left;
      stream = c.send_piece.ensures.serves.stream ∙ c.loop-at.invariant.stream;
      kept = record { same_objects = c.send_piece.ensures.serves.kept.same_objects ∙ c.loop-at.invariant.kept.same_objects; same_draft = c.send_piece.ensures.serves.kept.same_draft ∙ c.loop-at.invariant.kept.same_draft };
      history = c.send_piece.ensures.serves.history ∙ c.loop-at.invariant.history;
      link_stands = c.send_piece.ensures.serves.cause.link_stands (λ no. absurd (cc no)) ∙ c.loop-at.invariant.link_stands;
      store_later = omega (arith, c.loop-at.invariant.store_later, c.send_piece.ensures.serves.cause.store_later);
    }
