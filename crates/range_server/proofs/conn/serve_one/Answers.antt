use Rattle.std.proofs.Common.{◌≢◌, ◌∙◌, ◌≤◌, ◌++◌, length, length-take, take, drop, IfSome, option_map, subst, sym, arith}
use Rattle.httparse.specs.Grammar.{ReadsRequest}
use Rattle.request_heads.specs.Answers.{HasParts, IsNext}
use Rattle.range_server.specs.Bodies.{failures}
use Rattle.range_server.specs.Replies.{Answered}
use Rattle.range_server.specs.declared.fault.ServeFault.TheVariants.{LinkFault, StoreFault}
use Rattle.range_server.proofs.ConnSteps.{ends_here, goes_on, stops_bad, stops_here, stops_nothing}
use Rattle.range_server.proofs.conn.serve_one.Goals as goal

pub returns-in-Err-clause-stops : goal.returns-in-Err-clause-stops
returns-in-Err-clause-stops g c = λ m told rest is.
    let other : LinkFault ≢ StoreFault = λ e. absurd (cc e) in
    stops_nothing m c.args.dataset.now c.args.number 0 (failures c.wait_head.new.desk.writer.failing) rest LinkFault (g.L.Link.sent c.args.link.now) (g.L.Link.sent c.wait_head.new.link) other c.wait_head.ensures.sent

pub returns-in-Err-send_bad-clause-stops : goal.returns-in-Err-send_bad-clause-stops
returns-in-Err-send_bad-clause-stops g c = λ m told rest is.
    let next = subst (IsNext rest) c.in-Bad.is (subst (λ o. IfSome o (λ stream. IsNext stream c.in-Ok.found.0)) is c.in-Ok.ensures.next) in
    stops_bad m c.args.dataset.now c.args.number 0 (failures c.wait_head.new.desk.writer.failing) rest c.in-Err-send_bad.fault (g.L.Link.sent c.args.link.now) (g.L.Link.sent c.wait_head.new.link) (g.L.Link.sent c.send_bad.new.link)
    c.in-Err-send_bad.ensures.store c.wait_head.ensures.sent next c.in-Err-send_bad.ensures.cut

pub returns-in-Ok-None-clause-goes_on : goal.returns-in-Ok-None-clause-goes_on
returns-in-Ok-None-clause-goes_on g c = λ m told rest is.
    let received = take c.in-Ok.found.1 c.wait_head.new.desk.received.items in
    let has = subst (HasParts received c.wait_head.new.desk.spans.items) c.in-Head.is c.in-Ok.ensures.parts in
    let few : length received ≤ 8192 = omega (arith, c.in-Ok.ensures.within, length-take c.in-Ok.found.1 c.wait_head.new.desk.received.items) in
    let reads = subst (λ b. ReadsRequest (take c.in-Ok.found.1 b) has.1.0 (drop c.in-Head.parts.len received)) (sym c.as_slice.ensures.value) has.1.1.reads in
    goes_on m c.args.dataset.now c.args.number 0 (failures c.answer_head.new.writer.failing) rest (g.L.Link.left c.wait_head.new.link) received c.wait_head.new.desk.spans.items c.in-Head.parts
    (g.L.Link.sent c.args.link.now) (g.L.Link.sent c.wait_head.new.link) (g.L.Link.sent c.answer_head.new.link) few has.1 (c.in-Ok.ensures.pending ∙ is) c.wait_head.ensures.sent _
    (λ i. option_map (λ bytes. c.drop_head.ensures.rest i ++ bytes) (c.answer_head.ensures.left i)) (subst (Answered m c.args.dataset.now c.args.number has.1.0 (g.L.Link.sent c.wait_head.new.link) (g.L.Link.sent c.answer_head.new.link))
    c.in-Ok-None.field-0-is (c.in-Ok-None.ensures.answered m told has.1.0 (drop c.in-Head.parts.len received) reads))

pub returns-in-Ok-Some-clause-ends : goal.returns-in-Ok-Some-clause-ends
returns-in-Ok-Some-clause-ends g c = λ m told rest is.
    let received = take c.in-Ok.found.1 c.wait_head.new.desk.received.items in
    let has = subst (HasParts received c.wait_head.new.desk.spans.items) c.in-Head.is c.in-Ok.ensures.parts in
    let few : length received ≤ 8192 = omega (arith, c.in-Ok.ensures.within, length-take c.in-Ok.found.1 c.wait_head.new.desk.received.items) in
    let reads = subst (λ b. ReadsRequest (take c.in-Ok.found.1 b) has.1.0 (drop c.in-Head.parts.len received)) (sym c.as_slice.ensures.value) has.1.1.reads in
    ends_here m c.args.dataset.now c.args.number 0 (failures c.answer_head.new.writer.failing) rest (g.L.Link.left c.wait_head.new.link) received c.wait_head.new.desk.spans.items c.in-Head.parts
    (g.L.Link.sent c.args.link.now) (g.L.Link.sent c.wait_head.new.link) (g.L.Link.sent c.answer_head.new.link) few has.1 (c.in-Ok.ensures.pending ∙ is) c.wait_head.ensures.sent
    c.in-Ok-Some.ending (subst (Answered m c.args.dataset.now c.args.number has.1.0 (g.L.Link.sent c.wait_head.new.link) (g.L.Link.sent c.answer_head.new.link))
    c.in-Ok-Some.field-0-is (c.in-Ok-Some.ensures.answered m told has.1.0 (drop c.in-Head.parts.len received) reads))

pub returns-in-Err-answer_head-clause-stops : goal.returns-in-Err-answer_head-clause-stops
returns-in-Err-answer_head-clause-stops g c = λ m told rest is.
    let received = take c.in-Ok.found.1 c.wait_head.new.desk.received.items in
    let has = subst (HasParts received c.wait_head.new.desk.spans.items) c.in-Head.is c.in-Ok.ensures.parts in
    let few : length received ≤ 8192 = omega (arith, c.in-Ok.ensures.within, length-take c.in-Ok.found.1 c.wait_head.new.desk.received.items) in
    let reads = subst (λ b. ReadsRequest (take c.in-Ok.found.1 b) has.1.0 (drop c.in-Head.parts.len received)) (sym c.as_slice.ensures.value) has.1.1.reads in
    stops_here m c.args.dataset.now c.args.number 0 (failures c.answer_head.new.writer.failing) rest (g.L.Link.left c.wait_head.new.link) received c.wait_head.new.desk.spans.items c.in-Head.parts
    (g.L.Link.sent c.args.link.now) (g.L.Link.sent c.wait_head.new.link) (g.L.Link.sent c.answer_head.new.link) few has.1 (c.in-Ok.ensures.pending ∙ is) c.wait_head.ensures.sent
    c.in-Err-answer_head.fault (c.in-Err-answer_head.ensures.cut m told has.1.0 (drop c.in-Head.parts.len received) reads)
