use Rattle.std.proofs.Common.{◌≡◌, ◌+◌, ◌-◌, ◌≤◌, min, length, length-take, length-drop, take, drop, refl, arith}
use Rattle.range_server.specs.Bodies.{body_in}
use Rattle.range_server.proofs.SendSteps.{body_front, lead_is}
use Rattle.range_server.proofs.write.load_lead.Goals as goal

pub returns-in-Ok-clause-lead : goal.returns-in-Ok-clause-lead
returns-in-Ok-clause-lead g c = λ m told has.
    let h = length c.args.head.now in
    let piece = c.put_front.new.piece in
    let n : c.min-taken.result ≡ min (length piece - h) c.args.reply.now.count = c.min-taken.ensures in
    let room : h ≤ length piece = omega (arith, c.requires.room, c.put_front.auto.piece) in
    let slice = take (h + c.min-taken.result - h) (drop h piece) in
    let long : length slice ≡ c.min-taken.result = omega (arith, n, room, length-take (h + c.min-taken.result - h) (drop h piece), length-drop h piece) in
    let front = body_front m c.args.reply.now c.in-Some.name slice c.read_piece.new.out c.min-taken.result c.if-not-reply.false c.in-Some.is has long (omega (arith, n)) (c.in-Ok.ensures.bytes m told) in
    lead_is c.args.head.now (body_in m c.args.reply.now) piece _ c.read_piece.new.out c.min-taken.result c.put_front.ensures room front.0 front.1 refl
