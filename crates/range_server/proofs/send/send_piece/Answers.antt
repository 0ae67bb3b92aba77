use Rattle.std.proofs.Common.{Some, length}
use Rattle.range_server.specs.Bodies.{object_in}
use Rattle.range_server.proofs.SendSteps.{piece_unread, piece_sent, piece_cut}
use Rattle.range_server.proofs.send.send_piece.Goals as goal

pub returns-in-Err-clause-cut : goal.returns-in-Err-clause-cut
returns-in-Err-clause-cut g c = λ m told. piece_unread (object_in m (Some c.args.name.now)) c.args.at (length c.args.piece.now) (g.L.Link.sent c.args.link.now) c.requires.some

pub returns-in-Ok-send_all-clause-sent : goal.returns-in-Ok-send_all-clause-sent
returns-in-Ok-send_all-clause-sent g c = λ m told. piece_sent (object_in m (Some c.args.name.now)) c.args.at c.args.piece.now c.read_piece.new.out (g.L.Link.sent c.args.link.now) (g.L.Link.sent c.send_all.new.link) (c.in-Ok.ensures.bytes m told) c.in-Ok-send_all.ensures.sent

pub returns-in-Err-send_all-clause-cut : goal.returns-in-Err-send_all-clause-cut
returns-in-Err-send_all-clause-cut g c = λ m told. piece_cut (object_in m (Some c.args.name.now)) c.args.at c.args.piece.now c.read_piece.new.out (g.L.Link.sent c.args.link.now) (g.L.Link.sent c.send_all.new.link) (c.in-Ok.ensures.bytes m told) c.read_piece.auto.out c.in-Err-send_all.ensures.front
