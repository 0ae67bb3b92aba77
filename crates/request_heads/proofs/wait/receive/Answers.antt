use Rattle.std.proofs.Common.{◌-◌, ◌+◌, ◌∙◌, length, ap, arith}
use Rattle.request_heads.specs.Heads.{pending}
use Rattle.request_heads.proofs.WaitSteps.{pending_more}
use borrow.Rule.Slice.PartMut.{put_mid}
use Rattle.std.proofs.lemmas.Grind.{common_steps}
use Rattle.request_heads.proofs.wait.receive.Goals as goal

pub returns-clause-pending : goal.returns-clause-pending
returns-clause-pending g c =
    ap (pending (put_mid c.args.len (length c.args.buffer.now - c.args.len) c.args.buffer.now c.recv.new.out) (c.args.len + c.in_ok-n.n)) c.in_ok-n.ensures.left
    ∙ pending_more (g.L.Link.left c.args.link.now) c.args.len c.in_ok-n.n (length c.args.buffer.now - c.args.len) c.args.buffer.now c.recv.new.out (omega (arith, c.requires)) (grind (arith, common_steps, c.in_ok-n.ensures.within, c.recv.auto.out)) c.in_ok-n.ensures.read
