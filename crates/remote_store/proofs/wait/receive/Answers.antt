use Rattle.std.proofs.Common.{◌≤◌, ◌-◌, ◌+◌, ◌++◌, ◌∙◌, length, ap, sym, option_map, arith}
use Rattle.request_heads.specs.Heads.{pending}
use Rattle.request_heads.proofs.WaitSteps.{pending_more}
use borrow.Rule.Slice.PartMut.{put_mid}
use Rattle.std.proofs.lemmas.Grind.{common_steps}
use Rattle.remote_store.specs.Dials.{given_more}
use Rattle.remote_store.proofs.ReplyHeads.{piece_is}
use Rattle.remote_store.proofs.wait.receive.Goals as goal

pub returns-clause-pending : goal.returns-clause-pending
returns-clause-pending g c =
    ap (pending (put_mid c.args.there (length c.args.buffer.now - c.args.there) c.args.buffer.now c.recv.new.out) (c.args.there + c.in_ok-n.n)) c.in_ok-n.ensures.left
    ∙ pending_more (g.D.Dial.left c.args.dial.now) c.args.there c.in_ok-n.n (length c.args.buffer.now - c.args.there) c.args.buffer.now c.recv.new.out (omega (arith, c.requires.room)) (grind (arith, common_steps, c.in_ok-n.ensures.within, c.recv.auto.out)) c.in_ok-n.ensures.read

pub returns-clause-received : goal.returns-clause-received
returns-clause-received g c =
    let front : c.args.there ≤ length c.args.buffer.now = omega (arith, c.requires.room) in
    let within : c.in_ok-n.n ≤ length c.recv.new.out = grind (arith, common_steps, c.in_ok-n.ensures.within, c.recv.auto.out) in
    let piece = piece_is c.args.there c.in_ok-n.n (length c.args.buffer.now - c.args.there) c.args.buffer.now c.recv.new.out front within in
    c.in_ok-n.ensures.received ∙ ap (λ x. option_map (λ w. w ++ x) (g.D.Dial.received c.args.dial.now)) (sym piece)

pub returns-clause-line : goal.returns-clause-line
returns-clause-line g c =
    let front : c.args.there ≤ length c.args.buffer.now = omega (arith, c.requires.room) in
    let within : c.in_ok-n.n ≤ length c.recv.new.out = grind (arith, common_steps, c.in_ok-n.ensures.within, c.recv.auto.out) in
    let piece = piece_is c.args.there c.in_ok-n.n (length c.args.buffer.now - c.args.there) c.args.buffer.now c.recv.new.out front within in
    c.in_ok-n.ensures.line ∙ ap (λ x. option_map (given_more x) (g.D.Dial.line c.args.dial.now)) (sym piece)
