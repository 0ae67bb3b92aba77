use Rattle.std.proofs.Common.{◌≡◌, ◌∙◌, ◌++◌, Some, ap, take, drop, arith}
use Rattle.std.proofs.Math.Seq.{take-add}
use Rattle.std.proofs.lemmas.Grind.{common_steps}
use Rattle.remote_store.specs.Scripts.{taken_of}
use Rattle.remote_store.proofs.script.ScriptDialDial.recv.Goals as goal

pub returns-else-n-eq0-clause-received : goal.returns-else-n-eq0-clause-received
returns-else-n-eq0-clause-received c =
    let reply = c.self.inside.reply.items in
    let taken = c.self.inside.taken in
    let n = c.give_front-n.result in
    let piece : take n (drop taken reply) ≡ take n c.give_front-n.new.out = grind (arith, common_steps, c.give_front-n.ensures.bytes, c.deref.ensures) in
    ap Some (take-add taken n reply ∙ ap (λ x. take taken reply ++ x) piece) ∙ ap (λ s. Some (taken_of s ++ take n c.give_front-n.new.out)) c.self.view_is
