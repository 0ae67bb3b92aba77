use Rattle.std.proofs.Common.{◌≡◌, ◌∙◌, ap, refl}
use Rattle.vol_base.specs.Peers.{Linked, left_in}
use Rattle.peer_dial.specs.Shelves.{HasReplies, objects_on}
use Rattle.peer_dial.proofs.PeerSteps.{if_ok, made_replies}
use Rattle.peer_dial.proofs.serving.make_replies.Goals as goal

pub returns : goal.returns
returns c =
    let m = objects_on c.args.entries.now in
    let link = c.in_ok-link.link in
    let left : left_in link ≡ c.args.sent.now = ap left_in c.in_ok-link.ensures ∙ c.in_ok-bytes.ensures in
    let old = ap (λ (l : Linked). l.sent) c.in_ok-link.ensures in
    let gained = c.in-Ok.ensures.served m refl (left_in link) refl in
    if_ok (λ copy. copy.items ≡ c.sent.result.now) (λ copy. HasReplies m c.args.dataset.now c.args.sent.now copy.items) c.copy_bytes-2.result
    (λ copy same. made_replies c.tell_replies.ensures.one m c.args.dataset.now _ _ _ _ _ left old gained (same ∙ c.sent.ensures)) c.copy_bytes-2.ensures
