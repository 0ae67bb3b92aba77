use Rattle.std.proofs.Common.{◌≡◌, ◌∙◌, ◌+◌, ◌-◌, ◌++◌, codes, ap}
use Rattle.remote_store.specs.Texts.{range_text}
use Rattle.remote_store.proofs.RequestTexts.{five_more}
use Rattle.remote_store.proofs.text.write_part_request.Goals as goal

pub returns-clause-bytes : goal.returns-clause-bytes
returns-clause-bytes c =
    let t1 = c.add.new.text.items in
    let key : c.add-2.new.text.items ≡ t1 ++ c.args.key.now = c.in_ok-add-2.ensures.bytes ∙ ap (λ k. t1 ++ k) c.as_bytes.ensures.bytes in
    let all = codes "GET /" ++ c.args.key.now ++ codes " HTTP/1.1\r\nHost: " ++ c.args.peer.now ++ range_text c.args.from (c.args.from + c.args.count - 1) in
    five_more _ _ _ _ _ _ _ _ _ _ _ c.in_ok-add.ensures.bytes key c.in_ok-add-3.ensures.bytes c.in_ok-add-4.ensures.bytes c.in_ok-add_range.ensures.bytes
    ∙ ap (λ t. t ++ all) c.clear.ensures.items
