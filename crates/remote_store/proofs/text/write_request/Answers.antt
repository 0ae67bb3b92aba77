use Rattle.std.proofs.Common.{◌≡◌, ◌≤◌, false, true, length, arith}
use Rattle.remote_store.specs.Texts.{request_text}
use Rattle.remote_store.proofs.KeySteps.{name_short}
use Rattle.remote_store.proofs.RequestTexts.{request_short}
use Rattle.remote_store.proofs.text.write_request.Goals as goal

pub unreachable-requires : goal.unreachable-requires
unreachable-requires c =
    let short : length (request_text c.args.peer.now c.args.key.now c.args.wanted) ≤ 1024 =
    request_short c.args.peer.now c.args.key.now c.args.wanted c.requires.peer (name_short c.args.key.now c.as_bytes-name.ensures.form) c.requires.some in
    let bad : false ≡ true = c.in-Err.ensures.succeeds (omega (arith, short, c.requires.room)) in
    cc bad
