use Rattle.std.proofs.Common.{◌∙◌, ap}
use Rattle.remote_store.specs.declared.wanted.Wanted.TheVariants.{Length}
use Rattle.remote_store.specs.Sent.{request_bytes}
use Rattle.remote_store.specs.Texts.{request_text}
use Rattle.remote_store.proofs.AskSteps.{asks_text}
use Rattle.remote_store.proofs.RequestTexts.{printed}
use Rattle.remote_store.proofs.EndSteps.{end_of}
use Rattle.remote_store.proofs.CallSteps.{asks_for, peer_fits, told_length}
use Rattle.remote_store.proofs.SentSteps.{sent_request}
use Rattle.remote_store.proofs.calls.call_length.Goals as goal

pub write_request-requires-clause-peer : goal.write_request-requires-clause-peer
write_request-requires-clause-peer g c = peer_fits c.args.host.now c.args.peer.now c.args.port c.requires.host c.requires.peer c.ranges.port.fits

pub returns-clause-told : goal.returns-clause-told
returns-clause-told g c =
    let text = c.as_slice.result.now in
    let bytes = c.as_slice.ensures.value ∙ c.write_request.ensures.bytes in
    told_length c.args.host.now text c.args.key.now c.args.port c.args.kept.now (g.D.Dial.peer c.args.dial.now) (g.D.Dial.line c.args.dial.now) c.ask_length.result
    (asks_for c.args.host.now c.args.peer.now text c.args.key.now c.args.port Length c.requires.host c.requires.peer c.ranges.port.fits c.as_bytes-name.ensures.form tt bytes) c.ask_length.ensures.told

pub returns-clause-end : goal.returns-clause-end
returns-clause-end g c =
    let bytes = c.as_slice.ensures.value ∙ c.write_request.ensures.bytes in
    end_of c.ask_length.result
    (λ dataset short. (c.args.key.now, asks_for c.args.host.now c.args.peer.now c.as_slice.result.now c.args.key.now c.args.port Length c.requires.host c.requires.peer c.ranges.port.fits c.as_bytes-name.ensures.form tt bytes dataset short))
    c.ask_length.ensures.end

pub returns-clause-sent : goal.returns-clause-sent
returns-clause-sent g c =
    let bytes = c.as_slice.ensures.value ∙ c.write_request.ensures.bytes in
    sent_request c.ask_length.result c.args.host.now c.args.peer.now c.as_slice.result.now c.args.key.now c.args.port Length c.args.kept.now (g.D.Dial.peer c.args.dial.now) (g.D.Dial.line c.args.dial.now) (g.D.Dial.line c.ask_length.new.dial)
    c.requires.peer bytes c.ask_length.ensures.sent

pub returns-clause-asks : goal.returns-clause-asks
returns-clause-asks g c =
    let bytes = c.as_slice.ensures.value ∙ c.write_request.ensures.bytes ∙ ap (λ p. request_text p c.args.key.now Length) c.requires.peer ∙ printed c.args.host.now c.args.port c.args.key.now Length in
    asks_text c.ask_length.result c.as_slice.result.now (request_bytes (c.args.host.now, c.args.port) c.args.key.now Length) (g.D.Dial.sent c.args.dial.now) (g.D.Dial.sent c.ask_length.new.dial) bytes c.ask_length.ensures.asks
