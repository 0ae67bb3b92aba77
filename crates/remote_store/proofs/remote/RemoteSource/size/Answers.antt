use Rattle.std.proofs.Common.{◌≡◌, ◌∙◌, Ok, Err, Some, None, refl, string_bytes}
use Rattle.remote_store.specs.Shown.{key_in, shown}
use Rattle.remote_store.proofs.AskSteps.{asks_key, asks_no_key}
use Rattle.remote_store.proofs.HeardParts.{kept_nowhere}
use Rattle.remote_store.proofs.KeySteps.{key_parts}
use Rattle.remote_store.proofs.Looked.{if_shown, no_length}
use Rattle.remote_store.specs.Remotes.{IsSame, IsSize}
use Rattle.remote_store.specs.declared.wanted.Wanted.TheVariants.{Length}
use Rattle.remote_store.proofs.JudgedSteps.{if_any, if_none, judged_failed, judged_size}
use Rattle.remote_store.proofs.SentSteps.{at_key, no_key}
use Rattle.remote_store.proofs.RemoteSteps.{found_told}
use Rattle.remote_store.proofs.remote.RemoteSource.size.Goals as goal

pub returns-in-None-clause-found : goal.returns-in-None-clause-found
returns-in-None-clause-found g c =
    let s = c.args.self.now in
    let e : key_in s.dataset c.args.name.now ≡ None = cc in
    no_length s.dataset (g.D.Dial.peer s.dial) c.args.name.now e

pub ask_length-requires : goal.ask_length-requires
ask_length-requires g c =
    let s = c.args.self.now in
    let e : key_in s.dataset c.args.name.now ≡ Some c.in-Some.key = cc in
    (key_parts s.dataset c.args.name.now c.in-Some.key c.as_bytes-name.ensures.form e).named

pub returns-in-Ok-clause-found : goal.returns-in-Ok-clause-found
returns-in-Ok-clause-found g c =
    let s = c.args.self.now in
    let e : key_in s.dataset c.args.name.now ≡ Some c.in-Some.key = cc in
    let k = key_parts s.dataset c.args.name.now c.in-Some.key c.as_bytes-name.ensures.form e in
    if_shown (shown s.dataset (g.D.Dial.peer s.dial)) (found_told s.dataset c.args.name.now c.in-Some.key (g.D.Dial.peer s.dial) c.in-Ok.promise k c.in-Ok.ensures.told) (λ m x. c.find_size.ensures ∙ x)

pub returns-in-None-clause-judged : goal.returns-in-None-clause-judged
returns-in-None-clause-judged g c =
    let e : key_in c.args.self.now.dataset c.args.name.now ≡ None = cc in
    if_none _ (key_in c.args.self.now.dataset c.args.name.now) e

pub returns-in-Ok-clause-judged : goal.returns-in-Ok-clause-judged
returns-in-Ok-clause-judged g c = if_any (key_in c.args.self.now.dataset c.args.name.now) (judged_size _ _ _ _ _ _ _ _ c.in-Ok.promise c.find_size.result c.find_size.ensures c.in-Ok.ensures.judged)

pub returns-in-Err-clause-judged : goal.returns-in-Err-clause-judged
returns-in-Err-clause-judged g c = if_any (key_in c.args.self.now.dataset c.args.name.now) (judged_failed _ _ _ _ _ _ _ _ Length Length IsSame IsSize _ refl c.in-Err.ensures.judged)

pub returns-in-None-clause-kept_end : goal.returns-in-None-clause-kept_end
returns-in-None-clause-kept_end g c = kept_nowhere c.args.self.now.kept

pub returns-in-None-clause-sent : goal.returns-in-None-clause-sent
returns-in-None-clause-sent g c =
    let e : key_in c.args.self.now.dataset c.args.name.now ≡ None = cc in
    no_key _ (key_in c.args.self.now.dataset c.args.name.now) e

pub returns-in-Ok-clause-sent : goal.returns-in-Ok-clause-sent
returns-in-Ok-clause-sent g c =
    let e : key_in c.args.self.now.dataset c.args.name.now ≡ Some c.in-Some.key = cc in
    at_key _ (key_in c.args.self.now.dataset c.args.name.now) c.in-Some.key e c.in-Ok.ensures.sent

pub returns-in-Err-clause-sent : goal.returns-in-Err-clause-sent
returns-in-Err-clause-sent g c = if_any (key_in c.args.self.now.dataset c.args.name.now) tt

pub returns-in-None-clause-asks : goal.returns-in-None-clause-asks
returns-in-None-clause-asks g c =
    let s = c.args.self.now in
    let e : key_in s.dataset c.args.name.now ≡ None = cc in
    asks_no_key (key_in s.dataset c.args.name.now) (string_bytes s.host, s.port) Length (g.D.Dial.sent s.dial) (g.D.Dial.sent s.dial) (Ok None) e

pub returns-in-Ok-clause-asks : goal.returns-in-Ok-clause-asks
returns-in-Ok-clause-asks g c =
    let s = c.args.self.now in
    let e : key_in s.dataset c.args.name.now ≡ Some c.in-Some.key = cc in
    asks_key (key_in s.dataset c.args.name.now) c.in-Some.key (string_bytes s.host, s.port) Length Length (g.D.Dial.sent s.dial) (g.D.Dial.sent c.ask_length.new.self.dial) (Ok c.in-Ok.promise) (Ok c.find_size.result) e refl (λ h. h) c.in-Ok.ensures.asks

pub returns-in-Err-clause-asks : goal.returns-in-Err-clause-asks
returns-in-Err-clause-asks g c =
    let s = c.args.self.now in
    let e : key_in s.dataset c.args.name.now ≡ Some c.in-Some.key = cc in
    asks_key (key_in s.dataset c.args.name.now) c.in-Some.key (string_bytes s.host, s.port) Length Length (g.D.Dial.sent s.dial) (g.D.Dial.sent c.ask_length.new.self.dial) (Err c.in-Err.failed) (Err c.in-Err.failed) e refl (λ h. h) c.in-Err.ensures.asks
