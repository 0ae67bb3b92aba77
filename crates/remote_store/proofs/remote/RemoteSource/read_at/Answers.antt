use Rattle.std.proofs.Common.{string_bytes, ◌≡◌, Ok, Err, Some, None, length, subst, sym, arith, ◌≢◌, []}
use Rattle.std.specs.FinMap as map
use Rattle.vol_base.specs.Outside.{Reads}
use Rattle.remote_store.specs.Shown.{key_in, shown}
use Rattle.remote_store.proofs.AskSteps.{asks_key, asks_no_key}
use Rattle.remote_store.proofs.HeardParts.{kept_nowhere}
use Rattle.remote_store.proofs.KeySteps.{key_parts}
use Rattle.remote_store.proofs.Looked.{if_shown, no_bytes}
use Rattle.remote_store.specs.Remotes.{IsPlaced, IsRead, IsSame, wanted_of}
use Rattle.remote_store.specs.declared.wanted.Wanted.TheVariants.{Length, Part}
use Rattle.remote_store.proofs.JudgedSteps.{if_any, if_none, judged_empty, judged_failed, judged_read, wanted_none, wanted_some}
use Rattle.remote_store.proofs.SentSteps.{at_key, no_key, request_of_wanted}
use Rattle.remote_store.proofs.RemoteSteps.{empty_told, read_told}
use Rattle.vol_base.specs.declared.outside.Got.TheVariants.{Absent}
use Rattle.remote_store.proofs.remote.RemoteSource.read_at.Goals as goal

pub returns-in-None-clause-read : goal.returns-in-None-clause-read
returns-in-None-clause-read g c =
    let s = c.args.self.now in
    let e : key_in s.dataset c.args.name.now ≡ None = cc in
    no_bytes s.dataset (g.D.Dial.peer s.dial) c.args.name.now c.args.at c.args.out.now e

pub ask_length-requires : goal.ask_length-requires
ask_length-requires g c =
    let s = c.args.self.now in
    let e : key_in s.dataset c.args.name.now ≡ Some c.in-Some.key = cc in
    (key_parts s.dataset c.args.name.now c.in-Some.key c.as_bytes-name.ensures.form e).named

pub returns-in-Ok-clause-read : goal.returns-in-Ok-clause-read
returns-in-Ok-clause-read g c =
    let s = c.args.self.now in
    let e : key_in s.dataset c.args.name.now ≡ Some c.in-Some.key = cc in
    let k = key_parts s.dataset c.args.name.now c.in-Some.key c.as_bytes-name.ensures.form e in
    let none : length c.args.out.now ≡ 0 = omega (arith, c.if-count-eq0.true) in
    if_shown (shown s.dataset (g.D.Dial.peer s.dial)) (empty_told s.dataset c.args.name.now c.in-Some.key (g.D.Dial.peer s.dial) c.in-Ok.promise c.args.at c.args.out.now none k c.in-Ok.ensures.told)
    (λ m x. subst (λ got. Reads (map.get m c.args.name.now) c.args.at c.args.out.now c.args.out.now got) (sym c.find_empty_got.ensures) x)

pub ask_part-requires-clause-key : goal.ask_part-requires-clause-key
ask_part-requires-clause-key g c =
    let s = c.args.self.now in
    let e : key_in s.dataset c.args.name.now ≡ Some c.in-Some.key = cc in
    (key_parts s.dataset c.args.name.now c.in-Some.key c.as_bytes-name.ensures.form e).named

pub returns-in-Ok-ask_part-clause-read : goal.returns-in-Ok-ask_part-clause-read
returns-in-Ok-ask_part-clause-read g c =
    let s = c.args.self.now in
    let e : key_in s.dataset c.args.name.now ≡ Some c.in-Some.key = cc in
    let k = key_parts s.dataset c.args.name.now c.in-Some.key c.as_bytes-name.ensures.form e in
    if_shown (shown s.dataset (g.D.Dial.peer s.dial)) (read_told s.dataset c.args.name.now c.in-Some.key (g.D.Dial.peer s.dial) c.in-Ok-ask_part.promise c.args.at c.args.out.now c.ask_part.new.out k c.in-Ok-ask_part.ensures.told)
    (λ m x. subst (λ got. Reads (map.get m c.args.name.now) c.args.at c.args.out.now c.ask_part.new.out got) (sym c.find_got.ensures) x)

pub returns-in-None-clause-judged : goal.returns-in-None-clause-judged
returns-in-None-clause-judged g c =
    let e : key_in c.args.self.now.dataset c.args.name.now ≡ None = cc in
    if_none _ (key_in c.args.self.now.dataset c.args.name.now) e

pub returns-in-Ok-clause-judged : goal.returns-in-Ok-clause-judged
returns-in-Ok-clause-judged g c =
    let none : length c.args.out.now ≡ 0 = omega (arith, c.if-count-eq0.true) in
    if_any (key_in c.args.self.now.dataset c.args.name.now) (judged_empty _ _ _ _ _ _ _ _ c.in-Ok.promise c.find_empty_got.result c.args.at c.args.out.now none c.find_empty_got.ensures c.in-Ok.ensures.judged)

pub returns-in-Err-clause-judged : goal.returns-in-Err-clause-judged
returns-in-Err-clause-judged g c =
    let none : length c.args.out.now ≡ 0 = omega (arith, c.if-count-eq0.true) in
    if_any (key_in c.args.self.now.dataset c.args.name.now) (judged_failed _ _ _ _ _ _ _ _ Length (wanted_of c.args.at (length c.args.out.now)) IsSame (IsRead c.args.at c.args.out.now c.args.out.now) _ (wanted_none [] 0 None None 0 0 0 0 c.args.at (length c.args.out.now) none) c.in-Err.ensures.judged)

pub returns-in-Ok-ask_part-clause-judged : goal.returns-in-Ok-ask_part-clause-judged
returns-in-Ok-ask_part-clause-judged g c =
    let some : length c.args.out.now ≢ 0 = λ e. absurd (c.if-count-eq0.false e) in
    if_any (key_in c.args.self.now.dataset c.args.name.now) (judged_read _ _ _ _ _ _ _ _ c.in-Ok-ask_part.promise c.find_got.result c.args.at c.args.out.now c.ask_part.new.out some c.find_got.ensures c.in-Ok-ask_part.ensures.judged)

pub returns-in-Err-ask_part-clause-judged : goal.returns-in-Err-ask_part-clause-judged
returns-in-Err-ask_part-clause-judged g c =
    let some : length c.args.out.now ≢ 0 = λ e. absurd (c.if-count-eq0.false e) in
    if_any (key_in c.args.self.now.dataset c.args.name.now)
    (judged_failed _ _ _ _ _ _ _ _ (Part c.args.at (length c.args.out.now)) (wanted_of c.args.at (length c.args.out.now)) (IsPlaced c.args.at c.args.out.now c.ask_part.new.out) (IsRead c.args.at c.args.out.now c.ask_part.new.out) _
    (wanted_some [] 0 None None 0 0 0 0 c.args.at (length c.args.out.now) some) c.in-Err-ask_part.ensures.judged)

pub returns-in-None-clause-kept_end : goal.returns-in-None-clause-kept_end
returns-in-None-clause-kept_end g c = kept_nowhere c.args.self.now.kept

pub returns-in-None-clause-sent : goal.returns-in-None-clause-sent
returns-in-None-clause-sent g c =
    let e : key_in c.args.self.now.dataset c.args.name.now ≡ None = cc in
    no_key _ (key_in c.args.self.now.dataset c.args.name.now) e

pub returns-in-Ok-clause-sent : goal.returns-in-Ok-clause-sent
returns-in-Ok-clause-sent g c =
    let e : key_in c.args.self.now.dataset c.args.name.now ≡ Some c.in-Some.key = cc in
    let none : length c.args.out.now ≡ 0 = omega (arith, c.if-count-eq0.true) in
    let same = wanted_none [] 0 None None 0 0 0 0 c.args.at (length c.args.out.now) none in
    at_key _ (key_in c.args.self.now.dataset c.args.name.now) c.in-Some.key e (request_of_wanted (string_bytes c.args.self.now.host, c.args.self.now.port) c.in-Some.key Length (wanted_of c.args.at (length c.args.out.now)) c.args.self.now.kept (g.D.Dial.peer c.args.self.now.dial) (g.D.Dial.line c.args.self.now.dial) _ same c.in-Ok.ensures.sent)

pub returns-in-Err-clause-sent : goal.returns-in-Err-clause-sent
returns-in-Err-clause-sent g c = if_any (key_in c.args.self.now.dataset c.args.name.now) tt

pub returns-in-Ok-ask_part-clause-sent : goal.returns-in-Ok-ask_part-clause-sent
returns-in-Ok-ask_part-clause-sent g c =
    let e : key_in c.args.self.now.dataset c.args.name.now ≡ Some c.in-Some.key = cc in
    let some : length c.args.out.now ≢ 0 = λ e. absurd (c.if-count-eq0.false e) in
    let same = wanted_some [] 0 None None 0 0 0 0 c.args.at (length c.args.out.now) some in
    at_key _ (key_in c.args.self.now.dataset c.args.name.now) c.in-Some.key e (request_of_wanted (string_bytes c.args.self.now.host, c.args.self.now.port) c.in-Some.key (Part c.args.at (length c.args.out.now)) (wanted_of c.args.at (length c.args.out.now)) c.args.self.now.kept (g.D.Dial.peer c.args.self.now.dial) (g.D.Dial.line c.args.self.now.dial) _ same c.in-Ok-ask_part.ensures.sent)

pub returns-in-Err-ask_part-clause-sent : goal.returns-in-Err-ask_part-clause-sent
returns-in-Err-ask_part-clause-sent g c = if_any (key_in c.args.self.now.dataset c.args.name.now) tt

pub returns-in-None-clause-asks : goal.returns-in-None-clause-asks
returns-in-None-clause-asks g c =
    let s = c.args.self.now in
    let e : key_in s.dataset c.args.name.now ≡ None = cc in
    asks_no_key (key_in s.dataset c.args.name.now) (string_bytes s.host, s.port) (wanted_of c.args.at (length c.args.out.now)) (g.D.Dial.sent s.dial) (g.D.Dial.sent s.dial) (Ok Absent) e

pub returns-in-Ok-clause-asks : goal.returns-in-Ok-clause-asks
returns-in-Ok-clause-asks g c =
    let s = c.args.self.now in
    let e : key_in s.dataset c.args.name.now ≡ Some c.in-Some.key = cc in
    let none : length c.args.out.now ≡ 0 = omega (arith, c.if-count-eq0.true) in
    let same = wanted_none [] 0 None None 0 0 0 0 c.args.at (length c.args.out.now) none in
    asks_key (key_in s.dataset c.args.name.now) c.in-Some.key (string_bytes s.host, s.port) Length (wanted_of c.args.at (length c.args.out.now)) (g.D.Dial.sent s.dial) (g.D.Dial.sent c.ask_length.new.self.dial) (Ok c.in-Ok.promise) (Ok c.find_empty_got.result) e same (λ h. h) c.in-Ok.ensures.asks

pub returns-in-Err-clause-asks : goal.returns-in-Err-clause-asks
returns-in-Err-clause-asks g c =
    let s = c.args.self.now in
    let e : key_in s.dataset c.args.name.now ≡ Some c.in-Some.key = cc in
    let none : length c.args.out.now ≡ 0 = omega (arith, c.if-count-eq0.true) in
    let same = wanted_none [] 0 None None 0 0 0 0 c.args.at (length c.args.out.now) none in
    asks_key (key_in s.dataset c.args.name.now) c.in-Some.key (string_bytes s.host, s.port) Length (wanted_of c.args.at (length c.args.out.now)) (g.D.Dial.sent s.dial) (g.D.Dial.sent c.ask_length.new.self.dial) (Err c.in-Err.failed) (Err c.in-Err.failed) e same (λ h. h) c.in-Err.ensures.asks

pub returns-in-Ok-ask_part-clause-asks : goal.returns-in-Ok-ask_part-clause-asks
returns-in-Ok-ask_part-clause-asks g c =
    let s = c.args.self.now in
    let e : key_in s.dataset c.args.name.now ≡ Some c.in-Some.key = cc in
    let some : length c.args.out.now ≢ 0 = λ e. absurd (c.if-count-eq0.false e) in
    let same = wanted_some [] 0 None None 0 0 0 0 c.args.at (length c.args.out.now) some in
    asks_key (key_in s.dataset c.args.name.now) c.in-Some.key (string_bytes s.host, s.port) (Part c.args.at (length c.args.out.now)) (wanted_of c.args.at (length c.args.out.now)) (g.D.Dial.sent s.dial) (g.D.Dial.sent c.ask_part.new.self.dial) (Ok c.in-Ok-ask_part.promise) (Ok c.find_got.result) e same (λ h. h) c.in-Ok-ask_part.ensures.asks

pub returns-in-Err-ask_part-clause-asks : goal.returns-in-Err-ask_part-clause-asks
returns-in-Err-ask_part-clause-asks g c =
    let s = c.args.self.now in
    let e : key_in s.dataset c.args.name.now ≡ Some c.in-Some.key = cc in
    let some : length c.args.out.now ≢ 0 = λ e. absurd (c.if-count-eq0.false e) in
    let same = wanted_some [] 0 None None 0 0 0 0 c.args.at (length c.args.out.now) some in
    asks_key (key_in s.dataset c.args.name.now) c.in-Some.key (string_bytes s.host, s.port) (Part c.args.at (length c.args.out.now)) (wanted_of c.args.at (length c.args.out.now)) (g.D.Dial.sent s.dial) (g.D.Dial.sent c.ask_part.new.self.dial) (Err c.in-Err-ask_part.failed) (Err c.in-Err-ask_part.failed) e same (λ h. h) c.in-Err-ask_part.ensures.asks
