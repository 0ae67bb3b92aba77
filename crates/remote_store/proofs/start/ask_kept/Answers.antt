use Rattle.std.proofs.Common.{◌≡◌, None, IsTrue, inl, refl, rules}
use Rattle.remote_store.proofs.AskSteps.{front_none}
use Rattle.remote_store.proofs.ToldAsks.{has_none}
use Rattle.remote_store.proofs.start.ask_kept.Goals as goal

pub returns-else-there-eq0-clause-told : goal.returns-else-there-eq0-clause-told
returns-else-there-eq0-clause-told g c = λ dataset host key port asks quiet.
    let is : c.in-Ok-None.field-0 ≡ None = cc in
    let on : IsTrue c.args.kept = search rules in
    has_none c.in-Ok-None.field-0 is (c.in-Ok-None.ensures.told dataset host key port asks (quiet on))

pub returns-then-there-eq0-clause-goes_on : goal.returns-then-there-eq0-clause-goes_on
returns-then-there-eq0-clause-goes_on g c = λ none dataset host key port asks on quiet served.
    let is : c.in-Ok-None.field-0 ≡ None = cc in
    let begun = has_none c.in-Ok-None.field-0 is (c.in-Ok-None.ensures.told dataset host key port asks quiet) in
    (begun served.0 served.1 served.2).0 refl

pub returns-else-there-eq0-clause-sent : goal.returns-else-there-eq0-clause-sent
returns-else-there-eq0-clause-sent g c =
    let on : IsTrue c.args.kept = search rules in
    inl (on, c.in-Ok-None.ensures.sent)

pub returns-in-Ok-Some-clause-sent : goal.returns-in-Ok-Some-clause-sent
returns-in-Ok-Some-clause-sent g c =
    let on : IsTrue c.args.kept = search rules in
    inl (on, c.in-Ok-Some.ensures.sent)

pub returns-then-not-kept-clause-front : goal.returns-then-not-kept-clause-front
returns-then-not-kept-clause-front g c = front_none c.args.text.now (g.D.Dial.sent c.args.dial.now) (g.D.Dial.sent c.args.dial.now) refl
