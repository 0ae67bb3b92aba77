use Rattle.std.proofs.Common.{◌≡◌, ◌∙◌, ◌+◌, ◌≤◌, ◌^◌, Some, ap, arith, refl, sym}
use Rattle.remote_store.specs.Sent.{SentOnly}
use Rattle.remote_store.specs.Shown.{count_at, shown}
use Rattle.vol_base.specs.Causes.{counted}
use Rattle.vol_fetch.proofs.FetchSteps.{asked_for, caused, completed, fetched, not_usage, sent_to}
use Rattle.vol_fetch.proofs.fetch.fetch_from.Goals as goal

pub returns-clause-used : goal.returns-clause-used
returns-clause-used g c = not_usage c.run_cutout-status.result _ _ _ _ _ c.run_cutout-status.ensures.cuts

pub returns-clause-cuts : goal.returns-clause-cuts
returns-clause-cuts g c =
    let r = c.args.request.now in
    let s = c.in-Ok.store in
    let told : shown s.remote.dataset (g.D.Dial.peer s.remote.dial) ≡ shown r.dataset (g.D.Dial.peer c.args.dial) = λ i. shown (c.in-Ok.ensures.dataset i) (g.D.Dial.peer (c.in-Ok.ensures.dial i)) in
    fetched (Some r) r c.run_cutout-status.result (λ r. shown r.dataset (g.D.Dial.peer c.args.dial)) _ (shown s.remote.dataset (g.D.Dial.peer s.remote.dial)) refl told c.run_cutout-status.ensures.cuts

pub returns-clause-complete : goal.returns-clause-complete
returns-clause-complete g c =
    let r = c.args.request.now in
    let s = c.in-Ok.store in
    let n = c.run_cutout-status.new.store in
    let told : shown s.remote.dataset (g.D.Dial.peer s.remote.dial) ≡ shown r.dataset (g.D.Dial.peer c.args.dial) = λ i. shown (c.in-Ok.ensures.dataset i) (g.D.Dial.peer (c.in-Ok.ensures.dial i)) in
    let now : g.D.Dial.faults n.remote.dial ≡ g.D.Dial.faults c.into_remote.result.dial = ap (λ r. g.D.Dial.faults r.dial) (sym c.into_remote.ensures.remote) in
    let all = completed (Some r) r c.run_cutout-status.result (λ r. shown r.dataset (g.D.Dial.peer c.args.dial)) (shown s.remote.dataset (g.D.Dial.peer s.remote.dial)) (shown n.remote.dataset (g.D.Dial.peer n.remote.dial))
    (g.D.Dial.faults s.remote.dial) (g.D.Dial.faults c.args.dial) (g.D.Dial.faults n.remote.dial) s.remote.faults n.remote.faults _ _ refl told c.run_cutout-status.ensures.kept.same_objects (ap g.D.Dial.faults c.in-Ok.ensures.dial) c.run_cutout-status.ensures.complete in
    rw (sym now) all

pub returns-clause-causes : goal.returns-clause-causes
returns-clause-causes g c =
    let r = c.args.request.now in
    let s = c.in-Ok.store in
    let n = c.run_cutout-status.new.store in
    let told : shown s.remote.dataset (g.D.Dial.peer s.remote.dial) ≡ shown r.dataset (g.D.Dial.peer c.args.dial) = λ i. shown (c.in-Ok.ensures.dataset i) (g.D.Dial.peer (c.in-Ok.ensures.dial i)) in
    let now : g.D.Dial.faults n.remote.dial ≡ g.D.Dial.faults c.into_remote.result.dial = ap (λ r. g.D.Dial.faults r.dial) (sym c.into_remote.ensures.remote) in
    let own : n.remote.faults ≡ c.into_remote.result.faults = ap (λ r. r.faults) (sym c.into_remote.ensures.remote) in
    let all = caused (Some r) r c.run_cutout-status.result (λ r. shown r.dataset (g.D.Dial.peer c.args.dial)) (shown s.remote.dataset (g.D.Dial.peer s.remote.dial)) (shown n.remote.dataset (g.D.Dial.peer n.remote.dial))
    (g.D.Dial.faults s.remote.dial) (g.D.Dial.faults c.args.dial) (g.D.Dial.faults n.remote.dial) s.remote.faults n.remote.faults _ _ _ _ refl told c.run_cutout-status.ensures.kept.same_objects c.in-Ok.ensures.faults (ap g.D.Dial.faults c.in-Ok.ensures.dial)
    c.run_cutout-status.ensures.causes in
    rw (sym now) (rw (sym own) all)

pub returns-clause-asked : goal.returns-clause-asked
returns-clause-asked g c =
    let r = c.args.request.now in
    let s = c.in-Ok.store in
    let n = c.run_cutout-status.new.store in
    let told : shown s.remote.dataset (g.D.Dial.peer s.remote.dial) ≡ shown r.dataset (g.D.Dial.peer c.args.dial) = λ i. shown (c.in-Ok.ensures.dataset i) (g.D.Dial.peer (c.in-Ok.ensures.dial i)) in
    asked_for (Some r) r (λ r. shown r.dataset (g.D.Dial.peer c.args.dial)) (shown s.remote.dataset (g.D.Dial.peer s.remote.dial)) s.remote.asked n.remote.asked c.into_remote.result.asked refl told c.in-Ok.ensures.asked (ap (λ r. r.asked) (sym c.into_remote.ensures.remote)) c.run_cutout-status.ensures.asked

pub returns-clause-unread : goal.returns-clause-unread
returns-clause-unread g c = λ refused.
    let s = c.in-Ok.store in
    let n = c.run_cutout-status.new.store in
    let now : counted n.remote.asked ≡ counted c.into_remote.result.asked = ap counted (ap (λ r. r.asked) (sym c.into_remote.ensures.remote)) in
    let most : counted n.remote.asked ≤ counted s.remote.asked + (2 ^ 20 + 1) = c.run_cutout-status.ensures.unread refused in
    omega (arith, c.in-Ok.ensures.asked, now, most)

pub returns-clause-made : goal.returns-clause-made
returns-clause-made g c =
    let e = c.into_remote.ensures in
    (e.host ∙ sym c.requires.host, e.port ∙ sym c.requires.port, e.dataset ∙ sym c.requires.of)

pub returns-clause-sent : goal.returns-clause-sent
returns-clause-sent g c =
    let r = c.args.request.now in
    let s = c.in-Ok.store in
    let n = c.run_cutout-status.new.store in
    let now = c.into_remote.result in
    let e = c.into_remote.ensures in
    let told : shown s.remote.dataset (g.D.Dial.peer s.remote.dial) ≡ shown r.dataset (g.D.Dial.peer c.args.dial) = λ i. shown (c.in-Ok.ensures.dataset i) (g.D.Dial.peer (c.in-Ok.ensures.dial i)) in
    let same : shown now.dataset (g.D.Dial.peer now.dial) ≡ shown n.remote.dataset (g.D.Dial.peer n.remote.dial) = λ i. shown ((e.remote i).dataset) (g.D.Dial.peer ((e.remote i).dial)) in
    sent_to (g.N.Aim.host, g.N.Aim.port) _ _ (shown r.dataset (g.D.Dial.peer c.args.dial)) (shown now.dataset (g.D.Dial.peer now.dial)) g.N.Aim.count (g.D.Dial.faults c.args.dial) (g.D.Dial.faults now.dial) now.faults
    g.N.Aim.sent (g.D.Dial.sent c.args.dial) (g.D.Dial.sent now.dial) c.requires.host c.requires.port c.requires.count c.requires.sent (same ∙ c.run_cutout-status.ensures.kept.same_objects ∙ told) e.asks
