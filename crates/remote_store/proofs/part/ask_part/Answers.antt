use Rattle.std.proofs.Common.{◌≡◌, ◌≤◌, ◌∙◌, ◌++◌, true, false, IsTrue, Ok, Err, Some, None, take, length, length-take, ap, subst, sym, refl, arith}
use Rattle.remote_store.specs.Dials.{Dials}
use Rattle.remote_store.proofs.AskSteps.{asks_still}
use Rattle.remote_store.proofs.EndSteps.{end_dropped}
use Rattle.remote_store.proofs.HeardParts.{begun_some, heard_there, kept_behind}
use Rattle.remote_store.proofs.SentSteps.{sent_still}
use Rattle.remote_store.proofs.ToldAsks.{has_some, part_quiet, part_told, part_untold, replied_begun, replied_cut, replied_err, replied_failed, replied_whole}
use Rattle.remote_store.proofs.part.ask_part.Goals as goal

pub finish_part-requires-clause-begun : goal.finish_part-requires-clause-begun
finish_part-requires-clause-begun g c =
    let is : c.in-Ok-Some.field-0 ≡ Some c.in-Ok-Some.begun = cc in
    begun_some c.in-Ok-Some.field-0 is c.in-Ok-Some.ensures.begun

pub returns-in-Ok-None-clause-replied : goal.returns-in-Ok-None-clause-replied
returns-in-Ok-None-clause-replied g c =
    let first = take c.start.new.there c.start.new.received in
    let few : length first ≤ 8192 = omega (arith, length-take c.start.new.there c.start.new.received, c.start.ensures.within) in
    let is : c.in-Ok-None.field-0 ≡ None = cc in
    (first, replied_begun _ _ first _ _ _ _ _ _ few c.start.ensures.received (c.in-Ok-None.ensures.unfit is) c.start.ensures.counted)

pub returns-in-Ok-None-clause-told : goal.returns-in-Ok-None-clause-told
returns-in-Ok-None-clause-told g c = λ dataset key asks quiet p same serves.
    let is : c.in-Ok-None.field-0 ≡ None = cc in
    absurd (((c.in-Ok-None.ensures.told dataset key asks quiet) p same serves).0 is)

pub returns-in-Err-clause-replied : goal.returns-in-Err-clause-replied
returns-in-Err-clause-replied g c =
    let first = take c.start.new.there c.start.new.received in
    let few : length first ≤ 8192 = omega (arith, length-take c.start.new.there c.start.new.received, c.start.ensures.within) in
    (first, replied_failed _ _ first _ _ _ _ _ _ _ few c.start.ensures.received c.start.ensures.counted)

pub returns-in-Ok-true-clause-replied : goal.returns-in-Ok-true-clause-replied
returns-in-Ok-true-clause-replied g c =
    let all : c.finish_part.result ≡ Ok true = c.in-Ok-true.is ∙ ap Ok c.in-Ok-true.field-0-test in
    let fin = c.finish_part.ensures.finished in
    (take c.start.new.there c.start.new.received ++ fin.0, replied_whole fin.1 _ _ all c.start.ensures.received)

pub returns-in-Ok-true-clause-told : goal.returns-in-Ok-true-clause-told
returns-in-Ok-true-clause-told g c = λ dataset key asks quiet.
    let all : c.finish_part.result ≡ Ok true = c.in-Ok-true.is ∙ ap Ok c.in-Ok-true.field-0-test in
    let is : c.in-Ok-Some.field-0 ≡ Some c.in-Ok-Some.begun = cc in
    part_told c.finish_part.ensures.finished.1 all (g.met.D.Dial.plain c.args.dial.now) asks (has_some c.in-Ok-Some.field-0 is (c.in-Ok-Some.ensures.told dataset key asks quiet))

pub returns-in-Ok-false-clause-replied : goal.returns-in-Ok-false-clause-replied
returns-in-Ok-false-clause-replied g c =
    let off : c.finish_part.result ≡ Ok false = c.in-Ok-false.is ∙ ap Ok c.in-Ok-false.field-0-test in
    let fin = c.finish_part.ensures.finished in
    (take c.start.new.there c.start.new.received ++ fin.0, replied_cut fin.1 _ _ off c.start.ensures.received c.start.ensures.ends)

pub returns-in-Ok-false-clause-told : goal.returns-in-Ok-false-clause-told
returns-in-Ok-false-clause-told g c = λ dataset key asks quiet.
    let off : c.finish_part.result ≡ Ok false = c.in-Ok-false.is ∙ ap Ok c.in-Ok-false.field-0-test in
    let is : c.in-Ok-Some.field-0 ≡ Some c.in-Ok-Some.begun = cc in
    part_untold c.finish_part.ensures.finished.1 off (g.met.D.Dial.plain c.args.dial.now) asks (has_some c.in-Ok-Some.field-0 is (c.in-Ok-Some.ensures.told dataset key asks quiet))

pub returns-in-Err-finish_part-clause-replied : goal.returns-in-Err-finish_part-clause-replied
returns-in-Err-finish_part-clause-replied g c =
    let fin = c.finish_part.ensures.finished in
    (take c.start.new.there c.start.new.received ++ fin.0, replied_err fin.1 _ _ _ c.start.ensures.received)

pub returns-in-Ok-None-clause-end : goal.returns-in-Ok-None-clause-end
returns-in-Ok-None-clause-end g c =
    let is : c.in-Ok-None.field-0 ≡ None = cc in
    end_dropped (Ok None) refl c.start.ensures.dialled (λ _. c.in-Ok-None.ensures.again is) (λ dataset asks. c.in-Ok-None.ensures.goes_on dataset asks.0 asks.1)

pub returns-in-Err-clause-end : goal.returns-in-Err-clause-end
returns-in-Err-clause-end g c = end_dropped (Err c.in-Err.failed) tt c.start.ensures.dialled tt tt

pub returns-in-Ok-true-clause-end : goal.returns-in-Ok-true-clause-end
returns-in-Ok-true-clause-end g c =
    let all : c.finish_part.result ≡ Ok true = c.in-Ok-true.is ∙ ap Ok c.in-Ok-true.field-0-test in
    let is : c.in-Ok-Some.field-0 ≡ Some c.in-Ok-Some.begun = cc in
    let same = c.finish_part.ensures.same in record {
      held = λ on. subst IsTrue (sym c.finish_part.ensures.held) c.in-Ok-Some.ensures.held;
      quiet = λ on dataset asks quiet. part_quiet c.finish_part.ensures.finished.1 all (g.met.D.Dial.plain c.args.dial.now) asks.1 (has_some c.in-Ok-Some.field-0 is (c.in-Ok-Some.ensures.told dataset asks.0 asks.1 quiet)) (same.same_peer ∙ c.start.ensures.peer) on;
      dials = subst (Dials (c.args.host.now, c.args.port) (g.D.Dial.dialled c.args.dial.now)) (sym same.same_dialled) c.start.ensures.dialled;
      again = λ none. absurd (cc none);
      goes_on = λ dataset asks on quiet served. same.same_dialled ∙ c.in-Ok-Some.ensures.goes_on dataset asks.0 asks.1 on quiet served;
      kept_end = kept_behind (begun_some c.in-Ok-Some.field-0 is c.in-Ok-Some.ensures.begun).heard;
      dropped = λ none. absurd (cc none);
    }

pub returns-in-Ok-false-clause-end : goal.returns-in-Ok-false-clause-end
returns-in-Ok-false-clause-end g c =
    let is : c.in-Ok-Some.field-0 ≡ Some c.in-Ok-Some.begun = cc in
    let same = c.finish_part.ensures.same in
    end_dropped (Ok None) refl (subst (Dials (c.args.host.now, c.args.port) (g.D.Dial.dialled c.args.dial.now)) (sym same.same_dialled) c.start.ensures.dialled)
    (λ none nothing. absurd (heard_there c.start.new.received c.start.new.there (begun_some c.in-Ok-Some.field-0 is c.in-Ok-Some.ensures.begun).heard nothing))
    (λ dataset asks on quiet served. same.same_dialled ∙ c.in-Ok-Some.ensures.goes_on dataset asks.0 asks.1 on quiet served)

pub returns-in-Err-finish_part-clause-end : goal.returns-in-Err-finish_part-clause-end
returns-in-Err-finish_part-clause-end g c =
    end_dropped (Err c.in-Err-finish_part.failed) tt (subst (Dials (c.args.host.now, c.args.port) (g.D.Dial.dialled c.args.dial.now)) (sym c.finish_part.ensures.same.same_dialled) c.start.ensures.dialled) tt tt

pub returns-in-Ok-true-clause-sent : goal.returns-in-Ok-true-clause-sent
returns-in-Ok-true-clause-sent g c =
    let is : c.finish_part.result ≡ Ok true = c.in-Ok-true.is ∙ ap Ok c.in-Ok-true.field-0-test in
    let fin = c.finish_part.ensures.finished in
    sent_still c.finish_part.result true is c.args.kept.now c.args.text.now fin.0 (g.D.Dial.peer c.args.dial.now) _ _ (g.D.Dial.line c.args.dial.now) (g.D.Dial.line c.start.new.dial) (g.D.Dial.line c.finish_part.new.dial) fin.1.came c.in-Ok-Some.ensures.sent

pub returns-in-Ok-false-clause-sent : goal.returns-in-Ok-false-clause-sent
returns-in-Ok-false-clause-sent g c =
    let is : c.finish_part.result ≡ Ok false = c.in-Ok-false.is ∙ ap Ok c.in-Ok-false.field-0-test in
    let fin = c.finish_part.ensures.finished in
    sent_still c.finish_part.result false is c.args.kept.now c.args.text.now fin.0 (g.D.Dial.peer c.args.dial.now) _ _ (g.D.Dial.line c.args.dial.now) (g.D.Dial.line c.start.new.dial) (g.D.Dial.line c.finish_part.new.dial) fin.1.came c.in-Ok-Some.ensures.sent

pub returns-in-Ok-true-clause-asks : goal.returns-in-Ok-true-clause-asks
returns-in-Ok-true-clause-asks g c =
    asks_still (Ok c.in-Ok-Some.field-0) (Ok (Some c.in-Ok-Some.begun.promise)) c.args.text.now (g.D.Dial.sent c.args.dial.now) (g.D.Dial.sent c.start.new.dial) (g.D.Dial.sent c.finish_part.new.dial) c.finish_part.ensures.same.same_sent (λ h. h) c.in-Ok-Some.ensures.asks

pub returns-in-Ok-false-clause-asks : goal.returns-in-Ok-false-clause-asks
returns-in-Ok-false-clause-asks g c =
    asks_still (Ok c.in-Ok-Some.field-0) (Ok None) c.args.text.now (g.D.Dial.sent c.args.dial.now) (g.D.Dial.sent c.start.new.dial) (g.D.Dial.sent c.finish_part.new.dial) c.finish_part.ensures.same.same_sent (λ h. h) c.in-Ok-Some.ensures.asks

pub returns-in-Err-finish_part-clause-asks : goal.returns-in-Err-finish_part-clause-asks
returns-in-Err-finish_part-clause-asks g c =
    asks_still (Ok c.in-Ok-Some.field-0) (Err c.in-Err-finish_part.failed) c.args.text.now (g.D.Dial.sent c.args.dial.now) (g.D.Dial.sent c.start.new.dial) (g.D.Dial.sent c.finish_part.new.dial) c.finish_part.ensures.same.same_sent (λ h. tt) c.in-Ok-Some.ensures.asks
