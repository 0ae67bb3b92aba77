use Rattle.std.proofs.Common.{◌≡◌, Some, None, Ok, Err, refl}
use Rattle.remote_store.proofs.EndSteps.{end_dropped}
use Rattle.remote_store.proofs.HeardParts.{begun_some, begun_length, kept_behind}
use Rattle.remote_store.proofs.ToldAsks.{has_none, has_some, length_quiet, length_told, length_untold}
use Rattle.remote_store.proofs.part.ask_length.Goals as goal

pub returns-in-Ok-Some-clause-fits : goal.returns-in-Ok-Some-clause-fits
returns-in-Ok-Some-clause-fits g c =
    let is : c.in-Ok-Some.field-0 ≡ Some c.in-Ok-Some.begun = cc in
    begun_length (begun_some c.in-Ok-Some.field-0 is c.in-Ok-Some.ensures.begun)

pub returns-in-Ok-Some-clause-told : goal.returns-in-Ok-Some-clause-told
returns-in-Ok-Some-clause-told g c = λ dataset key asks quiet.
    let is : c.in-Ok-Some.field-0 ≡ Some c.in-Ok-Some.begun = cc in
    length_told (begun_some c.in-Ok-Some.field-0 is c.in-Ok-Some.ensures.begun) (g.met.D.Dial.plain c.args.dial.now) asks (has_some c.in-Ok-Some.field-0 is (c.in-Ok-Some.ensures.told dataset key asks quiet))

pub returns-in-Ok-None-clause-told : goal.returns-in-Ok-None-clause-told
returns-in-Ok-None-clause-told g c = λ dataset key asks quiet.
    let is : c.in-Ok-None.field-0 ≡ None = cc in
    length_untold key (has_none c.in-Ok-None.field-0 is (c.in-Ok-None.ensures.told dataset key asks quiet))

pub returns-in-Ok-Some-clause-end : goal.returns-in-Ok-Some-clause-end
returns-in-Ok-Some-clause-end g c =
    let is : c.in-Ok-Some.field-0 ≡ Some c.in-Ok-Some.begun = cc in
    let begun = begun_some c.in-Ok-Some.field-0 is c.in-Ok-Some.ensures.begun in record {
      held = λ on. c.in-Ok-Some.ensures.held;
      quiet = λ on dataset asks quiet. length_quiet begun (g.met.D.Dial.plain c.args.dial.now) asks.1 (has_some c.in-Ok-Some.field-0 is (c.in-Ok-Some.ensures.told dataset asks.0 asks.1 quiet)) c.start.ensures.peer on;
      dials = c.start.ensures.dialled;
      again = λ none. absurd (cc none);
      goes_on = λ dataset asks. c.in-Ok-Some.ensures.goes_on dataset asks.0 asks.1;
      kept_end = kept_behind begun.heard;
      dropped = λ none. absurd (cc none);
    }

pub returns-in-Ok-None-clause-end : goal.returns-in-Ok-None-clause-end
returns-in-Ok-None-clause-end g c =
    let is : c.in-Ok-None.field-0 ≡ None = cc in
    end_dropped (Ok None) refl c.start.ensures.dialled (λ _. c.in-Ok-None.ensures.again is) (λ dataset asks. c.in-Ok-None.ensures.goes_on dataset asks.0 asks.1)

pub returns-in-Err-clause-end : goal.returns-in-Err-clause-end
returns-in-Err-clause-end g c = end_dropped (Err c.in-Err.failed) tt c.start.ensures.dialled tt tt
