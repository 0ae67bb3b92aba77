use Rattle.std.proofs.Common.{◌≡◌, ◌∙◌, ◌++◌, Ok, true, ap}
use Rattle.remote_store.proofs.Bodies.{stretch_err, stretch_ok}
use Rattle.remote_store.proofs.body.take_stretch.Goals as goal

pub returns-in-Ok-clause-passed : goal.returns-in-Ok-clause-passed
returns-in-Ok-clause-passed g c =
    let s = c.skip_fill-first.ensures.passed in
    let e = c.skip-last.ensures.passed in
    let copy = c.copy_front-copied in
    let yes : c.skip_fill-first.result ≡ Ok true = c.in-Ok-true.is ∙ ap Ok c.in-Ok-true.field-0-test in
    let x = stretch_ok c.args.front.now copy.new.out c.args.out.now c.args.len c.args.at copy.result copy.auto.out copy.ensures.count copy.ensures.bytes c.saturating_sub.ensures c.requires.front c.requires.fits yes s.1 s.2 e.1 e.2 c.in-Ok.is in
    (s.0 ++ e.0, x.0, x.1)

pub returns-in-Err-last-clause-passed : goal.returns-in-Err-last-clause-passed
returns-in-Err-last-clause-passed g c =
    let s = c.skip_fill-first.ensures.passed in
    let e = c.skip-last.ensures.passed in
    let copy = c.copy_front-copied in
    let yes : c.skip_fill-first.result ≡ Ok true = c.in-Ok-true.is ∙ ap Ok c.in-Ok-true.field-0-test in
    let x = stretch_err c.args.front.now copy.new.out c.args.out.now c.args.len c.args.at copy.result copy.auto.out copy.ensures.count copy.ensures.bytes c.saturating_sub.ensures c.requires.front c.requires.fits yes s.1 s.2 e.1 e.2 _ _ in
    (s.0 ++ e.0, x.0, x.1)
