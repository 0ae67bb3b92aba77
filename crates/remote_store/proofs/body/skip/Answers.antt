use Rattle.std.proofs.Common.{◌≡◌, ◌∙◌, ◌≤◌, ◌<◌, ◌-◌, ◌+◌, ◌++◌, Ok, Err, take, drop, length, length-take, length-append, arith}
use Rattle.remote_store.proofs.Bodies.{gained_length, passed_as, passed_more, sofar_more, stood, two_long}
use Rattle.remote_store.proofs.body.skip.Goals as goal

pub returns-in-Err-clause-passed : goal.returns-in-Err-clause-passed
returns-in-Err-clause-passed g c =
    let i = c.loop-done.invariant in
    let f = c.fill-result in
    let piece = c.min-piece.result in
    let a = i.sofar.0 in
    let b = drop 0 (take f.new.there f.new.buffer) in
    let within : f.new.there ≤ length f.new.buffer = omega (arith, f.ensures.within, f.auto.buffer) in
    let long : length b ≡ f.new.there = omega (arith, gained_length f.new.buffer 0 f.new.there within) in
    let fits : c.loop-done.done + (length (take piece c.loop-done.scratch) - 0) ≤ c.args.n = omega (arith, length-take piece c.loop-done.scratch, c.min-piece.ensures, c.loop-done-test.true) in
    let passed = passed_as c.in-Err.is f.ensures.passed in
    (a ++ b, two_long a b _ _ i.sofar.1.long long, passed_more c.args.n _ c.loop-done.done a b _ _ _ _ _ _ _ _ _ _ _ _ (Err c.in-Err.failed) i.sofar.1 fits i.ends passed tt)

pub returns-then-got-piece-clause-passed : goal.returns-then-got-piece-clause-passed
returns-then-got-piece-clause-passed g c =
    let i = c.loop-done.invariant in
    let f = c.fill-result in
    let piece = c.min-piece.result in
    let a = i.sofar.0 in
    let b = drop 0 (take f.new.there f.new.buffer) in
    let within : f.new.there ≤ length f.new.buffer = omega (arith, f.ensures.within, f.auto.buffer) in
    let long : length b ≡ f.new.there = omega (arith, gained_length f.new.buffer 0 f.new.there within) in
    let full : length (take piece c.loop-done.scratch) ≡ piece = omega (arith, length-take piece c.loop-done.scratch, c.min-piece.ensures, c.loop-done-test.true) in
    let fits : c.loop-done.done + (length (take piece c.loop-done.scratch) - 0) ≤ c.args.n = omega (arith, full, c.min-piece.ensures, c.loop-done-test.true) in
    let short : length b < length (take piece c.loop-done.scratch) - 0 = omega (arith, full, long, c.if-got-piece.true) in
    let passed = passed_as c.in-Ok.is f.ensures.passed in
    (a ++ b, two_long a b _ _ i.sofar.1.long long, passed_more c.args.n _ c.loop-done.done a b _ _ _ _ _ _ _ _ _ _ _ _ (Ok tt) i.sofar.1 fits i.ends passed (λ _. short))

pub loop-done-preserved : goal.loop-done-preserved
loop-done-preserved g c =
    let i = c.loop-done.invariant in
    let f = c.fill-result in
    let piece = c.min-piece.result in
    let a = i.sofar.0 in
    let b = drop 0 (take f.new.there f.new.buffer) in
    let within : f.new.there ≤ length f.new.buffer = omega (arith, f.ensures.within, f.auto.buffer) in
    let long : length b ≡ f.new.there = omega (arith, gained_length f.new.buffer 0 f.new.there within) in
    let full : length (take piece c.loop-done.scratch) ≡ piece = omega (arith, length-take piece c.loop-done.scratch, c.min-piece.ensures, c.loop-done-test.true) in
    let passed = passed_as c.in-Ok.is f.ensures.passed in record {
      within = omega (arith, f.ensures.within, full, c.min-piece.ensures, c.loop-done-test.true);
      sofar = (a ++ b, sofar_more c.loop-done.done f.new.there a b _ _ _ _ _ _ _ _ _ i.sofar.1 long passed.received passed.came);
      room = omega (arith, i.room, length-append f.new.buffer (drop piece c.loop-done.scratch), f.auto.buffer, full, c.min-piece.ensures, c.loop-done-test.true);
      ends = omega (arith, i.ends, passed.later);
      held = f.ensures.held ∙ i.held;
      same = record { same_peer = f.ensures.same.same_peer ∙ i.same.same_peer; same_dialled = f.ensures.same.same_dialled ∙ i.same.same_dialled; same_sent = f.ensures.same.same_sent ∙ i.same.same_sent };
      stands = stood _ c.in-Ok.is f.ensures.cause ∙ i.stands;
    }
