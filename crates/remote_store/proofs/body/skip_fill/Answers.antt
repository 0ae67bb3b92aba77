use Rattle.std.proofs.Common.{◌≡◌, ◌≤◌, ◌-◌, ◌+◌, ◌++◌, take, drop, length, length-append, arith}
use Rattle.std.proofs.lemmas.Bool.{eqb-true}
use Rattle.remote_store.proofs.Bodies.{gained_length, more_err, more_ok, sofar_of, taken_whole, two_long}
use Rattle.remote_store.proofs.Places.{same_eq}
use Rattle.remote_store.proofs.body.skip_fill.Goals as goal

pub returns-in-Ok-result-clause-passed : goal.returns-in-Ok-result-clause-passed
returns-in-Ok-result-clause-passed g c =
    let s = c.skip.ensures.passed in
    let f = c.fill-result in
    let a = s.0 in
    let buf = f.new.buffer in
    let there = f.new.there in
    let b = drop 0 (take there buf) in
    let n = c.args.before + length c.args.out.now in
    let same : length buf ≡ length c.args.out.now = omega (arith, f.auto.buffer) in
    let within : there ≤ length buf = omega (arith, f.ensures.within, same) in
    let long : length b ≡ there = omega (arith, gained_length buf 0 there within) in
    let most : length a ≤ c.args.before = s.2.within in
    let passed : length a ≡ c.args.before = omega (arith, most, s.1, c.if-got-before.false) in
    let fits : c.skip.new.done + (length c.args.out.now - 0) ≤ n = omega (arith, s.1, passed) in (
      a ++ b,
      record {
        long = two_long a b _ _ s.1 long;
        whole = same_eq there (length buf) (c.skip.new.done + there) n (λ e. omega (arith, e, s.1, passed, same)) (λ e. omega (arith, e, s.1, passed, same));
        bytes = λ yes. taken_whole a buf c.args.out.now c.args.before there passed same (eqb-true there (length buf) yes);
      },
      more_ok n _ _ c.in-Ok-result.is (sofar_of c.skip.new.done _ c.in-Ok.is s.1 s.2) fits s.2.later f.ensures.passed (λ less. omega (arith, less, passed, length-append a b)),
    )

pub returns-in-Err-result-clause-passed : goal.returns-in-Err-result-clause-passed
returns-in-Err-result-clause-passed g c =
    let s = c.skip.ensures.passed in
    let f = c.fill-result in
    let a = s.0 in
    let buf = f.new.buffer in
    let there = f.new.there in
    let b = drop 0 (take there buf) in
    let n = c.args.before + length c.args.out.now in
    let within : there ≤ length buf = omega (arith, f.ensures.within, f.auto.buffer) in
    let long : length b ≡ there = omega (arith, gained_length buf 0 there within) in
    let fits : c.skip.new.done + (length c.args.out.now - 0) ≤ n = omega (arith, s.1, s.2.within) in
    (a ++ b, record { long = two_long a b _ _ s.1 long; whole = tt; bytes = tt }, more_err n _ (sofar_of c.skip.new.done _ c.in-Ok.is s.1 s.2) fits s.2.later f.ensures.passed)
