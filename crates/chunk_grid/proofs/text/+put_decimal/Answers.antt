use Rattle.std.proofs.Common.{arith, ap, ◌∙◌, sym, ◌++◌, take}
use Rattle.std.proofs.lemmas.Fmt.{decimal_digit}
use Rattle.chunk_grid.proofs.TextSteps.{one_digit, more_digits, more_text}
use Rattle.chunk_grid.proofs.text.+put_decimal.Goals as goal

pub put_byte-requires : goal.put_byte-requires
put_byte-requires t c = let one = one_digit c.args.number c.if-number-lt10.true in omega (arith, one)

pub returns-then-number-lt10-clause-end : goal.returns-then-number-lt10-clause-end
returns-then-number-lt10-clause-end t c = let one = one_digit c.args.number c.if-number-lt10.true in omega (arith, one, c.put_byte.ensures.end)

pub returns-then-number-lt10-clause-text : goal.returns-then-number-lt10-clause-text
returns-then-number-lt10-clause-text t c = c.put_byte.ensures.text ∙ ap (λ ds. take c.args.at c.args.to.now ++ ds) (sym (decimal_digit c.args.number c.if-number-lt10.true))

pub put_decimal-at-requires : goal.put_decimal-at-requires
put_decimal-at-requires t c =
    let more = more_digits c.args.number c.if-number-lt10.false c.ranges.number.fits in
    (omega arith, omega (arith, more))

pub put_byte-requires-2 : goal.put_byte-requires-2
put_byte-requires-2 t c =
    let more = more_digits c.args.number c.if-number-lt10.false c.ranges.number.fits in
    omega (arith, more, c.put_decimal-at.ensures.end)

pub returns-clause-end : goal.returns-clause-end
returns-clause-end t c =
    let more = more_digits c.args.number c.if-number-lt10.false c.ranges.number.fits in
    omega (arith, more, c.put_decimal-at.ensures.end, c.put_byte-2.ensures.end)

pub returns-clause-text : goal.returns-clause-text
returns-clause-text t c =
    more_text (take c.args.at c.args.to.now) _ _ c.args.number c.put_decimal-at.ensures.text c.put_byte-2.ensures.text c.if-number-lt10.false c.ranges.number.fits
