use Rattle.std.proofs.Common.{arith, ◌+◌}
use Rattle.std.proofs.lemmas.Int.{ints}
use Rattle.chunk_grid.proofs.TextSteps.{digits_fit}
use Rattle.chunk_grid.proofs.text.put_signed.Goals as goal

pub put_decimal-requires : goal.put_decimal-requires
put_decimal-requires c = digits_fit _ _ _ c.args.number (omega (arith, ints, c.unsigned_abs-value.ensures.value)) c.requires.small.0 c.requires.small.1 (omega (arith, c.put_byte-at.ensures.end))

pub put_decimal-requires-else-number-lt0 : goal.put_decimal-requires-else-number-lt0
put_decimal-requires-else-number-lt0 c = digits_fit _ _ _ c.args.number (omega (arith, ints, c.unsigned_abs-value.ensures.value)) c.requires.small.0 c.requires.small.1 (omega arith)

pub returns-then-number-lt0-clause-end : goal.returns-then-number-lt0-clause-end
returns-then-number-lt0-clause-end c =
    let fits = digits_fit c.put_byte-at.result (c.args.at + 14) c.unsigned_abs-value.result c.args.number (omega (arith, ints, c.unsigned_abs-value.ensures.value)) c.requires.small.0 c.requires.small.1 (omega (arith, c.put_byte-at.ensures.end)) in
    omega (arith, fits, c.put_decimal.ensures.end)

pub returns-else-number-lt0-clause-end : goal.returns-else-number-lt0-clause-end
returns-else-number-lt0-clause-end c =
    let fits = digits_fit c.args.at (c.args.at + 14) c.unsigned_abs-value.result c.args.number (omega (arith, ints, c.unsigned_abs-value.ensures.value)) c.requires.small.0 c.requires.small.1 (omega arith) in
    omega (arith, fits, c.put_decimal-else-number-lt0.ensures.end)
