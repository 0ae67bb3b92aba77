use Rattle.std.proofs.Common.{refl, sym, slice_index_or, arith}
use Rattle.request_heads.proofs.CountSteps.{count_more, digits_more}
use Rattle.request_heads.proofs.words.read_count.Goals as goal

pub loop-b-preserved : goal.loop-b-preserved
loop-b-preserved c =
    record {
      digits = digits_more c.args.text.now c.loop-b.b-index (slice_index_or c.args.text.now c.loop-b.b-index 0) (omega (arith, c.loop-b-test.true, c.loop-b.auto.b-index-end)) refl c.loop-b.invariant.digits (sym c.if-not-is_ascii_digit.ensures.value);
      count = count_more c.args.text.now c.loop-b.b-index (slice_index_or c.args.text.now c.loop-b.b-index 0) c.loop-b.count c.saturating_mul.result c.saturating_add-count.result (omega (arith, c.loop-b-test.true, c.loop-b.auto.b-index-end)) refl (sym c.if-not-is_ascii_digit.ensures.value) c.loop-b.invariant.count c.saturating_mul.ensures c.saturating_add-count.ensures;
    }
