use Rattle.std.proofs.Common.{◌≡◌, arith, true, get_or}
use Rattle.std.specs.Char.{is_ascii_digit}
use Rattle.std.proofs.lemmas.Grind.{common_steps}
use Rattle.std.proofs.lemmas.Int.Digits.{digits_value_more}
use Rattle.std.proofs.lemmas.List.Folds.{list_all_more}
use Rattle.vol_base.proofs.Numbers.{clamped_more, digit_is}
use Rattle.vol_base.proofs.boxes.read_natural.Goals as goal

pub loop-b-preserved : goal.loop-b-preserved
loop-b-preserved c =
    let is : is_ascii_digit (get_or c.args.digits.now c.loop-b.b-index 0) ≡ true = cc (c.is_ascii_digit.ensures.value, c.if-not-is_ascii_digit.false) in
    let d = digit_is (get_or c.args.digits.now c.loop-b.b-index 0) is in
    let more = digits_value_more 10 c.args.digits.now c.loop-b.b-index c.loop-b-test.true in
    let all = list_all_more is_ascii_digit c.args.digits.now c.loop-b.b-index 0 c.loop-b-test.true in
    record {
      value = clamped_more c.loop-b.value _ _ c.min-value.result _ _ c.loop-b.invariant.value c.min-value.ensures (omega arith);
      digits = grind (arith, common_steps, all);
    }
