use Rattle.std.proofs.Common.{ℕ, arith}
use Rattle.vectors_vol.proofs.ValueSteps.{filled_more, zero_more}
use Rattle.std.proofs.lemmas.List.{length-set}
use Rattle.vectors_vol.proofs.values.fill_counting.Goals as goal

pub loop-place-preserved : goal.loop-place-preserved
loop-place-preserved c =
    let kept = c.loop-place.invariant in
    record {
      place = omega arith;
      number = omega arith;
      within = omega (arith, length-set {A = ℕ});
      same = omega (arith, length-set {A = ℕ});
      filled = filled_more c.args.width c.args.first c.args.at c.loop-place.number c.loop-place.place c.loop-place.out _ (omega arith) (omega arith) (omega arith) kept.filled kept.zero;
      zero = zero_more c.loop-place.out c.loop-place.place c.args.width _ (omega arith) kept.zero;
    }
