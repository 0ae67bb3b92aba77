use Rattle.std.proofs.Common.{arith, rules, w64, sym}
use mir.Syntax.{w128}
use mir.Val.{SFits}
use Rattle.std.proofs.lemmas.Int.{ints, clamps, to_z-of_z}
use Rattle.voxel_raw.proofs.CommonSteps.{IsGap, common_is}
use Rattle.voxel_raw.proofs.common.meet_spans.Goals as goal

pub returns : goal.returns
returns c =
    let f : SFits w64 c.max-begin.result = search rules in
    let g : SFits w128 c.min-end.result = search rules in
    let gap : IsGap c.max-begin.result c.min-end.result c.count_between.result =
    rw (sym (to_z-of_z w64 c.max-begin.result f), sym (to_z-of_z w128 c.min-end.result g)) c.count_between.ensures in
    rw (to_z-of_z w64 c.max-begin.result f)
    (common_is c.args.a.begin c.args.a.size c.args.b.begin c.args.b.size c.max-begin.result c.min-end.result c.count_between.result
    (omega (arith, ints, clamps, c.max-begin.ensures.value)) (omega (arith, ints, clamps, c.min-end.ensures.value, c.find_end.ensures, c.find_end-2.ensures)) gap)
