use Rattle.std.proofs.Common.{rules, w64}
use mir.Val.{SFits}
use Rattle.std.proofs.lemmas.Int.{to_z-of_z}
use Rattle.voxel_raw.proofs.CommonSteps.{common_box, told}
use Rattle.voxel_raw.proofs.common.common_part.Goals as goal

pub returns : goal.returns
returns c =
    let f : SFits w64 c.meet_spans-x.result.begin = search rules in
    let g : SFits w64 c.meet_spans-y.result.begin = search rules in
    let h : SFits w64 c.meet_spans-z.result.begin = search rules in
    rw (to_z-of_z w64 c.meet_spans-x.result.begin f, to_z-of_z w64 c.meet_spans-y.result.begin g, to_z-of_z w64 c.meet_spans-z.result.begin h)
    (common_box c.args.a.now c.args.b.now _
    (told _ _ _ _ _ _ _ _ _ _ c.span_on.ensures.begin c.span_on.ensures.size c.span_on-2.ensures.begin c.span_on-2.ensures.size c.meet_spans-x.ensures)
    (told _ _ _ _ _ _ _ _ _ _ c.span_on-3.ensures.begin c.span_on-3.ensures.size c.span_on-4.ensures.begin c.span_on-4.ensures.size c.meet_spans-y.ensures)
    (told _ _ _ _ _ _ _ _ _ _ c.span_on-5.ensures.begin c.span_on-5.ensures.size c.span_on-6.ensures.begin c.span_on-6.ensures.size c.meet_spans-z.ensures))
