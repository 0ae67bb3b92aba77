use Rattle.std.proofs.Common.{◌+◌, ◌≤◌, ◌∙◌, IfSome, ap, arith, length, subst, sym}
use Rattle.vol_base.specs.Boxes.{Covers}
use Rattle.vol_spec.specs.Grid.{cell_box}
use Rattle.vol_spec.specs.declared.scale.Scale.{Scale}
use Rattle.size_laws.specs.Findings.{common}
use Rattle.size_laws.specs.Further.{further}
use Rattle.view_judge.proofs.JointSteps.{region_few, region_fits, region_front, region_inside, region_len}
use Rattle.view_judge.specs.Judging.{joint_cost}
use Rattle.view_judge.proofs.joint.judge_region.Goals as goal

pub shared_box-shared-requires : goal.shared_box-shared-requires
shared_box-shared-requires g c = (c.requires.meets.0, subst (λ b. Covers b c.requires.meets.0) (sym c.cell_box.ensures.positions) c.requires.meets.1, c.requires.meets.2)

pub overflow_cast-len : goal.overflow_cast-len
overflow_cast-len g c =
    let is = region_len c.args.first.now.scale c.args.regions.now c.args.part.now c.args.region c.cell_box.result c.shared_box-shared.result c.requires.regions c.requires.views.inside c.requires.region c.requires.meets c.cell_box.ensures.positions c.shared_box-shared.ensures c.byte_len-len.result c.byte_len-len.ensures in
    let few = region_few c.args.first.now.scale c.args.regions.now c.args.part.now c.args.region c.cell_box.result c.shared_box-shared.result c.requires.regions c.requires.views.inside c.requires.region c.requires.meets c.cell_box.ensures.positions c.shared_box-shared.ensures in
    omega (arith, is, few)

pub slice_bounds-judge_boxes-end : goal.slice_bounds-judge_boxes-end
slice_bounds-judge_boxes-end g c =
    region_fits c.args.first.now.scale c.args.regions.now c.args.part.now c.args.region c.cell_box.result c.shared_box-shared.result c.requires.regions c.requires.views.inside c.requires.region c.requires.meets c.cell_box.ensures.positions c.shared_box-shared.ensures c.byte_len-len.result (length c.args.found.now) c.requires.found c.byte_len-len.ensures

pub slice_bounds-judge_boxes-end-2 : goal.slice_bounds-judge_boxes-end-2
slice_bounds-judge_boxes-end-2 g c =
    let is = region_len c.args.first.now.scale c.args.regions.now c.args.part.now c.args.region c.cell_box.result c.shared_box-shared.result c.requires.regions c.requires.views.inside c.requires.region c.requires.meets c.cell_box.ensures.positions c.shared_box-shared.ensures c.byte_len-len.result c.byte_len-len.ensures in
    let front = region_front c.args.first.now.scale c.args.regions.now c.args.part.now c.args.region c.cell_box.result c.shared_box-shared.result c.requires.regions c.requires.views.inside c.requires.region c.requires.meets c.cell_box.ensures.positions c.shared_box-shared.ensures c.byte_len-len.result c.args.found.now c.requires.found c.byte_len-len.ensures in
    omega (arith, is, front)

pub slice_bounds-judge_boxes-end-3 : goal.slice_bounds-judge_boxes-end-3
slice_bounds-judge_boxes-end-3 g c =
    region_fits c.args.first.now.scale c.args.regions.now c.args.part.now c.args.region c.cell_box.result c.shared_box-shared.result c.requires.regions c.requires.views.inside c.requires.region c.requires.meets c.cell_box.ensures.positions c.shared_box-shared.ensures c.byte_len-len.result (length c.args.wanted.now) c.requires.wanted c.byte_len-len.ensures

pub slice_bounds-judge_boxes-end-4 : goal.slice_bounds-judge_boxes-end-4
slice_bounds-judge_boxes-end-4 g c =
    let is = region_len c.args.first.now.scale c.args.regions.now c.args.part.now c.args.region c.cell_box.result c.shared_box-shared.result c.requires.regions c.requires.views.inside c.requires.region c.requires.meets c.cell_box.ensures.positions c.shared_box-shared.ensures c.byte_len-len.result c.byte_len-len.ensures in
    let front = region_front c.args.first.now.scale c.args.regions.now c.args.part.now c.args.region c.cell_box.result c.shared_box-shared.result c.requires.regions c.requires.views.inside c.requires.region c.requires.meets c.cell_box.ensures.positions c.shared_box-shared.ensures c.byte_len-len.result c.args.wanted.now c.requires.wanted c.byte_len-len.ensures in
    omega (arith, is, front)

pub judge_boxes-requires-clause-views : goal.judge_boxes-requires-clause-views
judge_boxes-requires-clause-views g c = record {
  views = c.requires.views.views;
  some = c.requires.views.some;
  few = c.requires.views.few;
  inside = region_inside c.args.first.now.scale c.args.regions.now c.args.part.now c.args.region c.cell_box.result c.shared_box-shared.result c.requires.regions c.requires.views.inside c.requires.region c.requires.meets c.cell_box.ensures.positions c.shared_box-shared.ensures;
}

pub judge_boxes-requires-clause-limit : goal.judge_boxes-requires-clause-limit
judge_boxes-requires-clause-limit g c = region_few c.args.first.now.scale c.args.regions.now c.args.part.now c.args.region c.cell_box.result c.shared_box-shared.result c.requires.regions c.requires.views.inside c.requires.region c.requires.meets c.cell_box.ensures.positions c.shared_box-shared.ensures

pub judge_boxes-requires-clause-found : goal.judge_boxes-requires-clause-found
judge_boxes-requires-clause-found g c =
    region_front c.args.first.now.scale c.args.regions.now c.args.part.now c.args.region c.cell_box.result c.shared_box-shared.result c.requires.regions c.requires.views.inside c.requires.region c.requires.meets c.cell_box.ensures.positions c.shared_box-shared.ensures c.byte_len-len.result c.args.found.now c.requires.found c.byte_len-len.ensures

pub judge_boxes-requires-clause-wanted : goal.judge_boxes-requires-clause-wanted
judge_boxes-requires-clause-wanted g c =
    region_front c.args.first.now.scale c.args.regions.now c.args.part.now c.args.region c.cell_box.result c.shared_box-shared.result c.requires.regions c.requires.views.inside c.requires.region c.requires.meets c.cell_box.ensures.positions c.shared_box-shared.ensures c.byte_len-len.result c.args.wanted.now c.requires.wanted c.byte_len-len.ensures

pub returns-clause-asks : goal.returns-clause-asks
returns-clause-asks g c = record {
  asked =
      let was = g.S.Source.asked c.args.store.now in
      let now = g.S.Source.asked c.judge_boxes.new.store in
      subst (λ b. IfSome (g.S.Source.objects c.args.store.now) (λ m. now ≤ was + joint_cost m c.args.first.now.dataset c.args.first.now.scale (further c.args.first.now.scale) b))
      (c.shared_box-shared.ensures ∙ ap (λ x. common x c.args.part.now) (c.cell_box.ensures.positions ∙ ap (λ (r : Scale). cell_box r c.args.region) c.requires.regions)) c.judge_boxes.ensures.asks.asked;
  reads = c.judge_boxes.ensures.asks.reads;
}
