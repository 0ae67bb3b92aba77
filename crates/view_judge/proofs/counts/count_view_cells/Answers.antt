use Rattle.std.proofs.Common.{◌<◌, ◌+◌, arith, length, subst, sym}
use Rattle.vol_spec.specs.Grid.{Inside}
use Rattle.vol_spec.specs.declared.scale.Scale.{Scale}
use Rattle.view_judge.proofs.ViewSteps.{cells_all, counted_more, inside_view}
use Rattle.view_judge.proofs.counts.count_view_cells.Goals as goal

pub count_cells-count-requires : goal.count_cells-count-requires
count_cells-count-requires c = subst (λ (v : Scale). Inside v c.args.part.now) (sym c.view.ensures) (inside_view c.args.scale.now (c.loop-k.k + 1) c.args.part.now c.requires)

pub overflow_add-count : goal.overflow_add-count
overflow_add-count c =
    let l : c.loop-k.k < length c.args.scale.now.more = let h = c.loop-k-test.true in let e = c.len-k-end.ensures.len in omega (arith, h, e) in
    let more = counted_more c.args.scale.now c.view.result c.args.part.now c.loop-k.k c.loop-k.count c.count_cells-count.result l c.requires c.view.ensures c.loop-k.invariant.counted c.loop-k.invariant.small c.count_cells-count.ensures in
    let small = more.small in
    let few = c.len-k-end.ensures.few in
    omega (arith, small, few, l)

pub loop-k-preserved : goal.loop-k-preserved
loop-k-preserved c =
    let l : c.loop-k.k < length c.args.scale.now.more = let h = c.loop-k-test.true in let e = c.len-k-end.ensures.len in omega (arith, h, e) in
    let more = counted_more c.args.scale.now c.view.result c.args.part.now c.loop-k.k c.loop-k.count c.count_cells-count.result l c.requires c.view.ensures c.loop-k.invariant.counted c.loop-k.invariant.small c.count_cells-count.ensures in
    record { counted = more.counted; small = more.small }

pub returns : goal.returns
returns c =
    cells_all c.args.scale.now c.args.part.now c.loop-k.k c.loop-k.count (let h = c.loop-k-test.false in let e = c.len-k-end.ensures.len in omega (arith, h, e)) c.loop-k.invariant.counted
