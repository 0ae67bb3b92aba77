use Rattle.std.proofs.Common.{◌≡◌, ◌+◌, ◌∙◌, ap, sym, take, arith, refl}
use Rattle.std.proofs.lemmas.List.{length-map, take_all}
use Rattle.write_plan.specs.Plans.{pairs}
use Rattle.write_plan.specs.WriteLists.{writes_in, write_in}
use Rattle.write_plan.proofs.SizeSteps.{pairs_more, pairs_so_far, write_of}
use Rattle.write_plan.proofs.pairs.count_pairs.Goals as goal

pub loop-write-init : goal.loop-write-init
loop-write-init c = refl

pub count_cells-requires : goal.count_cells-requires
count_cells-requires c = (write_of c.args.scale.now c.args.writes.now c.loop-write.write-index c.write-item.result c.requires.each (omega arith) c.write-item.is).inside

pub overflow_cast-count : goal.overflow_cast-count
overflow_cast-count c =
    let more = pairs_more c.args.scale.now c.args.writes.now c.loop-write.write-index c.write-item.result c.count_cells.result (omega arith) c.write-item.is c.count_cells.ensures in
    let small = pairs_so_far c.args.scale.now (writes_in c.args.writes.now) (c.loop-write.write-index + 1) c.requires.each c.requires.limits.small in
    omega arith

pub overflow_add-count : goal.overflow_add-count
overflow_add-count c =
    let more = pairs_more c.args.scale.now c.args.writes.now c.loop-write.write-index c.write-item.result c.count_cells.result (omega arith) c.write-item.is c.count_cells.ensures in
    let small = pairs_so_far c.args.scale.now (writes_in c.args.writes.now) (c.loop-write.write-index + 1) c.requires.each c.requires.limits.small in
    let inv : c.loop-write.count ≡ pairs c.args.scale.now (take c.loop-write.write-index (writes_in c.args.writes.now)) = c.loop-write.invariant in
    omega arith

pub loop-write-preserved : goal.loop-write-preserved
loop-write-preserved c =
    let inv : c.loop-write.count ≡ pairs c.args.scale.now (take c.loop-write.write-index (writes_in c.args.writes.now)) = c.loop-write.invariant in
    ap (λ k. k + c.count_cells.result) inv ∙ sym (pairs_more c.args.scale.now c.args.writes.now c.loop-write.write-index c.write-item.result c.count_cells.result (omega arith) c.write-item.is c.count_cells.ensures)

pub returns : goal.returns
returns c =
    let inv : c.loop-write.count ≡ pairs c.args.scale.now (take c.loop-write.write-index (writes_in c.args.writes.now)) = c.loop-write.invariant in
    inv ∙ ap (pairs c.args.scale.now) (take_all c.loop-write.write-index (writes_in c.args.writes.now) (omega (arith, length-map c.args.writes.now write_in)))
