use Rattle.std.proofs.Common.{◌≡◌, ◌∙◌, ap, get_or, vec_items}
use Rattle.std.proofs.lemmas.List.{get_or_default}
use Rattle.write_plan.specs.declared.pairs.Pair.{Pair}
use Rattle.write_plan.proofs.FoundSteps.{next_more, other_number, same_more, same_number}
use Rattle.write_plan.proofs.pairs.find_cells.Goals as goal
use Rattle.write_plan.proofs.pairs.find_cells.Goals.{then-ne+in_ok-push, else-ne}

pub loop-pair-preserved : goal.loop-pair-preserved
loop-pair-preserved c =
    let pair : Pair = get_or c.args.pairs.now c.loop-pair.pair-index (record { number = 0; write = 0 }) in
    let is : pair ≡ get_or c.args.pairs.now c.loop-pair.pair-index pair = get_or_default c.args.pairs.now c.loop-pair.pair-index (record { number = 0; write = 0 }) pair c.loop-pair-test.true in
    elim c.if-ne.branch [
      | then-ne+in_ok-push w ↦ rw w.last-is
          (next_more c.args.scale.now c.args.pairs.now c.loop-pair.pair-index c.loop-pair.last c.loop-pair.cells.items c.if-ne.cells.items pair w.find_cell.result c.requires.ordered c.loop-pair.invariant c.loop-pair-test.true is
          (other_number c.loop-pair.last pair.number w.if-ne.ensures) w.find_cell.ensures.cell w.find_cell.ensures.number (ap vec_items w.cells-is ∙ w.in_ok-push.ensures.items))
      | else-ne w ↦ rw (w.last-is, w.cells-is) (same_more c.args.scale.now c.args.pairs.now c.loop-pair.pair-index c.loop-pair.last c.loop-pair.cells.items pair c.loop-pair.invariant c.loop-pair-test.true is (same_number c.loop-pair.last pair.number w.if-ne.ensures))
    ]
