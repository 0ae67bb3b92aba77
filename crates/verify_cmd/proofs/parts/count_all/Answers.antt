use Rattle.std.proofs.Common.{◌∙◌, ◌+◌, length, arith, ap, sym}
use Rattle.vol_spec.specs.Grid.{cells_in}
use Rattle.verify_cmd.proofs.ViewSteps.{all_cells, all_small}
use Rattle.verify_cmd.proofs.parts.count_all.Goals as goal

pub overflow_add-result : goal.overflow_add-result
overflow_add-result c =
    let sum = all_small c.args.scale.now c.args.part.now c.count_cells.result c.count_view_cells.result c.requires c.len-sizes.ensures.few c.count_cells.ensures c.count_view_cells.ensures in
    omega (arith, sum)

pub returns : goal.returns
returns c =
    ap (λ n. n + c.count_view_cells.result) c.count_cells.ensures ∙ ap (λ n. length (cells_in c.args.scale.now c.args.part.now) + n) c.count_view_cells.ensures
    ∙ sym (all_cells c.args.scale.now c.args.part.now)
