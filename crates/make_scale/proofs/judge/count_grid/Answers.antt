use Rattle.std.proofs.Common.{◌∙◌, ap, length, subst, sym}
use Rattle.vol_spec.specs.Grid.{Inside, cells_in}
use Rattle.copier.proofs.MarkSteps.{count_whole, inside_whole}
use Rattle.make_scale.proofs.judge.count_grid.Goals as goal

pub count_cells-requires : goal.count_cells-requires
count_cells-requires c = subst (Inside c.args.scale.now) (sym c.whole.ensures) (inside_whole c.args.scale.now)

pub returns : goal.returns
returns c = c.count_cells.ensures ∙ ap (λ b. length (cells_in c.args.scale.now b)) c.whole.ensures ∙ count_whole c.args.scale.now
