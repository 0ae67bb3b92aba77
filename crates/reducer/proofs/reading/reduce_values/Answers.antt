use Rattle.std.proofs.Common.{◌∙◌, arith, subst}
use Rattle.vol_spec.specs.Grid.{cell_box}
use Rattle.reduce_boxes.specs.Volumes.{HasReduced}
use Rattle.reducer.proofs.reading.reduce_values.Goals as goal

pub returns : goal.returns
returns c = record {
  digits =
      subst (λ b. HasReduced c.args.method b (cell_box c.args.to.now c.args.cell) c.args.to.now.channels c.args.to.now.width c.args.raw.now c.reduce_box.new.to) c.source_box-part.ensures.positions
      (subst (λ b. HasReduced c.args.method c.source_box-part.result b c.args.to.now.channels c.args.to.now.width c.args.raw.now c.reduce_box.new.to) c.cell_box-own.ensures.positions c.reduce_box.ensures);
  bytes = λ i. omega (arith, c.type_inv.out i);
  len = c.reduce_box.auto.to ∙ c.requires.out;
}
