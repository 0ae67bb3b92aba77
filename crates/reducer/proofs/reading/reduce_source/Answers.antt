use Rattle.std.proofs.Common.{◌∙◌, ap, arith, length, subst, sym, take}
use Rattle.chunk_grid.proofs.GridSteps.{cell_box-short}
use Rattle.vol_spec.specs.Encodings.{raw_size}
use Rattle.copier.proofs.HeldSteps.{same_items}
use Rattle.reducer.specs.Reading.{IsReducedOf}
use Rattle.reducer.proofs.reading.reduce_source.Goals as goal

pub reduce_front-requires-clause-len : goal.reduce_front-requires-clause-len
reduce_front-requires-clause-len c =
    let short = cell_box-short c.args.to.now c.args.cell in
    let same = ap length c.deref_mut.ensures.value in
    omega (arith, short, same, c.fill_up.ensures.filled)

pub returns-clause-reduced : goal.returns-clause-reduced
returns-clause-reduced c =
    subst (λ bytes. IsReducedOf c.args.method c.args.from.now c.args.to.now c.args.cell c.args.raw.now (take (raw_size c.args.to.now c.args.cell) bytes))
    (sym (same_items c.fill_up.new.frame c.reduce_front.new.frame (c.reduce_front.ensures.len ∙ ap length c.deref_mut.ensures.value))) c.reduce_front.ensures.reduced
