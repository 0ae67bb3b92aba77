use Rattle.std.proofs.Common.{◌∙◌, ap}
use Rattle.vol_spec.specs.CellNames.{box_name, joined}
use Rattle.chunk_grid.proofs.GridSteps.{Inside-small}
use Rattle.chunk_grid.proofs.TextSteps.{told_name}
use Rattle.chunk_grid.proofs.text.object_name.Goals as goal

pub put_box-at-requires-clause-small : goal.put_box-at-requires-clause-small
put_box-at-requires-clause-small c = Inside-small c.args.scale.now c.cell_box-part.result (record { some = c.cell_box-part.ensures.some; within = c.cell_box-part.ensures.within })

pub unreachable-requires : goal.unreachable-requires
unreachable-requires c =
    let small = Inside-small c.args.scale.now c.cell_box-part.result (record { some = c.cell_box-part.ensures.some; within = c.cell_box-part.ensures.within }) in
    let told = told_name c.args.dataset.now c.args.scale.now.key _ _ c.cell_box-part.result _ _ c.as_bytes.ensures.bytes c.as_bytes-2.ensures.bytes c.as_bytes.ensures.form c.as_bytes-2.ensures.form c.requires.dataset c.args.scale.now.key_ok small c.put_folder-at.ensures.text c.put_box-at.ensures.text in
    cc (c.new.ensures, told.answer, c.in-None.is)

pub returns : goal.returns
returns c =
    let small = Inside-small c.args.scale.now c.cell_box-part.result (record { some = c.cell_box-part.ensures.some; within = c.cell_box-part.ensures.within }) in
    let told = told_name c.args.dataset.now c.args.scale.now.key _ _ c.cell_box-part.result _ _ c.as_bytes.ensures.bytes c.as_bytes-2.ensures.bytes c.as_bytes.ensures.form c.as_bytes-2.ensures.form c.requires.dataset c.args.scale.now.key_ok small c.put_folder-at.ensures.text c.put_box-at.ensures.text in
    let text = told.text ∙ ap (λ b. joined (joined c.args.dataset.now c.args.scale.now.key) (box_name b)) c.cell_box-part.ensures.positions in
    cc (c.new.ensures, told.answer, c.in-Some.is, text)
