use Rattle.copier.proofs.FoundSteps.{source_marked, source_skipped}
use Rattle.copier.proofs.found.mark_source.Goals as goal

pub returns-in-Ok-false-clause-marks : goal.returns-in-Ok-false-clause-marks
returns-in-Ok-false-clause-marks g c =
    source_skipped (g.S.Source.objects c.args.store.now) c.args.reader.now.opened.dataset c.args.reader.now.opened.scale c.args.to.now c.args.cell c.args.part.now c.args.marks.now c.in-Ok-false.field-0 c.in-Ok-false.field-0-test
    c.in-Ok-false.ensures.told

pub returns-in-Ok-true-clause-marks : goal.returns-in-Ok-true-clause-marks
returns-in-Ok-true-clause-marks g c =
    source_marked (g.S.Source.objects c.args.store.now) c.args.reader.now.opened.dataset c.args.reader.now.opened.scale c.args.to.now c.args.cell c.args.part.now c.args.marks.now c.mark_cells.new.marks c.in-Ok-true.field-0
    c.in-Ok-true.field-0-test c.in-Ok-true.ensures.told c.mark_cells.ensures
