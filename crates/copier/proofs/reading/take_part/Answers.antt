use Rattle.std.proofs.Common.{◌∙◌, IfSome, Ok, false, subst, sym, true}
use Rattle.copy_laws.proofs.TwinSteps.{cell_same, size_same}
use Rattle.copier.specs.Frames.{KeepsBy, TakesJob}
use Rattle.copier.proofs.TakingSteps.{job_kept, refused_job, run_here, taken_job}
use Rattle.copier.proofs.reading.take_part.Goals as goal

pub take_cell-requires-clause-cell : goal.take_cell-requires-clause-cell
take_cell-requires-clause-cell g c = cell_same c.args.reader.now.opened.scale c.args.to.now c.requires.twins c.args.cell c.requires.cell

pub take_cell-requires-clause-len : goal.take_cell-requires-clause-len
take_cell-requires-clause-len g c = c.requires.len ∙ sym (size_same c.args.reader.now.opened.scale c.args.to.now c.requires.twins c.args.cell)

pub returns-in-Err-clause-read : goal.returns-in-Err-clause-read
returns-in-Err-clause-read g c =
    refused_job c.args.reader.now.opened.scale c.args.to.now c.requires.twins c.args.cell c.requires.cell (g.S.Source.objects c.args.store.now) c.args.reader.now.opened.dataset c.take_cell.new.out _ c.in-Err.fault c.in-Err.ensures.taken

pub returns-in-Ok-clause-read : goal.returns-in-Ok-clause-read
returns-in-Ok-clause-read g c =
    subst (λ own. IfSome (g.S.Source.objects c.args.store.now) (λ m. TakesJob (Ok own) m c.args.reader.now.opened.dataset c.args.reader.now.opened.scale c.args.to.now c.args.cell c.take_cell.new.out)) (sym c.note_own.ensures)
    (taken_job c.args.reader.now.opened.scale c.args.to.now c.requires.twins c.args.cell c.requires.cell (g.S.Source.objects c.args.store.now) c.args.reader.now.opened.dataset c.take_cell.new.out c.in-Ok.len c.take_cell.ensures.bytes (c.take_cell.ensures.len ∙ c.requires.len) c.in-Ok.ensures.taken)

pub returns-in-Ok-clause-chunk : goal.returns-in-Ok-clause-chunk
returns-in-Ok-clause-chunk g c =
    subst (λ own. KeepsBy c.args.to.now c.args.cell own c.take_cell.new.out) (sym c.note_own.ensures)
    (job_kept c.args.reader.now.opened.scale c.args.to.now c.requires.twins c.args.cell c.requires.cell c.take_cell.new.out c.in-Ok.len c.take_cell.ensures.bytes c.in-Ok.ensures.own)

pub returns-in-Ok-clause-run : goal.returns-in-Ok-clause-run
returns-in-Ok-clause-run g c =
    run_here c.args.reader.now.opened.scale c.args.to.now c.requires.twins c.args.cell c.requires.cell (g.S.Source.objects c.args.store.now) true c.args.reader.now.opened.dataset (g.S.Source.asked c.args.store.now) (g.S.Source.asked c.take_cell.new.store) c.args.reader.now c.take_cell.new.reader c.in-Ok.ensures.run

pub returns-in-Err-clause-run : goal.returns-in-Err-clause-run
returns-in-Err-clause-run g c =
    run_here c.args.reader.now.opened.scale c.args.to.now c.requires.twins c.args.cell c.requires.cell (g.S.Source.objects c.args.store.now) false c.args.reader.now.opened.dataset (g.S.Source.asked c.args.store.now) (g.S.Source.asked c.take_cell.new.store) c.args.reader.now c.take_cell.new.reader c.in-Err.ensures.run
