use Rattle.std.proofs.Common.{arith, length-take}
use Rattle.std.proofs.lemmas.List.{take_at}
use Rattle.copy_laws.proofs.CopyValues.{job_inside}
use Rattle.copier.proofs.AskedSteps.{run_under}
use Rattle.copier.proofs.JobSteps.{job_cut, job_front, job_len, job_short}
use Rattle.copier.proofs.reading.read_into.Goals as goal

pub cut_box-requires-clause-inside : goal.cut_box-requires-clause-inside
cut_box-requires-clause-inside g c = job_inside c.args.reader.now.opened.scale c.args.to.now c.requires.volume c.args.cell c.cell_box-part.result c.requires.cell c.cell_box-part.ensures.positions

pub cut_box-requires-clause-len : goal.cut_box-requires-clause-len
cut_box-requires-clause-len g c =
    job_len c.args.reader.now.opened.scale c.args.to.now c.args.cell c.cell_box-part.result _ c.requires.volume c.cell_box-part.ensures.positions
    (omega (arith, c.values_len-len.ensures, length-take c.values_len-len.result c.args.frame.now, c.requires.len))

pub cut_box-requires-clause-limit : goal.cut_box-requires-clause-limit
cut_box-requires-clause-limit g c = job_short c.args.to.now c.args.cell _ (omega (arith, c.values_len-len.ensures, length-take c.values_len-len.result c.args.frame.now, c.requires.len))

pub returns-clause-read : goal.returns-clause-read
returns-clause-read g c =
    job_front (g.S.Source.objects c.args.store.now) c.cut_box.result c.args.reader.now.opened.dataset c.args.reader.now.opened.scale c.args.to.now c.args.cell c.cut_box.new.out _
    (take_at c.cut_box.new.out _ _ (omega (arith, c.cut_box.auto.out, c.values_len-len.ensures, length-take c.values_len-len.result c.args.frame.now, c.requires.len)))
    (job_cut (g.S.Source.objects c.args.store.now) c.cut_box.result c.args.reader.now.opened.dataset c.args.reader.now.opened.scale c.args.to.now c.args.cell c.cell_box-part.result c.cut_box.new.out c.requires.volume c.requires.cell
    c.cell_box-part.ensures.positions c.cut_box.ensures.cut)

pub returns-clause-run : goal.returns-clause-run
returns-clause-run g c =
    run_under (g.S.Source.objects c.args.store.now) _ c.args.reader.now.opened.dataset c.args.reader.now.opened.scale c.args.to.now c.args.cell c.cell_box-part.result _ _ c.args.reader.now c.cut_box.new.reader
    c.cell_box-part.ensures.positions c.cut_box.ensures.run
