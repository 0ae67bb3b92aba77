use Rattle.told_writer.proofs.ToldSteps.{wrote}
use Rattle.told_writer.proofs.told.write_told.Goals as goal

pub returns-clause-wrote : goal.returns-clause-wrote
returns-clause-wrote g c =
    wrote (g.S.Source.objects c.args.store.now) (g.S.Source.objects c.write_scale.new.store) c.args.dataset.now (g.C.Chunks.work c.args.chunks.now) c.write_scale.result c.write_scale.ensures.put c.write_scale.ensures.front
    c.write_scale.ensures.spares c.write_scale.ensures.objects c.write_scale.ensures.cells c.write_scale.ensures.bytes c.write_scale.ensures.answer
