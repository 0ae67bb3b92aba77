use Rattle.cutout.proofs.ServeSteps.{serves_none}
use Rattle.cutout.proofs.reader.Reader.locate.Goals as goal

pub locate-requires-clause-serves : goal.locate-requires-clause-serves
locate-requires-clause-serves g c = serves_none (g.S.Source.objects c.args.store.now) c.self.inside.origin (record c.self.inside.cells { shards = c.forget.new.self }) (record { chunk = c.self.invariant.chunk; values = c.self.invariant.values }) c.forget.ensures
