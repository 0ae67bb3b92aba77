use Rattle.cutout.proofs.StoredSteps.{keeps_none}
use Rattle.cutout.proofs.keeping.KeepingReader.forget.Goals as goal

pub returns-clause-nothing : goal.returns-clause-nothing
returns-clause-nothing c objects = keeps_none objects c.self.inside.origin.dataset c.self.inside.origin.scale c.forget.new.self c.forget.ensures
