use Rattle.chunk_grid.proofs.NameSteps.{cell_name-injective}
use Rattle.chunk_grid.proofs.StoredSteps.{stored_others}
use Rattle.chunk_grid.proofs.stored.tell_stored.Goals as goal

pub returns-clause-others : goal.returns-clause-others
returns-clause-others c m chunks name = stored_others m c.args.dataset.now c.args.scale.now chunks name

pub returns-clause-names : goal.returns-clause-names
returns-clause-names c a b = cell_name-injective c.args.dataset.now c.args.scale.now a b
