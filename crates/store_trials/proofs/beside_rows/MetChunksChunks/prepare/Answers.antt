use Rattle.std.proofs.Common.{◌-◌}
use Rattle.std.specs.List.{range_with_len}
use Rattle.write_plan.proofs.FeedSteps.{if_some_any}
use Rattle.write_plan.proofs.PlanSteps.{none_first}
use Rattle.store_trials.proofs.beside_rows.MetChunksChunks.prepare.Goals as goal

pub returns-clause-answer : goal.returns-clause-answer
returns-clause-answer g c = if_some_any (g.S.Source.objects c.args._store.now) _ (λ m. none_first c.args.self.now.plan.now m (range_with_len c.args._from (c.args._to - c.args._from)))
