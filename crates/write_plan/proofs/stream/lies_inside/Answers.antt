use Rattle.write_plan.proofs.BoxSteps.{same_test}
use Rattle.write_plan.proofs.stream.lies_inside.Goals as goal

pub returns-clause-test : goal.returns-clause-test
returns-clause-test c = same_test _ _ _ c.requires c.inside.ensures.0 c.inside.ensures.1
