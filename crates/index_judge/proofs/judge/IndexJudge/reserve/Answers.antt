use Rattle.index_judge.proofs.KnowSteps.{knows_none}
use Rattle.index_judge.proofs.judge.IndexJudge.reserve.Goals as goal

pub returns : goal.returns
returns c = knows_none _ c.in_ok-judged.ensures
