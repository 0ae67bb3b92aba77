use Rattle.std.proofs.Common.{Err, subst}
use Rattle.generate_cmd.proofs.GenerateSteps.{whole_refused}
use Rattle.cutout_cmd.specs.Cutouts.{JudgesPart}
use Rattle.generate_cmd.proofs.generate.judge_whole.Goals as goal

pub returns-in-Err : goal.returns-in-Err
returns-in-Err c = whole_refused c.in-Err.refusal c.args.scale.now (subst (λ b. JudgesPart (Err c.in-Err.refusal) c.args.scale.now b) c.whole.ensures c.in-Err.ensures)
