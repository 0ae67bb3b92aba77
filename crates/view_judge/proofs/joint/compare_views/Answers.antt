use Rattle.vol_spec.proofs.Told.{from_told, in_told}
use Rattle.view_judge.specs.Answers.{ComparesAll}
use Rattle.view_judge.proofs.JointSteps.{joint_compares}
use Rattle.view_judge.proofs.joint.compare_views.Goals as goal

pub returns-clause-judged : goal.returns-clause-judged
returns-clause-judged g c =
    in_told (g.S.Source.objects c.args.store.now) (λ m. ComparesAll c.judge_regions.result m c.args.first.now.dataset c.args.first.now.scale c.args.part.now) (λ m told.
    joint_compares m c.args.first.now.dataset c.args.first.now.scale c.args.part.now c.judge_regions.result (from_told (g.S.Source.objects c.args.store.now) _ m told c.judge_regions.ensures.judged))
