use Rattle.std.proofs.Common.{◌≡◌, None, Some, refl, rules}
use Rattle.vol_base.proofs.Moments.{passes_none, passes_weaker}
use Rattle.size_laws.specs.Further.{all_views}
use Rattle.size_laws.specs.Sizes.{stored_all}
use Rattle.view_writer.specs.Views.{IsFront, first_many}
use Rattle.view_writer.proofs.PlanSteps.{front_none}
use Rattle.view_writer.proofs.views.write_views.Goals as goal

pub returns-in-Some-clause-front : goal.returns-in-Some-clause-front
returns-in-Some-clause-front g c = front_none (g.S.Source.objects c.args.store.now) (stored_all c.args.dataset.now (all_views c.args.scale.now) c.args.writes)

pub returns-in-Some-clause-killed : goal.returns-in-Some-clause-killed
returns-in-Some-clause-killed g c = passes_none _ _ _ refl

pub returns-clause-killed : goal.returns-clause-killed
returns-clause-killed g c =
    let few : first_many (all_views c.args.scale.now) c.args.writes ≡ None = search rules in
    passes_weaker (λ x. IsFront (g.S.Source.objects c.args.store.now) (Some x) (stored_all c.args.dataset.now (all_views c.args.scale.now) c.args.writes)) _ (λ x front. (few, front)) (g.S.Source.history c.args.store.now) (g.S.Source.history c.put_views.new.store) c.put_views.ensures.killed
