use Rattle.std.proofs.Common.{◌∙◌, All, IfSome, Ok, rules, subst, sym}
use Rattle.vol_base.proofs.Moments.{passes_none}
use Rattle.write_cmd.proofs.MomentSteps.{put_passed}
use Rattle.generate_cmd.proofs.GenerateSteps.{key_generates}
use Rattle.command_base.proofs.StoredSteps.{of_stored}
use Rattle.size_laws.specs.Further.{all_views}
use Rattle.vol_spec.specs.Writable.{IsWritable}
use Rattle.write_cmd.specs.Storing.{AreReady, PassesPut}
use Rattle.generate_cmd.specs.Generating.{Generates, drawn}
use Rattle.generate_cmd.proofs.generate.generate_objects.Goals as goal

pub write_and_sum-requires-clause-writable : goal.write_and_sum-requires-clause-writable
write_and_sum-requires-clause-writable g c κs within =
    let own : All IsWritable (all_views c.in-Ok.scale) = search rules in
    subst (λ s. All IsWritable (all_views s)) (sym c.of-stored.ensures.scale) own

pub write_and_sum-requires-clause-empty : goal.write_and_sum-requires-clause-empty
write_and_sum-requires-clause-empty g c κs within =
    let own : IfSome (g.S.Source.objects c.any_under.new.self) (λ m. AreReady m c.args.dataset.now c.in-Ok.scale) = search rules in
    of_stored (λ d s. IfSome (g.S.Source.objects c.any_under.new.self) (λ m. AreReady m d s)) c.args.dataset.now c.of-stored.result.dataset c.in-Ok.scale c.of-stored.result.scale (sym c.of-stored.ensures.dataset) (sym c.of-stored.ensures.scale) own

pub returns-clause-generates : goal.returns-clause-generates
returns-clause-generates g c =
    key_generates c.write_and_sum.result (g.S.Source.objects c.args.store.now) (g.S.Source.objects c.any_under.new.self) (g.S.Source.objects c.write_and_sum.new.store) (drawn c.args.number c.args.count) c.args.dataset.now c.args.key.now c.in-Ok.scale
    (c.any_under.ensures.kept.same_objects ∙ c.read_scale.ensures.reads.kept.same_objects) c.in-Ok.ensures.read
    (of_stored (λ d s. IfSome (g.S.Source.objects c.any_under.new.self) (λ m. Generates c.write_and_sum.result (Ok s) m (g.S.Source.objects c.write_and_sum.new.store) (drawn c.args.number c.args.count) d c.args.key.now))
    c.of-stored.result.dataset c.args.dataset.now c.of-stored.result.scale c.in-Ok.scale c.of-stored.ensures.dataset c.of-stored.ensures.scale (c.write_and_sum.ensures.generates c.args.key.now))

pub returns-in-Err-clause-killed : goal.returns-in-Err-clause-killed
returns-in-Err-clause-killed g c = passes_none _ _ _ c.read_scale.ensures.reads.history

pub returns-in-Err-judge_limit-clause-killed : goal.returns-in-Err-judge_limit-clause-killed
returns-in-Err-judge_limit-clause-killed g c = passes_none _ _ _ c.read_scale.ensures.reads.history

pub returns-in-Ok-true-clause-killed : goal.returns-in-Ok-true-clause-killed
returns-in-Ok-true-clause-killed g c = passes_none _ _ _ (c.any_under.ensures.history ∙ c.read_scale.ensures.reads.history)

pub returns-in-Err-any_under-clause-killed : goal.returns-in-Err-any_under-clause-killed
returns-in-Err-any_under-clause-killed g c = passes_none _ _ _ (c.any_under.ensures.history ∙ c.read_scale.ensures.reads.history)

pub returns-in_err-judge_whole-clause-killed : goal.returns-in_err-judge_whole-clause-killed
returns-in_err-judge_whole-clause-killed g c = passes_none _ _ _ (c.any_under.ensures.history ∙ c.read_scale.ensures.reads.history)

pub returns-clause-killed : goal.returns-clause-killed
returns-clause-killed g c =
    put_passed (drawn c.args.number c.args.count) (g.S.Source.objects c.args.store.now) (g.S.Source.objects c.any_under.new.self) c.args.dataset.now c.args.key.now c.in-Ok.scale (g.S.Source.history c.args.store.now) (g.S.Source.history c.any_under.new.self) (g.S.Source.history c.write_and_sum.new.store)
    (c.any_under.ensures.kept.same_objects ∙ c.read_scale.ensures.reads.kept.same_objects) (c.any_under.ensures.history ∙ c.read_scale.ensures.reads.history) c.in-Ok.ensures.read
    (of_stored (λ d s. PassesPut (drawn c.args.number c.args.count s) d s (g.S.Source.objects c.any_under.new.self) (g.S.Source.history c.any_under.new.self) (g.S.Source.history c.write_and_sum.new.store)) c.of-stored.result.dataset c.args.dataset.now c.of-stored.result.scale c.in-Ok.scale c.of-stored.ensures.dataset c.of-stored.ensures.scale c.write_and_sum.ensures.killed)
