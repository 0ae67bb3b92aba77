use Rattle.command_base.proofs.Choices.{err_is}
use Rattle.vol_base.proofs.Moments.{passes_none}
use Rattle.shard_writer.proofs.FrontSteps.{passed_as, passed_behind}
use Rattle.shard_writer.specs.Works.{job_objects}
use Rattle.shard_writer.specs.Faults.{of_store}
use Rattle.make_scale.proofs.AnswerSteps.{unbegun_in, wrote}
use Rattle.make_scale.proofs.scale.write_made.Goals as goal

pub returns-clause-puts : goal.returns-clause-puts
returns-clause-puts g c =
    wrote (g.S.Source.objects c.args.store.now) (g.S.Source.objects c.begin.new.store) (g.S.Source.objects c.write_scale.new.store) c.args.to.now.dataset (g.M.Maker.Chunks.work c.in_ok-maker.maker)
    (λ m now. g.M.Making.says c.args.making.now m now c.args.from.now.dataset c.args.from.now.scale c.args.to.now.dataset c.args.to.now.scale) c.write_scale.result c.begin.ensures.reads.kept.same_objects
    c.write_scale.ensures.put c.write_scale.ensures.front c.write_scale.ensures.spares c.write_scale.ensures.objects c.write_scale.ensures.cells c.write_scale.ensures.bytes c.write_scale.ensures.answer
    c.in_ok-maker.ensures.says

pub returns-in_err-maker-clause-puts : goal.returns-in_err-maker-clause-puts
returns-in_err-maker-clause-puts g c =
    let is = err_is c.from_residual.result (of_store c.in_err-maker.field-0.0) c.from_residual.ensures.1 in
    unbegun_in (g.S.Source.objects c.args.store.now) (g.S.Source.objects c.begin.new.store) (λ m now. g.M.Making.says c.args.making.now m now c.args.from.now.dataset c.args.from.now.scale c.args.to.now.dataset c.args.to.now.scale) c.from_residual.result
    c.in_err-maker.field-0.0 is (λ m. g.met.M.Making.untouched c.args.making.now m c.args.from.now.dataset c.args.from.now.scale c.args.to.now.dataset c.args.to.now.scale) c.begin.ensures.reads.kept.same_objects

pub returns-in_err-maker-clause-killed : goal.returns-in_err-maker-clause-killed
returns-in_err-maker-clause-killed g c = passes_none _ _ _ c.begin.ensures.reads.history

pub returns-clause-killed : goal.returns-clause-killed
returns-clause-killed g c =
    passed_as (job_objects c.args.to.now.dataset (g.M.Maker.Chunks.work c.in_ok-maker.maker)) (λ m. g.M.Making.due c.args.making.now m c.args.from.now.dataset c.args.from.now.scale c.args.to.now.dataset c.args.to.now.scale) (g.S.Source.objects c.args.store.now) (g.S.Source.history c.args.store.now) (g.S.Source.history c.write_scale.new.store) c.in_ok-maker.ensures.due
    (passed_behind (job_objects c.args.to.now.dataset (g.M.Maker.Chunks.work c.in_ok-maker.maker)) (g.S.Source.objects c.args.store.now) (g.S.Source.objects c.begin.new.store) (g.S.Source.history c.args.store.now) (g.S.Source.history c.begin.new.store) (g.S.Source.history c.write_scale.new.store)
    c.begin.ensures.reads.kept.same_objects c.begin.ensures.reads.history c.write_scale.ensures.killed)
