use Rattle.std.proofs.Common.{◌∙◌, IfSome, ap, subst, sym}
use Rattle.vol_spec.specs.Writable.{IsWritable}
use Rattle.vol_spec.specs.declared.scale.Scale.{Scale}
use Rattle.command_base.proofs.StoredSteps.{of_both}
use Rattle.shard_writer.specs.Works.{PassesFronts}
use Rattle.reshard_cmd.specs.Resharding.{copy_list}
use Rattle.reshard_cmd.specs.Copies.{DropsOrCopies, Reshards}
use Rattle.reshard_cmd.specs.Judging.{JudgesCopy}
use Rattle.reshard_cmd.proofs.copying.reshard.Goals as goal

pub make_scale-requires-clause-writable : goal.make_scale-requires-clause-writable
make_scale-requires-clause-writable g c κs within = subst IsWritable (sym c.of-to.ensures.scale) c.requires.writable

pub returns-clause-judges : goal.returns-clause-judges
returns-clause-judges g c =
    of_both (λ d s e t. JudgesCopy c.make_scale.result s t) c.of-from.result.dataset c.args.from_dataset.now c.of-from.result.scale c.args.from.now c.of-to.result.dataset c.args.to_dataset.now c.of-to.result.scale c.args.to.now c.of-from.ensures.dataset
    c.of-from.ensures.scale c.of-to.ensures.dataset c.of-to.ensures.scale c.make_scale.ensures.judges

pub returns-clause-reshards : goal.returns-clause-reshards
returns-clause-reshards g c =
    of_both (λ d s e t. IfSome (g.S.Source.objects c.args.store.now) (λ m. Reshards c.make_scale.result m (g.S.Source.objects c.make_scale.new.store) d s e t)) c.of-from.result.dataset c.args.from_dataset.now c.of-from.result.scale c.args.from.now
    c.of-to.result.dataset c.args.to_dataset.now c.of-to.result.scale c.args.to.now c.of-from.ensures.dataset c.of-from.ensures.scale c.of-to.ensures.dataset c.of-to.ensures.scale c.make_scale.ensures.makes

pub returns-clause-begun : goal.returns-clause-begun
returns-clause-begun g c =
    of_both (λ d s e t. DropsOrCopies (g.S.Source.objects c.args.store.now) (g.S.Source.objects c.make_scale.new.store) d s e t (g.S.Source.draft c.args.store.now) (g.S.Source.draft c.make_scale.new.store)) c.of-from.result.dataset c.args.from_dataset.now
    c.of-from.result.scale c.args.from.now c.of-to.result.dataset c.args.to_dataset.now c.of-to.result.scale c.args.to.now c.of-from.ensures.dataset c.of-from.ensures.scale c.of-to.ensures.dataset c.of-to.ensures.scale c.make_scale.ensures.begun

pub returns-clause-unsharded : goal.returns-clause-unsharded
returns-clause-unsharded g c = λ unsharded. c.make_scale.ensures.unsharded (ap (λ (s : Scale). s.sharding) c.of-to.ensures.scale ∙ unsharded)

pub returns-clause-killed : goal.returns-clause-killed
returns-clause-killed g c =
    of_both (λ d s e t. PassesFronts (λ m. copy_list m d s e t) (g.S.Source.objects c.args.store.now) (g.S.Source.history c.args.store.now) (g.S.Source.history c.make_scale.new.store))
    c.of-from.result.dataset c.args.from_dataset.now c.of-from.result.scale c.args.from.now c.of-to.result.dataset c.args.to_dataset.now c.of-to.result.scale c.args.to.now c.of-from.ensures.dataset c.of-from.ensures.scale c.of-to.ensures.dataset c.of-to.ensures.scale c.make_scale.ensures.killed
