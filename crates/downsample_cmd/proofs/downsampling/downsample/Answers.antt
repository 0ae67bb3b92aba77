use Rattle.std.proofs.Common.{◌∙◌, IfSome, ap, subst, sym}
use Rattle.vol_spec.specs.Writable.{IsWritable}
use Rattle.vol_spec.specs.declared.scale.Scale.{Scale}
use Rattle.command_base.proofs.StoredSteps.{of_both}
use Rattle.shard_writer.specs.Works.{PassesFronts}
use Rattle.downsample_cmd.specs.Downsampling.{reduced_list}
use Rattle.downsample_cmd.specs.Judging.{JudgesNext}
use Rattle.downsample_cmd.specs.Reductions.{Downsamples, DropsOrReduces}
use Rattle.downsample_cmd.proofs.downsampling.downsample.Goals as goal

pub make_scale-requires-clause-suits : goal.make_scale-requires-clause-suits
make_scale-requires-clause-suits g c κs within = c.of-from.ensures.dataset ∙ sym c.of-to.ensures.dataset

pub make_scale-requires-clause-writable : goal.make_scale-requires-clause-writable
make_scale-requires-clause-writable g c κs within = subst IsWritable (sym c.of-to.ensures.scale) c.requires.writable

pub returns-clause-judges : goal.returns-clause-judges
returns-clause-judges g c =
    of_both (λ d s e t. JudgesNext c.make_scale.result s t) c.of-from.result.dataset c.args.dataset.now c.of-from.result.scale c.args.from.now c.of-to.result.dataset c.args.dataset.now c.of-to.result.scale c.args.to.now c.of-from.ensures.dataset
    c.of-from.ensures.scale c.of-to.ensures.dataset c.of-to.ensures.scale c.make_scale.ensures.judges

pub returns-clause-downsamples : goal.returns-clause-downsamples
returns-clause-downsamples g c =
    subst (λ way. IfSome (g.S.Source.objects c.args.store.now) (λ m. Downsamples c.make_scale.result way m (g.S.Source.objects c.make_scale.new.store) c.args.dataset.now c.args.from.now c.args.to.now)) c.of-reducing.ensures
    (of_both (λ d s e t. IfSome (g.S.Source.objects c.args.store.now) (λ m. Downsamples c.make_scale.result c.of-reducing.result.method m (g.S.Source.objects c.make_scale.new.store) e s t)) c.of-from.result.dataset c.args.dataset.now
    c.of-from.result.scale c.args.from.now c.of-to.result.dataset c.args.dataset.now c.of-to.result.scale c.args.to.now c.of-from.ensures.dataset c.of-from.ensures.scale c.of-to.ensures.dataset c.of-to.ensures.scale c.make_scale.ensures.makes)

pub returns-clause-begun : goal.returns-clause-begun
returns-clause-begun g c =
    subst (λ way. DropsOrReduces way (g.S.Source.objects c.args.store.now) (g.S.Source.objects c.make_scale.new.store) c.args.dataset.now c.args.from.now c.args.to.now (g.S.Source.draft c.args.store.now) (g.S.Source.draft c.make_scale.new.store))
    c.of-reducing.ensures
    (of_both (λ d s e t. DropsOrReduces c.of-reducing.result.method (g.S.Source.objects c.args.store.now) (g.S.Source.objects c.make_scale.new.store) e s t (g.S.Source.draft c.args.store.now) (g.S.Source.draft c.make_scale.new.store))
    c.of-from.result.dataset c.args.dataset.now c.of-from.result.scale c.args.from.now c.of-to.result.dataset c.args.dataset.now c.of-to.result.scale c.args.to.now c.of-from.ensures.dataset c.of-from.ensures.scale c.of-to.ensures.dataset
    c.of-to.ensures.scale c.make_scale.ensures.begun)

pub returns-clause-unsharded : goal.returns-clause-unsharded
returns-clause-unsharded g c = λ unsharded. c.make_scale.ensures.unsharded (ap (λ (s : Scale). s.sharding) c.of-to.ensures.scale ∙ unsharded)

pub returns-clause-killed : goal.returns-clause-killed
returns-clause-killed g c =
    subst (λ way. PassesFronts (λ m. reduced_list way m c.args.dataset.now c.args.from.now c.args.to.now) (g.S.Source.objects c.args.store.now) (g.S.Source.history c.args.store.now) (g.S.Source.history c.make_scale.new.store)) c.of-reducing.ensures
    (of_both (λ d s e t. PassesFronts (λ m. reduced_list c.of-reducing.result.method m e s t) (g.S.Source.objects c.args.store.now) (g.S.Source.history c.args.store.now) (g.S.Source.history c.make_scale.new.store))
    c.of-from.result.dataset c.args.dataset.now c.of-from.result.scale c.args.from.now c.of-to.result.dataset c.args.dataset.now c.of-to.result.scale c.args.to.now c.of-from.ensures.dataset c.of-from.ensures.scale c.of-to.ensures.dataset c.of-to.ensures.scale c.make_scale.ensures.killed)
