use Rattle.std.proofs.Common.{subst}
use Rattle.command_base.specs.Scales.{stored_scale}
use Rattle.make_scale.specs.Stored.{MakeLeaves}
use Rattle.downsample_cmd.proofs.DownsampleSteps.{reduced_stored}
use Rattle.downsample_cmd.specs.Downsampling.{reduced_list}
use Rattle.downsample_cmd.proofs.command.reduce_stored.Goals as goal

pub returns-clause-reduces : goal.returns-clause-reduces
returns-clause-reduces g c =
    reduced_stored (g.S.Source.objects c.args.store.now) (g.S.Source.objects c.make_stored.new.store) c.make_stored.result c.of-reducing.result.method c.args.method c.args.dataset.now c.args.key.now c.args.to_key.now c.of-reducing.ensures
    c.make_stored.ensures.makes

pub returns-clause-leaves : goal.returns-clause-leaves
returns-clause-leaves g c =
    subst (λ method. MakeLeaves g.S.Source (λ m. stored_scale m c.args.dataset.now c.args.key.now) (λ m. stored_scale m c.args.dataset.now c.args.to_key.now) (λ m from to. reduced_list method m c.args.dataset.now from to)
    c.args.store.now c.make_stored.new.store c.make_stored.result) c.of-reducing.ensures c.make_stored.ensures.leaves
