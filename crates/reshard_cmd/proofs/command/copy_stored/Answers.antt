use Rattle.reshard_cmd.proofs.ReshardSteps.{copied_stored}
use Rattle.reshard_cmd.proofs.command.copy_stored.Goals as goal

pub returns-clause-copies : goal.returns-clause-copies
returns-clause-copies g c =
    copied_stored (g.S.Source.objects c.args.store.now) (g.S.Source.objects c.make_stored.new.store) c.make_stored.result c.args.from_dataset.now c.args.from_key.now c.args.to_dataset.now c.args.to_key.now c.make_stored.ensures.makes
