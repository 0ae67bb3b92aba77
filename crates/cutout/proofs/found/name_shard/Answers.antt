use Rattle.std.proofs.Common.{◌∙◌, ap}
use Rattle.vol_spec.specs.ShardNames.{shard_name}
use Rattle.cutout.proofs.found.name_shard.Goals as goal

pub returns : goal.returns
returns c = c.shard_name.ensures ∙ ap (shard_name c.args.origin.now.dataset c.args.origin.now.scale) c.place.ensures.shard
