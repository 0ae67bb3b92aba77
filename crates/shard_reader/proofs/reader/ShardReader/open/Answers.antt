use Rattle.vol_spec.specs.ShardNames.{shard_name}
use Rattle.shard_reader.proofs.KeepSteps.{kept_window}
use Rattle.shard_reader.proofs.reader.ShardReader.open.Goals as goal

pub returns-in-Some-clause-window : goal.returns-in-Some-clause-window
returns-in-Some-clause-window g c = λ object told fits.
    kept_window _ (shard_name c.args.stored.now.dataset c.args.stored.now.scale) c.args.name.now c.args.sharding.now c.args.self.now.kept c.args.place.now.shard c.args.place.now.minishard c.in-Some.opened
    c.args.self.now.window.before c.args.self.now.window.count c.args.self.now.window.columns.bytes c.requires.keeps c.in-Some.ensures.here c.requires.name c.in-Some.ensures.some object told
