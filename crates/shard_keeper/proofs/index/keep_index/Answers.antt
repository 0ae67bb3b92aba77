use Rattle.shard_keeper.proofs.AddSteps.{adds_none}
use Rattle.shard_keeper.proofs.IndexSteps.{fault_told, rows_kept}
use Rattle.shard_keeper.proofs.index.keep_index.Goals as goal

pub returns-in-Ok-clause-keeps : goal.returns-in-Ok-clause-keeps
returns-in-Ok-clause-keeps g c =
    rows_kept c.args.sharding.now c.args.home.now.shard c.args.home.now.minishard (g.S.Source.objects c.args.store.now) _ c.args.name.now c.open_index.result c.in-Ok-Some.field-0 c.in-Ok-Some.span c.args.kept.now.items _ c.in-Ok-Some.is c.in-Ok-Some.field-0-is
    c.open_index.ensures.reads.kept.same_objects c.open_index.ensures.opened c.in-Ok.ensures.keeps

pub returns-in-Err-keep_rows-clause-keeps : goal.returns-in-Err-keep_rows-clause-keeps
returns-in-Err-keep_rows-clause-keeps g c =
    fault_told c.args.sharding.now c.args.home.now.shard c.args.home.now.minishard (g.S.Source.objects c.args.store.now) _ c.args.name.now c.open_index.result c.in-Ok-Some.field-0 c.in-Ok-Some.span c.args.kept.now.items _ _ c.in-Err-keep_rows.fault c.in-Ok-Some.is c.in-Ok-Some.field-0-is
    c.open_index.ensures.reads.kept.same_objects c.open_index.ensures.opened c.in-Err-keep_rows.ensures.keeps

pub returns-in-Ok-None-clause-added : goal.returns-in-Ok-None-clause-added
returns-in-Ok-None-clause-added g c = adds_none c.args.sharding.now c.args.home.now.shard c.args.home.now.minishard c.args.kept.now.items
