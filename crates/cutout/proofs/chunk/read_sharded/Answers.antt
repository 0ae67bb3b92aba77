use Rattle.std.proofs.Common.{arith, length, rules}
use Rattle.cutout.proofs.RunSteps.{sharded_run}
use Rattle.cutout.proofs.StoredSteps.{keeps_as, keeps_index, sharded_told, within_more}
use Rattle.cutout.proofs.chunk.read_sharded.Goals as goal

pub read_chunk-requires-clause-keeps : goal.read_chunk-requires-clause-keeps
read_chunk-requires-clause-keeps g c = keeps_as (g.S.Source.objects c.args.store.now) c.args.origin.now.dataset c.args.origin.now.scale c.args.sharding.now c.args.shards.now c.requires.sharding c.requires.keeps

pub returns-clause-keeps : goal.returns-clause-keeps
returns-clause-keeps g c = keeps_index (g.S.Source.objects c.args.store.now) c.args.origin.now.dataset c.args.origin.now.scale c.args.sharding.now c.read_chunk.new.self c.requires.sharding c.read_chunk.ensures.keeps

pub returns-clause-read : goal.returns-clause-read
returns-clause-read g c =
    sharded_told (g.S.Source.objects c.args.store.now) c.args.origin.now.dataset c.args.origin.now.scale c.args.cell c.args.sharding.now c.args.limit c.chunk_id-id.result c.read_chunk.new.buffer c.read_chunk.result c.requires.sharding c.requires.limit
    c.chunk_id-id.ensures c.read_chunk.ensures.gets

pub returns-clause-within : goal.returns-clause-within
returns-clause-within g c = within_more c.read_chunk.result c.args.limit (length c.read_chunk.new.buffer) (omega (arith, c.requires.room, c.read_chunk.auto.buffer)) c.read_chunk.ensures.short

pub returns-clause-walks : goal.returns-clause-walks
returns-clause-walks g c = record {
  run =
      sharded_run (g.S.Source.objects c.args.store.now) c.read_chunk.result c.args.origin.now.dataset c.args.origin.now.scale c.args.cell c.args.sharding.now c.args.limit c.chunk_id-id.result (g.S.Source.asked c.args.store.now) (g.S.Source.asked c.read_chunk.new.store)
      c.args.shards.now c.read_chunk.new.self c.requires.sharding c.requires.limit c.chunk_id-id.ensures c.read_chunk.ensures.once c.read_chunk.ensures.onward;
  reads = search rules;
}
