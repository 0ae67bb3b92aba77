use Rattle.std.proofs.Common.{◌≡◌, ◌+◌, arith, length, length-take, take}
use Rattle.segment_cells.proofs.CellSteps.{limit_first}
use Rattle.cutout.proofs.RunSteps.{own_run}
use Rattle.cutout.proofs.StoredSteps.{gets_front, own_told}
use Rattle.cutout.proofs.chunk.read_stored.Goals as goal

pub returns-in-Some-clause-read : goal.returns-in-Some-clause-read
returns-in-Some-clause-read g c =
    gets_front (g.S.Source.objects c.args.store.now) c.args.origin.now.dataset c.args.origin.now.scale c.args.cell c.read_sharded.result c.read_sharded.new.chunk _ c.read_sharded.ensures.within c.read_sharded.ensures.read

pub returns-in-None-clause-read : goal.returns-in-None-clause-read
returns-in-None-clause-read g c =
    let room : length (take (c.chunk_limit-limit.result + 1) c.args.chunk.now) ≡ c.chunk_limit-limit.result + 1 = omega (arith, length-take (c.chunk_limit-limit.result + 1) c.args.chunk.now, c.requires.room, c.chunk_limit-limit.ensures.first) in
    gets_front (g.S.Source.objects c.args.store.now) c.args.origin.now.dataset c.args.origin.now.scale c.args.cell c.read_object.result c.read_object.new.buffer _ c.read_object.ensures.within
    (own_told (g.S.Source.objects c.args.store.now) c.args.origin.now.dataset c.args.origin.now.scale c.args.cell c.object_name-name.result c.chunk_limit-limit.result (length (take (c.chunk_limit-limit.result + 1) c.args.chunk.now)) c.read_object.new.buffer c.read_object.result c.in-None.is
    c.chunk_limit-limit.ensures.limit c.object_name-name.ensures room c.read_object.ensures.read)

pub returns-in-None-clause-walks : goal.returns-in-None-clause-walks
returns-in-None-clause-walks g c = record {
  run =
      let room : length (take (c.chunk_limit-limit.result + 1) c.args.chunk.now) ≡ c.chunk_limit-limit.result + 1 = omega (arith, length-take (c.chunk_limit-limit.result + 1) c.args.chunk.now, c.requires.room, c.chunk_limit-limit.ensures.first) in
      let small = limit_first c.args.origin.now.scale c.args.cell in
      own_run (g.S.Source.objects c.args.store.now) c.read_object.result c.args.origin.now.dataset c.args.origin.now.scale c.args.cell (length (take (c.chunk_limit-limit.result + 1) c.args.chunk.now)) (g.S.Source.asked c.args.store.now) (g.S.Source.asked c.read_object.new.store)
      c.args.shards.now c.args.shards.now c.in-None.is (omega (arith, small, c.chunk_limit-limit.ensures.limit, room)) c.read_object.ensures.asked;
  reads = c.read_object.ensures.reads;
}
