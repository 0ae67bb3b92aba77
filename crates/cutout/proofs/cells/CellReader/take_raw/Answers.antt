use Rattle.std.proofs.Common.{◌∷◌, ◌∙◌, [], false, rules}
use Rattle.cutout.proofs.RunSteps.{run_read}
use Rattle.cutout.proofs.TakingSteps.{raw_absent, raw_chunk, raw_fault, raw_refused, raw_short}
use Rattle.cutout.proofs.cells.CellReader.take_raw.Goals as goal

pub read_sharded-requires-clause-room : goal.read_sharded-requires-clause-room
read_sharded-requires-clause-room g c = raw_short c.args.origin.now.scale c.args.cell c.chunk_limit-limit.result _ c.requires.raw c.chunk_limit-limit.ensures.limit c.requires.len

pub returns-in-Err-clause-taken : goal.returns-in-Err-clause-taken
returns-in-Err-clause-taken g c = raw_refused (g.S.Source.objects c.args.store.now) c.args.origin.now c.args.cell c.in-Err.fault c.read_sharded.new.chunk c.in-Err.ensures.read

pub returns-in-Ok-None-clause-taken : goal.returns-in-Ok-None-clause-taken
returns-in-Ok-None-clause-taken g c =
    raw_absent (g.S.Source.objects c.args.store.now) c.args.origin.now c.args.cell c.in-Ok-None.field-0 c.read_sharded.new.chunk c.put_zeros_in.new.out c.in-Ok-None.field-0-is c.in-Ok-None.ensures.read c.put_zeros_in.ensures.zeros

pub returns-in-Ok-clause-taken : goal.returns-in-Ok-clause-taken
returns-in-Ok-clause-taken g c =
    raw_chunk (g.S.Source.objects c.args.store.now) c.args.origin.now c.args.cell c.in-Ok-Some.field-0 c.in-Ok-Some.len c.read_sharded.new.chunk c.in-Ok-Some.field-0-is c.requires.raw (c.read_sharded.auto.chunk ∙ c.requires.len) c.in-Ok-Some.ensures.read c.in-Ok.ensures

pub returns-in-Err-judge_bytes-clause-taken : goal.returns-in-Err-judge_bytes-clause-taken
returns-in-Err-judge_bytes-clause-taken g c =
    raw_fault (g.S.Source.objects c.args.store.now) c.args.origin.now c.args.cell c.in-Ok-Some.field-0 c.in-Ok-Some.len c.read_sharded.new.chunk c.in-Err-judge_bytes.fault c.in-Ok-Some.field-0-is c.in-Ok-Some.ensures.read c.in-Err-judge_bytes.ensures

pub returns-in-Err-judge_bytes-clause-walks : goal.returns-in-Err-judge_bytes-clause-walks
returns-in-Err-judge_bytes-clause-walks g c = record {
  run =
      run_read (g.S.Source.objects c.args.store.now) false c.args.origin.now.dataset c.args.origin.now.scale (c.args.cell ∷ []) (g.S.Source.asked c.args.store.now) (g.S.Source.asked c.read_sharded.new.store) c.args.self.now.shards c.read_sharded.new.shards
      c.in-Ok-Some.ensures.walks.run;
  reads = search rules;
}
