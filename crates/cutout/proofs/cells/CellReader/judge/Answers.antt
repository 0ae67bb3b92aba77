use Rattle.std.proofs.Common.{◌∷◌, [], false, rules}
use Rattle.cutout.proofs.FindSteps.{finds_absent, finds_fault, finds_refused, finds_stored}
use Rattle.cutout.proofs.RunSteps.{run_read}
use Rattle.cutout.proofs.cells.CellReader.judge.Goals as goal

pub returns-in-Err-clause-finds : goal.returns-in-Err-clause-finds
returns-in-Err-clause-finds g c = finds_refused (g.S.Source.objects c.args.store.now) c.args.origin.now.dataset c.args.origin.now.scale c.args.cell c.read_chunk.new.self.chunk c.in-Err.fault c.in-Err.ensures.read

pub returns-in-Ok-false-clause-finds : goal.returns-in-Ok-false-clause-finds
returns-in-Ok-false-clause-finds g c = finds_absent (g.S.Source.objects c.args.store.now) c.args.origin.now.dataset c.args.origin.now.scale c.args.cell c.read_chunk.new.self.chunk c.in-Ok-false.field-0 c.in-Ok-false.field-0-test c.in-Ok-false.ensures.read

pub returns-in-Ok-clause-finds : goal.returns-in-Ok-clause-finds
returns-in-Ok-clause-finds g c =
    finds_stored (g.S.Source.objects c.args.store.now) c.args.origin.now.dataset c.args.origin.now.scale c.args.cell c.read_chunk.new.self.chunk c.in-Ok-true.field-0 c.used-bytes.result.now c.in-Ok-true.field-0-test c.used-bytes.ensures
    c.in-Ok-true.ensures.read c.in-Ok.ensures

pub returns-in-Err-judge_bytes-clause-finds : goal.returns-in-Err-judge_bytes-clause-finds
returns-in-Err-judge_bytes-clause-finds g c =
    finds_fault (g.S.Source.objects c.args.store.now) c.args.origin.now.dataset c.args.origin.now.scale c.args.cell c.read_chunk.new.self.chunk c.in-Ok-true.field-0 c.used-bytes.result.now c.in-Err-judge_bytes.fault c.in-Ok-true.field-0-test c.used-bytes.ensures
    c.in-Ok-true.ensures.read c.in-Err-judge_bytes.ensures

pub returns-in-Err-judge_bytes-clause-walks : goal.returns-in-Err-judge_bytes-clause-walks
returns-in-Err-judge_bytes-clause-walks g c = record {
  run =
      run_read (g.S.Source.objects c.args.store.now) false c.args.origin.now.dataset c.args.origin.now.scale (c.args.cell ∷ []) (g.S.Source.asked c.args.store.now) (g.S.Source.asked c.read_chunk.new.store) c.args.self.now.shards c.read_chunk.new.self.shards
      c.in-Ok-true.ensures.walks.run;
  reads = search rules;
}
