use Rattle.std.proofs.Common.{◌∷◌, [], false, rules}
use Rattle.cutout.proofs.FindSteps.{finds_fault, finds_refused}
use Rattle.cutout.proofs.ReadSteps.{reads_absent, reads_chunk, reads_refused}
use Rattle.cutout.proofs.RunSteps.{run_read}
use Rattle.cutout.proofs.cells.CellReader.read_one.Goals as goal

pub returns-in-Err-clause-read : goal.returns-in-Err-clause-read
returns-in-Err-clause-read g c =
    reads_refused (g.S.Source.objects c.args.store.now) c.args.origin.now.dataset c.args.origin.now.scale c.args.cell c.args.part.now c.args.channels c.args.out.now _ c.in-Err.fault
    (finds_refused (g.S.Source.objects c.args.store.now) c.args.origin.now.dataset c.args.origin.now.scale c.args.cell c.read_chunk.new.self.chunk c.in-Err.fault c.in-Err.ensures.read)

pub returns-in-Ok-false-clause-read : goal.returns-in-Ok-false-clause-read
returns-in-Ok-false-clause-read g c =
    reads_absent (g.S.Source.objects c.args.store.now) c.args.origin.now.dataset c.args.origin.now.scale c.args.cell c.args.part.now c.args.channels c.read_chunk.new.self.chunk c.in-Ok-false.field-0 c.args.out.now c.put_zeros.new.out
    c.in-Ok-false.field-0-test c.in-Ok-false.ensures.read c.put_zeros.ensures

pub returns-in-Ok-clause-read : goal.returns-in-Ok-clause-read
returns-in-Ok-clause-read g c =
    reads_chunk (g.S.Source.objects c.args.store.now) c.args.origin.now.dataset c.args.origin.now.scale c.args.cell c.args.part.now c.args.channels c.read_chunk.new.self.chunk c.in-Ok-true.field-0 c.used-bytes.result.now c.args.out.now c.put_chunk.new.out
    c.in-Ok-true.field-0-test c.used-bytes.ensures c.in-Ok-true.ensures.read c.in-Ok.ensures.fault c.in-Ok.ensures.took

pub returns-in-Err-put_chunk-clause-read : goal.returns-in-Err-put_chunk-clause-read
returns-in-Err-put_chunk-clause-read g c =
    finds_fault (g.S.Source.objects c.args.store.now) c.args.origin.now.dataset c.args.origin.now.scale c.args.cell c.read_chunk.new.self.chunk c.in-Ok-true.field-0 c.used-bytes.result.now c.in-Err-put_chunk.fault c.in-Ok-true.field-0-test c.used-bytes.ensures
    c.in-Ok-true.ensures.read c.in-Err-put_chunk.ensures.fault

pub returns-in-Err-put_chunk-clause-walks : goal.returns-in-Err-put_chunk-clause-walks
returns-in-Err-put_chunk-clause-walks g c = record {
  run =
      run_read (g.S.Source.objects c.args.store.now) false c.args.origin.now.dataset c.args.origin.now.scale (c.args.cell ∷ []) (g.S.Source.asked c.args.store.now) (g.S.Source.asked c.read_chunk.new.store) c.args.self.now.shards c.read_chunk.new.self.shards
      c.in-Ok-true.ensures.walks.run;
  reads = search rules;
}
