use Rattle.std.proofs.Common.{◌∷◌, ◌∙◌, [], false, refl, rules}
use Rattle.cutout.proofs.FindSteps.{finds_fault, finds_refused}
use Rattle.cutout.proofs.RunSteps.{run_read}
use Rattle.cutout.proofs.TakingSteps.{taken_chunk, takes_absent, takes_chunk}
use Rattle.cutout.proofs.cells.CellReader.take_one.Goals as goal

pub returns-in-Err-clause-taken : goal.returns-in-Err-clause-taken
returns-in-Err-clause-taken g c = finds_refused (g.S.Source.objects c.args.store.now) c.args.origin.now.dataset c.args.origin.now.scale c.args.cell c.read_chunk.new.self.chunk c.in-Err.fault c.in-Err.ensures.read

pub returns-in-Ok-false-clause-taken : goal.returns-in-Ok-false-clause-taken
returns-in-Ok-false-clause-taken g c =
    takes_absent (g.S.Source.objects c.args.store.now) c.args.origin.now c.args.cell c.read_chunk.new.self.chunk c.in-Ok-false.field-0 c.put_zeros_in.new.out c.in-Ok-false.field-0-test c.in-Ok-false.ensures.read c.put_zeros_in.ensures.zeros

pub returns-then-put_if-clause-taken : goal.returns-then-put_if-clause-taken
returns-then-put_if-clause-taken g c =
    taken_chunk (g.S.Source.objects c.args.store.now) c.args.origin.now.dataset c.args.origin.now.scale c.args.cell c.read_chunk.new.self.chunk c.in-Ok-true.field-0 c.used-chunk.result.now c.put_if.new.out c.in-Ok-true.field-0-test c.used-chunk.ensures c.in-Ok-true.ensures.read
    (c.if-put_if.ensures.own refl).sound (c.if-put_if.ensures.front refl)

pub put_cell-requires-clause-len : goal.put_cell-requires-clause-len
put_cell-requires-clause-len g c = c.put_if.ensures.len ∙ c.requires.len

pub returns-in-Ok-clause-taken : goal.returns-in-Ok-clause-taken
returns-in-Ok-clause-taken g c =
    takes_chunk (g.S.Source.objects c.args.store.now) c.args.origin.now c.args.cell c.read_chunk.new.self.chunk c.in-Ok-true.field-0 c.used-chunk.result.now c.put_cell.new.out c.in-Ok-true.field-0-test c.used-chunk.ensures c.in-Ok-true.ensures.read c.in-Ok.ensures.fault c.in-Ok.ensures.held

pub returns-in-Err-put_cell-clause-taken : goal.returns-in-Err-put_cell-clause-taken
returns-in-Err-put_cell-clause-taken g c =
    finds_fault (g.S.Source.objects c.args.store.now) c.args.origin.now.dataset c.args.origin.now.scale c.args.cell c.read_chunk.new.self.chunk c.in-Ok-true.field-0 c.used-chunk.result.now c.in-Err-put_cell.fault c.in-Ok-true.field-0-test c.used-chunk.ensures
    c.in-Ok-true.ensures.read c.in-Err-put_cell.ensures.fault

pub returns-in-Err-put_cell-clause-walks : goal.returns-in-Err-put_cell-clause-walks
returns-in-Err-put_cell-clause-walks g c = record {
  run =
      run_read (g.S.Source.objects c.args.store.now) false c.args.origin.now.dataset c.args.origin.now.scale (c.args.cell ∷ []) (g.S.Source.asked c.args.store.now) (g.S.Source.asked c.read_chunk.new.store) c.args.self.now.shards c.read_chunk.new.self.shards
      c.in-Ok-true.ensures.walks.run;
  reads = search rules;
}
