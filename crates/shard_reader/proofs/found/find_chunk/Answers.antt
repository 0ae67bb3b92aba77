use Rattle.std.proofs.Common.{◌∙◌, sym, Ok, Err}
use Rattle.shard_reader.proofs.FoundSteps.{found_fault, found_row, span_of_row}
use Rattle.shard_reader.proofs.found.find_chunk.Goals as goal

pub returns-in-Err-clause-found : goal.returns-in-Err-clause-found
returns-in-Err-clause-found g c = λ object told.
    let is = c.requires.opened object told in
    found_fault object c.args.sharding.now c.args.limit c.args.id c.args.opened.now.len c.args.opened.now.index.at c.args.opened.now.index.rows c.in-Err.fault is (c.in-Err.ensures.found object told is.fits)

pub returns-in-Ok-chunk_span-clause-found : goal.returns-in-Ok-chunk_span-clause-found
returns-in-Ok-chunk_span-clause-found g c = λ object told.
    let is = c.requires.opened object told in
    found_row object c.args.sharding.now c.args.limit c.args.id c.args.opened.now.len c.args.opened.now.index.at c.args.opened.now.index.rows c.base_len.result c.in-Ok.row (Ok c.in-Ok-chunk_span.span) is (c.in-Ok.ensures.found object told is.fits)
    c.base_len.ensures.value (sym c.chunk_span.ensures.value ∙ c.in-Ok-chunk_span.is)

pub returns-in-Err-chunk_span-clause-found : goal.returns-in-Err-chunk_span-clause-found
returns-in-Err-chunk_span-clause-found g c = λ object told.
    let is = c.requires.opened object told in
    found_row object c.args.sharding.now c.args.limit c.args.id c.args.opened.now.len c.args.opened.now.index.at c.args.opened.now.index.rows c.base_len.result c.in-Ok.row (Err c.in-Err-chunk_span.fault) is (c.in-Ok.ensures.found object told is.fits)
    c.base_len.ensures.value (sym c.chunk_span.ensures.value ∙ c.in-Err-chunk_span.is)

pub returns-in-Ok-chunk_span-clause-ends : goal.returns-in-Ok-chunk_span-clause-ends
returns-in-Ok-chunk_span-clause-ends g c = span_of_row c.base_len.result c.args.opened.now.len c.args.limit c.in-Ok.row c.in-Ok-chunk_span.span _ (sym c.chunk_span.ensures.value ∙ c.in-Ok-chunk_span.is) c.in-Ok.ensures.ends
