use Rattle.std.proofs.Common.{◌∙◌, ap, Ok}
use Rattle.vol_spec.specs.ShardNames.{shard_name}
use Rattle.shard_reader.specs.Reading.{told_object}
use Rattle.shard_reader.proofs.ChunkSteps.{gets_fault, gets_read}
use Rattle.shard_reader.proofs.reader.ShardReader.read_chunk.Goals as goal

pub returns-in-Err-read_span-clause-gets : goal.returns-in-Err-read_span-clause-gets
returns-in-Err-read_span-clause-gets g c =
    gets_fault _ (shard_name c.args.stored.now.dataset c.args.stored.now.scale) c.shard_name-name.result c.args.sharding.now c.place.result.shard c.args.limit c.args.id c.locate.result c.in-Ok-Some.span c.read_span.new.buffer c.in-Err-read_span.fault
    (c.in-Ok-Some.is ∙ ap Ok c.in-Ok-Some.field-0-is) c.shard_name-name.ensures c.place.ensures.shard c.locate.ensures.found
    (λ object told. c.in-Err-read_span.ensures.whole object (ap (λ o. told_object o c.shard_name-name.result) c.locate.ensures.reads.kept.same_objects ∙ told))

pub returns-in-Ok-clause-gets : goal.returns-in-Ok-clause-gets
returns-in-Ok-clause-gets g c =
    gets_read _ (shard_name c.args.stored.now.dataset c.args.stored.now.scale) c.shard_name-name.result c.args.sharding.now c.place.result.shard c.args.limit c.args.id c.locate.result c.in-Ok-Some.span c.read_span.new.buffer
    (c.in-Ok-Some.is ∙ ap Ok c.in-Ok-Some.field-0-is) c.shard_name-name.ensures c.place.ensures.shard c.locate.ensures.found
    (λ object told. c.in-Ok.ensures.read object (ap (λ o. told_object o c.shard_name-name.result) c.locate.ensures.reads.kept.same_objects ∙ told))
