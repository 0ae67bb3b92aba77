use Rattle.reducer.proofs.SourceSteps.{room_of}
use Rattle.reducer.proofs.reducer.reserve_buffer.Goals as goal

pub returns : goal.returns
returns c = record { room = room_of c.args.from.now c.args.to.now c.source_box-part.result c.byte_len-len.result c.with_capacity.result c.source_box-part.ensures.positions c.source_box-part.ensures.short c.byte_len-len.ensures c.with_capacity.ensures.exact }
