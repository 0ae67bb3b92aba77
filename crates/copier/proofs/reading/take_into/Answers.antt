use Rattle.std.proofs.Common.{arith, length-take}
use Rattle.std.proofs.lemmas.List.{take_at}
use Rattle.vol_spec.specs.Encodings.{raw_size}
use Rattle.copier.proofs.TakingSteps.{kept_front, taken_front}
use Rattle.copier.proofs.reading.take_into.Goals as goal

pub take_part-requires-clause-len : goal.take_part-requires-clause-len
take_part-requires-clause-len g c = omega (arith, c.values_len-len.ensures, length-take c.values_len-len.result c.args.frame.now, c.requires.len)

pub returns-clause-read : goal.returns-clause-read
returns-clause-read g c =
    taken_front (g.S.Source.objects c.args.store.now) c.args.reader.now.opened.dataset c.args.reader.now.opened.scale c.args.to.now c.args.cell c.take_part.result c.take_part.new.part _
    (take_at c.take_part.new.part _ _ (omega (arith, c.take_part.ensures.len, c.values_len-len.ensures, length-take c.values_len-len.result c.args.frame.now, c.requires.len)))
    (omega (arith, c.take_part.ensures.len, c.values_len-len.ensures, length-take c.values_len-len.result c.args.frame.now, c.requires.len)) c.take_part.ensures.chunk c.take_part.ensures.read

pub returns-clause-chunk : goal.returns-clause-chunk
returns-clause-chunk g c =
    kept_front c.args.to.now c.args.cell c.take_part.result (raw_size c.args.to.now c.args.cell) c.take_part.new.part _
    (take_at c.take_part.new.part _ _ (omega (arith, c.take_part.ensures.len, c.values_len-len.ensures, length-take c.values_len-len.result c.args.frame.now, c.requires.len)))
    (omega (arith, c.take_part.ensures.len, c.values_len-len.ensures, length-take c.values_len-len.result c.args.frame.now, c.requires.len)) c.take_part.ensures.chunk
