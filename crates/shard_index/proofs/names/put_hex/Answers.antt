use Rattle.std.proofs.Common.{length, arith}
use Rattle.std.proofs.lemmas.List.{length-set}
use Rattle.shard_index.proofs.NameSteps.{digits_more}
use Rattle.shard_index.proofs.names.put_hex.Goals as goal

pub loop-i-preserved : goal.loop-i-preserved
loop-i-preserved c = record {
  len = omega (arith, length-set c.loop-i.to c.loop-i.i c.hex_digit.result);
  put = digits_more c.loop-i.to c.args.number (length c.args.to.now) c.loop-i.i c.hex_digit.result (omega arith) c.hex_digit.ensures c.loop-i.invariant.put;
}
