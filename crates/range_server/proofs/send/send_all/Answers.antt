use Rattle.std.proofs.Common.{◌∙◌, arith, length, ◌-◌}
use Rattle.vol_base.proofs.Gained.{gained-next}
use Rattle.range_server.proofs.send.send_all.Goals as goal

pub loop-done-preserved : goal.loop-done-preserved
loop-done-preserved g c = record {
  within = omega (arith, c.in-Ok.ensures.some);
  gained = gained-next _ _ _ c.args.bytes.now c.loop-done.done c.in-Ok.n (length c.args.bytes.now - c.loop-done.done) c.loop-done.invariant.gained (omega (arith, c.in-Ok.ensures.some)) (omega (arith, c.in-Ok.ensures.some)) c.in-Ok.ensures.sent;
  left = c.send.ensures.left ∙ c.loop-done.invariant.left;
  stream = c.send.ensures.stream ∙ c.loop-done.invariant.stream;
  later = omega (arith, c.loop-done.invariant.later, c.in-Ok.ensures.cause.stands);
}
