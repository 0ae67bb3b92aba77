use Rattle.std.proofs.Common.{arith, rules, ◌∙◌}
use Rattle.std.proofs.lemmas.List.{length-set}
use Rattle.encode_round.proofs.Placing.{put_more}
use Rattle.encode_round.proofs.places.seat_all.Goals as goal

pub loop-i-preserved : goal.loop-i-preserved
loop-i-preserved g c = (
  omega (arith, c.loop-i.invariant.0, c.seat_place.ensures.parts, length-set c.loop-i.places c.loop-i.i c.seat_place.new.place),
  c.seat_place.ensures.outs ∙ c.loop-i.invariant.1,
  c.seat_place.ensures.desks,
  omega (arith, c.loop-i.invariant.3, c.seat_place.ensures.left),
  omega (arith, c.loop-i.invariant.4, c.seat_place.ensures.room),
  put_more _ c.loop-i.places c.loop-i.i c.seat_place.new.place (search rules) c.seat_place.ensures.there c.seat_place.ensures.seated c.loop-i.invariant.5,
)
