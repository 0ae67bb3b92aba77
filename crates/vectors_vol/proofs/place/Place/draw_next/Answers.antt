use Rattle.std.proofs.Common.{◌≡◌, rules, arith, length}
use Rattle.vectors_vol.proofs.PlaceSteps.{left_next, state_next}
use Rattle.vectors_vol.proofs.place.Place.draw_next.Goals as goal

pub invariant_of-self-clause-state_ok : goal.invariant_of-self-clause-state_ok
invariant_of-self-clause-state_ok c =
    let s = c.args.self.now in
    state_next s.number s.begun s.draws.state _ s.state_ok c.draw_box-part.ensures.state

pub returns-clause-same : goal.returns-clause-same
returns-clause-same c =
    let s = c.args.self.now in
    let len : length s.head ≡ 48 = search rules in
    left_next s.scale s.number s.begun s.writes c.head_bytes-self.result s.head s.head_at s.at s.first s.count s.draws.state
    _ c.count_values-self.result c.draw_box-part.result
    c.requires.more len c.requires.given.0 c.requires.given.1 s.state_ok c.draw_box-part.ensures.drawn c.head_bytes-self.ensures
    (omega arith) (search rules)
