use Rattle.std.proofs.Common.{◌≡◌, rules, arith, length}
use Rattle.vectors_vol.proofs.PlaceSteps.{none_left, not_given}
use Rattle.vectors_vol.proofs.place.Place.prepare.Goals as goal
use Rattle.vectors_vol.proofs.place.Place.prepare.Goals.{else-is_given-via-then-is_given+else-self, else-is_given-via-else-is_given}

pub returns-else-is_given-clause-some : goal.returns-else-is_given-clause-some
returns-else-is_given-clause-some c = λ given.
    let s = c.args.self.now in
    elim c.else-is_given.branch [
      | else-is_given-via-then-is_given+else-self w ↦
          let len : length s.head ≡ 48 = search rules in
          none_left s.scale s.number s.begun s.writes s.head s.head_at s.at s.first s.count (omega arith) len given.0 given.1
      | else-is_given-via-else-is_given w ↦ absurd (not_given c.is_given.result _ c.is_given.ensures w.if-is_given.false given)
    ]
