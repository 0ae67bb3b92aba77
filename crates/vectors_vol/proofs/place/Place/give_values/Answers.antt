use Rattle.std.proofs.Common.{◌≡◌, ◌≤◌, ◌*◌, ◌+◌, ◌-◌, List, ℕ, rules, arith, length, take, drop}
use Rattle.std.proofs.lemmas.List.{length-drop}
use Rattle.vectors_vol.specs.Generated.{counting_bytes, writes_from}
use Rattle.vectors_vol.specs.WriteStreams.{written}
use Rattle.vectors_vol.proofs.PlaceSteps.{values_gives, values_left}
use Rattle.vectors_vol.proofs.SizeSteps.{some_width}
use Rattle.vectors_vol.proofs.ValueSteps.{given_values, length_values}
use Rattle.vectors_vol.proofs.place.Place.give_values.Goals as goal

pub returns-clause-gives : goal.returns-clause-gives
returns-clause-gives c =
    let s = c.args.self.now in
    let len : length s.head ≡ 48 = search rules in
    let values : List ℕ = counting_bytes s.scale.width s.first s.count in
    let within : s.at + c.min-n.result ≤ s.scale.width * s.count = omega (arith, s.at_ok) in
    let left : c.min-n.result ≤ length (drop s.at values) = omega (arith, length-drop s.at values, length_values s.scale.width s.first 0 s.count) in
    let bytes : take c.min-n.result c.fill_front.new.out ≡ take c.min-n.result (drop s.at values) =
    given_values s.scale.width s.first s.count s.at c.min-n.result c.fill_front.new.out (some_width s.scale.width s.scale.width_ok) within (search rules) (search rules) in
    values_gives s.head values (written (writes_from s.scale s.number s.begun (s.writes - s.begun))) c.fill_front.new.out s.head_at s.at c.min-n.result
    len c.requires.head left bytes (λ none. c.requires.some (c.requires.head, omega arith))

pub returns-clause-left : goal.returns-clause-left
returns-clause-left c =
    let s = c.args.self.now in
    let len : length s.head ≡ 48 = search rules in
    let values : List ℕ = counting_bytes s.scale.width s.first s.count in
    let within : s.at + c.min-n.result ≤ s.scale.width * s.count = omega (arith, s.at_ok) in
    let left : c.min-n.result ≤ length (drop s.at values) = omega (arith, length-drop s.at values, length_values s.scale.width s.first 0 s.count) in
    values_left s.head values (written (writes_from s.scale s.number s.begun (s.writes - s.begun))) s.head_at s.at c.min-n.result len c.requires.head left
