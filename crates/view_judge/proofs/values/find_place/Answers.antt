use mir.Syntax.{w64}
use mir.Val.{SFits}
use Rattle.std.proofs.Common.{◌∷◌, [], lit<, rules}
use Rattle.std.proofs.lemmas.Int.{to_z-of_z}
use Rattle.chunk_grid.proofs.GridSteps.{Inside-small}
use Rattle.view_judge.proofs.values.find_place.Goals as goal

pub place_on-requires-clause-small : goal.place_on-requires-clause-small
place_on-requires-clause-small c = Inside-small c.args.scale.now c.args.part.now c.requires.inside 0 (lit< tt)

pub place_on-requires-2-clause-small : goal.place_on-requires-2-clause-small
place_on-requires-2-clause-small c = Inside-small c.args.scale.now c.args.part.now c.requires.inside 1 (lit< tt)

pub place_on-requires-3-clause-small : goal.place_on-requires-3-clause-small
place_on-requires-3-clause-small c = Inside-small c.args.scale.now c.args.part.now c.requires.inside 2 (lit< tt)

pub returns-clause-position : goal.returns-clause-position
returns-clause-position c =
    let x : SFits w64 c.place_on.result = search rules in
    let y : SFits w64 c.place_on-2.result = search rules in
    let z : SFits w64 c.place_on-3.result = search rules in
    rw (to_z-of_z w64 c.place_on.result x, to_z-of_z w64 c.place_on-2.result y, to_z-of_z w64 c.place_on-3.result z)
    (λ i. c.place_on.ensures i ∷ c.place_on-2.ensures i ∷ c.place_on-3.ensures i ∷ [])
