use Rattle.std.proofs.Common.{lit<, rules, w64}
use mir.Val.{SFits}
use Rattle.std.proofs.lemmas.Int.{to_z-of_z}
use Rattle.chunk_grid.proofs.GridSteps.{Inside-small}
use Rattle.cutout.proofs.LayerSteps.{layer_is}
use Rattle.cutout.proofs.layers.layer_at.Goals as goal

pub place_of-requires-clause-small : goal.place_of-requires-clause-small
place_of-requires-clause-small c = Inside-small c.args.scale.now c.args.part.now c.requires.inside 2 (lit< tt)

pub returns : goal.returns
returns c =
    let f : SFits w64 c.begin_on.result = search rules in
    let h : SFits w64 c.begin_on-2.result = search rules in
    let k : SFits w64 c.place_of.result = search rules in
    rw (to_z-of_z w64 c.begin_on.result f, to_z-of_z w64 c.begin_on-2.result h, to_z-of_z w64 c.place_of.result k)
    (layer_is c.args.scale.now c.args.part.now c.args.number _ _ _ _ _ c.begin_on.ensures c.begin_on-2.ensures c.place_of.ensures c.planes_below-from.ensures c.planes_below.ensures)
