use Rattle.std.proofs.Common.{arith, refl}
use Rattle.vol_base.specs.Boxes.{num}
use Rattle.voxel_raw.proofs.Parts.{lies_in}
use Rattle.voxel_raw.proofs.Products.{facts}
use Rattle.vol_spec.proofs.RawSteps.{voxel_fits}
use Rattle.voxel_raw.proofs.Voxels.{fits_source, fits_target, moves, stays, no_width, same_values}
use Rattle.voxel_raw.proofs.boxes.put_box.Goals as goal

pub put_places-requires-clause-source : goal.put_places-requires-clause-source
put_places-requires-clause-source g c =
    let has = c.has_bytes.ensures.0 c.if-not-has_bytes.false in
    let f = facts c.args.from_box.now c.args.part.now c.args.channels c.args.width _ c.requires.source has.0 has.1 in
    fits_source c.args.from_box.now c.args.part.now c.args.channels c.args.width _ c.find_place-at.result c.find_place-to_at.result f c.find_place-at.ensures has.2

pub put_places-requires-clause-target : goal.put_places-requires-clause-target
put_places-requires-clause-target g c =
    let has = c.has_bytes.ensures.0 c.if-not-has_bytes.false in
    let f = facts c.args.to_box.now c.args.part.now c.args.channels c.args.width _ c.requires.target has.0 has.1 in
    fits_target c.args.to_box.now c.args.part.now c.args.channels c.args.width _ c.find_place-at.result c.find_place-to_at.result f c.find_place-to_at.ensures has.2

pub put_places-requires-clause-row : goal.put_places-requires-clause-row
put_places-requires-clause-row g c =
    let has = c.has_bytes.ensures.0 c.if-not-has_bytes.false in
    let f = facts c.args.from_box.now c.args.part.now c.args.channels c.args.width _ c.requires.source has.0 has.1 in
    rw c.find_place-at.ensures.row (omega (arith, f.run))

pub returns-then-not-has_bytes-clause-values : goal.returns-then-not-has_bytes-clause-values
returns-then-not-has_bytes-clause-values g c = λ p ch cov lc.
    let none = no_width c.args.part.now c.args.channels c.args.width c.has_bytes.result c.has_bytes.ensures c.if-not-has_bytes.true p ch cov lc in
    rw none refl

pub returns-clause-values : goal.returns-clause-values
returns-clause-values g c = λ p ch cov lc.
    let has = c.has_bytes.ensures.0 c.if-not-has_bytes.false in
    let in_f = voxel_fits c.args.from_box.now c.args.channels c.args.width p ch (c.requires.source.within p cov) lc in
    let in_t = voxel_fits c.args.to_box.now c.args.channels c.args.width p ch (c.requires.target.within p cov) lc in
    same_values c.args.width (num c.args.to_box.now p ch) (num c.args.from_box.now p ch) _ _ (omega (arith, in_t, c.requires.target.len, c.put_places.auto.to)) (omega (arith, in_f, c.requires.source.len))
    (λ k lk. c.put_places.ensures.moved _ _ (moves c.args.from_box.now c.args.to_box.now c.args.part.now c.args.channels c.args.width c.find_place-at.result c.find_place-to_at.result c.find_place-at.ensures c.find_place-to_at.ensures
    (lies_in _ _ has.0 c.requires.source.within) (lies_in _ _ has.0 c.requires.target.within) p ch k cov lc lk))

pub returns-clause-rest : goal.returns-clause-rest
returns-clause-rest g c = λ p ch cov out lc.
    let has = c.has_bytes.ensures.0 c.if-not-has_bytes.false in
    let t = facts c.args.to_box.now c.args.part.now c.args.channels c.args.width _ c.requires.target has.0 has.1 in
    let in_t = voxel_fits c.args.to_box.now c.args.channels c.args.width p ch cov lc in
    same_values c.args.width (num c.args.to_box.now p ch) (num c.args.to_box.now p ch) _ _ (omega (arith, in_t, c.requires.target.len, c.put_places.auto.to)) (omega (arith, in_t, c.requires.target.len))
    (λ k lk. c.put_places.ensures.kept _ (λ s. stays c.args.to_box.now c.args.part.now c.args.channels c.args.width c.find_place-at.result c.find_place-to_at.result c.find_place-to_at.ensures (lies_in _ _ has.0 c.requires.target.within) _ t p ch k s cov out lk))
