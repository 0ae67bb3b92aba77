use Rattle.std.proofs.Common.{arith, ◌<◌, length, subst, sym}
use Rattle.std.proofs.lemmas.List.{get_or-replicate}
use Rattle.vol_spec.specs.Raw.{number}
use Rattle.segment_blocks.proofs.Places.{places_front, places_more}
use Rattle.segment_blocks.proofs.pack.pack_places.Goals as goal

pub put_index-requires-clause-front : goal.put_index-requires-clause-front
put_index-requires-clause-front c = places_front c.args.table.now c.args.voxels.now c.args.bits c.loop-n.n (number c.loop-n.values) c.requires.few (omega arith) c.loop-n.invariant.0

pub loop-n-preserved : goal.loop-n-preserved
loop-n-preserved c = (places_more c.args.table.now c.args.voxels.now c.args.bits c.loop-n.n c.find_near-place.result (number c.loop-n.values) (number c.put_index.new.values) (omega arith) c.find_near-place.ensures.is c.loop-n.invariant.0 c.put_index.ensures, λ _. c.find_near-place.ensures.guesses)

pub loop-n-init : goal.loop-n-init
loop-n-init c = (c.requires.clear, λ h s l. subst (λ q. q < length c.args.table.now) (sym (get_or-replicate 64 s 0 0 l)) h)

pub find_near-place-requires-clause-guesses : goal.find_near-place-requires-clause-guesses
find_near-place-requires-clause-guesses c =
    let t = c.requires.there c.loop-n.n c.loop-n-test.true in
    c.loop-n.invariant.1 (omega (arith, t.1))
