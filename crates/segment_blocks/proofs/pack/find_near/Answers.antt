use Rattle.std.proofs.Common.{rules, ℕ, slice_index, sym}
use Rattle.segment_blocks.proofs.Places.{place_is}
use Rattle.segment_blocks.proofs.pack.find_near.Goals as goal

pub returns-then-table-guess-clause-is : goal.returns-then-table-guess-clause-is
returns-then-table-guess-clause-is c =
    let spot : ℕ = c.find_spot-spot.result in
    sym (place_is c.args.table.now c.args.x (slice_index c.args.guesses.now spot) c.requires.rises (c.requires.guesses spot c.find_spot-spot.ensures) (search rules))

pub returns-clause-is : goal.returns-clause-is
returns-clause-is c = sym (place_is c.args.table.now c.args.x c.find_index-place.result c.requires.rises c.find_index-place.ensures.within c.find_index-place.ensures.is)
