use Rattle.std.proofs.Common.{arith, ◌≡◌, ◌<◌, ◌≤◌, ◌+◌, ◌*◌, ◌∙◌, ap, sym, subst, None, ⊎_elim}
use Rattle.std.proofs.lemmas.Bool.{cases_lt}
use Rattle.std.specs.Prelude.{flat_map}
use Rattle.std.specs.List.{range_with_len}
use Rattle.vol_spec.specs.SegChunks.{start, words}
use Rattle.vol_spec.specs.BoxValues.{first_some}
use Rattle.vol_spec.specs.SegFaults.{block_faults, channel_fault}
use Rattle.vol_spec.specs.SegShapes.{sizes_of}
use Rattle.segment_blocks.specs.Filled.{Filled}
use Rattle.vol_spec.specs.SegBlocks.{block_count, width}
use Rattle.segment_blocks.specs.Whole.{OfBlocks, place_of, entry_of}
use Rattle.segment_blocks.proofs.Blocks.{when_none}
use Rattle.segment_blocks.proofs.Firsts.{first_next, first_of_places, none_of}
use Rattle.segment_blocks.proofs.Shapes.{limits, facts}
use Rattle.segment_blocks.proofs.Wholes.{blocks_more}
use Rattle.segment_blocks.proofs.reading.decode_channel.Goals as goal

pub overflow_mul-count : goal.overflow_mul-count
overflow_mul-count c =
    let f = facts (sizes_of c.args.shape.now) (limits c.args.shape.now) in
    omega (arith, c.count_blocks-count.ensures, f.blocks)

pub overflow_add-start : goal.overflow_add-start
overflow_add-start c =
    let f = facts (sizes_of c.args.shape.now) (limits c.args.shape.now) in
    omega (arith, c.count_blocks-count.ensures, f.blocks)

pub returns-in-Err-clause-fault : goal.returns-in-Err-clause-fault
returns-in-Err-clause-fault c =
    let none : channel_fault c.args.bytes.now (sizes_of c.args.shape.now) c.args.c ≡ None = when_none (words c.args.bytes.now) (start c.args.bytes.now c.args.c + 2 * block_count (sizes_of c.args.shape.now)) _ (omega (arith, c.read_word-start.ensures, c.count_blocks-count.ensures)) in
    sym (first_next (channel_fault c.args.bytes.now (sizes_of c.args.shape.now) c.args.c) (flat_map (block_faults c.args.bytes.now (sizes_of c.args.shape.now) c.args.c) (range_with_len 0 (block_count (sizes_of c.args.shape.now)))) none
    ∙ first_of_places (block_faults c.args.bytes.now (sizes_of c.args.shape.now) c.args.c) 0 (block_count (sizes_of c.args.shape.now)) c.loop-k.k c.in-Err.fault (omega arith) (omega (arith, c.count_blocks-count.ensures)) (λ i l h. c.loop-k.invariant.0 i h) (sym c.in-Err.ensures.fault))

pub loop-k-preserved : goal.loop-k-preserved
loop-k-preserved c = (
  (λ j lj. ⊎_elim (λ (l : j < c.loop-k.k). c.loop-k.invariant.0 j l) (λ (g : c.loop-k.k ≤ j). let e : c.loop-k.k ≡ j = omega arith in ap (λ q. first_some (block_faults c.args.bytes.now (sizes_of c.args.shape.now) c.args.c q)) (sym e) ∙ sym c.in-Ok.ensures.fault) (cases_lt j c.loop-k.k)),
  blocks_more c.args.bytes.now (sizes_of c.args.shape.now) c.args.c c.loop-k.k c.args.raw.now c.loop-k.raw c.decode_block.new.raw (limits c.args.shape.now) c.loop-k.invariant.1 c.in-Ok.ensures.filled,
)

pub returns-clause-fault : goal.returns-clause-fault
returns-clause-fault c =
    let none : channel_fault c.args.bytes.now (sizes_of c.args.shape.now) c.args.c ≡ None = when_none (words c.args.bytes.now) (start c.args.bytes.now c.args.c + 2 * block_count (sizes_of c.args.shape.now)) _ (omega (arith, c.read_word-start.ensures, c.count_blocks-count.ensures)) in
    sym (first_next (channel_fault c.args.bytes.now (sizes_of c.args.shape.now) c.args.c) (flat_map (block_faults c.args.bytes.now (sizes_of c.args.shape.now) c.args.c) (range_with_len 0 (block_count (sizes_of c.args.shape.now)))) none
    ∙ none_of (block_faults c.args.bytes.now (sizes_of c.args.shape.now) c.args.c) 0 (block_count (sizes_of c.args.shape.now)) (λ i l h. c.loop-k.invariant.0 i (omega (arith, c.count_blocks-count.ensures))))

pub returns-clause-filled : goal.returns-clause-filled
returns-clause-filled c =
    let e : c.loop-k.k ≡ block_count (sizes_of c.args.shape.now) = omega (arith, c.count_blocks-count.ensures) in
    subst (λ q. Filled (OfBlocks (sizes_of c.args.shape.now) c.args.c q) (place_of (sizes_of c.args.shape.now)) (entry_of c.args.bytes.now (sizes_of c.args.shape.now)) (width (sizes_of c.args.shape.now)) c.args.raw.now c.loop-k.raw) e c.loop-k.invariant.1
