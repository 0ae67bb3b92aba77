use Rattle.std.proofs.Common.{arith, ◌≡◌, ◌<◌, ◌≤◌, ◌∙◌, ap, sym, subst, length, Some, None, ⊎_elim}
use Rattle.std.proofs.lemmas.Bool.{cases_lt}
use Rattle.std.specs.Prelude.{flat_map}
use Rattle.std.specs.List.{range_with_len}
use Rattle.vol_base.specs.declared.faults.ChunkFault.TheVariants.{SegLength}
use Rattle.vol_spec.specs.BoxValues.{first_some}
use Rattle.vol_spec.specs.SegFaults.{when, channel_faults, length_fault, seg_fault}
use Rattle.vol_spec.specs.SegShapes.{sizes_of}
use Rattle.segment_blocks.specs.Filled.{Filled}
use Rattle.vol_spec.specs.SegBlocks.{width}
use Rattle.segment_blocks.specs.Whole.{OfChannels, place_of, entry_of}
use Rattle.segment_blocks.proofs.Shapes.{limits}
use Rattle.segment_blocks.proofs.Firsts.{first_here, first_next, first_of_places, none_of}
use Rattle.segment_blocks.proofs.Wholes.{channels_more, read_all}
use Rattle.segment_blocks.proofs.reading.decode.Goals as goal

pub returns-then-test_length-clause-fault : goal.returns-then-test_length-clause-fault
unfolding seg_fault
returns-then-test_length-clause-fault c =
    let here : length_fault c.args.bytes.now (sizes_of c.args.shape.now) ≡ Some (SegLength (length c.args.bytes.now)) = ap (λ q. when q (SegLength (length c.args.bytes.now))) (sym c.test_length.ensures ∙ c.if-test_length.true) in
    sym (first_here (length_fault c.args.bytes.now (sizes_of c.args.shape.now)) (flat_map (channel_faults c.args.bytes.now (sizes_of c.args.shape.now)) (range_with_len 0 c.args.shape.now.channels)) _ here)

pub returns-in-Err-clause-fault : goal.returns-in-Err-clause-fault
unfolding seg_fault
returns-in-Err-clause-fault c =
    let none : length_fault c.args.bytes.now (sizes_of c.args.shape.now) ≡ None = ap (λ q. when q (SegLength (length c.args.bytes.now))) (sym c.test_length.ensures ∙ c.if-test_length.false) in
    sym (first_next (length_fault c.args.bytes.now (sizes_of c.args.shape.now)) (flat_map (channel_faults c.args.bytes.now (sizes_of c.args.shape.now)) (range_with_len 0 c.args.shape.now.channels)) none
    ∙ first_of_places (channel_faults c.args.bytes.now (sizes_of c.args.shape.now)) 0 c.args.shape.now.channels c.loop-c.c c.in-Err.fault (omega arith) (omega arith) (λ i l h. c.loop-c.invariant.0 i h) (sym c.in-Err.ensures.fault))

pub loop-c-preserved : goal.loop-c-preserved
loop-c-preserved c = (
  (λ j lj. ⊎_elim (λ (l : j < c.loop-c.c). c.loop-c.invariant.0 j l) (λ (g : c.loop-c.c ≤ j). let e : c.loop-c.c ≡ j = omega arith in ap (λ q. first_some (channel_faults c.args.bytes.now (sizes_of c.args.shape.now) q)) (sym e) ∙ sym c.in-Ok.ensures.fault) (cases_lt j c.loop-c.c)),
  channels_more c.args.bytes.now (sizes_of c.args.shape.now) c.loop-c.c c.args.raw.now c.loop-c.raw c.decode_channel.new.raw (limits c.args.shape.now) c.loop-c.invariant.1 c.in-Ok.ensures.filled,
)

pub returns-clause-fault : goal.returns-clause-fault
unfolding seg_fault
returns-clause-fault c =
    let none : length_fault c.args.bytes.now (sizes_of c.args.shape.now) ≡ None = ap (λ q. when q (SegLength (length c.args.bytes.now))) (sym c.test_length.ensures ∙ c.if-test_length.false) in
    sym (first_next (length_fault c.args.bytes.now (sizes_of c.args.shape.now)) (flat_map (channel_faults c.args.bytes.now (sizes_of c.args.shape.now)) (range_with_len 0 c.args.shape.now.channels)) none
    ∙ none_of (channel_faults c.args.bytes.now (sizes_of c.args.shape.now)) 0 c.args.shape.now.channels (λ i l h. c.loop-c.invariant.0 i (omega arith)))

pub returns-clause-read : goal.returns-clause-read
returns-clause-read c =
    let e : c.loop-c.c ≡ c.args.shape.now.channels = omega arith in
    read_all c.args.bytes.now (sizes_of c.args.shape.now) c.args.raw.now c.loop-c.raw (limits c.args.shape.now) (subst (λ q. Filled (OfChannels (sizes_of c.args.shape.now) q) (place_of (sizes_of c.args.shape.now)) (entry_of c.args.bytes.now (sizes_of c.args.shape.now)) (width (sizes_of c.args.shape.now)) c.args.raw.now c.loop-c.raw) e c.loop-c.invariant.1)
