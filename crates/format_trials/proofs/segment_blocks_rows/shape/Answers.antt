use Rattle.std.proofs.Common.{arith, slice_index}
use Rattle.segment_blocks.proofs.Small.{padded_small, raw_small}
use Rattle.format_trials.proofs.segment_blocks_rows.shape.Goals as goal

pub invariant_of-result : goal.invariant_of-result
invariant_of-result c =
    let t = c.loop-axis.invariant in
    let t0 = t 0 (omega arith) in
    let t1 = t 1 (omega arith) in
    let t2 = t 2 (omega arith) in
    record {
      size_ok = λ a h. let e = t a (omega arith) in (omega (arith, e.0.0), omega (arith, e.0.1));
      block_ok = λ a h. let e = t a (omega arith) in (omega (arith, e.1.0), omega (arith, e.1.1));
      some_channels = omega arith;
      channels_ok = omega arith;
      padded_ok = let p = padded_small (slice_index c.args.size 0) (slice_index c.args.size 1) (slice_index c.args.size 2) (slice_index c.args.block 0) (slice_index c.args.block 1) (slice_index c.args.block 2) c.args.channels t0.0.1 t1.0.1 t2.0.1 t0.1.1 t1.1.1 t2.1.1 (omega arith) in omega (arith, p);
      raw_ok = raw_small _ _ _ _ _ t0.0.1 t1.0.1 t2.0.1 (omega arith);
    }

pub returns : goal.returns
returns c =
    let t = c.loop-axis.invariant in
    let t0 = t 0 (omega arith) in
    let t1 = t 1 (omega arith) in
    let t2 = t 2 (omega arith) in
    padded_small _ _ _ _ _ _ _ t0.0.1 t1.0.1 t2.0.1 t0.1.1 t1.1.1 t2.1.1 (omega arith)
