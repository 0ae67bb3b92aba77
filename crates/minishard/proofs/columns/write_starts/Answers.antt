use Rattle.std.proofs.Common.{◌+◌, ◌*◌, arith, ap, ◌∙◌, sym, take}
use Rattle.vol_spec.specs.IndexBytes.{stored, ends}
use Rattle.minishard.proofs.ColumnSteps.{length-starts, stored_start, next_before, number_more, all_numbers}
use Rattle.minishard.proofs.columns.write_starts.Goals as goal

pub loop-r-preserved : goal.loop-r-preserved
loop-r-preserved c =
    let long = length-starts c.args.rows.now in
    let value = stored_start c.args.rows.now c.loop-r.r (omega arith) in
    let is = c.start_of-start.ensures in
    let was = c.loop-r.invariant.before in
    record {
      written = ap (take (8 * (c.loop-r.r + 1))) c.put_number.ensures ∙ number_more c.loop-r.out (stored c.args.rows.now).starts c.loop-r.r _ (omega arith) (omega arith) (omega arith) c.loop-r.invariant.written;
      before = c.end_of-before.ensures ∙ sym (next_before (ends c.args.rows.now) c.loop-r.r);
    }

pub returns : goal.returns
returns c =
    let long = length-starts c.args.rows.now in
    all_numbers c.loop-r.out (stored c.args.rows.now).starts c.loop-r.r (omega arith) (omega arith) c.loop-r.invariant.written
