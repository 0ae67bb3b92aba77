use Rattle.std.proofs.Common.{◌+◌, ◌*◌, arith, ap, ◌∙◌, sym, take}
use Rattle.vol_spec.specs.IndexBytes.{stored, ids}
use Rattle.minishard.proofs.ColumnSteps.{length-ids, stored_id, next_before, number_more, all_numbers, below_next}
use Rattle.minishard.proofs.columns.write_ids.Goals as goal

pub loop-r-preserved : goal.loop-r-preserved
loop-r-preserved c =
    let long = length-ids c.args.rows.now in
    let value = stored_id c.args.rows.now c.loop-r.r (omega arith) in
    let is = c.id_of-id.ensures.value in
    let was = c.loop-r.invariant.before in
    record {
      written = ap (take (8 * (c.loop-r.r + 1))) c.put_number.ensures ∙ number_more c.loop-r.out (stored c.args.rows.now).ids c.loop-r.r _ (omega arith) (omega arith) (omega arith) c.loop-r.invariant.written;
      before = c.id_of-id.ensures.value ∙ sym (next_before (ids c.args.rows.now) c.loop-r.r);
      fits = below_next (ids c.args.rows.now) c.loop-r.r c.loop-r.invariant.fits c.id_of-id.ensures.fits;
    }

pub returns-clause-bytes : goal.returns-clause-bytes
returns-clause-bytes c =
    let long = length-ids c.args.rows.now in
    all_numbers c.loop-r.out (stored c.args.rows.now).ids c.loop-r.r (omega arith) (omega arith) c.loop-r.invariant.written
