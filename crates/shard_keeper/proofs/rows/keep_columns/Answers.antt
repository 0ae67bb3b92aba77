use Rattle.std.proofs.Common.{◌+◌, arith}
use Rattle.index_judge.proofs.RowSteps.{stored_as, stored_at}
use Rattle.shard_keeper.proofs.KeepSteps.{all_kept, stopped}
use Rattle.shard_keeper.proofs.rows.keep_columns.Goals as goal

pub loop-i-preserved : goal.loop-i-preserved
loop-i-preserved c = record {
  rows = omega (arith, c.in-Ok.ensures.rows, c.loop-i.invariant.rows);
  few = omega (arith, c.in-Ok.ensures.few, c.loop-i.invariant.few);
  past = λ k first was holds.
      let now = c.loop-i.invariant.past k first was holds in
      let stored = stored_as k c.loop-i.walk.rows _ _ _ _ _ _ c.read_number-id.ensures c.read_number-start.ensures c.read_number-size.ensures
      (stored_at k c.args.walk.now.rows c.args.count c.loop-i.i c.loop-i.walk.rows c.args.ids.now c.args.starts.now c.args.sizes.now holds c.loop-i-test.true c.loop-i.invariant.rows) in
      all_kept k c.args.sharding.now c.args.home.now.shard c.args.home.now.minishard first (c.loop-i.walk.rows + 1) c.keep_row.result _ c.keep_row.new.walk c.keep_row.new.kept.items c.in-Ok.is
      (c.keep_row.ensures.keeps k first (c.loop-i.walk.rows + 1) now stored (omega arith));
  added = λ first had. c.in-Ok.ensures.added first (c.loop-i.invariant.added first had);
}

pub returns-in-Err-clause-keeps : goal.returns-in-Err-clause-keeps
returns-in-Err-clause-keeps c = λ k first n was holds within.
    let now = c.loop-i.invariant.past k first was holds in
    let stored = stored_as k c.loop-i.walk.rows _ _ _ _ _ _ c.read_number-id.ensures c.read_number-start.ensures c.read_number-size.ensures
    (stored_at k c.args.walk.now.rows c.args.count c.loop-i.i c.loop-i.walk.rows c.args.ids.now c.args.starts.now c.args.sizes.now holds c.loop-i-test.true c.loop-i.invariant.rows) in
    stopped k c.args.sharding.now c.args.home.now.shard c.args.home.now.minishard first n c.keep_row.result c.in-Err.fault c.keep_row.new.walk c.keep_row.new.walk c.keep_row.new.kept.items c.keep_row.new.kept.items c.in-Err.is
    (c.keep_row.ensures.keeps k first n now stored (omega (arith, within, c.loop-i.invariant.rows, c.loop-i-test.true)))
