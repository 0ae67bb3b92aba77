use Rattle.std.proofs.Common.{arith}
use Rattle.index_judge.specs.Judging.{IsPast}
use Rattle.index_judge.proofs.RowSteps.{past_more, stops_at_row, stored_as, stored_at}
use Rattle.index_judge.proofs.rows.judge_columns.Goals as goal

pub loop-i-preserved : goal.loop-i-preserved
loop-i-preserved c = record {
  rows = omega (arith, c.in-Ok.ensures.rows, c.loop-i.invariant.rows);
  past = λ k was holds.
      let now : IsPast k c.args.sharding.now c.args.home.now.shard c.args.home.now.minishard c.loop-i.walk = c.loop-i.invariant.past k was holds in
      let stored = stored_as k c.loop-i.walk.rows _ _ _ _ _ _ c.read_number-id.ensures c.read_number-start.ensures c.read_number-size.ensures
      (stored_at k c.args.walk.now.rows c.args.count c.loop-i.i c.loop-i.walk.rows c.args.ids.now c.args.starts.now c.args.sizes.now holds c.loop-i-test.true c.loop-i.invariant.rows) in
      past_more k c.args.sharding.now c.args.home.now.shard c.args.home.now.minishard c.loop-i.walk c.judge_row.new.walk c.judge_row.result _ c.in-Ok.is now
      (c.judge_row.ensures.judged k now.walked stored) (c.in-Ok.ensures.walked k now.walked stored) c.in-Ok.ensures.rows;
}

pub returns-in-Err-clause-passes : goal.returns-in-Err-clause-passes
returns-in-Err-clause-passes c = λ k n was holds within.
    let now : IsPast k c.args.sharding.now c.args.home.now.shard c.args.home.now.minishard c.loop-i.walk = c.loop-i.invariant.past k was holds in
    let stored = stored_as k c.loop-i.walk.rows _ _ _ _ _ _ c.read_number-id.ensures c.read_number-start.ensures c.read_number-size.ensures
    (stored_at k c.args.walk.now.rows c.args.count c.loop-i.i c.loop-i.walk.rows c.args.ids.now c.args.starts.now c.args.sizes.now holds c.loop-i-test.true c.loop-i.invariant.rows) in
    stops_at_row k c.args.sharding.now c.args.home.now.shard c.args.home.now.minishard n c.loop-i.walk c.judge_row.result c.in-Err.fault c.in-Err.is
    (omega (arith, within, c.loop-i.invariant.rows, c.loop-i-test.true)) now (c.judge_row.ensures.judged k now.walked stored)
