use Rattle.std.proofs.Common.{◌≡◌, ◌∙◌, ◌*◌, ap, arith, refl}
use Rattle.vol_base.specs.Outside.{part}
use Rattle.vol_spec.specs.Rows.{columns_of}
use Rattle.minishard.specs.Walks.{Progress}
use Rattle.shard_reader.specs.Reading.{told_object}
use Rattle.index_judge.proofs.RowSteps.{held_at, not_read, passed_all, past_all, past_none, stopped}
use Rattle.index_judge.proofs.rows.judge_rows.Goals as goal

pub loop-walk-init : goal.loop-walk-init
loop-walk-init g c = record {
  within = (let none : c.new-walk.result.rows ≡ 0 = ap (λ (w : Progress). w.rows) c.new-walk.ensures in omega (arith, none));
  past = λ object told fits. past_none (columns_of (part object c.args.span.now.at (24 * c.args.span.now.rows))) c.args.sharding.now c.args.home.now.shard c.args.home.now.minishard _ c.new-walk.ensures;
  kept = record { same_objects = refl; same_draft = refl };
  history = refl;
  asked = omega arith;
  later = omega arith;
}

pub returns-in-Err-clause-judged : goal.returns-in-Err-clause-judged
returns-in-Err-clause-judged g c = λ object told fits.
    not_read _ c.in-Err.fault (c.in-Err.ensures.whole object (ap (λ o. told_object o c.args.name.now) c.loop-walk.invariant.kept.same_objects ∙ told) fits)

pub returns-in-Err-judge_columns-clause-judged : goal.returns-in-Err-judge_columns-clause-judged
returns-in-Err-judge_columns-clause-judged g c = λ object told fits.
    let columns = columns_of (part object c.args.span.now.at (24 * c.args.span.now.rows)) in
    let now = ap (λ o. told_object o c.args.name.now) c.loop-walk.invariant.kept.same_objects ∙ told in
    stopped columns c.args.sharding.now c.args.home.now.shard c.args.home.now.minishard c.args.span.now.rows c.judge_columns.result c.in-Err-judge_columns.fault c.judge_columns.new.walk c.in-Err-judge_columns.is
    (c.judge_columns.ensures.passes columns c.args.span.now.rows (c.loop-walk.invariant.past object told fits)
    (held_at columns c.rows-first.result c.loop-walk.walk.rows c.count_next-count.result c.read_rows.new.ids c.read_rows.new.starts c.read_rows.new.sizes c.rows-first.ensures (c.in-Ok.ensures.read object now fits))
    (omega (arith, c.rows-first.ensures, c.count_next-count.ensures.within)))

pub loop-walk-preserved : goal.loop-walk-preserved
loop-walk-preserved g c = record {
  within = omega (arith, c.in-Ok-judge_columns.ensures.rows, c.rows-first.ensures, c.count_next-count.ensures.within);
  past = λ object told fits.
      let columns = columns_of (part object c.args.span.now.at (24 * c.args.span.now.rows)) in
      let now = ap (λ o. told_object o c.args.name.now) c.loop-walk.invariant.kept.same_objects ∙ told in
      passed_all columns c.args.sharding.now c.args.home.now.shard c.args.home.now.minishard c.args.span.now.rows c.judge_columns.result _ c.judge_columns.new.walk c.in-Ok-judge_columns.is
      (c.judge_columns.ensures.passes columns c.args.span.now.rows (c.loop-walk.invariant.past object told fits)
      (held_at columns c.rows-first.result c.loop-walk.walk.rows c.count_next-count.result c.read_rows.new.ids c.read_rows.new.starts c.read_rows.new.sizes c.rows-first.ensures (c.in-Ok.ensures.read object now fits))
      (omega (arith, c.rows-first.ensures, c.count_next-count.ensures.within)));
  kept = record {
    same_objects = c.in-Ok.ensures.reads.kept.same_objects ∙ c.loop-walk.invariant.kept.same_objects;
    same_draft = c.in-Ok.ensures.reads.kept.same_draft ∙ c.loop-walk.invariant.kept.same_draft;
  };
  history = c.in-Ok.ensures.reads.history ∙ c.loop-walk.invariant.history;
  asked = omega (arith, c.in-Ok-judge_columns.ensures.rows, c.read_rows.ensures.asked, c.loop-walk.invariant.asked);
  later = omega (arith, c.in-Ok.ensures.reads.cause.stands, c.loop-walk.invariant.later);
}

pub returns-clause-judged : goal.returns-clause-judged
returns-clause-judged g c = λ object told fits.
    past_all (columns_of (part object c.args.span.now.at (24 * c.args.span.now.rows))) c.args.sharding.now c.args.home.now.shard c.args.home.now.minishard c.args.span.now.rows c.loop-walk.walk
    (omega (arith, c.loop-walk.invariant.within, c.loop-walk-test.false)) (c.loop-walk.invariant.past object told fits)

pub returns-in-Err-clause-asked : goal.returns-in-Err-clause-asked
returns-in-Err-clause-asked g c = omega (arith, c.rows-first.ensures, c.count_next-count.ensures.within, c.read_rows.ensures.asked, c.loop-walk.invariant.asked)

pub returns-in-Err-judge_columns-clause-asked : goal.returns-in-Err-judge_columns-clause-asked
returns-in-Err-judge_columns-clause-asked g c = omega (arith, c.rows-first.ensures, c.count_next-count.ensures.within, c.read_rows.ensures.asked, c.loop-walk.invariant.asked)

pub returns-clause-asked : goal.returns-clause-asked
returns-clause-asked g c = omega (arith, c.loop-walk.invariant.within, c.loop-walk.invariant.asked)
