use Rattle.std.proofs.Common.{◌≡◌, ◌∙◌, ◌*◌, ap, arith, refl}
use Rattle.vol_base.specs.Outside.{part}
use Rattle.vol_spec.specs.Rows.{columns_of}
use Rattle.minishard.specs.Walks.{Progress}
use Rattle.shard_reader.specs.Reading.{told_object}
use Rattle.index_judge.proofs.RowSteps.{held_at}
use Rattle.shard_keeper.proofs.AddSteps.{added_all, added_none}
use Rattle.shard_keeper.proofs.KeepSteps.{all_kept, ended, kept_last, kept_none, not_kept}
use Rattle.shard_keeper.proofs.rows.keep_rows.Goals as goal

pub loop-walk-init : goal.loop-walk-init
loop-walk-init g c = record {
  within = (let none : c.new-walk.result.rows ≡ 0 = ap (λ (w : Progress). w.rows) c.new-walk.ensures in omega (arith, none));
  few = omega arith;
  past = λ object told fits. kept_none (columns_of (part object c.args.span.now.at (24 * c.args.span.now.rows))) c.args.sharding.now c.args.home.now.shard c.args.home.now.minishard c.args.kept.now.items _ c.new-walk.ensures;
  added = added_none c.args.sharding.now c.args.home.now.shard c.args.home.now.minishard c.args.kept.now.items _ c.new-walk.ensures;
  kept = record { same_objects = refl; same_draft = refl };
  history = refl;
  later = omega arith;
}

pub returns-in-Err-clause-keeps : goal.returns-in-Err-clause-keeps
returns-in-Err-clause-keeps g c = λ object told fits.
    not_kept (columns_of (part object c.args.span.now.at (24 * c.args.span.now.rows))) c.args.sharding.now c.args.home.now.shard c.args.home.now.minishard c.args.kept.now.items c.args.span.now.rows _ _
    (c.keep_fault.ensures.not_read (c.in-Err.ensures.whole object (ap (λ o. told_object o c.args.name.now) c.loop-walk.invariant.kept.same_objects ∙ told) fits))

pub returns-in-Err-keep_columns-clause-keeps : goal.returns-in-Err-keep_columns-clause-keeps
returns-in-Err-keep_columns-clause-keeps g c = λ object told fits.
    let columns = columns_of (part object c.args.span.now.at (24 * c.args.span.now.rows)) in
    let now = ap (λ o. told_object o c.args.name.now) c.loop-walk.invariant.kept.same_objects ∙ told in
    ended columns c.args.sharding.now c.args.home.now.shard c.args.home.now.minishard c.args.kept.now.items c.args.span.now.rows c.keep_columns.result c.in-Err-keep_columns.fault c.keep_columns.new.walk c.keep_columns.new.kept.items _ c.in-Err-keep_columns.is
    (c.keep_columns.ensures.keeps columns c.args.kept.now.items c.args.span.now.rows (c.loop-walk.invariant.past object told fits)
    (held_at columns c.rows-first.result c.loop-walk.walk.rows c.count_next-count.result c.read_rows.new.ids c.read_rows.new.starts c.read_rows.new.sizes c.rows-first.ensures (c.in-Ok.ensures.read object now fits))
    (omega (arith, c.rows-first.ensures, c.count_next-count.ensures.within)))

pub loop-walk-preserved : goal.loop-walk-preserved
loop-walk-preserved g c = record {
  within = omega (arith, c.in-Ok-keep_columns.ensures.rows, c.rows-first.ensures, c.count_next-count.ensures.within);
  few = omega (arith, c.in-Ok-keep_columns.ensures.few, c.in-Ok-keep_columns.ensures.rows, c.rows-first.ensures, c.loop-walk.invariant.few);
  past = λ object told fits.
      let columns = columns_of (part object c.args.span.now.at (24 * c.args.span.now.rows)) in
      let now = ap (λ o. told_object o c.args.name.now) c.loop-walk.invariant.kept.same_objects ∙ told in
      all_kept columns c.args.sharding.now c.args.home.now.shard c.args.home.now.minishard c.args.kept.now.items c.args.span.now.rows c.keep_columns.result _ c.keep_columns.new.walk c.keep_columns.new.kept.items c.in-Ok-keep_columns.is
      (c.keep_columns.ensures.keeps columns c.args.kept.now.items c.args.span.now.rows (c.loop-walk.invariant.past object told fits)
      (held_at columns c.rows-first.result c.loop-walk.walk.rows c.count_next-count.result c.read_rows.new.ids c.read_rows.new.starts c.read_rows.new.sizes c.rows-first.ensures (c.in-Ok.ensures.read object now fits))
      (omega (arith, c.rows-first.ensures, c.count_next-count.ensures.within)));
  added = c.in-Ok-keep_columns.ensures.added c.args.kept.now.items c.loop-walk.invariant.added;
  kept = record {
    same_objects = c.in-Ok.ensures.reads.kept.same_objects ∙ c.loop-walk.invariant.kept.same_objects;
    same_draft = c.in-Ok.ensures.reads.kept.same_draft ∙ c.loop-walk.invariant.kept.same_draft;
  };
  history = c.in-Ok.ensures.reads.history ∙ c.loop-walk.invariant.history;
  later = omega (arith, c.in-Ok.ensures.reads.cause.stands, c.loop-walk.invariant.later);
}

pub returns-clause-keeps : goal.returns-clause-keeps
returns-clause-keeps g c = λ object told fits.
    kept_last (columns_of (part object c.args.span.now.at (24 * c.args.span.now.rows))) c.args.sharding.now c.args.home.now.shard c.args.home.now.minishard c.args.kept.now.items c.args.span.now.rows c.loop-walk.walk _
    (omega (arith, c.loop-walk.invariant.within, c.loop-walk-test.false)) (c.loop-walk.invariant.past object told fits)

pub returns-clause-added : goal.returns-clause-added
returns-clause-added g c = added_all c.args.sharding.now c.args.home.now.shard c.args.home.now.minishard c.args.kept.now.items c.loop-walk.walk _ c.loop-walk.invariant.added
