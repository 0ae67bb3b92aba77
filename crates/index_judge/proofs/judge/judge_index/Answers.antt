use Rattle.std.proofs.Common.{rules}
use Rattle.index_judge.proofs.IndexSteps.{absence_judged, asked_entry, asked_rows, entry_judged, rows_judged}
use Rattle.index_judge.proofs.judge.judge_index.Goals as goal

pub returns-in-Err-clause-judged : goal.returns-in-Err-clause-judged
returns-in-Err-clause-judged g c =
    entry_judged (g.S.Source.objects c.args.store.now) c.args.name.now c.args.sharding.now c.args.home.now.shard c.args.home.now.minishard c.open_index.result c.in-Err.fault c.in-Err.is c.open_index.ensures.opened

pub returns-in-Ok-None-clause-judged : goal.returns-in-Ok-None-clause-judged
returns-in-Ok-None-clause-judged g c =
    absence_judged (g.S.Source.objects c.args.store.now) c.args.name.now c.args.sharding.now c.args.home.now.shard c.args.home.now.minishard c.open_index.result c.in-Ok-None.field-0 c.in-Ok-None.is c.in-Ok-None.field-0-is c.open_index.ensures.opened

pub returns-clause-judged : goal.returns-clause-judged
returns-clause-judged g c =
    rows_judged (g.S.Source.objects c.args.store.now) _ c.args.name.now c.args.sharding.now c.args.home.now.shard c.args.home.now.minishard c.open_index.result c.in-Ok-Some.field-0 c.in-Ok-Some.span c.judge_rows.result c.in-Ok-Some.is c.in-Ok-Some.field-0-is
    c.open_index.ensures.reads.kept.same_objects c.open_index.ensures.opened c.judge_rows.ensures.judged

pub returns-in-Err-clause-asks : goal.returns-in-Err-clause-asks
returns-in-Err-clause-asks g c = record {
  asked = asked_entry (g.S.Source.objects c.args.store.now) c.args.name.now c.args.sharding.now c.args.home.now.minishard (g.S.Source.asked c.args.store.now) (g.S.Source.asked c.open_index.new.store) c.open_index.ensures.asked;
  reads = search rules;
}

pub returns-in-Ok-None-clause-asks : goal.returns-in-Ok-None-clause-asks
returns-in-Ok-None-clause-asks g c = record {
  asked = asked_entry (g.S.Source.objects c.args.store.now) c.args.name.now c.args.sharding.now c.args.home.now.minishard (g.S.Source.asked c.args.store.now) (g.S.Source.asked c.open_index.new.store) c.open_index.ensures.asked;
  reads = search rules;
}

pub returns-clause-asks : goal.returns-clause-asks
returns-clause-asks g c = record {
  asked =
      asked_rows (g.S.Source.objects c.args.store.now) c.args.name.now c.args.sharding.now c.args.home.now.minishard c.open_index.result c.in-Ok-Some.field-0 c.in-Ok-Some.span (g.S.Source.asked c.args.store.now) (g.S.Source.asked c.open_index.new.store)
      (g.S.Source.asked c.judge_rows.new.store) c.in-Ok-Some.is c.in-Ok-Some.field-0-is c.open_index.ensures.opened c.open_index.ensures.asked c.judge_rows.ensures.asked;
  reads = search rules;
}
