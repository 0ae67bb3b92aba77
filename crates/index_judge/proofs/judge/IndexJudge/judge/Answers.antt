use Rattle.std.proofs.Common.{Contains, Err, Ok, subst, rules}
use Rattle.vol_spec.specs.ShardNames.{shard_name}
use Rattle.index_judge.specs.Keys.{keys}
use Rattle.index_judge.specs.declared.key.IndexKey.{IndexKey}
use Rattle.index_judge.proofs.IndexSteps.{asked_named, asked_nothing}
use Rattle.index_judge.proofs.KnowSteps.{knows_fewer, knows_more, named, remembered}
use Rattle.index_judge.proofs.judge.IndexJudge.judge.Goals as goal

pub returns-then-was_judged-clause-judged : goal.returns-then-was_judged-clause-judged
returns-then-was_judged-clause-judged g c =
    let index : IndexKey = record { shard = c.args.home.now.shard; minishard = c.args.home.now.minishard } in
    remembered (g.S.Source.objects c.args.store.now) c.args.stored.now.dataset c.args.stored.now.scale c.args.sharding.now (keys c.args.self.now.judged) index c.requires.knows
    (c.was_judged.ensures.found c.if-was_judged.true)

pub returns-then-was_judged-clause-knows : goal.returns-then-was_judged-clause-knows
returns-then-was_judged-clause-knows g c =
    knows_fewer (g.S.Source.objects c.args.store.now) c.args.stored.now.dataset c.args.stored.now.scale c.args.sharding.now (keys c.args.self.now.judged) (keys c.was_judged.new.judged) c.requires.knows c.was_judged.ensures.kept

pub returns-in-Err-clause-judged : goal.returns-in-Err-clause-judged
returns-in-Err-clause-judged g c =
    named (g.S.Source.objects c.args.store.now) c.shard_name-name.result (shard_name c.args.stored.now.dataset c.args.stored.now.scale c.args.home.now.shard) c.args.sharding.now c.args.home.now.shard c.args.home.now.minishard (Err c.in-Err.fault) c.shard_name-name.ensures c.in-Err.ensures.judged

pub returns-in-Err-clause-knows : goal.returns-in-Err-clause-knows
returns-in-Err-clause-knows g c =
    knows_fewer (g.S.Source.objects c.args.store.now) c.args.stored.now.dataset c.args.stored.now.scale c.args.sharding.now (keys c.args.self.now.judged) (keys c.judge_anew.new.self.judged) c.requires.knows
    (λ i h. c.was_judged.ensures.kept i (subst (λ j. Contains (keys j) i) c.judge_anew.ensures.same h))

pub returns-clause-judged : goal.returns-clause-judged
returns-clause-judged g c =
    named (g.S.Source.objects c.args.store.now) c.shard_name-name.result (shard_name c.args.stored.now.dataset c.args.stored.now.scale c.args.home.now.shard) c.args.sharding.now c.args.home.now.shard c.args.home.now.minishard (Ok c.in-Ok.field-0) c.shard_name-name.ensures c.in-Ok.ensures.judged

pub returns-clause-knows : goal.returns-clause-knows
returns-clause-knows g c =
    let index : IndexKey = record { shard = c.args.home.now.shard; minishard = c.args.home.now.minishard } in
    knows_more (g.S.Source.objects c.args.store.now) c.args.stored.now.dataset c.args.stored.now.scale c.args.sharding.now (keys c.args.self.now.judged) (keys c.judge_anew.new.self.judged) (keys c.note_judged.new.judged) index c.requires.knows
    (λ i h. c.was_judged.ensures.kept i (subst (λ j. Contains (keys j) i) c.judge_anew.ensures.same h))
    (named (g.S.Source.objects c.args.store.now) c.shard_name-name.result (shard_name c.args.stored.now.dataset c.args.stored.now.scale c.args.home.now.shard) c.args.sharding.now c.args.home.now.shard c.args.home.now.minishard (Ok c.in-Ok.field-0) c.shard_name-name.ensures c.in-Ok.ensures.judged)
    c.note_judged.ensures

pub returns-then-was_judged-clause-asks : goal.returns-then-was_judged-clause-asks
returns-then-was_judged-clause-asks g c = record {
  asked =
      asked_nothing (g.S.Source.objects c.args.store.now) (shard_name c.args.stored.now.dataset c.args.stored.now.scale c.args.home.now.shard) c.args.sharding.now c.args.home.now.minishard (g.S.Source.asked c.args.store.now);
  reads = search rules;
}

pub returns-in-Err-clause-asks : goal.returns-in-Err-clause-asks
returns-in-Err-clause-asks g c = record {
  asked =
      asked_named (g.S.Source.objects c.args.store.now) c.shard_name-name.result (shard_name c.args.stored.now.dataset c.args.stored.now.scale c.args.home.now.shard) c.args.sharding.now c.args.home.now.minishard (g.S.Source.asked c.args.store.now)
      (g.S.Source.asked c.judge_anew.new.store) c.shard_name-name.ensures c.judge_anew.ensures.asks.asked;
  reads = search rules;
}

pub returns-clause-asks : goal.returns-clause-asks
returns-clause-asks g c = record {
  asked =
      asked_named (g.S.Source.objects c.args.store.now) c.shard_name-name.result (shard_name c.args.stored.now.dataset c.args.stored.now.scale c.args.home.now.shard) c.args.sharding.now c.args.home.now.minishard (g.S.Source.asked c.args.store.now)
      (g.S.Source.asked c.judge_anew.new.store) c.shard_name-name.ensures c.judge_anew.ensures.asks.asked;
  reads = search rules;
}
