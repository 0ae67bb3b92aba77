use Rattle.std.proofs.Common.{◌∙◌, ap, arith, get_or, length, refl, take}
use Rattle.update_laws.specs.Judged.{touched_shards}
use Rattle.kept_cells.proofs.OwnSteps.{is_of, shards_more, shards_none, shards_whole}
use Rattle.kept_cells.proofs.TouchedSteps.{touched_all, touched_low, touched_more, touched_none, touched_refused, touched_up}
use Rattle.kept_cells.proofs.gathering.Gathering.keep_touched.Goals as goal

pub loop-shard-init : goal.loop-shard-init
loop-shard-init g c = record {
  few = c.requires.few;
  past = touched_none c.args.over.now.stored.now.scale c.args.over.now.sharding.now c.args.over.now.plan.now.writes (g.S.Source.objects c.args.store.now) c.args.over.now.stored.now.dataset c.args.self.now.found c.requires.counted;
  own = shards_none c.args.over.now.stored.now.scale c.args.over.now.sharding.now c.args.over.now.plan.now.writes c.args.self.now.found c.requires.counted;
  kept = record { same_objects = refl; same_draft = refl };
  history = refl;
  later = omega arith;
}

pub judge_shard-requires-clause-shard : goal.judge_shard-requires-clause-shard
judge_shard-requires-clause-shard g c =
    let k = c.loop-shard.shard-index in
    let len = ap length c.requires.shards in
    let at = ap (λ xs. get_or xs k 0) c.requires.shards in
    let low = touched_low c.args.over.now.stored.now.scale c.args.over.now.sharding.now c.args.over.now.plan.now.writes k 0 (omega (arith, len, c.loop-shard-test.true)) in
    omega (arith, at, low)

pub returns-in-Err-clause-judged : goal.returns-in-Err-clause-judged
returns-in-Err-clause-judged g c =
    let k = c.loop-shard.shard-index in
    let len = ap length c.requires.shards in
    touched_refused c.args.over.now.stored.now.scale c.args.over.now.sharding.now c.args.over.now.plan.now.writes (g.S.Source.objects c.args.store.now) _ c.args.over.now.stored.now.dataset k (get_or c.args.shards.now k 0) c.judge_shard.result c.in-Err.refusal c.loop-shard.self.found c.judge_shard.new.self.found c.judge_shard.new.self.found
    (omega (arith, len, c.loop-shard-test.true)) (ap (λ xs. get_or xs k 0) c.requires.shards) c.in-Err.is c.loop-shard.invariant.kept.same_objects c.loop-shard.invariant.past c.judge_shard.ensures.judged

pub loop-shard-preserved : goal.loop-shard-preserved
loop-shard-preserved g c =
    let k = c.loop-shard.shard-index in
    let len = ap length c.requires.shards in
    record {
      few = c.in-Ok.ensures.few;
      past = touched_more c.args.over.now.stored.now.scale c.args.over.now.sharding.now c.args.over.now.plan.now.writes (g.S.Source.objects c.args.store.now) _ c.args.over.now.stored.now.dataset k (get_or c.args.shards.now k 0) c.judge_shard.result _ c.loop-shard.self.found c.judge_shard.new.self.found
          (omega (arith, len, c.loop-shard-test.true)) (ap (λ xs. get_or xs k 0) c.requires.shards) c.in-Ok.is c.loop-shard.invariant.kept.same_objects c.loop-shard.invariant.past c.judge_shard.ensures.judged;
      own = shards_more c.args.over.now.stored.now.scale c.args.over.now.sharding.now c.args.over.now.plan.now.writes (touched_shards c.args.over.now.stored.now.scale c.args.over.now.sharding.now c.args.over.now.plan.now.writes) k (get_or c.args.shards.now k 0) c.loop-shard.self.found c.judge_shard.new.self.found
          (touched_up c.args.over.now.stored.now.scale c.args.over.now.sharding.now c.args.over.now.plan.now.writes) (omega (arith, len, c.loop-shard-test.true)) (ap (λ xs. get_or xs k 0) c.requires.shards) c.loop-shard.invariant.own c.in-Ok.ensures.own;
      kept = record {
        same_objects = c.in-Ok.ensures.reads.kept.same_objects ∙ c.loop-shard.invariant.kept.same_objects;
        same_draft = c.in-Ok.ensures.reads.kept.same_draft ∙ c.loop-shard.invariant.kept.same_draft;
      };
      history = c.in-Ok.ensures.reads.history ∙ c.loop-shard.invariant.history;
      later = omega (arith, c.in-Ok.ensures.reads.cause.stands, c.loop-shard.invariant.later);
    }

pub returns-clause-judged : goal.returns-clause-judged
returns-clause-judged g c =
    let len = ap length c.requires.shards in
    touched_all c.args.over.now.stored.now.scale c.args.over.now.sharding.now c.args.over.now.plan.now.writes (g.S.Source.objects c.args.store.now) c.args.over.now.stored.now.dataset c.loop-shard.shard-index c.loop-shard.self.found
    (omega (arith, len, c.loop-shard-test.false, c.loop-shard.auto.shard-index-end)) c.loop-shard.invariant.past

pub returns-clause-whole : goal.returns-clause-whole
returns-clause-whole g c =
    shards_whole c.args.over.now.stored.now.scale c.args.over.now.sharding.now c.args.over.now.plan.now.writes (is_of c.args.over.now.stored.now.scale c.args.over.now.sharding.now (take c.loop-shard.shard-index (touched_shards c.args.over.now.stored.now.scale c.args.over.now.sharding.now c.args.over.now.plan.now.writes))) c.loop-shard.self.found
    c.loop-shard.invariant.few c.loop-shard.invariant.own
