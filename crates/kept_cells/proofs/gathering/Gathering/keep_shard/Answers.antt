use Rattle.std.proofs.Common.{◌+◌, ◌^◌, ◌∙◌, Err, IfSome, arith, refl, subst, sym}
use Rattle.kept_cells.specs.KeptCells.{KeepsCells}
use Rattle.kept_cells.proofs.OwnSteps.{front_all, front_more}
use Rattle.kept_cells.proofs.ShardSteps.{few_minishards, told_absent, told_all, told_more, told_refused}
use Rattle.kept_cells.proofs.gathering.Gathering.keep_shard.Goals as goal

pub loop-minishard-preserved : goal.loop-minishard-preserved
loop-minishard-preserved g c = record {
  few = omega (arith, c.loop-minishard.invariant.few, c.in-Ok-true.ensures.few);
  past = told_more c.args.over.now.stored.now.scale c.args.over.now.sharding.now c.args.over.now.plan.now.writes c.args.shard (g.S.Source.objects c.args.store.now) _ c.shard_name-name.result c.loop-minishard.minishard c.keep_minishard.result c.in-Ok-true.field-0 c.args.self.now.found c.loop-minishard.self.found c.keep_minishard.new.self.found
      c.in-Ok-true.is c.in-Ok-true.field-0-test c.loop-minishard.invariant.kept.same_objects c.loop-minishard.invariant.past c.keep_minishard.ensures.keeps;
  own = front_more c.args.over.now.stored.now.scale c.args.over.now.sharding.now c.args.over.now.plan.now.writes c.args.shard c.loop-minishard.minishard c.args.self.now.found c.loop-minishard.self.found c.keep_minishard.new.self.found c.loop-minishard.invariant.own c.in-Ok-true.ensures.own;
  kept = record {
    same_objects = c.in-Ok-true.ensures.reads.kept.same_objects ∙ c.loop-minishard.invariant.kept.same_objects;
    same_draft = c.in-Ok-true.ensures.reads.kept.same_draft ∙ c.loop-minishard.invariant.kept.same_draft;
  };
  history = c.in-Ok-true.ensures.reads.history ∙ c.loop-minishard.invariant.history;
  later = omega (arith, c.in-Ok-true.ensures.reads.cause.stands, c.loop-minishard.invariant.later);
}

pub returns-in-Ok-false-clause-keeps : goal.returns-in-Ok-false-clause-keeps
returns-in-Ok-false-clause-keeps g c =
    told_absent c.args.over.now.stored.now.scale c.args.over.now.sharding.now c.args.over.now.plan.now.writes c.args.shard (g.S.Source.objects c.args.store.now) _ c.args.over.now.stored.now.dataset c.shard_name-name.result c.loop-minishard.minishard c.keep_minishard.result c.in-Ok-false.field-0 c.args.self.now.found c.loop-minishard.self.found c.keep_minishard.new.self.found
    c.in-Ok-false.is c.in-Ok-false.field-0-test c.loop-minishard.invariant.kept.same_objects c.shard_name-name.ensures c.loop-minishard.invariant.past c.keep_minishard.ensures.keeps

pub returns-in-Err-clause-keeps : goal.returns-in-Err-clause-keeps
returns-in-Err-clause-keeps g c =
    subst (λ e. IfSome (g.S.Source.objects c.args.store.now) (λ m. KeepsCells m c.args.over.now.stored.now.dataset c.args.over.now.stored.now.scale c.args.over.now.sharding.now c.args.over.now.plan.now.writes c.args.shard (Err e) c.args.self.now.found c.keep_minishard.new.self.found)) (sym c.refused.ensures)
    (told_refused c.args.over.now.stored.now.scale c.args.over.now.sharding.now c.args.over.now.plan.now.writes c.args.shard (g.S.Source.objects c.args.store.now) _ c.args.over.now.stored.now.dataset c.shard_name-name.result c.loop-minishard.minishard (2 ^ c.args.over.now.sharding.now.minishard_bits) c.keep_minishard.result c.in-Err.fault c.args.self.now.found c.loop-minishard.self.found c.keep_minishard.new.self.found c.keep_minishard.new.self.found
    c.in-Err.is c.loop-minishard.invariant.kept.same_objects c.shard_name-name.ensures (let few = few_minishards c.args.over.now.sharding.now.minishard_bits c.args.over.now.sharding.now.minishard_ok in omega (arith, few, c.loop-minishard-test.true)) refl c.loop-minishard.invariant.past c.keep_minishard.ensures.keeps)

pub returns-clause-keeps : goal.returns-clause-keeps
returns-clause-keeps g c =
    told_all c.args.over.now.stored.now.scale c.args.over.now.sharding.now c.args.over.now.plan.now.writes c.args.shard (g.S.Source.objects c.args.store.now) c.args.over.now.stored.now.dataset c.shard_name-name.result c.loop-minishard.minishard c.args.self.now.found c.loop-minishard.self.found c.shard_name-name.ensures
    (let few = few_minishards c.args.over.now.sharding.now.minishard_bits c.args.over.now.sharding.now.minishard_ok in omega (arith, few, c.loop-minishard-test.false, c.loop-minishard.auto.minishard-end)) c.loop-minishard.invariant.past

pub returns-in-Ok-false-clause-own : goal.returns-in-Ok-false-clause-own
returns-in-Ok-false-clause-own g c =
    front_all c.args.over.now.stored.now.scale c.args.over.now.sharding.now c.args.over.now.plan.now.writes c.args.shard (c.loop-minishard.minishard + 1) c.args.self.now.found c.keep_minishard.new.self.found
    (front_more c.args.over.now.stored.now.scale c.args.over.now.sharding.now c.args.over.now.plan.now.writes c.args.shard c.loop-minishard.minishard c.args.self.now.found c.loop-minishard.self.found c.keep_minishard.new.self.found c.loop-minishard.invariant.own c.in-Ok-false.ensures.own)

pub returns-clause-own : goal.returns-clause-own
returns-clause-own g c = front_all c.args.over.now.stored.now.scale c.args.over.now.sharding.now c.args.over.now.plan.now.writes c.args.shard c.loop-minishard.minishard c.args.self.now.found c.loop-minishard.self.found c.loop-minishard.invariant.own
