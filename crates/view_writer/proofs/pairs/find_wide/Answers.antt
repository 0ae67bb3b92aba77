use Rattle.std.proofs.Common.{◌≡◌, ◌<◌, ◌≤◌, ◌+◌, ◌^◌, ◌∙◌, Some, refl, ap, sym, arith}
use Rattle.vol_spec.specs.Views.{view}
use Rattle.vol_spec.specs.Writable.{padded}
use Rattle.size_laws.specs.Further.{all_views}
use Rattle.view_writer.proofs.PairSteps.{all_kept, few_each, next_kept, next_passed, view_kept, view_passed}
use Rattle.view_writer.proofs.pairs.find_wide.Goals as goal

pub returns-then-not-can_encode-2-clause-wide : goal.returns-then-not-can_encode-2-clause-wide
returns-then-not-can_encode-2-clause-wide c =
    let wide : padded c.view-view.result ≡ padded (view c.args.scale.now (c.loop-k.k + 1)) = ap padded c.view-view.ensures in
    let many : 2 ^ 22 < padded c.view-view.result = view_passed (padded c.view-view.result) c.can_encode-in-loop-k.result c.can_encode-in-loop-k.ensures c.if-not-can_encode-2.true in
    sym (next_passed padded c.args.scale.now c.loop-k.k (c.loop-k.k + 1) (omega arith) refl c.loop-k.invariant.kept (omega (arith, wide, many)) ∙ ap Some (sym (c.padded-then-not-can_encode-2.ensures ∙ wide)))

pub loop-k-preserved : goal.loop-k-preserved
loop-k-preserved c =
    let wide : padded c.view-view.result ≡ padded (view c.args.scale.now (c.loop-k.k + 1)) = ap padded c.view-view.ensures in
    let few : padded c.view-view.result ≤ 2 ^ 22 = view_kept (padded c.view-view.result) c.can_encode-in-loop-k.result c.can_encode-in-loop-k.ensures c.if-not-can_encode-2.false in
    record {
      within = omega arith;
      kept = next_kept padded c.args.scale.now c.loop-k.k (c.loop-k.k + 1) (omega arith) refl c.loop-k.invariant.kept (omega (arith, wide, few));
    }

pub returns-clause-wide : goal.returns-clause-wide
returns-clause-wide c = sym (all_kept padded c.args.scale.now (c.loop-k.k + 1) (omega arith) c.loop-k.invariant.kept)

pub returns-clause-writable : goal.returns-clause-writable
returns-clause-writable c none = few_each padded (all_views c.args.scale.now) (all_kept padded c.args.scale.now (c.loop-k.k + 1) (omega arith) c.loop-k.invariant.kept)
