use Rattle.std.proofs.Common.{◌+◌, ◌∙◌, ◌∷◌, [], ◌++◌, ap, arith, sym}
use Rattle.vol_spec.specs.declared.scale.Scale.{Scale}
use Rattle.view_judge.specs.Further.{opened}
use Rattle.view_judge.proofs.ViewSteps.{opened_more, view_unsharded}
use Rattle.view_judge.proofs.judge.reserve_views.Goals as goal

pub reserve-requires : goal.reserve-requires
reserve-requires c = record {
  unsharded = ap (λ (v : Scale). v.sharding) (c.of-own.ensures.scale ∙ c.view.ensures) ∙ view_unsharded c.args.stored.now.scale c.loop-k.k _ (let h = c.loop-k-test.true in let e = c.len-k-end.ensures.len in omega (arith, h, e));
}

pub loop-k-preserved : goal.loop-k-preserved
loop-k-preserved c = record {
  views =
      c.in-Ok.ensures.items ∙ (λ i. c.loop-k.invariant.views i ++ (c.in_ok-view.ensures ∙ (λ j. opened (c.of-own.ensures.dataset j) ((c.of-own.ensures.scale ∙ c.view.ensures) j))) i ∷ [])
      ∙ sym (opened_more c.args.stored.now.dataset c.args.stored.now.scale c.loop-k.k (c.loop-k.k + 1) (omega arith));
}
