use Rattle.std.proofs.Common.{◌≡◌, ◌∙◌, ◌+◌, ◌<◌, ap, arith, length, refl, subst, sym}
use borrow.Author.Count.{below_more}
use Rattle.vol_spec.specs.Views.{view}
use Rattle.view_judge.specs.Further.{HasRoom}
use Rattle.view_judge.specs.Regions.{own_regions}
use Rattle.view_judge.proofs.ViewSteps.{further_at, further_length}
use Rattle.view_judge.proofs.judge.longest_room.Goals as goal

pub loop-k-init : goal.loop-k-init
loop-k-init c = record {
  region = let is = c.raw_limit-room.ensures in subst (λ r. HasRoom r c.raw_limit-room.result) c.find_regions.ensures (omega (arith, is));
  own = λ i l. absurd (omega (arith, l));
  cells = λ i l. absurd (omega (arith, l));
}

pub loop-k-preserved : goal.loop-k-preserved
loop-k-preserved c =
    let region = c.loop-k.invariant.region in
    let cell = c.raw_limit.ensures in
    let more = c.max.ensures in
    let own = c.raw_limit-in-loop-k.ensures in
    let most = c.max-room.ensures in
    let is : c.view-view.result ≡ view c.args.scale.now (1 + c.loop-k.k) = c.view-view.ensures ∙ ap (view c.args.scale.now) (omega arith) in
    record {
      region = omega (arith, region, more, most);
      own =
          below_more (λ i. HasRoom (own_regions c.args.scale.now (view c.args.scale.now (1 + i))) c.max-room.result) c.loop-k.k (λ i l. let here = c.loop-k.invariant.own i l in omega (arith, here, more, most))
          (subst (λ v. HasRoom (own_regions c.args.scale.now v) c.max-room.result) is
          (subst (λ r. HasRoom r c.max-room.result) c.find_own_regions-own.ensures (omega (arith, own, most))));
      cells =
          below_more (λ i. HasRoom (view c.args.scale.now (1 + i)) c.max-room.result) c.loop-k.k (λ i l. let here = c.loop-k.invariant.cells i l in omega (arith, here, more, most))
          (subst (λ v. HasRoom v c.max-room.result) is (omega (arith, cell, more, most)));
    }

pub returns : goal.returns
returns c =
    let n = further_length c.args.scale.now in
    let all = c.loop-k-test.false in
    let len = c.len-k-end.ensures.len in
    record {
      region = c.loop-k.invariant.region;
      own = λ k d below.
          let l : k < length c.args.scale.now.more = omega (arith, n, below) in
          subst (λ v. HasRoom (own_regions c.args.scale.now v) c.loop-k.room) (sym (further_at c.args.scale.now k (1 + k) d l refl)) (c.loop-k.invariant.own k (omega (arith, l, all, len)));
      cells = λ k d below.
          let l : k < length c.args.scale.now.more = omega (arith, n, below) in
          subst (λ v. HasRoom v c.loop-k.room) (sym (further_at c.args.scale.now k (1 + k) d l refl)) (c.loop-k.invariant.cells k (omega (arith, l, all, len)));
    }
