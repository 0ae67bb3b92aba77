use Rattle.std.proofs.Common.{◌∙◌, ◌≤◌, ◌+◌, IfSome, ap, arith, subst, sym, rules}
use Rattle.vol_base.specs.Boxes.{Covers}
use Rattle.vol_spec.specs.declared.scale.Scale.{Scale}
use Rattle.cutout.specs.Opened.{Opened}
use Rattle.size_laws.specs.Findings.{common}
use Rattle.view_judge.specs.Answers.{JudgesBox}
use Rattle.view_judge.specs.Judging.{pair_cost}
use Rattle.view_judge.proofs.CellSteps.{held_again}
use Rattle.view_judge.proofs.RegionSteps.{held_shared}
use Rattle.view_judge.proofs.further.FurtherView.judge_region.Goals as goal

pub shared_box-shared-requires : goal.shared_box-shared-requires
shared_box-shared-requires g c = (c.requires.meets.0, subst (λ b. Covers b c.requires.meets.0) (sym c.cell_box.ensures.positions) c.requires.meets.1, c.requires.meets.2)

pub judge_box-requires-clause-inside : goal.judge_box-requires-clause-inside
judge_box-requires-clause-inside g c =
    let is = held_shared c.args.self.now.scale c.self.inside.stored.scale c.args.regions.now c.args.part.now c.args.region c.shared_box-shared.result (sym (ap (λ (r : Opened). r.scale) c.self.view_is)) c.requires.grid c.requires.beside.inside c.requires.region c.requires.meets
    (c.shared_box-shared.ensures ∙ ap (λ x. common x c.args.part.now) c.cell_box.ensures.positions) in
    is.inside

pub judge_box-requires-clause-found : goal.judge_box-requires-clause-found
judge_box-requires-clause-found g c =
    let is = held_shared c.args.self.now.scale c.self.inside.stored.scale c.args.regions.now c.args.part.now c.args.region c.shared_box-shared.result (sym (ap (λ (r : Opened). r.scale) c.self.view_is)) c.requires.grid c.requires.beside.inside c.requires.region c.requires.meets
    (c.shared_box-shared.ensures ∙ ap (λ x. common x c.args.part.now) c.cell_box.ensures.positions) in
    omega (arith, is.room, c.requires.found)

pub judge_box-requires-clause-wanted : goal.judge_box-requires-clause-wanted
judge_box-requires-clause-wanted g c =
    let is = held_shared c.args.self.now.scale c.self.inside.stored.scale c.args.regions.now c.args.part.now c.args.region c.shared_box-shared.result (sym (ap (λ (r : Opened). r.scale) c.self.view_is)) c.requires.grid c.requires.beside.inside c.requires.region c.requires.meets
    (c.shared_box-shared.ensures ∙ ap (λ x. common x c.args.part.now) c.cell_box.ensures.positions) in
    omega (arith, is.room, c.requires.wanted)

pub judge_box-requires-clause-limit : goal.judge_box-requires-clause-limit
judge_box-requires-clause-limit g c =
    let is = held_shared c.args.self.now.scale c.self.inside.stored.scale c.args.regions.now c.args.part.now c.args.region c.shared_box-shared.result (sym (ap (λ (r : Opened). r.scale) c.self.view_is)) c.requires.grid c.requires.beside.inside c.requires.region c.requires.meets
    (c.shared_box-shared.ensures ∙ ap (λ x. common x c.args.part.now) c.cell_box.ensures.positions) in
    is.few

pub returns-clause-judged : goal.returns-clause-judged
returns-clause-judged g c =
    subst (λ b. IfSome (g.S.Source.objects c.args.store.now) (λ m. JudgesBox c.judge_box.result m c.args.first.now.dataset c.args.first.now.scale c.args.number c.args.self.now.scale b)) (c.shared_box-shared.ensures ∙ ap (λ x. common x c.args.part.now) c.cell_box.ensures.positions)
    (subst (λ (v : Scale). IfSome (g.S.Source.objects c.args.store.now) (λ m. JudgesBox c.judge_box.result m c.args.first.now.dataset c.args.first.now.scale c.args.number v c.shared_box-shared.result)) (ap (λ (r : Opened). r.scale) c.self.view_is) c.judge_box.ensures.judged)

pub returns-clause-asks : goal.returns-clause-asks
returns-clause-asks g c = record {
  asked =
      let was = g.S.Source.asked c.args.store.now in
      let now = g.S.Source.asked c.judge_box.new.store in
      subst (λ b. IfSome (g.S.Source.objects c.args.store.now) (λ m. now ≤ was + pair_cost m c.args.first.now.dataset c.args.first.now.scale c.args.self.now.scale b)) (c.shared_box-shared.ensures ∙ ap (λ x. common x c.args.part.now) c.cell_box.ensures.positions)
      (subst (λ (v : Scale). IfSome (g.S.Source.objects c.args.store.now) (λ m. now ≤ was + pair_cost m c.args.first.now.dataset c.args.first.now.scale v c.shared_box-shared.result)) (ap (λ (r : Opened). r.scale) c.self.view_is) c.judge_box.ensures.asks.asked);
  reads = search rules;
}

pub invariant_of-self : goal.invariant_of-self
invariant_of-self g c = held_again c.self.inside.stored.dataset c.self.inside.stored.scale c.self.inside.reader c.judge_box.new.reader c.self.invariant c.judge_box.ensures.reader
