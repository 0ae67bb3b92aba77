use Rattle.std.proofs.Common.{◌∙◌, ◌≤◌, ◌+◌, IfSome, length, subst, sym, rules}
use Rattle.std.specs.List.{sum_by}
use Rattle.vol_spec.specs.Grid.{cell_box, cells_in}
use Rattle.size_laws.specs.Findings.{common}
use Rattle.view_judge.specs.Answers.{JudgesOwn}
use Rattle.view_judge.specs.Further.{HasRoom, IsBeside}
use Rattle.view_judge.specs.Judging.{pair_cost}
use Rattle.view_judge.specs.Regions.{own_regions}
use Rattle.view_judge.proofs.RegionSteps.{own_beside}
use Rattle.view_judge.proofs.further.FurtherView.judge_own.Goals as goal

pub judge_regions-requires-clause-grid : goal.judge_regions-requires-clause-grid
judge_regions-requires-clause-grid g c = subst (IsBeside c.args.self.now.scale) (sym (c.find_own_regions-regions.ensures ∙ (λ i. own_regions (c.requires.scale i) (c.self.view_is i).scale))) (own_beside c.args.first.now.scale c.args.self.now.scale)

pub judge_regions-requires-clause-found : goal.judge_regions-requires-clause-found
judge_regions-requires-clause-found g c = subst (λ r. HasRoom r (length c.args.found.now)) (sym (c.find_own_regions-regions.ensures ∙ (λ i. own_regions (c.requires.scale i) (c.self.view_is i).scale))) c.requires.found

pub judge_regions-requires-clause-wanted : goal.judge_regions-requires-clause-wanted
judge_regions-requires-clause-wanted g c = subst (λ r. HasRoom r (length c.args.wanted.now)) (sym (c.find_own_regions-regions.ensures ∙ (λ i. own_regions (c.requires.scale i) (c.self.view_is i).scale))) c.requires.wanted

pub returns-clause-judged : goal.returns-clause-judged
returns-clause-judged g c =
    subst (λ r. IfSome (g.S.Source.objects c.args.store.now) (λ m. JudgesOwn c.judge_regions.result m c.args.first.now.dataset c.args.first.now.scale c.args.number c.args.self.now.scale r c.args.part.now)) (c.find_own_regions-regions.ensures ∙ (λ i. own_regions (c.requires.scale i) (c.self.view_is i).scale))
    c.judge_regions.ensures.judged

pub returns-clause-asks : goal.returns-clause-asks
returns-clause-asks g c = record {
  asked =
      subst (λ r. IfSome (g.S.Source.objects c.args.store.now) (λ m. g.S.Source.asked c.judge_regions.new.store ≤ g.S.Source.asked c.args.store.now
      + sum_by (λ region. pair_cost m c.args.first.now.dataset c.args.first.now.scale c.args.self.now.scale (common (cell_box r region) c.args.part.now)) (cells_in r c.args.part.now))) (c.find_own_regions-regions.ensures ∙ (λ i. own_regions (c.requires.scale i) (c.self.view_is i).scale))
      c.judge_regions.ensures.asks.asked;
  reads = search rules;
}
