use Rattle.std.proofs.Common.{◌≡◌, ◌∙◌, ap, arith, rules, subst, sym}
use Rattle.vol_base.specs.Boxes.{Covers}
use Rattle.vol_spec.specs.Grid.{Meets}
use Rattle.vol_spec.specs.declared.scale.Scale.{Scale}
use Rattle.cutout.specs.Opened.{Opened}
use Rattle.size_laws.specs.Findings.{common}
use Rattle.view_judge.proofs.CellSteps.{asked_cell, cause_again, held_again, refused_told, sound_told, stood_again}
use Rattle.view_judge.proofs.RegionSteps.{own_shared}
use Rattle.view_judge.proofs.further.FurtherView.judge_cell.Goals as goal

pub shared_box-shared-requires : goal.shared_box-shared-requires
shared_box-shared-requires g c =
    let same : c.self.inside.stored.scale ≡ c.args.self.now.scale = cc in
    let meets : Meets c.self.inside.stored.scale c.args.cell c.args.part.now = subst (λ (v : Scale). Meets v c.args.cell c.args.part.now) (sym same) c.requires.meets in
    (meets.0, subst (λ b. Covers b meets.0) (sym c.cell_box.ensures.positions) meets.1, meets.2)

pub judge_box-requires-clause-inside : goal.judge_box-requires-clause-inside
judge_box-requires-clause-inside g c =
    let is = own_shared c.args.self.now.scale c.self.inside.stored.scale c.args.part.now c.args.cell c.shared_box-shared.result (sym (ap (λ (r : Opened). r.scale) c.self.view_is)) c.requires.beside.inside c.requires.cell c.requires.meets
    (c.shared_box-shared.ensures ∙ ap (λ b. common b c.args.part.now) c.cell_box.ensures.positions) in
    is.inside

pub judge_box-requires-clause-found : goal.judge_box-requires-clause-found
judge_box-requires-clause-found g c =
    let is = own_shared c.args.self.now.scale c.self.inside.stored.scale c.args.part.now c.args.cell c.shared_box-shared.result (sym (ap (λ (r : Opened). r.scale) c.self.view_is)) c.requires.beside.inside c.requires.cell c.requires.meets
    (c.shared_box-shared.ensures ∙ ap (λ b. common b c.args.part.now) c.cell_box.ensures.positions) in
    omega (arith, is.room, c.requires.found)

pub judge_box-requires-clause-wanted : goal.judge_box-requires-clause-wanted
judge_box-requires-clause-wanted g c =
    let is = own_shared c.args.self.now.scale c.self.inside.stored.scale c.args.part.now c.args.cell c.shared_box-shared.result (sym (ap (λ (r : Opened). r.scale) c.self.view_is)) c.requires.beside.inside c.requires.cell c.requires.meets
    (c.shared_box-shared.ensures ∙ ap (λ b. common b c.args.part.now) c.cell_box.ensures.positions) in
    omega (arith, is.room, c.requires.wanted)

pub judge_box-requires-clause-limit : goal.judge_box-requires-clause-limit
judge_box-requires-clause-limit g c =
    let is = own_shared c.args.self.now.scale c.self.inside.stored.scale c.args.part.now c.args.cell c.shared_box-shared.result (sym (ap (λ (r : Opened). r.scale) c.self.view_is)) c.requires.beside.inside c.requires.cell c.requires.meets
    (c.shared_box-shared.ensures ∙ ap (λ b. common b c.args.part.now) c.cell_box.ensures.positions) in
    is.few

pub returns-in-Err-clause-judged : goal.returns-in-Err-clause-judged
returns-in-Err-clause-judged g c =
    refused_told (g.S.Source.objects c.args.store.now) (g.S.Source.objects c.find_stored.new.store) c.args.first.now.dataset c.args.first.now.scale c.args.number c.args.self.now.scale c.self.inside.stored.scale c.args.part.now c.args.cell c.shared_box-shared.result
    c.requires.beside.inside c.requires.cell c.requires.meets (sym (ap (λ (r : Opened). r.scale) c.self.view_is)) (c.shared_box-shared.ensures ∙ ap (λ b. common b c.args.part.now) c.cell_box.ensures.positions) c.find_stored.ensures.reads.kept.same_objects
    c.in-Err.fault c.in-Err.ensures.judged

pub returns-clause-judged : goal.returns-clause-judged
returns-clause-judged g c =
    sound_told (g.S.Source.objects c.args.store.now) (g.S.Source.objects c.find_stored.new.store) c.args.first.now.dataset c.args.first.now.scale c.args.number c.args.self.now.scale c.self.inside.stored.scale c.args.part.now c.args.cell c.shared_box-shared.result
    c.requires.beside.inside c.requires.cell c.requires.meets (sym (ap (λ (r : Opened). r.scale) c.self.view_is)) (c.shared_box-shared.ensures ∙ ap (λ b. common b c.args.part.now) c.cell_box.ensures.positions) c.find_stored.ensures.reads.kept.same_objects
    tt c.in_ok-is_stored.is_stored c.self.inside.stored.dataset (ap (λ (r : Opened). r.dataset) c.self.view_is ∙ c.requires.beside.same_dataset) c.self.invariant.unsharded c.in_ok-is_stored.ensures.found c.in-Ok.ensures.judged

pub returns-in-Err-clause-asks : goal.returns-in-Err-clause-asks
returns-in-Err-clause-asks g c = record {
  asked =
      asked_cell (g.S.Source.objects c.args.store.now) (g.S.Source.objects c.find_stored.new.store) c.args.first.now.dataset c.args.first.now.scale c.args.number c.args.self.now.scale c.self.inside.stored.scale c.args.part.now c.args.cell c.shared_box-shared.result
      c.requires.beside.inside c.requires.cell c.requires.meets (sym (ap (λ (r : Opened). r.scale) c.self.view_is)) (c.shared_box-shared.ensures ∙ ap (λ b. common b c.args.part.now) c.cell_box.ensures.positions) c.find_stored.ensures.reads.kept.same_objects
      (g.S.Source.asked c.args.store.now) (g.S.Source.asked c.find_stored.new.store) _ c.find_stored.ensures.asked c.judge_box.ensures.asks.asked;
  reads = record {
    kept = search rules;
    history = search rules;
    cause = cause_again c.in-Err.fault _ _ _ c.in_ok-is_stored.ensures.reads.cause.stands c.in-Err.ensures.asks.reads.cause;
  };
}

pub returns-clause-asks : goal.returns-clause-asks
returns-clause-asks g c = record {
  asked =
      asked_cell (g.S.Source.objects c.args.store.now) (g.S.Source.objects c.find_stored.new.store) c.args.first.now.dataset c.args.first.now.scale c.args.number c.args.self.now.scale c.self.inside.stored.scale c.args.part.now c.args.cell c.shared_box-shared.result
      c.requires.beside.inside c.requires.cell c.requires.meets (sym (ap (λ (r : Opened). r.scale) c.self.view_is)) (c.shared_box-shared.ensures ∙ ap (λ b. common b c.args.part.now) c.cell_box.ensures.positions) c.find_stored.ensures.reads.kept.same_objects
      (g.S.Source.asked c.args.store.now) (g.S.Source.asked c.find_stored.new.store) _ c.find_stored.ensures.asked c.judge_box.ensures.asks.asked;
  reads = record {
    kept = search rules;
    history = search rules;
    cause = stood_again c.in_ok-is_stored.is_stored _ _ _ c.in_ok-is_stored.ensures.reads.cause.stands c.in-Ok.ensures.asks.reads.cause.stands;
  };
}

pub invariant_of-self : goal.invariant_of-self
invariant_of-self g c =
    held_again c.self.inside.stored.dataset c.self.inside.stored.scale c.self.inside.reader c.judge_box.new.reader c.self.invariant c.judge_box.ensures.reader

pub invariant_of-self-2 : goal.invariant_of-self-2
invariant_of-self-2 g c =
    held_again c.self.inside.stored.dataset c.self.inside.stored.scale c.self.inside.reader c.judge_box.new.reader c.self.invariant c.judge_box.ensures.reader
