use Rattle.std.proofs.Common.{◌∙◌, Err, ap, arith, rules, subst, sym}
use Rattle.vol_spec.specs.Grid.{Inside}
use Rattle.vol_spec.specs.Raw.{raw_len}
use Rattle.vol_spec.specs.declared.scale.Scale.{Scale}
use Rattle.view_judge.proofs.BoxSteps.{asked_both, asked_view, compared_cause, compared_told, first_cause, first_told, front_len, view_told}
use Rattle.view_judge.proofs.CellSteps.{beside_inside}
use Rattle.view_judge.proofs.boxes.judge_box.Goals as goal

pub overflow_cast-len : goal.overflow_cast-len
overflow_cast-len g c = let is = c.byte_len-len.ensures in let few = c.requires.limit in omega (arith, is, few)

pub cutout-requires-clause-len : goal.cutout-requires-clause-len
cutout-requires-clause-len g c =
    front_len c.args.found.now (raw_len c.args.part.now c.args.view.now.channels c.args.view.now.width) c.byte_len-len.result c.requires.found c.requires.limit c.byte_len-len.ensures
    ∙ ap (λ (s : Scale). raw_len c.args.part.now s.channels s.width) (sym c.requires.reads)

pub of_view-requires : goal.of_view-requires
of_view-requires g c = λ e. c.cutout.ensures.outside.0 (c.in-Err.is ∙ ap (λ x. Err x) e) (subst (λ (s : Scale). Inside s c.args.part.now) (sym c.requires.reads) c.requires.inside)

pub returns-in-Err-clause-judged : goal.returns-in-Err-clause-judged
returns-in-Err-clause-judged g c =
    view_told (g.S.Source.objects c.args.store.now) c.args.reader.now c.args.first.now c.args.number c.args.view.now c.args.part.now c.requires.reads c.requires.dataset c.cutout.new.out c.in-Err.fault c.of_view.result c.of_view.ensures c.in-Err.ensures.cut

pub returns-in-Err-clause-asks : goal.returns-in-Err-clause-asks
returns-in-Err-clause-asks g c = record {
  asked =
      asked_view (g.S.Source.objects c.args.store.now) c.args.reader.now c.args.first.now c.args.number c.args.view.now c.args.part.now c.requires.reads c.requires.dataset (g.S.Source.asked c.args.store.now) _ c.cutout.ensures.asked;
  reads = search rules;
}

pub cutout-requires-2-clause-len : goal.cutout-requires-2-clause-len
cutout-requires-2-clause-len g c =
    front_len c.args.wanted.now (raw_len c.args.part.now c.args.view.now.channels c.args.view.now.width) c.byte_len-len.result c.requires.wanted c.requires.limit c.byte_len-len.ensures
    ∙ (λ i. raw_len c.args.part.now (c.requires.beside.channel_counts i) (c.requires.beside.widths i))

pub of_first-requires : goal.of_first-requires
of_first-requires g c =
    λ e. c.cutout-2.ensures.outside.0 (c.in-Err-cutout.is ∙ ap (λ x. Err x) e) (beside_inside c.args.first.now.scale c.args.view.now c.args.part.now c.requires.beside c.requires.inside)

pub returns-in-Err-cutout-clause-judged : goal.returns-in-Err-cutout-clause-judged
returns-in-Err-cutout-clause-judged g c =
    first_told (g.S.Source.objects c.args.store.now) c.args.reader.now c.args.first.now c.args.number c.args.view.now c.args.part.now c.requires.reads c.requires.dataset (g.S.Source.objects c.cutout.new.store) c.cutout-2.new.out
    c.in-Err-cutout.fault c.of_first.result c.cutout.ensures.reads.kept.same_objects c.of_first.ensures c.in-Err-cutout.ensures.cut

pub returns-in-Err-cutout-clause-asks : goal.returns-in-Err-cutout-clause-asks
returns-in-Err-cutout-clause-asks g c = record {
  asked =
      asked_both (g.S.Source.objects c.args.store.now) c.args.reader.now c.args.first.now c.args.number c.args.view.now c.args.part.now c.requires.reads c.requires.dataset (g.S.Source.objects c.cutout.new.store) (g.S.Source.asked c.args.store.now) _ _
      c.cutout.ensures.reads.kept.same_objects c.cutout.ensures.asked c.cutout-2.ensures.asked;
  reads = record {
    kept = search rules;
    history = search rules;
    cause = first_cause c.in-Err-cutout.fault c.of_first.result (g.S.Source.faults c.args.store.now) (g.S.Source.faults c.cutout.new.store) (g.S.Source.faults c.cutout-2.new.store) c.of_first.ensures
        (λ e. c.cutout-2.ensures.outside.0 (c.in-Err-cutout.is ∙ ap (λ x. Err x) e) (beside_inside c.args.first.now.scale c.args.view.now c.args.part.now c.requires.beside c.requires.inside)) c.in-Ok.ensures.reads.cause.stands c.in-Err-cutout.ensures.reads.cause;
  };
}

pub returns-clause-judged : goal.returns-clause-judged
returns-clause-judged g c =
    compared_told (g.S.Source.objects c.args.store.now) c.args.reader.now c.args.first.now c.args.number c.args.view.now c.args.part.now c.requires.reads c.requires.dataset (g.S.Source.objects c.cutout.new.store) c.cutout.new.out c.cutout-2.new.out tt tt
    c.compare_box.result c.cutout.ensures.reads.kept.same_objects c.requires.beside c.requires.inside (g.met.S.Source.bytes c.args.store.now) c.in-Ok.ensures.cut c.in-Ok-cutout.ensures.cut c.compare_box.ensures

pub returns-clause-asks : goal.returns-clause-asks
returns-clause-asks g c = record {
  asked =
      asked_both (g.S.Source.objects c.args.store.now) c.args.reader.now c.args.first.now c.args.number c.args.view.now c.args.part.now c.requires.reads c.requires.dataset (g.S.Source.objects c.cutout.new.store) (g.S.Source.asked c.args.store.now) _ _
      c.cutout.ensures.reads.kept.same_objects c.cutout.ensures.asked c.cutout-2.ensures.asked;
  reads = record {
    kept = search rules;
    history = search rules;
    cause = compared_cause c.compare_box.result c.args.number c.args.part.now c.args.view.now.channels c.args.view.now.width c.cutout.new.out c.cutout-2.new.out (g.S.Source.faults c.args.store.now) (g.S.Source.faults c.cutout-2.new.store)
        (c.in-Ok-cutout.ensures.reads.cause.stands ∙ c.in-Ok.ensures.reads.cause.stands) c.compare_box.ensures;
  };
}
