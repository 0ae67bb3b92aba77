use Rattle.std.proofs.Common.{IfSome, rules, subst, sym}
use Rattle.vol_spec.specs.Chunks.{chunk_in}
use Rattle.cutout.proofs.RunSteps.{one_asked}
use Rattle.cutout.proofs.ServeSteps.{serves_still}
use Rattle.cutout.specs.Finding.{Finds}
use Rattle.verify_cmd.proofs.AskedSteps.{asked_both, asked_first}
use Rattle.verify_cmd.proofs.JudgeSteps.{chunk_judged, chunk_refused, index_refused}
use Rattle.verify_cmd.proofs.cell.CellJudge.judge.Goals as goal

pub returns-in-Err-clause-judged : goal.returns-in-Err-clause-judged
returns-in-Err-clause-judged g c = index_refused (g.S.Source.objects c.args.store.now) c.args.origin.now.dataset c.args.origin.now.scale c.args.cell c.judge_index.result c.in-Err.fault c.in-Err.is c.judge_index.ensures.judged

pub judge-requires-clause-serves : goal.judge-requires-clause-serves
judge-requires-clause-serves g c =
    serves_still (g.S.Source.objects c.args.store.now) (g.S.Source.objects c.judge_index.new.store) c.args.origin.now c.judge_index.new.self.cells c.judge_index.ensures.asks.reads.kept.same_objects c.judge_index.ensures.serves.cells

pub returns-in-Ok-judge-clause-judged : goal.returns-in-Ok-judge-clause-judged
returns-in-Ok-judge-clause-judged g c =
    chunk_judged (g.S.Source.objects c.args.store.now) c.args.origin.now.dataset c.args.origin.now.scale c.args.cell c.judge_index.result _ c.judge.result c.in-Ok-judge.is_stored c.in-Ok.is c.in-Ok-judge.is
    c.judge_index.ensures.judged (subst (λ o. IfSome o (λ m. Finds c.judge.result (chunk_in m c.args.origin.now.dataset c.args.origin.now.scale c.args.cell))) c.judge_index.ensures.asks.reads.kept.same_objects c.judge.ensures.finds)

pub returns-in-Err-judge-clause-judged : goal.returns-in-Err-judge-clause-judged
returns-in-Err-judge-clause-judged g c =
    chunk_refused (g.S.Source.objects c.args.store.now) c.args.origin.now.dataset c.args.origin.now.scale c.args.cell c.judge_index.result _ c.judge.result c.in-Err-judge.fault c.from.result c.in-Ok.is c.in-Err-judge.is c.from.ensures
    c.judge_index.ensures.judged (subst (λ o. IfSome o (λ m. Finds c.judge.result (chunk_in m c.args.origin.now.dataset c.args.origin.now.scale c.args.cell))) c.judge_index.ensures.asks.reads.kept.same_objects c.judge.ensures.finds)

pub returns-in-Err-clause-asks : goal.returns-in-Err-clause-asks
returns-in-Err-clause-asks g c = record {
  asked = asked_first (g.S.Source.objects c.args.store.now) c.args.origin.now.dataset c.args.origin.now.scale c.args.cell (g.S.Source.asked c.args.store.now) (g.S.Source.asked c.judge_index.new.store) c.judge_index.ensures.asks.asked;
  reads = search rules;
}

pub returns-in-Ok-judge-clause-asks : goal.returns-in-Ok-judge-clause-asks
returns-in-Ok-judge-clause-asks g c = record {
  asked =
      asked_both (g.S.Source.objects c.args.store.now) (g.S.Source.objects c.judge_index.new.store) c.args.origin.now.dataset c.args.origin.now.scale c.args.cell (g.S.Source.asked c.args.store.now) (g.S.Source.asked c.judge_index.new.store)
      (g.S.Source.asked c.judge.new.store) c.judge_index.ensures.asks.reads.kept.same_objects c.judge_index.ensures.asks.asked
      (one_asked (g.S.Source.objects c.judge_index.new.store) _ c.args.origin.now.dataset c.args.origin.now.scale c.args.cell _ _ _ _ c.judge.ensures.walks.run);
  reads = search rules;
}

pub returns-in-Err-judge-clause-asks : goal.returns-in-Err-judge-clause-asks
returns-in-Err-judge-clause-asks g c = record {
  asked =
      asked_both (g.S.Source.objects c.args.store.now) (g.S.Source.objects c.judge_index.new.store) c.args.origin.now.dataset c.args.origin.now.scale c.args.cell (g.S.Source.asked c.args.store.now) (g.S.Source.asked c.judge_index.new.store)
      (g.S.Source.asked c.judge.new.store) c.judge_index.ensures.asks.reads.kept.same_objects c.judge_index.ensures.asks.asked
      (one_asked (g.S.Source.objects c.judge_index.new.store) _ c.args.origin.now.dataset c.args.origin.now.scale c.args.cell _ _ _ _ c.judge.ensures.walks.run);
  reads = search rules;
}

pub returns-in-Ok-judge-clause-serves : goal.returns-in-Ok-judge-clause-serves
returns-in-Ok-judge-clause-serves g c = record {
  cells = serves_still (g.S.Source.objects c.judge_index.new.store) (g.S.Source.objects c.args.store.now) c.args.origin.now c.judge.new.self (sym c.judge_index.ensures.asks.reads.kept.same_objects) c.judge.ensures.serves;
  knows = c.judge_index.ensures.serves.knows;
}

pub returns-in-Err-judge-clause-serves : goal.returns-in-Err-judge-clause-serves
returns-in-Err-judge-clause-serves g c = record {
  cells = serves_still (g.S.Source.objects c.judge_index.new.store) (g.S.Source.objects c.args.store.now) c.args.origin.now c.judge.new.self (sym c.judge_index.ensures.asks.reads.kept.same_objects) c.judge.ensures.serves;
  knows = c.judge_index.ensures.serves.knows;
}
