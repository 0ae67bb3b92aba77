use Rattle.std.proofs.Common.{◌≡◌, ◌∙◌, ap, rules}
use Rattle.vol_spec.specs.Codes.{code_of}
use Rattle.vol_spec.specs.Places.{id_of}
use Rattle.verify_cmd.proofs.AskedSteps.{asked_index, asked_own}
use Rattle.verify_cmd.proofs.JudgeSteps.{index_told, knows_as, knows_index, own_told}
use Rattle.verify_cmd.proofs.cell.CellJudge.judge_index.Goals as goal

pub returns-in-None-clause-judged : goal.returns-in-None-clause-judged
returns-in-None-clause-judged g c = own_told (g.S.Source.objects c.args.store.now) c.args.origin.now.dataset c.args.origin.now.scale c.args.cell c.in-None.is

pub judge-requires-clause-knows : goal.judge-requires-clause-knows
judge-requires-clause-knows g c = knows_as (g.S.Source.objects c.args.store.now) c.args.origin.now.dataset c.args.origin.now.scale c.in-Some.sharding c.args.self.now.indexes c.in-Some.is c.requires.serves.knows

pub returns-in-Some-clause-judged : goal.returns-in-Some-clause-judged
returns-in-Some-clause-judged g c =
    let id : c.code.result ≡ id_of c.args.origin.now.scale c.args.cell = c.code.ensures ∙ ap (λ size. code_of size c.args.cell) c.grid.ensures in
    index_told (g.S.Source.objects c.args.store.now) c.args.origin.now.dataset c.args.origin.now.scale c.args.cell c.in-Some.sharding c.place-home.result.shard c.place-home.result.minishard c.code.result c.judge.result c.in-Some.is
    c.place-home.ensures.shard c.place-home.ensures.minishard id c.judge.ensures.judged

pub returns-in-Some-clause-serves : goal.returns-in-Some-clause-serves
returns-in-Some-clause-serves g c = record {
  cells = c.requires.serves.cells;
  knows = knows_index (g.S.Source.objects c.args.store.now) c.args.origin.now.dataset c.args.origin.now.scale c.in-Some.sharding c.judge.new.self c.in-Some.is c.judge.ensures.knows;
}

pub returns-in-None-clause-asks : goal.returns-in-None-clause-asks
returns-in-None-clause-asks g c = record {
  asked = asked_own (g.S.Source.objects c.args.store.now) c.args.origin.now.dataset c.args.origin.now.scale c.args.cell (g.S.Source.asked c.args.store.now);
  reads = search rules;
}

pub returns-in-Some-clause-asks : goal.returns-in-Some-clause-asks
returns-in-Some-clause-asks g c = record {
  asked =
      let id : c.code.result ≡ id_of c.args.origin.now.scale c.args.cell = c.code.ensures ∙ ap (λ size. code_of size c.args.cell) c.grid.ensures in
      asked_index (g.S.Source.objects c.args.store.now) c.args.origin.now.dataset c.args.origin.now.scale c.args.cell c.in-Some.sharding c.place-home.result.shard c.place-home.result.minishard c.code.result (g.S.Source.asked c.args.store.now)
      (g.S.Source.asked c.judge.new.store) c.in-Some.is c.place-home.ensures.shard c.place-home.ensures.minishard id c.judge.ensures.asks.asked;
  reads = search rules;
}
