use Rattle.std.proofs.Common.{List, arith, subst, sym, take, get_or}
use Rattle.std.proofs.lemmas.List.{take_all}
use Rattle.vol_spec.specs.Raw.{raw_at}
use Rattle.write_plan.specs.Fills.{Shows}
use Rattle.write_plan.specs.Pairs.{writes_of_run}
use Rattle.write_plan.specs.WriteLists.{write_in, writes_in}
use Rattle.write_plan.specs.declared.pairs.Pair.{Pair}
use Rattle.write_plan.proofs.FillSteps.{holds_write, run_more, shows_more}
use Rattle.write_plan.proofs.fills.apply_run.Goals as goal

pub apply-requires-clause-source : goal.apply-requires-clause-source
apply-requires-clause-source c =
    let none : Pair = record { number = 0; write = 0 } in
    holds_write c.args.writes.now (get_or c.args.run.now c.loop-pair.pair-index none).write c.index-writes-pair.result c.args.channels c.args.width c.requires.source
    (c.requires.within c.loop-pair.pair-index none c.loop-pair-test.true) c.index-writes-pair.is

pub loop-pair-preserved : goal.loop-pair-preserved
loop-pair-preserved c d =
    let none : Pair = record { number = 0; write = 0 } in
    subst (λ ws. Shows c.args.cell.now c.args.channels c.args.width (raw_at c.args.cell.now c.args.width c.args.raw.now) ws c.apply.new.raw)
    (sym (run_more c.args.writes.now c.args.run.now c.loop-pair.pair-index none c.index-writes-pair.result d c.loop-pair-test.true (c.requires.within c.loop-pair.pair-index none c.loop-pair-test.true) c.index-writes-pair.is))
    (shows_more c.args.cell.now c.args.channels c.args.width (raw_at c.args.cell.now c.args.width c.args.raw.now) (writes_of_run (writes_in c.args.writes.now) d (take c.loop-pair.pair-index c.args.run.now)) (write_in c.index-writes-pair.result) c.loop-pair.raw c.apply.new.raw
    (c.loop-pair.invariant d) c.apply.ensures)

pub returns : goal.returns
returns c d =
    subst (λ (run : List Pair). Shows c.args.cell.now c.args.channels c.args.width (raw_at c.args.cell.now c.args.width c.args.raw.now) (writes_of_run (writes_in c.args.writes.now) d run) c.loop-pair.raw) (take_all c.loop-pair.pair-index c.args.run.now (omega arith)) (c.loop-pair.invariant d)
