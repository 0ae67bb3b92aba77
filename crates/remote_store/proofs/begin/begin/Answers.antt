use Rattle.std.proofs.Common.{inl}
use Rattle.remote_store.proofs.Bodies.{passed_as}
use Rattle.remote_store.proofs.FilledFronts.{came_waited, filled, filled_begun, filled_came, filled_cut, filled_gains}
use Rattle.remote_store.proofs.begin.begin.Goals as goal

pub returns-in-None-clause-unfit : goal.returns-in-None-clause-unfit
returns-in-None-clause-unfit g c = λ _. inl (c.judge_front_of.ensures.never c.in-None.is)

pub returns-in-Err-fill-clause-received : goal.returns-in-Err-fill-clause-received
returns-in-Err-fill-clause-received g c =
    let w = c.wait_head in
    let f = c.fill.ensures in
    let x = filled _ w.new.buffer c.fill.new.buffer w.new.there c.fill.new.there _ _ c.requires.size w.auto.buffer w.ensures.within c.in-Some.ensures.heard c.count_following.ensures c.find_stop-stop.ensures c.fill.auto.buffer f.more f.within f.kept in
    filled_gains x _ _ _ w.ensures.received f.passed.received

pub returns-then-there-stop-clause-received : goal.returns-then-there-stop-clause-received
returns-then-there-stop-clause-received g c =
    let w = c.wait_head in
    let f = c.fill.ensures in
    let x = filled _ w.new.buffer c.fill.new.buffer w.new.there c.fill.new.there _ _ c.requires.size w.auto.buffer w.ensures.within c.in-Some.ensures.heard c.count_following.ensures c.find_stop-stop.ensures c.fill.auto.buffer f.more f.within f.kept in
    filled_gains x _ _ _ w.ensures.received f.passed.received

pub returns-then-there-stop-clause-unfit : goal.returns-then-there-stop-clause-unfit
returns-then-there-stop-clause-unfit g c =
    let w = c.wait_head in
    let f = c.fill.ensures in
    let x = filled _ w.new.buffer c.fill.new.buffer w.new.there c.fill.new.there _ _ c.requires.size w.auto.buffer w.ensures.within c.in-Some.ensures.heard c.count_following.ensures c.find_stop-stop.ensures c.fill.auto.buffer f.more f.within f.kept in
    let came = came_waited w.new.buffer w.new.there _ _ _ _ c.in-Ok-Head.ensures.pending c.in-Ok-Head.ensures.line in
    λ _. filled_cut x c.if-there-stop.true came w.ensures.ends c.in-Ok.is f.passed

pub returns-then-there-stop-clause-came : goal.returns-then-there-stop-clause-came
returns-then-there-stop-clause-came g c =
    let w = c.wait_head in
    let f = c.fill.ensures in
    let x = filled _ w.new.buffer c.fill.new.buffer w.new.there c.fill.new.there _ _ c.requires.size w.auto.buffer w.ensures.within c.in-Some.ensures.heard c.count_following.ensures c.find_stop-stop.ensures c.fill.auto.buffer f.more f.within f.kept in
    let passed = passed_as c.in-Ok.is f.passed in
    filled_came x (came_waited w.new.buffer w.new.there _ _ _ _ c.in-Ok-Head.ensures.pending c.in-Ok-Head.ensures.line) passed.came

pub returns-clause-received : goal.returns-clause-received
returns-clause-received g c =
    let w = c.wait_head in
    let f = c.fill.ensures in
    let x = filled _ w.new.buffer c.fill.new.buffer w.new.there c.fill.new.there _ _ c.requires.size w.auto.buffer w.ensures.within c.in-Some.ensures.heard c.count_following.ensures c.find_stop-stop.ensures c.fill.auto.buffer f.more f.within f.kept in
    filled_gains x _ _ _ w.ensures.received f.passed.received

pub returns-clause-begun : goal.returns-clause-begun
returns-clause-begun g c =
    let w = c.wait_head in
    let f = c.fill.ensures in
    let x = filled _ w.new.buffer c.fill.new.buffer w.new.there c.fill.new.there _ _ c.requires.size w.auto.buffer w.ensures.within c.in-Some.ensures.heard c.count_following.ensures c.find_stop-stop.ensures c.fill.auto.buffer f.more f.within f.kept in
    filled_begun x c.if-there-stop.false

pub returns-clause-came : goal.returns-clause-came
returns-clause-came g c =
    let w = c.wait_head in
    let f = c.fill.ensures in
    let x = filled _ w.new.buffer c.fill.new.buffer w.new.there c.fill.new.there _ _ c.requires.size w.auto.buffer w.ensures.within c.in-Some.ensures.heard c.count_following.ensures c.find_stop-stop.ensures c.fill.auto.buffer f.more f.within f.kept in
    let passed = passed_as c.in-Ok.is f.passed in
    filled_came x (came_waited w.new.buffer w.new.there _ _ _ _ c.in-Ok-Head.ensures.pending c.in-Ok-Head.ensures.line) passed.came
