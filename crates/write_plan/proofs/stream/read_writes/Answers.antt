use Rattle.std.proofs.Common.{◌∙◌, arith, Ok, Err, [], ◌+◌, ◌*◌, ◌^◌}
use Rattle.std.proofs.lemmas.List.{length-map}
use Rattle.std.proofs.lemmas.Result.{err_from_is_err_and}
use Rattle.write_plan.specs.Reading.{count_at, writes_at, writes_read}
use Rattle.write_plan.specs.WriteLists.{write_in, writes_in}
use Rattle.write_plan.proofs.FeedSteps.{answer_err, answer_ok, gave_then, refused_first, refused_then, took_more}
use Rattle.write_plan.proofs.SumSteps.{as_summed}
use Rattle.write_plan.proofs.WholeSteps.{end_stopped, end_all, are_writes}
use Rattle.write_plan.proofs.stream.read_writes.Goals as goal

pub returns-in_err-count-clause-exact : goal.returns-in_err-count-clause-exact
unfolding writes_read
returns-in_err-count-clause-exact g c =
    let p = err_from_is_err_and c.from_residual.result c.from_residual.ensures.1 in
    rw (p.1, p.2) (as_summed (g.F.Feed.left c.args.feed.now) (Err c.in_err-count.field-0.0) c.args.scale.now (answer_err (λ bytes. writes_read bytes c.args.scale.now) (g.F.Feed.left c.args.feed.now) _ (refused_first count_at _ _ _ c.in_err-count.ensures.read.answer)))

pub returns-in_err-items-clause-exact : goal.returns-in_err-items-clause-exact
unfolding writes_read
returns-in_err-items-clause-exact g c =
    let p = err_from_is_err_and c.from_residual-in_err-items.result c.from_residual-in_err-items.ensures.1 in
    rw (p.1, p.2)
    (as_summed (g.F.Feed.left c.args.feed.now) (Err c.in_err-items.field-0.0) c.args.scale.now (answer_err (λ bytes. writes_read bytes c.args.scale.now) (g.F.Feed.left c.args.feed.now) _
    (refused_then count_at _ _ _ c.in_ok-count.count _ c.in_ok-count.ensures.read.answer (refused_first (writes_at c.args.scale.now c.in_ok-count.count []) _ _ _ c.in_err-items.ensures.read.answer))))

pub returns-in_err-read_end-clause-exact : goal.returns-in_err-read_end-clause-exact
unfolding writes_read
returns-in_err-read_end-clause-exact g c =
    let p = err_from_is_err_and c.from_residual-in_err-read_end.result c.from_residual-in_err-read_end.ensures.1 in
    rw (p.1, p.2)
    (as_summed (g.F.Feed.left c.args.feed.now) (Err c.in_err-read_end.field-0.0) c.args.scale.now (answer_err (λ bytes. writes_read bytes c.args.scale.now) (g.F.Feed.left c.args.feed.now) _
    (refused_then count_at _ _ _ c.in_ok-count.count _ c.in_ok-count.ensures.read.answer
    (refused_then (writes_at c.args.scale.now c.in_ok-count.count []) _ _ _ (writes_in c.in_ok-items.items.items) _ c.in_ok-items.ensures.read.answer
    (end_stopped (writes_in c.in_ok-items.items.items) (g.F.Feed.left c.read_list.new.feed) _ c.in_err-read_end.ensures.answer)))))

pub returns-clause-exact : goal.returns-clause-exact
unfolding writes_read
returns-clause-exact g c =
    as_summed (g.F.Feed.left c.args.feed.now) (Ok (writes_in c.in_ok-items.items.items)) c.args.scale.now (answer_ok (λ bytes. writes_read bytes c.args.scale.now) (g.F.Feed.left c.args.feed.now) (g.F.Feed.left c.read_list.new.feed) (writes_in c.in_ok-items.items.items)
    (gave_then count_at _ _ _ c.in_ok-count.count c.in_ok-count.ensures.read.answer
    ∙ gave_then (writes_at c.args.scale.now c.in_ok-count.count []) _ _ _ (writes_in c.in_ok-items.items.items) c.in_ok-items.ensures.read.answer
    ∙ (end_all (writes_in c.in_ok-items.items.items) (g.F.Feed.left c.read_list.new.feed) (g.F.Feed.left c.read_end.new.feed) c.in_ok-read_end.ensures.answer).0))

pub returns-in_err-items-clause-took : goal.returns-in_err-items-clause-took
returns-in_err-items-clause-took g c = took_more 8 (48 * 65536 + 2 ^ 30) _ _ _ _ c.read_count.ensures.read.took c.read_list.ensures.read.took (omega arith)

pub returns-in_err-read_end-clause-took : goal.returns-in_err-read_end-clause-took
returns-in_err-read_end-clause-took g c =
    took_more (8 + 48 * 65536 + 2 ^ 30) 1 _ _ _ _ (took_more 8 (48 * 65536 + 2 ^ 30) (8 + 48 * 65536 + 2 ^ 30) _ _ _ c.read_count.ensures.read.took c.read_list.ensures.read.took (omega arith)) c.read_end.ensures.took (omega arith)

pub returns-clause-took : goal.returns-clause-took
returns-clause-took g c =
    took_more (8 + 48 * 65536 + 2 ^ 30) 1 _ _ _ _ (took_more 8 (48 * 65536 + 2 ^ 30) (8 + 48 * 65536 + 2 ^ 30) _ _ _ c.read_count.ensures.read.took c.read_list.ensures.read.took (omega arith)) c.read_end.ensures.took (omega arith)

pub invariant_of-result : goal.invariant_of-result
invariant_of-result g c =
    are_writes c.args.scale.now c.in_ok-items.items.items c.in_ok-count.count (omega (arith, c.in_ok-items.ensures.fit.len, length-map c.in_ok-items.items.items write_in)) c.in_ok-count.ensures.small c.in_ok-items.ensures.fit.small c.in_ok-items.ensures.fit.fit c.in_ok-items.ensures.fit.bytes
