use Rattle.std.proofs.Common.{◌∙◌, sym}
use Rattle.range_server.proofs.NumberSteps.{number_some, both_ends, first_alone, last_alone, neither}
use Rattle.range_server.proofs.range.answer_ends.Goals as goal

pub is_less-requires-clause-x : goal.is_less-requires-clause-x
is_less-requires-clause-x c = (number_some c.args.last.now c.in-Some-Some.b (sym c.read_count-2.ensures ∙ c.in-Some-Some.is-1)).2

pub is_less-requires-clause-y : goal.is_less-requires-clause-y
is_less-requires-clause-y c = (number_some c.args.first.now c.in-Some-Some.a (sym c.read_count.ensures ∙ c.in-Some-Some.is-0)).2

pub returns-in-Some-Some : goal.returns-in-Some-Some
returns-in-Some-Some c =
    both_ends c.args.len c.args.first.now c.args.last.now c.answer_between.result c.in-Some-Some.a c.in-Some-Some.b c.is_less.result
    (sym c.read_count.ensures ∙ c.in-Some-Some.is-0) (sym c.read_count-2.ensures ∙ c.in-Some-Some.is-1) c.is_less.ensures c.answer_between.ensures

pub returns-in-Some-None : goal.returns-in-Some-None
returns-in-Some-None c =
    first_alone c.args.len c.args.first.now c.args.last.now c.answer_onward.result c.in-Some-None.a c.is_empty.result
    (sym c.read_count.ensures ∙ c.in-Some-None.is-0) (sym c.read_count-2.ensures ∙ c.in-Some-None.is-1) c.is_empty.ensures c.answer_onward.ensures

pub returns-in-None-Some : goal.returns-in-None-Some
returns-in-None-Some c =
    last_alone c.args.len c.args.first.now c.args.last.now c.answer_end.result c.in-None-Some.n c.is_empty-in-None-Some.result
    (sym c.read_count.ensures ∙ c.in-None-Some.is-0) (sym c.read_count-2.ensures ∙ c.in-None-Some.is-1) c.is_empty-in-None-Some.ensures c.answer_end.ensures

pub returns-in-None-None : goal.returns-in-None-None
returns-in-None-None c =
    neither c.args.len c.args.first.now c.args.last.now (sym c.read_count.ensures ∙ c.in-None-None.is-0) (sym c.read_count-2.ensures ∙ c.in-None-None.is-1)
