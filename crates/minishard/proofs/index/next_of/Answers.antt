use Rattle.std.proofs.Common.{◌/◌, length, arith, ap, ◌∙◌, refl}
use Rattle.vol_spec.specs.Rows.{columns_of, number_at, judged_row}
use Rattle.minishard.proofs.Steps.{stored_here, on_ok}
use Rattle.minishard.proofs.index.next_of.Goals as goal

pub returns-clause-judged : goal.returns-clause-judged
returns-clause-judged c =
    c.next_row.ensures.judged (columns_of c.args.index.now) c.requires.walked (stored_here c.args.index.now (length c.args.index.now / 24) c.args.row _ _ _ _ refl c.requires.more c.requires.here
    (c.read_number-id.ensures ∙ ap (number_at c.args.index.now) (omega arith)) (c.read_number-start.ensures ∙ ap (number_at c.args.index.now) (omega arith)) (c.read_number-size.ensures ∙ ap (number_at c.args.index.now) (omega arith)))
    ∙ ap (judged_row (columns_of c.args.index.now)) c.requires.here

pub returns-clause-walked : goal.returns-clause-walked
returns-clause-walked c =
    on_ok c.next_row.result c.next_row.ensures.walked (λ f. f (columns_of c.args.index.now) c.requires.walked (stored_here c.args.index.now (length c.args.index.now / 24) c.args.row _ _ _ _ refl c.requires.more c.requires.here
    (c.read_number-id.ensures ∙ ap (number_at c.args.index.now) (omega arith)) (c.read_number-start.ensures ∙ ap (number_at c.args.index.now) (omega arith)) (c.read_number-size.ensures ∙ ap (number_at c.args.index.now) (omega arith))))
