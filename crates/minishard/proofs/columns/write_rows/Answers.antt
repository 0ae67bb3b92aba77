use Rattle.std.proofs.Common.{ap, ◌∙◌}
use Rattle.vol_spec.specs.Rows.{columns_of, find_in, judged_row}
use Rattle.vol_spec.specs.declared.row.Row.{Row}
use Rattle.minishard.proofs.ReadBack.{row_back, found_back, absent_back}
use Rattle.minishard.proofs.columns.write_rows.Goals as goal

pub returns-clause-rows : goal.returns-clause-rows
returns-clause-rows c = λ r row is. ap (λ xs. judged_row (columns_of xs) r) c.write_columns.ensures.bytes ∙ row_back c.args.rows.now c.requires.rows c.write_columns.ensures.ids r row is

pub returns-clause-found : goal.returns-clause-found
returns-clause-found c = λ r (row : Row) is. ap (λ xs. find_in (columns_of xs) row.id) c.write_columns.ensures.bytes ∙ found_back c.args.rows.now c.requires.rows c.write_columns.ensures.ids r row is

pub returns-clause-absent : goal.returns-clause-absent
returns-clause-absent c = λ id other. ap (λ xs. find_in (columns_of xs) id) c.write_columns.ensures.bytes ∙ absent_back c.args.rows.now c.requires.rows c.write_columns.ensures.ids id other
