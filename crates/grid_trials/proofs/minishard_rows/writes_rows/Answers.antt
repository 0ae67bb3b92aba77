use Rattle.std.proofs.Common.{arith, ap}
use Rattle.vol_spec.specs.declared.row.Row.{Row}
use Rattle.grid_trials.proofs.FewRows.{one_row, two_rows}
use Rattle.grid_trials.proofs.minishard_rows.writes_rows.Goals as goal

pub write_rows-requires-clause-rows : goal.write_rows-requires-clause-rows
write_rows-requires-clause-rows g c =
    let a = c.row.ensures in
    let b = c.row-2.ensures in
    let a_id = ap (λ (row : Row). row.id) a in
    let a_start = ap (λ (row : Row). row.start) a in
    let a_size = ap (λ (row : Row). row.size) a in
    let b_id = ap (λ (row : Row). row.id) b in
    let b_start = ap (λ (row : Row). row.start) b in
    let b_size = ap (λ (row : Row). row.size) b in
    two_rows c.row.result c.row-2.result (omega arith) (omega arith) (omega arith)

pub write_rows-requires-2-clause-rows : goal.write_rows-requires-2-clause-rows
write_rows-requires-2-clause-rows g c =
    let a_start = ap (λ (row : Row). row.start) c.row-3.ensures in
    let a_size = ap (λ (row : Row). row.size) c.row-3.ensures in
    one_row c.row-3.result (omega arith)
