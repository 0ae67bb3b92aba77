use Rattle.std.proofs.Common.{◌≡◌, arith, ap, ◌∙◌, sym, Ok, Err}
use Rattle.vol_spec.specs.Rows.{columns_of, judged_row}
use Rattle.minishard.proofs.Steps.{columns_rows, stops_ok, stops_err, chosen_row, other_row, found_none}
use Rattle.minishard.proofs.index.find.Goals as goal

pub returns : goal.returns
returns c = sym (found_none (columns_of c.args.index.now) c.args.id c.loop-row.row (omega (arith, columns_rows c.args.index.now)) c.loop-row.invariant.before)

pub returns-in-Err : goal.returns-in-Err
returns-in-Err c =
    let judged : judged_row (columns_of c.args.index.now) c.loop-row.row ≡ Err c.in-Err.fault =
    sym c.next_of.ensures.judged ∙ c.in-Err.is in
    sym (stops_err (columns_of c.args.index.now) c.args.id c.loop-row.row c.in-Err.fault (omega (arith, columns_rows c.args.index.now)) c.loop-row.invariant.before judged)

pub returns-then-found-id-2 : goal.returns-then-found-id-2
returns-then-found-id-2 c =
    let judged : judged_row (columns_of c.args.index.now) c.loop-row.row ≡ Ok c.in-Ok.found =
    sym c.next_of.ensures.judged ∙ c.in-Ok.is in
    sym (stops_ok (columns_of c.args.index.now) c.args.id c.loop-row.row c.in-Ok.found (omega (arith, columns_rows c.args.index.now)) c.loop-row.invariant.before judged c.if-found-id.true
    ∙ ap Ok (chosen_row c.in-Ok.found c.args.id c.if-found-id-2.true))

pub returns-else-found-id-2 : goal.returns-else-found-id-2
returns-else-found-id-2 c =
    let judged : judged_row (columns_of c.args.index.now) c.loop-row.row ≡ Ok c.in-Ok.found =
    sym c.next_of.ensures.judged ∙ c.in-Ok.is in
    sym (stops_ok (columns_of c.args.index.now) c.args.id c.loop-row.row c.in-Ok.found (omega (arith, columns_rows c.args.index.now)) c.loop-row.invariant.before judged c.if-found-id.true
    ∙ ap Ok (other_row c.in-Ok.found c.args.id c.if-found-id-2.false))
