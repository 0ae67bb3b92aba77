use Rattle.std.proofs.Common.{◌≡◌, ◌∙◌, ◌+◌, ◌-◌, ◌*◌, ◌^◌, ◌++◌, ◌∷◌, [], length, ap, sym, subst, arith}
use Rattle.std.specs.List.{All}
use Rattle.std.specs.Option.{option_map}
use Rattle.std.proofs.lemmas.Grind.{common_steps}
use Rattle.std.proofs.lemmas.List.{length-map}
use Rattle.std.proofs.lemmas.List.Elements.{All-push}
use Rattle.std.proofs.lemmas.Result.{err_from_is_err_and}
use Rattle.vol_base.specs.Bytes.{AreBytes}
use Rattle.write_plan.specs.Reading.{writes_at}
use Rattle.write_plan.specs.WriteLists.{BoxWrite, IsWriteOf, write_in, writes_in, total}
use Rattle.write_plan.proofs.FeedSteps.{read_given, read_no_memory, read_on, took_more}
use Rattle.write_plan.proofs.ListSteps.{list_more, list_stopped, list_done, total_last, writes_last}
use Rattle.write_plan.proofs.stream.read_list.Goals as goal

pub loop-number-preserved : goal.loop-number-preserved
loop-number-preserved g c =
    let s = c.args.scale.now in
    let inv = c.loop-number.invariant in
    let i : c.push.new.self.items ≡ c.loop-number.writes.items ++ c.in_ok-write.write ∷ [] = c.in_ok-push.ensures.items in
    let e : writes_in c.push.new.self.items ≡ writes_in c.loop-number.writes.items ++ write_in c.in_ok-write.write ∷ [] = ap writes_in i ∙ writes_last c.loop-number.writes.items c.in_ok-write.write in
    let t : total (writes_in c.push.new.self.items) ≡ total (writes_in c.loop-number.writes.items) + length c.in_ok-write.write.bytes.items = ap total e ∙ total_last (writes_in c.loop-number.writes.items) (write_in c.in_ok-write.write) in
    record {
      steps = list_more s c.args.count c.loop-number.number c.loop-number.before (writes_in c.loop-number.writes.items) (write_in c.in_ok-write.write) _ _ _ inv.steps c.loop-number-test.true (inv.len ∙ sym (length-map c.loop-number.writes.items write_in)) inv.sum c.in_ok-write.ensures.read.answer
          ∙ ap (λ ws. option_map (writes_at s (c.args.count - (c.loop-number.number + 1)) ws) (g.F.Feed.left c.read_write.new.feed)) (sym e);
      len = rw i (grind (arith, common_steps, inv.len));
      sum = omega (arith, c.len.ensures, inv.sum, t);
      small = omega (arith, c.in_ok-write.ensures.fits.room, c.len.ensures);
      fits = subst (All (IsWriteOf s)) (sym e) (All-push (IsWriteOf s) (writes_in c.loop-number.writes.items) (write_in c.in_ok-write.write) inv.fits c.in_ok-write.ensures.fits.fits);
      bytes = subst (All (λ (w : BoxWrite). AreBytes w.1)) (sym e) (All-push (λ (w : BoxWrite). AreBytes w.1) (writes_in c.loop-number.writes.items) (write_in c.in_ok-write.write) inv.bytes c.in_ok-write.ensures.fits.bytes);
      took = took_more (48 * c.loop-number.number + c.loop-number.before) (48 + length c.in_ok-write.write.bytes.items) _ _ _ _ inv.took c.in_ok-write.ensures.read.took (omega (arith, c.len.ensures));
      later = omega (arith, inv.later, c.in_ok-write.ensures.read.cause.stands);
    }

pub returns-in_err-write-clause-read : goal.returns-in_err-write-clause-read
returns-in_err-write-clause-read g c =
    let p = err_from_is_err_and c.from_residual.result c.from_residual.ensures.1 in
    let inv = c.loop-number.invariant in
    rw (p.1, p.2)
    (read_on g.F.Feed.left g.F.Feed.faults _ _ _ (48 * c.loop-number.number + c.loop-number.before) (48 + (2 ^ 30 - c.loop-number.before)) _ _ (writes_at c.args.scale.now (c.args.count - c.loop-number.number) (writes_in c.loop-number.writes.items)) _ _ inv.steps inv.took inv.later
    (list_stopped write_in _ g.F.Feed.left g.F.Feed.faults _ _ _ _ c.args.scale.now c.args.count c.loop-number.number c.loop-number.before (writes_in c.loop-number.writes.items) _ c.loop-number-test.true
    (inv.len ∙ sym (length-map c.loop-number.writes.items write_in)) inv.sum c.in_err-write.ensures.read (omega arith))
    (omega (arith, c.loop-number-test.true, inv.small, c.requires)))

pub returns-in_err-push-clause-read : goal.returns-in_err-push-clause-read
returns-in_err-push-clause-read g c =
    let p = err_from_is_err_and c.from_residual-in_err-push.result c.from_residual-in_err-push.ensures.1 in
    let inv = c.loop-number.invariant in
    rw (p.1, p.2)
    (read_no_memory g.F.Feed.left g.F.Feed.faults _ _ _ _ _
    (took_more (48 * c.loop-number.number + c.loop-number.before) (48 + length c.in_ok-write.write.bytes.items) _ _ _ _ inv.took c.in_ok-write.ensures.read.took
    (omega (arith, c.loop-number-test.true, c.in_ok-write.ensures.fits.room, c.requires)))
    (omega (arith, inv.later, c.in_ok-write.ensures.read.cause.stands)))

pub returns-clause-read : goal.returns-clause-read
returns-clause-read g c =
    let inv = c.loop-number.invariant in
    read_on g.F.Feed.left g.F.Feed.faults _ _ _ (48 * c.loop-number.number + c.loop-number.before) 0 _ _ (writes_at c.args.scale.now (c.args.count - c.loop-number.number) (writes_in c.loop-number.writes.items)) _ _ inv.steps inv.took inv.later
    (read_given g.F.Feed.left g.F.Feed.faults _ 0 _ _ _ (λ rest. list_done c.args.scale.now c.args.count c.loop-number.number (writes_in c.loop-number.writes.items) rest (omega (arith, c.loop-number-test.false, c.loop-number.auto.number-end))))
    (omega (arith, inv.small, c.loop-number.auto.number-end, c.requires))

pub returns-clause-fit : goal.returns-clause-fit
returns-clause-fit g c =
    let inv = c.loop-number.invariant in
    record {
      fit = inv.fits;
      bytes = inv.bytes;
      small = omega (arith, inv.small, inv.sum);
      len = omega (arith, length-map c.loop-number.writes.items write_in, inv.len, c.loop-number-test.false, c.loop-number.auto.number-end);
    }
