use Rattle.std.proofs.Common.{◌≡◌, ◌≤◌, ◌+◌, ◌^◌, length, take, ap, arith, sym, subst, ◌∙◌}
use Rattle.info_doc.specs.Info.{scale_in}
use Rattle.vol_spec.proofs.Told.{from_told, in_told}
use Rattle.command_base.specs.Scales.{judged_info, ReadsScale, stored_scale}
use Rattle.command_base.proofs.Choices.{err_is}
use Rattle.command_base.proofs.InfoSteps.{failed_info, front_of, short_info}
use Rattle.command_base.proofs.info.read_scale.Goals as goal

pub returns-in_err-len-clause-read : goal.returns-in_err-len-clause-read
returns-in_err-len-clause-read g c =
    in_told _ _ (λ m told.
    subst (λ r. ReadsScale r (stored_scale m c.args.dataset.now c.args.key.now))
    (sym (err_is c.from_residual-in_err-len.result c.in_err-len.field-0.0 c.from_residual-in_err-len.ensures.1))
    (failed_info m c.args.dataset.now c.args.key.now _ _ _ c.in_err-len.field-0.0 (from_told _ _ m told c.in_err-len.ensures.read)))

pub returns-then-len-lt-FRONT-clause-read : goal.returns-then-len-lt-FRONT-clause-read
returns-then-len-lt-FRONT-clause-read g c =
    in_told _ _ (λ m told.
    short_info m c.args.dataset.now c.args.key.now _ _ c.in_ok-len.len c.judge_info.result
    (omega (arith, c.if-len-lt-FRONT.true, ap length c.deref_mut.ensures.value, c.in_ok-front.ensures)) (from_told _ _ m told c.in_ok-len.ensures.read)
    (subst (λ xs. ReadsScale c.judge_info.result (judged_info (scale_in xs c.args.key.now)))
    (ap (take c.in_ok-len.len) c.deref.ensures.value ∙ front_of c.in_ok-len.len _ c.read_piece.new.piece _ (omega (arith, c.deref_mut.ensures.len, c.in_ok-len.ensures.few)) (omega (arith, c.read_piece.auto.piece, c.in_ok-len.ensures.few)))
    c.judge_info.ensures.judged))
