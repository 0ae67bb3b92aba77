use Rattle.std.proofs.Common.{◌≡◌, ◌≤◌, ◌+◌, ◌++◌, ◌^◌, length, take, ap, arith, sym, subst, ◌∙◌}
use Rattle.vol_spec.proofs.Told.{from_told, in_told}
use Rattle.command_base.specs.Scales.{judged_info, ReadsScale, stored_scale}
use Rattle.info_doc.specs.Info.{scale_in}
use Rattle.command_base.proofs.Choices.{err_is}
use Rattle.command_base.proofs.InfoSteps.{failed_info, front_of, judged_cause, long_info}
use Rattle.command_base.proofs.info.read_on.Goals as goal

pub returns-in_err-more-clause-read : goal.returns-in_err-more-clause-read
returns-in_err-more-clause-read g c =
    in_told _ _ (λ m told.
    subst (λ r. ReadsScale r (stored_scale m c.args.dataset.now c.args.key.now))
    (sym (err_is c.from_residual-in_err-more.result c.in_err-more.field-0.0 c.from_residual-in_err-more.ensures.1))
    (failed_info m c.args.dataset.now c.args.key.now _ _ _ c.in_err-more.field-0.0 (from_told _ _ m told c.in_err-more.ensures.read)))

pub returns-clause-read : goal.returns-clause-read
returns-clause-read g c =
    in_told _ _ (λ m told.
    long_info m c.args.dataset.now c.args.key.now c.args.document.items _ _ 65536 c.in_ok-more.more c.judge_info.result c.requires.front
    (omega (arith, ap length c.deref_mut.ensures.value, c.in_ok-rest.ensures)) (from_told _ _ m told c.requires.begun) (from_told _ _ m told c.in_ok-more.ensures.read)
    (subst (λ xs. ReadsScale c.judge_info.result (judged_info (scale_in xs c.args.key.now)))
    (c.deref-2.ensures.value ∙ c.in_ok-extend_from_slice.ensures.items
    ∙ ap (λ xs. c.args.document.items ++ xs) (ap (take c.in_ok-more.more) c.deref.ensures.value ∙ front_of c.in_ok-more.more _ c.read_piece.new.piece _ (omega (arith, c.deref_mut.ensures.len, c.in_ok-more.ensures.few)) (omega (arith, c.read_piece.auto.piece, c.in_ok-more.ensures.few))))
    c.judge_info.ensures.judged))

pub returns-clause-reads : goal.returns-clause-reads
returns-clause-reads g c = record {
  kept = c.read_piece.ensures.reads.kept;
  history = c.read_piece.ensures.reads.history;
  cause = judged_cause c.judge_info.result c.in_ok-more.more _ _ c.judge_info.ensures.unasked c.in_ok-more.ensures.reads.cause;
}
