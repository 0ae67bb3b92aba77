use Rattle.std.proofs.Common.{◌≡◌, ◌∙◌, Err, inl, inr, refl}
use Rattle.vol_spec.proofs.Told.{from_told}
use Rattle.command_base.specs.Scales.{stored_scale}
use Rattle.command_base.specs.declared.status.Status.TheVariants.{NoMemory}
use Rattle.generate_cmd.proofs.EndSteps.{memory_alone}
use Rattle.generate_cmd.specs.Generating.{drawn}
use Rattle.generate_cmd.specs.Refusals.{generate_status}
use Rattle.generate_cmd.proofs.generate.run_generate.Goals as goal

pub returns-in-Err-clause-generated : goal.returns-in-Err-clause-generated
returns-in-Err-clause-generated g c = (
  Err c.in-Err.refusal,
  record { generates = c.in-Err.ensures.generates; comes = c.in-Err.ensures.refused; same = λ none. (c.in-Err.ensures.leaves.kept none).same_objects },
  (refl, c.report.ensures.told),
)

pub returns-in-Err-clause-complete : goal.returns-in-Err-clause-complete
returns-in-Err-clause-complete g c m told can store out =
    let none : generate_status c.in-Err.refusal ≡ NoMemory =
    memory_alone c.in-Err.refusal (stored_scale m c.args.dataset.now c.args.key.now) m (g.S.Source.objects c.generate_objects.new.store) (drawn c.args.number c.args.count) c.args.dataset.now c.args.key.now can
    (λ e. store (c.in-Err.ensures.leaves.cause.failed e)) (from_told (g.S.Source.objects c.args.store.now) _ m told c.in-Err.ensures.generates) in
    elim c.report.ensures.told [ inl h ↦ inr (h.0 ∙ none) | inr h ↦ inr h.0 ]
