use Rattle.command_base.proofs.Choices.{err_is}
use Rattle.command_base.proofs.StoredSteps.{of_stored}
use Rattle.make_scale.specs.Refusals.{unsourced as without}
use Rattle.std.proofs.Common.{IfSome, Ok, refl, rules, subst, sym}
use Rattle.vol_spec.proofs.Told.{from_told, in_told}
use Rattle.command_base.specs.Scales.{stored_scale}
use Rattle.make_scale.proofs.StoredSteps.{leaves_kept, leaves_read, source_made, source_missing}
use Rattle.make_scale.specs.Stored.{MakeLeaves, MakesStored, told_making}
use Rattle.make_scale.proofs.stored.make_stored.Goals as goal

pub make_into-requires-clause-suits : goal.make_into-requires-clause-suits
make_into-requires-clause-suits g c κs within = subst (λ d. g.M.Making.suits c.args.making.now d c.args.to_dataset.now) (sym c.of-from.ensures.dataset) c.requires.suits

pub returns-clause-makes : goal.returns-clause-makes
returns-clause-makes g c =
    source_made (λ m from to. told_making (g.M.Making.differs c.args.making.now from to) (g.M.Making.fits c.args.making.now from to) (g.M.Making.says c.args.making.now m (g.S.Source.objects c.make_into.new.store) c.args.from_dataset.now from c.args.to_dataset.now to) m from c.args.to_dataset.now to) (g.S.Source.objects c.args.store.now) (g.S.Source.objects c.make_into.new.store) c.args.to_dataset.now c.make_into.result (g.S.Source.objects c.read_scale.new.store) c.args.from_dataset.now c.args.from_key.now
    c.args.to_key.now c.in_ok-scale.scale c.read_scale.ensures.reads.kept.same_objects c.in_ok-scale.ensures.read
    (of_stored
    (λ d s. IfSome (g.S.Source.objects c.read_scale.new.store) (λ m. MakesStored (λ from to. told_making (g.M.Making.differs c.args.making.now from to) (g.M.Making.fits c.args.making.now from to) (g.M.Making.says c.args.making.now m (g.S.Source.objects c.make_into.new.store) d from c.args.to_dataset.now to) m from c.args.to_dataset.now to) c.make_into.result (Ok s) (stored_scale m c.args.to_dataset.now c.args.to_key.now) m (g.S.Source.objects c.make_into.new.store) c.args.to_dataset.now))
    c.of-from.result.dataset c.args.from_dataset.now c.of-from.result.scale c.in_ok-scale.scale c.of-from.ensures.dataset c.of-from.ensures.scale c.make_into.ensures.makes)

pub returns-in_err-scale-clause-makes : goal.returns-in_err-scale-clause-makes
returns-in_err-scale-clause-makes g c =
    let is = err_is c.from_residual.result (without c.in_err-scale.field-0.0) c.from_residual.ensures.1 in
    source_missing (λ m from to. told_making (g.M.Making.differs c.args.making.now from to) (g.M.Making.fits c.args.making.now from to) (g.M.Making.says c.args.making.now m (g.S.Source.objects c.read_scale.new.store) c.args.from_dataset.now from c.args.to_dataset.now to) m from c.args.to_dataset.now to) (g.S.Source.objects c.args.store.now) (g.S.Source.objects c.read_scale.new.store) c.args.to_dataset.now c.from_residual.result c.in_err-scale.field-0.0 c.args.from_dataset.now c.args.from_key.now c.args.to_key.now
    is c.read_scale.ensures.reads.kept.same_objects c.in_err-scale.ensures.read

pub returns-clause-leaves : goal.returns-clause-leaves
returns-clause-leaves g c =
    leaves_read g.S.Source (λ m from to. g.M.Making.due c.args.making.now m c.args.from_dataset.now from c.args.to_dataset.now to) c.make_into.new.store c.make_into.result
    (λ m. stored_scale m c.args.from_dataset.now c.args.from_key.now) (λ m. stored_scale m c.args.to_dataset.now c.args.to_key.now) (λ m. Ok c.in_ok-scale.scale) (λ m. stored_scale m c.args.to_dataset.now c.args.to_key.now)
    c.args.store.now c.read_scale.new.store c.read_scale.ensures.reads.kept.same_objects c.read_scale.ensures.reads.kept.same_draft c.read_scale.ensures.reads.history c.in_ok-scale.ensures.reads.cause.stands
    (in_told (g.S.Source.objects c.args.store.now) _ (λ m told. (from_told _ _ m told c.in_ok-scale.ensures.read, refl)))
    (of_stored
    (λ d s. MakeLeaves g.S.Source (λ m. Ok s) (λ m. stored_scale m c.args.to_dataset.now c.args.to_key.now) (λ m from to. g.M.Making.due c.args.making.now m d from c.args.to_dataset.now to) c.read_scale.new.store c.make_into.new.store c.make_into.result)
    c.of-from.result.dataset c.args.from_dataset.now c.of-from.result.scale c.in_ok-scale.scale c.of-from.ensures.dataset c.of-from.ensures.scale c.make_into.ensures.leaves)

pub returns-in_err-scale-clause-leaves : goal.returns-in_err-scale-clause-leaves
returns-in_err-scale-clause-leaves g c =
    leaves_kept g.S.Source (λ m from to. g.M.Making.due c.args.making.now m c.args.from_dataset.now from c.args.to_dataset.now to) c.read_scale.new.store c.from_residual.result
    (λ m. stored_scale m c.args.from_dataset.now c.args.from_key.now) (λ m. stored_scale m c.args.to_dataset.now c.args.to_key.now) c.args.store.now c.read_scale.ensures.reads.kept c.read_scale.ensures.reads.history (search rules)
