use Rattle.std.proofs.Common.{◌≡◌, Err, IfSome, Ok, refl, rules, subst, sym}
use Rattle.vol_spec.proofs.Told.{from_told, in_told}
use Rattle.vol_spec.specs.Writable.{IsWritable}
use Rattle.command_base.proofs.StoredSteps.{of_stored}
use Rattle.command_base.specs.Scales.{HasOneSize, stored_scale}
use Rattle.make_scale.proofs.StoredSteps.{leaves_kept, leaves_read, target_made, target_missing}
use Rattle.make_scale.specs.Stored.{MakeLeaves, MakesScale, told_making}
use Rattle.make_scale.proofs.stored.make_into.Goals as goal

pub make_told-requires-clause-suits : goal.make_told-requires-clause-suits
make_told-requires-clause-suits g c κs within = subst (λ d. g.M.Making.suits c.args.making.now c.args.from.now.dataset d) (sym c.of-to.ensures.dataset) c.requires.suits

pub make_told-requires-clause-writable : goal.make_told-requires-clause-writable
make_told-requires-clause-writable g c κs within = subst IsWritable (sym c.of-to.ensures.scale) c.in_ok-scale.ensures.writable

pub make_told-requires-clause-one : goal.make_told-requires-clause-one
make_told-requires-clause-one g c κs within = subst HasOneSize (sym c.of-to.ensures.scale) c.in_ok-scale.ensures.one

pub returns-clause-makes : goal.returns-clause-makes
returns-clause-makes g c =
    target_made (λ m from to. told_making (g.M.Making.differs c.args.making.now from to) (g.M.Making.fits c.args.making.now from to) (g.M.Making.says c.args.making.now m (g.S.Source.objects c.make_told.new.store) c.args.from.now.dataset from c.args.to_dataset.now to) m from c.args.to_dataset.now to) (g.S.Source.objects c.args.store.now) (g.S.Source.objects c.make_told.new.store) c.args.to_dataset.now c.make_told.result (g.S.Source.objects c.read_target.new.store) c.args.to_key.now
    c.args.from.now.scale c.in_ok-scale.scale c.read_target.ensures.reads.kept.same_objects c.in_ok-scale.ensures.read
    (of_stored
    (λ d s. IfSome (g.S.Source.objects c.read_target.new.store) (λ m. MakesScale (told_making (g.M.Making.differs c.args.making.now c.args.from.now.scale s) (g.M.Making.fits c.args.making.now c.args.from.now.scale s) (g.M.Making.says c.args.making.now m (g.S.Source.objects c.make_told.new.store) c.args.from.now.dataset c.args.from.now.scale d s) m c.args.from.now.scale d s) c.make_told.result m (g.S.Source.objects c.make_told.new.store) d c.args.from.now.scale s))
    c.of-to.result.dataset c.args.to_dataset.now c.of-to.result.scale c.in_ok-scale.scale c.of-to.ensures.dataset c.of-to.ensures.scale c.make_told.ensures.makes)

pub returns-in_err-scale-clause-makes : goal.returns-in_err-scale-clause-makes
returns-in_err-scale-clause-makes g c =
    let is : c.from_residual.result ≡ Err c.in_err-scale.field-0.0 = search rules in
    target_missing (λ m from to. told_making (g.M.Making.differs c.args.making.now from to) (g.M.Making.fits c.args.making.now from to) (g.M.Making.says c.args.making.now m (g.S.Source.objects c.read_target.new.store) c.args.from.now.dataset from c.args.to_dataset.now to) m from c.args.to_dataset.now to) (g.S.Source.objects c.args.store.now) (g.S.Source.objects c.read_target.new.store) c.args.to_dataset.now c.from_residual.result c.in_err-scale.field-0.0 c.args.to_key.now c.args.from.now.scale
    is c.read_target.ensures.reads.kept.same_objects c.in_err-scale.ensures.read

pub returns-clause-leaves : goal.returns-clause-leaves
returns-clause-leaves g c =
    leaves_read g.S.Source (λ m from to. g.M.Making.due c.args.making.now m c.args.from.now.dataset from c.args.to_dataset.now to) c.make_told.new.store c.make_told.result
    (λ m. Ok c.args.from.now.scale) (λ m. stored_scale m c.args.to_dataset.now c.args.to_key.now) (λ m. Ok c.args.from.now.scale) (λ m. Ok c.in_ok-scale.scale) c.args.store.now c.read_target.new.store
    c.read_target.ensures.reads.kept.same_objects c.read_target.ensures.reads.kept.same_draft c.read_target.ensures.reads.history c.in_ok-scale.ensures.reads.cause.stands
    (in_told (g.S.Source.objects c.args.store.now) _ (λ m told. (refl, (from_told _ _ m told c.in_ok-scale.ensures.read).0)))
    (of_stored
    (λ d s. MakeLeaves g.S.Source (λ m. Ok c.args.from.now.scale) (λ m. Ok s) (λ m from to. g.M.Making.due c.args.making.now m c.args.from.now.dataset from d to) c.read_target.new.store c.make_told.new.store c.make_told.result)
    c.of-to.result.dataset c.args.to_dataset.now c.of-to.result.scale c.in_ok-scale.scale c.of-to.ensures.dataset c.of-to.ensures.scale c.make_told.ensures.leaves)

pub returns-in_err-scale-clause-leaves : goal.returns-in_err-scale-clause-leaves
returns-in_err-scale-clause-leaves g c =
    leaves_kept g.S.Source (λ m from to. g.M.Making.due c.args.making.now m c.args.from.now.dataset from c.args.to_dataset.now to) c.read_target.new.store c.from_residual.result
    (λ m. Ok c.args.from.now.scale) (λ m. stored_scale m c.args.to_dataset.now c.args.to_key.now) c.args.store.now c.read_target.ensures.reads.kept c.read_target.ensures.reads.history (search rules)
