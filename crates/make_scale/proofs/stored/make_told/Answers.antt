use Rattle.std.proofs.Common.{Err, Ok, refl, rules}
use Rattle.vol_spec.proofs.Told.{in_told}
use Rattle.command_base.proofs.Choices.{err_is}
use Rattle.make_scale.proofs.StoredSteps.{refused_kept, told_of}
use Rattle.make_scale.specs.declared.refusal.MakeRefusal.TheVariants.{Unmade}
use Rattle.make_scale.proofs.stored.make_told.Goals as goal

pub returns-clause-makes : goal.returns-clause-makes
returns-clause-makes g c =
    told_of (g.M.Making.differs c.args.making.now c.args.from.now.scale c.args.to.now.scale) (g.M.Making.fits c.args.making.now c.args.from.now.scale c.args.to.now.scale) (λ m. g.M.Making.says c.args.making.now m (g.S.Source.objects c.make_scale.new.store) c.args.from.now.dataset c.args.from.now.scale c.args.to.now.dataset c.args.to.now.scale)
    (g.S.Source.objects c.args.store.now) (g.S.Source.objects c.make_scale.new.store) c.args.to.now.dataset c.args.from.now.scale c.args.to.now.scale (Ok c.in_ok-written.written) (Ok c.in_ok-written.written) refl (c.requires.writable, c.requires.one)
    c.in_ok-written.ensures.judges c.in_ok-written.ensures.makes

pub returns-in_err-written-clause-makes : goal.returns-in_err-written-clause-makes
returns-in_err-written-clause-makes g c =
    let is = err_is c.from_residual.result (Unmade c.in_err-written.field-0.0) c.from_residual.ensures.1 in
    told_of (g.M.Making.differs c.args.making.now c.args.from.now.scale c.args.to.now.scale) (g.M.Making.fits c.args.making.now c.args.from.now.scale c.args.to.now.scale) (λ m. g.M.Making.says c.args.making.now m (g.S.Source.objects c.make_scale.new.store) c.args.from.now.dataset c.args.from.now.scale c.args.to.now.dataset c.args.to.now.scale)
    (g.S.Source.objects c.args.store.now) (g.S.Source.objects c.make_scale.new.store) c.args.to.now.dataset c.args.from.now.scale c.args.to.now.scale (Err c.in_err-written.field-0.0) c.from_residual.result is (c.requires.writable, c.requires.one)
    c.in_err-written.ensures.judges c.in_err-written.ensures.makes

pub returns-clause-leaves : goal.returns-clause-leaves
returns-clause-leaves g c = record {
  kept = tt;
  draft = c.in_ok-written.ensures.draft;
  begun = c.make_scale.ensures.begun;
  unsharded = in_told (g.S.Source.objects c.args.store.now) _ (λ m told. c.make_scale.ensures.unsharded);
  killed = c.make_scale.ensures.killed;
  cause = search rules;
}

pub returns-in_err-written-clause-leaves : goal.returns-in_err-written-clause-leaves
returns-in_err-written-clause-leaves g c =
    let is = err_is c.from_residual.result (Unmade c.in_err-written.field-0.0) c.from_residual.ensures.1 in
    record {
      kept = refused_kept c.from_residual.result c.in_err-written.field-0.0 (g.S.Source.objects c.args.store.now) (g.S.Source.objects c.make_scale.new.store) (g.S.Source.draft c.args.store.now) (g.S.Source.draft c.make_scale.new.store) is c.in_err-written.ensures.kept;
      draft = search rules;
      begun = c.make_scale.ensures.begun;
      unsharded = in_told (g.S.Source.objects c.args.store.now) _ (λ m told. c.make_scale.ensures.unsharded);
      killed = c.make_scale.ensures.killed;
      cause = search rules;
    }
