use Rattle.std.proofs.Common.{◌≤◌, ◌^◌, refl, sym, subst}
use Rattle.std.specs.Prelude.{All}
use Rattle.vol_base.specs.Grids.{AreSizes}
use Rattle.vol_spec.specs.Limits.{FitsChunk, first_bytes}
use Rattle.vol_spec.specs.Views.{no_more}
use Rattle.vol_spec.specs.declared.encoding.Encoding.TheVariants.{Raw}
use Rattle.vol_spec.proofs.SameScale.{same_scale}
use Rattle.view_judge.specs.Regions.{own_fits, own_regions}
use Rattle.view_judge.proofs.regions.find_own_regions.Goals as goal

pub invariant_of-result-clause-chunk_ok : goal.invariant_of-result-clause-chunk_ok
invariant_of-result-clause-chunk_ok c = subst AreSizes (sym c.own_size.ensures) (own_fits c.args.first.now c.args.view.now).0

pub invariant_of-result-clause-first_ok : goal.invariant_of-result-clause-first_ok
invariant_of-result-clause-first_ok c =
    subst (λ chunk. first_bytes c.args.view.now.width c.args.view.now.channels c.args.view.now.size chunk ≤ 2 ^ 27) (sym c.own_size.ensures) (own_fits c.args.first.now c.args.view.now).1

pub invariant_of-result-clause-more_ok : goal.invariant_of-result-clause-more_ok
invariant_of-result-clause-more_ok c =
    subst (All (FitsChunk c.args.view.now.width c.args.view.now.channels c.args.view.now.size Raw)) (sym c.none.ensures) (no_more (FitsChunk c.args.view.now.width c.args.view.now.channels c.args.view.now.size Raw))

pub returns : goal.returns
unfolding own_regions
returns c = same_scale _ (own_regions c.args.first.now c.args.view.now) c.duplicate.ensures refl refl refl refl c.own_size.ensures refl refl c.none.ensures
