use Rattle.std.proofs.Common.{◌≡◌, ◌≤◌, ◌^◌, List, ℕ, length, refl, sym, subst}
use Rattle.std.specs.Prelude.{All}
use Rattle.vol_base.specs.Grids.{AreSizes, pairs}
use Rattle.vol_spec.specs.Limits.{FitsChunk, cell_counts, first_bytes, padded_of}
use Rattle.vol_spec.specs.Views.{no_more, view, view_codes, view_fits}
use Rattle.vol_spec.proofs.SameScale.{same_scale}
use Rattle.vol_spec.proofs.scale.Scale.view.Goals as goal

pub invariant_of-result-clause-chunk_ok : goal.invariant_of-result-clause-chunk_ok
invariant_of-result-clause-chunk_ok c = subst AreSizes (sym c.size_of_view.ensures) (view_fits c.args.self.now c.args.k).0

pub invariant_of-result-clause-first_ok : goal.invariant_of-result-clause-first_ok
invariant_of-result-clause-first_ok c = subst (λ chunk. first_bytes c.args.self.now.width c.args.self.now.channels c.args.self.now.size chunk ≤ 2 ^ 27) (sym c.size_of_view.ensures) (view_fits c.args.self.now c.args.k).1

pub invariant_of-result-clause-padded_ok : goal.invariant_of-result-clause-padded_ok
invariant_of-result-clause-padded_ok c = subst (λ chunk. padded_of c.args.self.now.encoding c.args.self.now.channels c.args.self.now.size chunk ≤ 2 ^ 24) (sym c.size_of_view.ensures) (view_fits c.args.self.now c.args.k).2

pub invariant_of-result-clause-codes_ok : goal.invariant_of-result-clause-codes_ok
invariant_of-result-clause-codes_ok c = λ sharding is. subst (λ chunk. length (pairs (cell_counts c.args.self.now.size chunk)) ≤ 64) (sym c.size_of_view.ensures) (view_codes c.args.self.now c.args.k sharding is)

pub invariant_of-result-clause-more_ok : goal.invariant_of-result-clause-more_ok
invariant_of-result-clause-more_ok c = subst (All (FitsChunk c.args.self.now.width c.args.self.now.channels c.args.self.now.size c.args.self.now.encoding)) (sym c.none.ensures) (no_more (FitsChunk c.args.self.now.width c.args.self.now.channels c.args.self.now.size c.args.self.now.encoding))

pub invariant_of-result-clause-alone_ok : goal.invariant_of-result-clause-alone_ok
invariant_of-result-clause-alone_ok c = λ sharding is. subst (λ (more : List (List ℕ)). length more ≡ 0) (sym c.none.ensures) refl

pub returns : goal.returns
unfolding view
returns c = same_scale _ (view c.args.self.now c.args.k) c.duplicate.ensures refl refl refl refl c.size_of_view.ensures refl refl c.none.ensures
