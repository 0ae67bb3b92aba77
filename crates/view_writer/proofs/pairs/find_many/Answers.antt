use Rattle.std.proofs.Common.{◌≡◌, ◌+◌, ◌∙◌, Some, refl, ap, sym, subst, arith}
use Rattle.std.specs.Prelude.{All}
use Rattle.vol_spec.specs.Views.{view}
use Rattle.write_plan.specs.Plans.{pairs}
use Rattle.write_plan.specs.WriteLists.{IsWriteOf}
use Rattle.view_writer.proofs.LoopSteps.{writes_of_view}
use Rattle.view_writer.proofs.PairSteps.{all_kept, next_kept, next_passed}
use Rattle.view_writer.proofs.pairs.find_many.Goals as goal

pub count_pairs-count-requires-in-loop-k : goal.count_pairs-count-requires-in-loop-k
count_pairs-count-requires-in-loop-k c = record { fits = subst (λ v. All (IsWriteOf v) c.args.writes.now) (sym c.view.ensures) (writes_of_view c.args.scale.now (c.loop-k.k + 1) c.args.writes.now c.requires.fits) }

pub returns-then-count-gt-MOST_PAIRS-2 : goal.returns-then-count-gt-MOST_PAIRS-2
returns-then-count-gt-MOST_PAIRS-2 c =
    let counted : c.count_pairs-count-in-loop-k.result ≡ pairs (view c.args.scale.now (c.loop-k.k + 1)) c.args.writes.now = c.count_pairs-count-in-loop-k.ensures ∙ ap (λ v. pairs v c.args.writes.now) c.view.ensures in
    sym (next_passed (λ v. pairs v c.args.writes.now) c.args.scale.now c.loop-k.k (c.loop-k.k + 1) (omega arith) refl c.loop-k.invariant.kept (omega (arith, counted)) ∙ ap Some (sym counted))

pub loop-k-preserved : goal.loop-k-preserved
loop-k-preserved c =
    let counted : c.count_pairs-count-in-loop-k.result ≡ pairs (view c.args.scale.now (c.loop-k.k + 1)) c.args.writes.now = c.count_pairs-count-in-loop-k.ensures ∙ ap (λ v. pairs v c.args.writes.now) c.view.ensures in
    record {
      within = omega arith;
      kept = next_kept (λ v. pairs v c.args.writes.now) c.args.scale.now c.loop-k.k (c.loop-k.k + 1) (omega arith) refl c.loop-k.invariant.kept (omega (arith, counted));
    }

pub returns : goal.returns
returns c = sym (all_kept (λ v. pairs v c.args.writes.now) c.args.scale.now (c.loop-k.k + 1) (omega arith) c.loop-k.invariant.kept)
