use Rattle.std.proofs.Common.{◌≤◌, ◌+◌, ◌^◌, ◌∙◌, length, refl, sym, subst, arith}
use Rattle.std.specs.Prelude.{All}
use Rattle.std.proofs.lemmas.List.Elements.{All-head}
use Rattle.vol_base.proofs.Moments.{passes_twice}
use Rattle.vol_spec.specs.StoredCells.{met_cells}
use Rattle.vol_spec.specs.Writable.{IsWritable}
use Rattle.write_plan.specs.Plans.{pairs}
use Rattle.write_plan.specs.WriteLists.{IsWriteOf}
use Rattle.shard_writer.proofs.WindowSteps.{drops_on}
use Rattle.shard_writer.specs.Works.{PassesFronts}
use Rattle.size_laws.specs.Further.{all_views, further}
use Rattle.view_writer.specs.Views.{IsFront, IsPut, of_view}
use Rattle.view_writer.proofs.LoopSteps.{all_done, first_done, first_failed, first_passed, next_done, next_failed, next_passed, on_err, writes_of_view}
use Rattle.view_writer.proofs.PairSteps.{all_length, few_each, view_at}
use Rattle.view_writer.proofs.views.put_views.Goals as goal

pub write_view-requires-clause-writable : goal.write_view-requires-clause-writable
write_view-requires-clause-writable g c κs within = All-head IsWritable c.args.scale.now (further c.args.scale.now) c.requires.writable

pub write_view-requires-clause-few : goal.write_view-requires-clause-few
write_view-requires-clause-few g c κs within =
    All-head (λ v. pairs v c.args.writes ≤ 2 ^ 22) c.args.scale.now (further c.args.scale.now) (few_each (λ v. pairs v c.args.writes) (all_views c.args.scale.now) c.requires.few)

pub returns-in_err-first-clause-front : goal.returns-in_err-first-clause-front
returns-in_err-first-clause-front g c =
    on_err c.from_residual.result
    (first_failed (g.S.Source.objects c.args.store.now) (g.S.Source.objects c.write_view.new.store) c.args.dataset.now c.args.scale.now c.args.writes c.in_err-first.ensures.front)

pub loop-k-init : goal.loop-k-init
loop-k-init g c = record {
  within = omega arith;
  done = first_done c.in_ok-first.first.written (g.S.Source.objects c.args.store.now) (g.S.Source.objects c.write_view.new.store) c.args.dataset.now c.args.scale.now c.args.writes c.in_ok-first.ensures.put;
  passed = first_passed (g.S.Source.objects c.args.store.now) c.args.dataset.now c.args.scale.now c.args.writes (g.S.Source.history c.args.store.now) (g.S.Source.history c.write_view.new.store) c.write_view.ensures.killed;
  same = c.in_ok-first.ensures.same;
  draft = c.in_ok-first.ensures.draft;
  stands = c.in_ok-first.ensures.cause.stands;
}

pub write_view-requires-in-loop-k-clause-writable : goal.write_view-requires-in-loop-k-clause-writable
write_view-requires-in-loop-k-clause-writable g c κs within =
    let n = all_length c.args.scale.now in
    subst IsWritable (view_at c.args.scale.now c.loop-k.k (c.loop-k.k + 1) c.args.scale.now (omega arith) refl ∙ sym c.view-view.ensures)
    (c.requires.writable (c.loop-k.k + 1) c.args.scale.now (omega (arith, n)))

pub write_view-requires-in-loop-k-clause-fits : goal.write_view-requires-in-loop-k-clause-fits
write_view-requires-in-loop-k-clause-fits g c κs within =
    subst (All (IsWriteOf c.view-view.result)) (sym c.loop-k.invariant.same)
    (subst (λ v. All (IsWriteOf v) c.args.writes) (sym c.view-view.ensures) (writes_of_view c.args.scale.now (c.loop-k.k + 1) c.args.writes c.requires.fits))

pub write_view-requires-in-loop-k-clause-few : goal.write_view-requires-in-loop-k-clause-few
write_view-requires-in-loop-k-clause-few g c κs within =
    let n = all_length c.args.scale.now in
    subst (λ ws. pairs c.view-view.result ws ≤ 2 ^ 22) (sym c.loop-k.invariant.same)
    (subst (λ v. pairs v c.args.writes ≤ 2 ^ 22) (view_at c.args.scale.now c.loop-k.k (c.loop-k.k + 1) c.args.scale.now (omega arith) refl ∙ sym c.view-view.ensures)
    (few_each (λ v. pairs v c.args.writes) (all_views c.args.scale.now) c.requires.few (c.loop-k.k + 1) c.args.scale.now (omega (arith, n))))

pub returns-in_err-done-clause-front : goal.returns-in_err-done-clause-front
returns-in_err-done-clause-front g c =
    on_err c.from_residual-in_err-done.result
    (next_failed c.args.dataset.now c.args.scale.now c.view-view.result c.args.writes c.loop-k.k (c.loop-k.k + 1) (omega arith) refl c.view-view.ensures c.len.ensures.few c.requires.writable c.requires.few
    (g.S.Source.objects c.args.store.now) (g.S.Source.objects c.loop-k.store) (g.S.Source.objects c.write_view-in-loop-k.new.store) c.loop-k.written c.loop-k.invariant.done
    (subst (λ ws. IsFront (g.S.Source.objects c.loop-k.store) (g.S.Source.objects c.write_view-in-loop-k.new.store) (of_view c.args.dataset.now c.view-view.result ws)) c.loop-k.invariant.same c.in_err-done.ensures.front))

pub loop-k-preserved : goal.loop-k-preserved
loop-k-preserved g c = record {
  within = omega arith;
  done = next_done c.args.dataset.now c.args.scale.now c.view-view.result c.args.writes c.loop-k.k (c.loop-k.k + 1) (omega arith) refl c.view-view.ensures c.len.ensures.few c.requires.writable c.requires.few
      (g.S.Source.objects c.args.store.now) (g.S.Source.objects c.loop-k.store) (g.S.Source.objects c.write_view-in-loop-k.new.store) c.loop-k.written c.in_ok-done.done.written c.add-written.result c.loop-k.invariant.done
      (record { objects_sum = c.add-written.ensures.objects; cells_sum = c.add-written.ensures.cells; bytes_sum = c.add-written.ensures.bytes })
      (subst (λ ws. IsPut (g.S.Source.objects c.loop-k.store) (g.S.Source.objects c.write_view-in-loop-k.new.store) (of_view c.args.dataset.now c.view-view.result ws) (length (met_cells c.view-view.result ws)) c.in_ok-done.done.written) c.loop-k.invariant.same c.in_ok-done.ensures.put);
  passed = passes_twice _ _ _ _ c.loop-k.invariant.passed
      (next_passed c.args.dataset.now c.args.scale.now c.view-view.result c.args.writes c.loop-k.k (c.loop-k.k + 1) (omega arith) refl c.view-view.ensures c.len.ensures.few c.requires.writable c.requires.few
      (g.S.Source.objects c.args.store.now) (g.S.Source.objects c.loop-k.store) c.loop-k.written (g.S.Source.history c.loop-k.store) (g.S.Source.history c.write_view-in-loop-k.new.store) c.loop-k.invariant.done
      (subst (λ ws. PassesFronts (λ m. of_view c.args.dataset.now c.view-view.result ws) (g.S.Source.objects c.loop-k.store) (g.S.Source.history c.loop-k.store) (g.S.Source.history c.write_view-in-loop-k.new.store)) c.loop-k.invariant.same c.write_view-in-loop-k.ensures.killed));
  same = c.in_ok-done.ensures.same ∙ c.loop-k.invariant.same;
  draft = drops_on _ _ _ c.loop-k.invariant.draft c.in_ok-done.ensures.draft;
  stands = c.in_ok-done.ensures.cause.stands ∙ c.loop-k.invariant.stands;
}

pub returns-clause-put : goal.returns-clause-put
returns-clause-put g c =
    all_done c.loop-k.written (g.S.Source.objects c.args.store.now) (g.S.Source.objects c.loop-k.store) c.args.dataset.now c.args.scale.now c.args.writes (c.loop-k.k + 1) (omega arith) c.loop-k.invariant.done

pub returns-in_err-first-clause-killed : goal.returns-in_err-first-clause-killed
returns-in_err-first-clause-killed g c =
    first_passed (g.S.Source.objects c.args.store.now) c.args.dataset.now c.args.scale.now c.args.writes (g.S.Source.history c.args.store.now) (g.S.Source.history c.write_view.new.store) c.write_view.ensures.killed

pub returns-in_err-done-clause-killed : goal.returns-in_err-done-clause-killed
returns-in_err-done-clause-killed g c =
    passes_twice _ _ _ _ c.loop-k.invariant.passed
    (next_passed c.args.dataset.now c.args.scale.now c.view-view.result c.args.writes c.loop-k.k (c.loop-k.k + 1) (omega arith) refl c.view-view.ensures c.len.ensures.few c.requires.writable c.requires.few
    (g.S.Source.objects c.args.store.now) (g.S.Source.objects c.loop-k.store) c.loop-k.written (g.S.Source.history c.loop-k.store) (g.S.Source.history c.write_view-in-loop-k.new.store) c.loop-k.invariant.done
    (subst (λ ws. PassesFronts (λ m. of_view c.args.dataset.now c.view-view.result ws) (g.S.Source.objects c.loop-k.store) (g.S.Source.history c.loop-k.store) (g.S.Source.history c.write_view-in-loop-k.new.store)) c.loop-k.invariant.same c.write_view-in-loop-k.ensures.killed))
