use Rattle.std.proofs.Common.{◌≡◌, ◌↔◌, ◌∙◌, arith, refl, rules, subst, sym}
use Rattle.std.specs.Prelude.{Contains, false, true, ◌∷◌, []}
use Rattle.std.proofs.lemmas.List.Elements.{All-contains}
use Rattle.vol_base.specs.Boxes.{Covers}
use Rattle.vol_spec.specs.Grid.{cell_at, cell_box, cells_in, IsCell}
use Rattle.cutout.specs.Reading.{ReadSoFar}
use Rattle.cutout.proofs.CellSteps.{read_none, read_more, read_refused, read_whole, IsHome}
use Rattle.cutout.specs.Runs.{RunsOn}
use Rattle.cutout.proofs.RunSteps.{run_asked, run_next, run_none, run_stopped}
use Rattle.cutout.proofs.ServeSteps.{serves_still}
use Rattle.chunk_grid.proofs.Walked.{here, one_on, at_end}
use Rattle.vol_spec.proofs.Told.{from_told, in_told}
use Rattle.cutout.proofs.cells.CellReader.read_cells.Goals as goal

pub loop-cell-init : goal.loop-cell-init
loop-cell-init g c = record {
  left = c.into_iter-cell-iterator.ensures.into_iter_gives ∙ c.cells-cell-items.ensures;
  read = λ m told. read_none m c.args.origin.now.dataset c.args.origin.now.scale c.args.part.now c.args.channels c.args.out.now;
  serves = c.requires.serves;
  run = λ m told. run_none m c.args.origin.now.dataset c.args.origin.now.scale (g.S.Source.asked c.args.store.now) c.args.self.now.shards;
  kept = record { same_objects = refl; same_draft = refl };
  history = refl;
  later = omega arith;
}

pub read_one-requires-clause-serves : goal.read_one-requires-clause-serves
read_one-requires-clause-serves g c =
    serves_still (g.S.Source.objects c.args.store.now) (g.S.Source.objects c.loop-cell.store) c.args.origin.now c.loop-cell.self c.loop-cell.invariant.kept.same_objects c.loop-cell.invariant.serves

pub loop-cell-preserved : goal.loop-cell-preserved
loop-cell-preserved g c =
    let next = c.in-Some.ensures.steps in
    let in_list : Contains (cells_in c.args.origin.now.scale c.args.part.now) c.in-Some.cell = here c.loop-cell.yielded c.loop-cell.cell-iterator c.next.new.self (cells_in c.args.origin.now.scale c.args.part.now) c.in-Some.cell next c.loop-cell.invariant.left in
    let home : IsHome c.args.origin.now.scale c.args.part.now c.in-Some.cell = λ p cov. All-contains (λ cell. Covers (cell_box c.args.origin.now.scale cell) p ↔ (cell ≡ cell_at c.args.origin.now.scale p)) (cells_in c.args.origin.now.scale c.args.part.now) c.in-Some.cell (c.tell_cells.ensures.only p c.requires.inside cov) in_list in
    record {
      left = one_on c.loop-cell.yielded c.loop-cell.cell-iterator c.next.new.self (cells_in c.args.origin.now.scale c.args.part.now) c.in-Some.cell next c.loop-cell.invariant.left;
      read = λ m told.
          read_more m c.args.origin.now.dataset c.args.origin.now.scale c.args.part.now c.args.channels c.loop-cell.yielded c.in-Some.cell c.loop-cell.out c.read_one.new.out home (c.loop-cell.invariant.read m told)
          (from_told _ _ m (c.loop-cell.invariant.kept.same_objects ∙ told) c.in-Ok.ensures.read);
      serves =
          serves_still (g.S.Source.objects c.loop-cell.store) (g.S.Source.objects c.args.store.now) c.args.origin.now c.read_one.new.self (sym c.loop-cell.invariant.kept.same_objects) c.read_one.ensures.serves;
      run = λ m told.
          run_next true m c.args.origin.now.dataset c.args.origin.now.scale c.loop-cell.yielded (c.in-Some.cell ∷ []) (g.S.Source.asked c.args.store.now) (g.S.Source.asked c.loop-cell.store) (g.S.Source.asked c.read_one.new.store) c.args.self.now.shards c.loop-cell.self.shards c.read_one.new.self.shards (c.loop-cell.invariant.run m told)
          (from_told _ _ m (c.loop-cell.invariant.kept.same_objects ∙ told) c.in-Ok.ensures.walks.run);
      kept = record {
        same_objects = c.read_one.ensures.walks.reads.kept.same_objects ∙ c.loop-cell.invariant.kept.same_objects;
        same_draft = c.read_one.ensures.walks.reads.kept.same_draft ∙ c.loop-cell.invariant.kept.same_draft;
      };
      history = c.read_one.ensures.walks.reads.history ∙ c.loop-cell.invariant.history;
      later = omega (arith, c.in-Ok.ensures.walks.reads.cause.stands, c.loop-cell.invariant.later);
    }

pub read_one-requires-clause-cell : goal.read_one-requires-clause-cell
read_one-requires-clause-cell g c =
    All-contains (IsCell c.args.origin.now.scale) (cells_in c.args.origin.now.scale c.args.part.now) c.in-Some.cell c.tell_cells.ensures.in_grid
    (here c.loop-cell.yielded c.loop-cell.cell-iterator c.next.new.self (cells_in c.args.origin.now.scale c.args.part.now) c.in-Some.cell c.in-Some.ensures.steps c.loop-cell.invariant.left)

pub returns-in-Err-clause-read : goal.returns-in-Err-clause-read
returns-in-Err-clause-read g c =
    in_told _ _ (λ m told.
    read_refused m c.args.origin.now.dataset c.args.origin.now.scale c.args.part.now c.args.channels c.loop-cell.yielded c.loop-cell.cell-iterator c.next.new.self c.in-Some.cell c.in-Err.fault c.loop-cell.out _ _
    c.place_fault.result c.place_fault.ensures
    (c.loop-cell.invariant.read m told) c.in-Some.ensures.steps c.loop-cell.invariant.left
    (from_told _ _ m (c.loop-cell.invariant.kept.same_objects ∙ told) c.in-Err.ensures.read))

pub returns-clause-read : goal.returns-clause-read
returns-clause-read g c =
    in_told _ _ (λ m told.
    read_whole m c.args.origin.now.dataset c.args.origin.now.scale c.args.part.now c.args.channels c.loop-cell.out
    (subst (λ cells. ReadSoFar m c.args.origin.now.dataset c.args.origin.now.scale c.args.part.now c.args.channels cells c.loop-cell.out)
    (at_end c.loop-cell.yielded c.loop-cell.cell-iterator (cells_in c.args.origin.now.scale c.args.part.now) c.in-None.ensures.steps.0 c.loop-cell.invariant.left) (c.loop-cell.invariant.read m told))
    (λ p cov. c.tell_cells.ensures.covered p c.requires.inside cov))

pub returns-in-Err-clause-serves : goal.returns-in-Err-clause-serves
returns-in-Err-clause-serves g c =
    serves_still (g.S.Source.objects c.loop-cell.store) (g.S.Source.objects c.args.store.now) c.args.origin.now c.read_one.new.self (sym c.loop-cell.invariant.kept.same_objects) c.read_one.ensures.serves

pub returns-in-Err-clause-walks : goal.returns-in-Err-clause-walks
returns-in-Err-clause-walks g c = record {
  run =
      in_told _ _ (λ m told.
      run_stopped m c.args.origin.now.dataset c.args.origin.now.scale c.loop-cell.yielded c.loop-cell.cell-iterator c.next.new.self (cells_in c.args.origin.now.scale c.args.part.now) c.in-Some.cell
      (g.S.Source.asked c.args.store.now) (g.S.Source.asked c.loop-cell.store) (g.S.Source.asked c.read_one.new.store) c.args.self.now.shards c.loop-cell.self.shards c.read_one.new.self.shards
      c.in-Some.ensures.steps c.loop-cell.invariant.left (c.loop-cell.invariant.run m told) (from_told _ _ m (c.loop-cell.invariant.kept.same_objects ∙ told) c.in-Err.ensures.walks.run));
  reads = search rules;
}

pub returns-clause-walks : goal.returns-clause-walks
returns-clause-walks g c = record {
  run =
      in_told _ _ (λ m told.
      subst (λ cells. RunsOn true m c.args.origin.now.dataset c.args.origin.now.scale cells (g.S.Source.asked c.args.store.now) (g.S.Source.asked c.loop-cell.store) c.args.self.now.shards c.loop-cell.self.shards)
      (at_end c.loop-cell.yielded c.loop-cell.cell-iterator (cells_in c.args.origin.now.scale c.args.part.now) c.in-None.ensures.steps.0 c.loop-cell.invariant.left) (c.loop-cell.invariant.run m told));
  reads = search rules;
}

pub returns-in-Err-clause-asked : goal.returns-in-Err-clause-asked
returns-in-Err-clause-asked g c =
    run_asked (g.S.Source.objects c.args.store.now) false c.args.origin.now.dataset c.args.origin.now.scale c.args.part.now (g.S.Source.asked c.args.store.now) (g.S.Source.asked c.read_one.new.store) c.args.self.now.shards c.read_one.new.self.shards
    (returns-in-Err-clause-walks g c).run

pub returns-clause-asked : goal.returns-clause-asked
returns-clause-asked g c =
    run_asked (g.S.Source.objects c.args.store.now) true c.args.origin.now.dataset c.args.origin.now.scale c.args.part.now (g.S.Source.asked c.args.store.now) (g.S.Source.asked c.loop-cell.store) c.args.self.now.shards c.loop-cell.self.shards
    (returns-clause-walks g c).run
