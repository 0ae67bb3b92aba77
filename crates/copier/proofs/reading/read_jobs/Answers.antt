use Rattle.std.proofs.Common.{◌≡◌, ◌+◌, Err, Ok, length, length-set, map, take, refl, ap, ◌∙◌, sym, subst, arith, ◌<◌}
use Rattle.std.proofs.lemmas.List.{length-map}
use Rattle.std.specs.Prelude.{IsTrue}
use Rattle.copy_laws.specs.Twins.{AreTwins}
use Rattle.vol_spec.specs.Copies.{AreOfOneVolume}
use Rattle.vol_spec.specs.Encodings.{raw_size}
use Rattle.vol_spec.specs.Grid.{IsCell}
use Rattle.vol_spec.specs.StoredCells.{cell_of}
use Rattle.vol_spec.proofs.Told.{from_told, in_told}
use Rattle.cutout.specs.Kept.{KeepsIndex}
use Rattle.cutout.specs.Opened.{Opened}
use Rattle.write_plan.specs.Jobs.{cells_in}
use Rattle.copier.specs.Held.{AreFilled, AreRead, ReadsJob, copies_of}
use Rattle.copier.specs.Frames.{KeepChunks, values_in}
use Rattle.copier.proofs.FrameSteps.{read_failed, read_none}
use Rattle.copier.proofs.JobFrames.{chunks_more, job_more, room_set, values_more}
use Rattle.copier.proofs.AskedSteps.{asked_job, asked_jobs, asked_none, asked_refused}
use Rattle.copier.proofs.JobSteps.{job_cell_at}
use Rattle.copier.proofs.reading.read_jobs.Goals as goal

pub read_frame-requires-clause-volume : goal.read_frame-requires-clause-volume
read_frame-requires-clause-volume g c = subst (λ (r : Opened). AreOfOneVolume r.scale c.args.to.now) (sym c.loop-k.invariant.same) c.requires.volume

pub read_frame-requires-clause-keeps : goal.read_frame-requires-clause-keeps
read_frame-requires-clause-keeps g c = subst (λ o. KeepsIndex o c.loop-k.reader) (sym c.loop-k.invariant.kept.same_objects) c.loop-k.invariant.keeps

pub read_frame-requires-clause-cell : goal.read_frame-requires-clause-cell
read_frame-requires-clause-cell g c =
    let inside : c.args.first + c.loop-k.k < length c.args.jobs.now = omega (arith, c.requires.within, c.loop-k-test.true) in
    let here = ap (λ job. job.cell) c.get.ensures ∙ job_cell_at c.args.jobs.now (c.args.first + c.loop-k.k) inside in
    subst (IsCell c.args.to.now) (sym here) (c.requires.cells (c.args.first + c.loop-k.k) _ (omega (arith, inside, length-map c.args.jobs.now (λ job. job.cell))))

pub read_frame-requires-clause-room : goal.read_frame-requires-clause-room
read_frame-requires-clause-room g c =
    c.loop-k.invariant.each c.loop-k.k c.index-frames-k.result (omega (arith, c.loop-k-test.true, c.requires.room, c.loop-k.auto.frames))

pub loop-k-preserved : goal.loop-k-preserved
loop-k-preserved g c =
    let inside : c.loop-k.k < length c.loop-k.frames = omega (arith, c.loop-k-test.true, c.requires.room, c.loop-k.auto.frames) in
    let number : c.args.first + c.loop-k.k < length c.args.jobs.now = omega (arith, c.requires.within, c.loop-k-test.true) in
    let here : c.get.result.cell ≡ cell_of (cells_in c.args.jobs.now) (c.args.first + c.loop-k.k) = ap (λ job. job.cell) c.get.ensures ∙ job_cell_at c.args.jobs.now (c.args.first + c.loop-k.k) number in
    record {
      filled = values_more c.args.to.now c.loop-k.frames c.loop-k.k _ inside c.loop-k.invariant.filled c.in-Ok.ensures.filled;
      chunks = chunks_more c.args.to.now (cells_in c.args.jobs.now) c.args.first c.loop-k.k c.loop-k.frames _ c.get.result.cell here inside c.loop-k.invariant.chunks c.in-Ok.ensures.chunk;
      each = room_set c.args.to.now c.loop-k.frames c.loop-k.k _ c.loop-k.invariant.each c.read_frame.ensures.room;
      frames = length-set c.loop-k.frames c.loop-k.k _ ∙ c.loop-k.invariant.frames;
      read = λ m told.
          job_more (copies_of m c.args.reader.now.opened.dataset c.args.reader.now.opened.scale c.args.to.now) c.args.to.now (cells_in c.args.jobs.now) c.args.first c.loop-k.k c.loop-k.frames _ c.get.result.cell here inside (c.loop-k.invariant.read m told)
          (subst (λ (r : Opened). ReadsJob (Ok tt) m r.dataset r.scale c.args.to.now c.get.result.cell (take (raw_size c.args.to.now c.get.result.cell) (values_in c.args.to.now c.read_frame.new.frame))) c.loop-k.invariant.same
          (from_told _ _ m (c.loop-k.invariant.kept.same_objects ∙ told) c.in-Ok.ensures.read));
      same = c.read_frame.ensures.same ∙ c.loop-k.invariant.same;
      run = λ m told.
          asked_job m c.loop-k.reader.opened c.args.reader.now.opened c.args.to.now (cells_in c.args.jobs.now) c.get.result.cell c.args.first c.loop-k.k (g.S.Source.asked c.args.store.now) (g.S.Source.asked c.loop-k.store) (g.S.Source.asked c.read_frame.new.store)
          c.args.reader.now c.loop-k.reader c.read_frame.new.reader c.loop-k.invariant.same here (c.loop-k.invariant.run m told) (from_told _ _ m (c.loop-k.invariant.kept.same_objects ∙ told) c.in-Ok.ensures.run);
      keeps = subst (λ o. KeepsIndex o c.read_frame.new.reader) c.loop-k.invariant.kept.same_objects c.read_frame.ensures.keeps;
      kept = record {
        same_objects = c.read_frame.ensures.reads.kept.same_objects ∙ c.loop-k.invariant.kept.same_objects;
        same_draft = c.read_frame.ensures.reads.kept.same_draft ∙ c.loop-k.invariant.kept.same_draft;
      };
      history = c.read_frame.ensures.reads.history ∙ c.loop-k.invariant.history;
      later = omega (arith, c.in-Ok.ensures.reads.cause.stands, c.loop-k.invariant.later);
    }

pub loop-k-init : goal.loop-k-init
loop-k-init g c = record {
  filled = λ k l. absurd (omega (arith, l));
  each = c.requires.each;
  chunks = λ k d l. absurd (omega (arith, l));
  frames = refl;
  read = λ m told. read_none (copies_of m c.args.reader.now.opened.dataset c.args.reader.now.opened.scale c.args.to.now) c.args.to.now (cells_in c.args.jobs.now) c.args.first _;
  same = refl;
  keeps = c.requires.keeps;
  run = λ m told. asked_none m c.args.reader.now.opened c.args.to.now (cells_in c.args.jobs.now) c.args.first (g.S.Source.asked c.args.store.now) c.args.reader.now;
  kept = record { same_objects = refl; same_draft = refl };
  history = refl;
  later = omega arith;
}

pub returns-in-Err-clause-read : goal.returns-in-Err-clause-read
returns-in-Err-clause-read g c =
    let number : c.args.first + c.loop-k.k < length c.args.jobs.now = omega (arith, c.requires.within, c.loop-k-test.true) in
    let here : c.get.result.cell ≡ cell_of (cells_in c.args.jobs.now) (c.args.first + c.loop-k.k) = ap (λ job. job.cell) c.get.ensures ∙ job_cell_at c.args.jobs.now (c.args.first + c.loop-k.k) number in
    in_told _ _ (λ m told.
    read_failed (copies_of m c.args.reader.now.opened.dataset c.args.reader.now.opened.scale c.args.to.now) c.args.to.now (cells_in c.args.jobs.now) c.args.first c.loop-k.k c.args.count (map (values_in c.args.to.now) c.loop-k.frames) _ c.get.result.cell (take (raw_size c.args.to.now c.get.result.cell) (values_in c.args.to.now c.read_frame.new.frame)) c.in-Err.fault here c.loop-k-test.true
    (c.loop-k.invariant.read m told)
    (subst (λ (r : Opened). ReadsJob (Err c.in-Err.fault) m r.dataset r.scale c.args.to.now c.get.result.cell (take (raw_size c.args.to.now c.get.result.cell) (values_in c.args.to.now c.read_frame.new.frame))) c.loop-k.invariant.same
    (from_told _ _ m (c.loop-k.invariant.kept.same_objects ∙ told) c.in-Err.ensures.read)))

pub returns-in-Err-clause-each : goal.returns-in-Err-clause-each
returns-in-Err-clause-each g c = room_set c.args.to.now c.loop-k.frames c.loop-k.k _ c.loop-k.invariant.each c.read_frame.ensures.room

pub returns-clause-read : goal.returns-clause-read
returns-clause-read g c =
    let done : c.loop-k.k ≡ c.args.count = omega (arith, c.loop-k-test.false, c.loop-k.auto.k-end) in
    in_told _ _ (λ m told. subst (λ n. AreRead (copies_of m c.args.reader.now.opened.dataset c.args.reader.now.opened.scale c.args.to.now) c.args.to.now (cells_in c.args.jobs.now) c.args.first n (map (values_in c.args.to.now) c.loop-k.frames)) done (c.loop-k.invariant.read m told))

pub returns-clause-filled : goal.returns-clause-filled
returns-clause-filled g c =
    let done : c.loop-k.k ≡ c.args.count = omega (arith, c.loop-k-test.false, c.loop-k.auto.k-end) in
    subst (λ n. AreFilled c.args.to.now n (map (values_in c.args.to.now) c.loop-k.frames)) done c.loop-k.invariant.filled

pub returns-in-Err-clause-run : goal.returns-in-Err-clause-run
returns-in-Err-clause-run g c =
    let number : c.args.first + c.loop-k.k < length c.args.jobs.now = omega (arith, c.requires.within, c.loop-k-test.true) in
    let here : c.get.result.cell ≡ cell_of (cells_in c.args.jobs.now) (c.args.first + c.loop-k.k) = ap (λ job. job.cell) c.get.ensures ∙ job_cell_at c.args.jobs.now (c.args.first + c.loop-k.k) number in
    asked_refused (g.S.Source.objects c.args.store.now) (g.S.Source.objects c.loop-k.store) c.loop-k.reader.opened c.args.reader.now.opened c.args.to.now (cells_in c.args.jobs.now) c.get.result.cell c.args.first c.loop-k.k c.args.count
    (g.S.Source.asked c.args.store.now) (g.S.Source.asked c.loop-k.store) (g.S.Source.asked c.read_frame.new.store) c.args.reader.now c.loop-k.reader c.read_frame.new.reader
    c.loop-k.invariant.kept.same_objects c.loop-k.invariant.same here (omega (arith, c.loop-k-test.true)) c.loop-k.invariant.run c.in-Err.ensures.run

pub returns-clause-run : goal.returns-clause-run
returns-clause-run g c =
    let done : c.loop-k.k ≡ c.args.count = omega (arith, c.loop-k-test.false, c.loop-k.auto.k-end) in
    asked_jobs (g.S.Source.objects c.args.store.now) c.args.reader.now.opened c.args.to.now (cells_in c.args.jobs.now) c.args.first c.loop-k.k c.args.count (g.S.Source.asked c.args.store.now) (g.S.Source.asked c.loop-k.store)
    c.args.reader.now c.loop-k.reader done c.loop-k.invariant.run

pub returns-clause-keeps : goal.returns-clause-keeps
returns-clause-keeps g c = c.loop-k.invariant.keeps

pub returns-in-Err-clause-keeps : goal.returns-in-Err-clause-keeps
returns-in-Err-clause-keeps g c = subst (λ o. KeepsIndex o c.read_frame.new.reader) c.loop-k.invariant.kept.same_objects c.read_frame.ensures.keeps

pub returns-clause-chunks : goal.returns-clause-chunks
returns-clause-chunks g c =
    let done : c.loop-k.k ≡ c.args.count = omega (arith, c.loop-k-test.false, c.loop-k.auto.k-end) in
    subst (λ n. KeepChunks c.args.to.now (cells_in c.args.jobs.now) c.args.first n c.loop-k.frames) done c.loop-k.invariant.chunks

pub read_frame-requires-clause-twins : goal.read_frame-requires-clause-twins
read_frame-requires-clause-twins g c = subst (λ (r : Opened). IsTrue c.args.twins → AreTwins r.scale c.args.to.now) (sym c.loop-k.invariant.same) c.requires.twins
