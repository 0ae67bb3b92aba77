use Rattle.std.proofs.Common.{◌≡◌, ◌+◌, ◌-◌, ◌<◌, ◌∙◌, [], Err, Ok, ap, arith, length, length-set, map, refl, subst, sym}
use Rattle.std.specs.Prelude.{slice_set}
use Rattle.vol_base.specs.Causes.{Rose}
use Rattle.vol_spec.specs.StoredCells.{cell_of}
use Rattle.vol_spec.proofs.Told.{from_told, in_told}
use Rattle.cutout.specs.Kept.{KeepsIndex}
use Rattle.cutout.specs.Opened.{Opened}
use Rattle.write_plan.specs.Jobs.{cells_in}
use Rattle.copier.specs.Held.{AreFilled, AreRead, CutsBox}
use Rattle.copier.proofs.FrameSteps.{filled_more, holds_set, read_failed, read_none}
use Rattle.copier.proofs.JobSteps.{job_cell_at}
use Rattle.reduce_laws.specs.Reduced.{source_box}
use Rattle.reducer.specs.Reading.{ReadsReductions, reductions_of}
use Rattle.reducer.proofs.JobSteps.{cell_own, failed_one, next_read}
use Rattle.reducer.proofs.ahead.reduce_jobs.Goals as goal

pub returns-then-count-eq0-clause-read : goal.returns-then-count-eq0-clause-read
returns-then-count-eq0-clause-read g c =
    in_told _ _ (λ m told.
    subst (λ n. AreRead (reductions_of c.args.method m c.args.reader.now.opened.dataset c.args.from.now c.args.to.now) c.args.to.now (cells_in c.args.jobs.now) c.args.first n (map (λ f. f.items) c.args.frames.now)) (sym c.if-count-eq0.true)
    (read_none (reductions_of c.args.method m c.args.reader.now.opened.dataset c.args.from.now c.args.to.now) c.args.to.now (cells_in c.args.jobs.now) c.args.first (map (λ f. f.items) c.args.frames.now)))

pub returns-then-count-eq0-clause-filled : goal.returns-then-count-eq0-clause-filled
returns-then-count-eq0-clause-filled g c k l = absurd (omega (arith, l, c.if-count-eq0.true))

pub cut_source-requires-clause-cell : goal.cut_source-requires-clause-cell
cut_source-requires-clause-cell g c =
    let inside : c.args.first < length c.args.jobs.now = omega (arith, c.requires.within, c.if-count-eq0.false) in
    cell_own c.args.to.now c.args.jobs.now c.args.first c.get.result.cell c.requires.cells inside (ap (λ job. job.cell) c.get.ensures ∙ job_cell_at c.args.jobs.now c.args.first inside)

pub returns-in-Err-clause-read : goal.returns-in-Err-clause-read
returns-in-Err-clause-read g c =
    let inside : c.args.first < length c.args.jobs.now = omega (arith, c.requires.within, c.if-count-eq0.false) in
    let zero : c.args.first ≡ c.args.first + 0 = omega arith in
    let here : c.get.result.cell ≡ cell_of (cells_in c.args.jobs.now) (c.args.first + 0) = ap (λ job. job.cell) c.get.ensures ∙ job_cell_at c.args.jobs.now c.args.first inside ∙ ap (cell_of (cells_in c.args.jobs.now)) zero in
    in_told (g.S.Source.objects c.args.store.now)
    (λ m. ReadsReductions (Err c.in-Err.fault) c.args.method m c.args.reader.now.opened.dataset c.args.from.now c.args.to.now (cells_in c.args.jobs.now) c.args.first c.args.count (map (λ f. f.items) c.args.frames.now))
    (λ m told.
    read_failed (reductions_of c.args.method m c.args.reader.now.opened.dataset c.args.from.now c.args.to.now) c.args.to.now (cells_in c.args.jobs.now) c.args.first 0 c.args.count (map (λ f. f.items) c.args.frames.now)
    (map (λ f. f.items) c.args.frames.now) c.get.result.cell [] c.in-Err.fault here (omega (arith, c.if-count-eq0.false))
    (read_none (reductions_of c.args.method m c.args.reader.now.opened.dataset c.args.from.now c.args.to.now) c.args.to.now (cells_in c.args.jobs.now) c.args.first (map (λ f. f.items) c.args.frames.now))
    (failed_one m c.args.method c.args.reader.now.opened.dataset c.args.from.now c.args.to.now c.get.result.cell c.cut_source.new.buffer.items [] c.in-Err.fault
    (subst (λ (r : Opened). CutsBox (Err c.in-Err.fault) m r.dataset c.args.from.now (source_box c.args.from.now c.args.to.now c.get.result.cell) c.cut_source.new.buffer.items) c.forget.ensures.same
    (from_told (g.S.Source.objects c.args.store.now) (λ m. CutsBox (Err c.in-Err.fault) m c.forget.new.self.opened.dataset c.args.from.now (source_box c.args.from.now c.args.to.now c.get.result.cell) c.cut_source.new.buffer.items) m told c.in-Err.ensures.cut))))

pub loop-k-init : goal.loop-k-init
loop-k-init g c =
    let inside : c.args.first < length c.args.jobs.now = omega (arith, c.requires.within, c.if-count-eq0.false) in
    let zero : c.args.first ≡ c.args.first + 0 = omega arith in
    let here : c.get.result.cell ≡ cell_of (cells_in c.args.jobs.now) c.args.first = ap (λ job. job.cell) c.get.ensures ∙ job_cell_at c.args.jobs.now c.args.first inside in
    record {
      own = cell_own c.args.to.now c.args.jobs.now c.args.first c.get.result.cell c.requires.cells inside here;
      cell = here ∙ ap (cell_of (cells_in c.args.jobs.now)) zero;
      filled = λ k l. absurd (omega (arith, l));
      each = c.requires.each;
      frames = refl;
      read = λ m told. read_none (reductions_of c.args.method m c.args.reader.now.opened.dataset c.args.from.now c.args.to.now) c.args.to.now (cells_in c.args.jobs.now) c.args.first _;
      cut = λ m told. subst (λ (r : Opened). CutsBox (Ok tt) m r.dataset c.args.from.now (source_box c.args.from.now c.args.to.now c.get.result.cell) c.cut_source.new.buffer.items) c.forget.ensures.same (from_told _ _ m told c.in-Ok.ensures.cut);
      len = c.cut_source.ensures.len;
      same = c.cut_source.ensures.same ∙ c.forget.ensures.same;
      keeps = c.cut_source.ensures.keeps;
      room = c.cut_source.ensures.room;
      ahead = c.requires.ahead;
      kept = c.cut_source.ensures.reads.kept;
      history = c.cut_source.ensures.reads.history;
      later = omega (arith, c.in-Ok.ensures.reads.cause.stands);
    }

pub reduce_and_read-requires-clause-next : goal.reduce_and_read-requires-clause-next
reduce_and_read-requires-clause-next g c =
    let inside : c.args.first + c.loop-k.k + 1 < length c.args.jobs.now = omega (arith, c.requires.within, c.loop-k-test.true) in
    cell_own c.args.to.now c.args.jobs.now (c.args.first + c.loop-k.k + 1) c.get-in-loop-k.result.cell c.requires.cells inside (ap (λ job. job.cell) c.get-in-loop-k.ensures ∙ job_cell_at c.args.jobs.now (c.args.first + c.loop-k.k + 1) inside)

pub reduce_and_read-requires-clause-holds : goal.reduce_and_read-requires-clause-holds
reduce_and_read-requires-clause-holds g c =
    c.loop-k.invariant.each c.loop-k.k c.index-frames-k.result (omega (arith, c.loop-k-test.true, c.requires.enough, c.loop-k.auto.frames))

pub returns-in-Err-reduce_and_read-clause-read : goal.returns-in-Err-reduce_and_read-clause-read
returns-in-Err-reduce_and_read-clause-read g c =
    let inside : c.loop-k.k < length c.loop-k.frames = omega (arith, c.loop-k-test.true, c.requires.enough, c.loop-k.auto.frames) in
    let number : c.args.first + c.loop-k.k + 1 < length c.args.jobs.now = omega (arith, c.requires.within, c.loop-k-test.true) in
    let one : c.args.first + c.loop-k.k + 1 ≡ c.args.first + (c.loop-k.k + 1) = omega arith in
    let here : c.get-in-loop-k.result.cell ≡ cell_of (cells_in c.args.jobs.now) (c.args.first + (c.loop-k.k + 1)) =
    ap (λ job. job.cell) c.get-in-loop-k.ensures ∙ job_cell_at c.args.jobs.now (c.args.first + c.loop-k.k + 1) number ∙ ap (cell_of (cells_in c.args.jobs.now)) one in
    in_told _ _ (λ m told.
    read_failed (reductions_of c.args.method m c.args.reader.now.opened.dataset c.args.from.now c.args.to.now) c.args.to.now (cells_in c.args.jobs.now) c.args.first (c.loop-k.k + 1) c.args.count
    (map (λ f. f.items) (slice_set c.loop-k.frames c.loop-k.k c.reduce_and_read.new.frame)) _ c.get-in-loop-k.result.cell [] c.in-Err-reduce_and_read.fault here (omega (arith, c.loop-k-test.true))
    (next_read m c.args.method c.args.reader.now.opened.dataset c.args.from.now c.args.to.now (cells_in c.args.jobs.now) c.args.first c.loop-k.k c.loop-k.frames c.reduce_and_read.new.frame c.loop-k.cell c.loop-k.buffer.items c.loop-k.buffer.items c.requires.next c.loop-k.invariant.own
    (from_told _ _ m told (g.met.S.Source.bytes c.args.store.now)) c.loop-k.invariant.cell inside refl c.reduce_and_read.ensures.reduced (c.loop-k.invariant.cut m told) (c.loop-k.invariant.read m told))
    (failed_one m c.args.method c.args.reader.now.opened.dataset c.args.from.now c.args.to.now c.get-in-loop-k.result.cell c.reduce_and_read.new.buffer.items [] c.in-Err-reduce_and_read.fault
    (subst (λ (r : Opened). CutsBox (Err c.in-Err-reduce_and_read.fault) m r.dataset c.args.from.now (source_box c.args.from.now c.args.to.now c.get-in-loop-k.result.cell) c.reduce_and_read.new.buffer.items) c.loop-k.invariant.same
    (from_told _ _ m (c.loop-k.invariant.kept.same_objects ∙ told) c.in-Err-reduce_and_read.ensures.cut))))

pub returns-in-Err-reduce_and_read-clause-each : goal.returns-in-Err-reduce_and_read-clause-each
returns-in-Err-reduce_and_read-clause-each g c = holds_set c.args.to.now c.loop-k.frames c.loop-k.k _ c.loop-k.invariant.each c.reduce_and_read.ensures.holds

pub returns-in-Err-reduce_and_read-clause-reads : goal.returns-in-Err-reduce_and_read-clause-reads
returns-in-Err-reduce_and_read-clause-reads g c = record {
  kept = record {
    same_objects = c.reduce_and_read.ensures.reads.kept.same_objects ∙ c.loop-k.invariant.kept.same_objects;
    same_draft = c.reduce_and_read.ensures.reads.kept.same_draft ∙ c.loop-k.invariant.kept.same_draft;
  };
  history = c.reduce_and_read.ensures.reads.history ∙ c.loop-k.invariant.history;
  cause = record {
    later = omega (arith, c.reduce_and_read.ensures.reads.cause.later, c.loop-k.invariant.later);
    failed = λ told. subst (λ n. Rose n (g.S.Source.faults c.reduce_and_read.new.store)) c.loop-k.invariant.later (c.in-Err-reduce_and_read.ensures.reads.cause.failed told);
    stands = tt;
  };
}

pub loop-k-preserved : goal.loop-k-preserved
loop-k-preserved g c =
    let inside : c.loop-k.k < length c.loop-k.frames = omega (arith, c.loop-k-test.true, c.requires.enough, c.loop-k.auto.frames) in
    let number : c.args.first + c.loop-k.k + 1 < length c.args.jobs.now = omega (arith, c.requires.within, c.loop-k-test.true) in
    let one : c.args.first + c.loop-k.k + 1 ≡ c.args.first + (c.loop-k.k + 1) = omega arith in
    let here : c.get-in-loop-k.result.cell ≡ cell_of (cells_in c.args.jobs.now) (c.args.first + c.loop-k.k + 1) = ap (λ job. job.cell) c.get-in-loop-k.ensures ∙ job_cell_at c.args.jobs.now (c.args.first + c.loop-k.k + 1) number in
    record {
      own = cell_own c.args.to.now c.args.jobs.now (c.args.first + c.loop-k.k + 1) c.get-in-loop-k.result.cell c.requires.cells number here;
      cell = here ∙ ap (cell_of (cells_in c.args.jobs.now)) one;
      filled = filled_more c.args.to.now c.loop-k.frames c.loop-k.k _ inside c.loop-k.invariant.filled c.reduce_and_read.ensures.filled;
      each = holds_set c.args.to.now c.loop-k.frames c.loop-k.k _ c.loop-k.invariant.each c.reduce_and_read.ensures.holds;
      frames = length-set c.loop-k.frames c.loop-k.k _ ∙ c.loop-k.invariant.frames;
      read = λ m told.
          next_read m c.args.method c.args.reader.now.opened.dataset c.args.from.now c.args.to.now (cells_in c.args.jobs.now) c.args.first c.loop-k.k c.loop-k.frames c.reduce_and_read.new.frame c.loop-k.cell c.loop-k.buffer.items c.loop-k.buffer.items c.requires.next c.loop-k.invariant.own
          (from_told _ _ m told (g.met.S.Source.bytes c.args.store.now)) c.loop-k.invariant.cell inside refl c.reduce_and_read.ensures.reduced (c.loop-k.invariant.cut m told) (c.loop-k.invariant.read m told);
      cut = λ m told.
          subst (λ (r : Opened). CutsBox (Ok tt) m r.dataset c.args.from.now (source_box c.args.from.now c.args.to.now c.get-in-loop-k.result.cell) c.reduce_and_read.new.buffer.items) c.loop-k.invariant.same
          (from_told _ _ m (c.loop-k.invariant.kept.same_objects ∙ told) c.in-Ok-reduce_and_read.ensures.cut);
      len = c.reduce_and_read.ensures.len;
      same = c.reduce_and_read.ensures.same ∙ c.loop-k.invariant.same;
      keeps = subst (λ o. KeepsIndex o c.reduce_and_read.new.reader) c.loop-k.invariant.kept.same_objects c.reduce_and_read.ensures.keeps;
      room = c.reduce_and_read.ensures.room;
      ahead = c.reduce_and_read.ensures.ahead;
      kept = record {
        same_objects = c.reduce_and_read.ensures.reads.kept.same_objects ∙ c.loop-k.invariant.kept.same_objects;
        same_draft = c.reduce_and_read.ensures.reads.kept.same_draft ∙ c.loop-k.invariant.kept.same_draft;
      };
      history = c.reduce_and_read.ensures.reads.history ∙ c.loop-k.invariant.history;
      later = omega (arith, c.in-Ok-reduce_and_read.ensures.reads.cause.stands, c.loop-k.invariant.later);
    }

pub reduce_source-requires-clause-holds : goal.reduce_source-requires-clause-holds
reduce_source-requires-clause-holds g c =
    c.loop-k.invariant.each (c.args.count - 1) c.index-frames-last.result (omega (arith, c.if-count-eq0.false, c.requires.enough, c.loop-k.auto.frames))

pub returns-clause-read : goal.returns-clause-read
returns-clause-read g c =
    let done : c.loop-k.k ≡ c.args.count - 1 = omega (arith, c.loop-k-test.false, c.loop-k.auto.k-end) in
    let all : c.args.count - 1 + 1 ≡ c.args.count = omega (arith, c.if-count-eq0.false) in
    let inside : c.args.count - 1 < length c.loop-k.frames = omega (arith, c.if-count-eq0.false, c.requires.enough, c.loop-k.auto.frames) in
    in_told _ _ (λ m told.
    subst (λ n. AreRead (reductions_of c.args.method m c.args.reader.now.opened.dataset c.args.from.now c.args.to.now) c.args.to.now (cells_in c.args.jobs.now) c.args.first n (map (λ f. f.items) (slice_set c.loop-k.frames (c.args.count - 1) c.reduce_source.new.frame))) all
    (next_read m c.args.method c.args.reader.now.opened.dataset c.args.from.now c.args.to.now (cells_in c.args.jobs.now) c.args.first (c.args.count - 1) c.loop-k.frames c.reduce_source.new.frame c.loop-k.cell c.loop-k.buffer.items c.deref.result.now c.requires.next c.loop-k.invariant.own
    (from_told _ _ m told (g.met.S.Source.bytes c.args.store.now)) (c.loop-k.invariant.cell ∙ ap (λ k. cell_of (cells_in c.args.jobs.now) (c.args.first + k)) done) inside c.deref.ensures.value c.reduce_source.ensures.reduced (c.loop-k.invariant.cut m told)
    (subst (λ n. AreRead (reductions_of c.args.method m c.args.reader.now.opened.dataset c.args.from.now c.args.to.now) c.args.to.now (cells_in c.args.jobs.now) c.args.first n (map (λ f. f.items) c.loop-k.frames)) done (c.loop-k.invariant.read m told))))

pub returns-clause-filled : goal.returns-clause-filled
returns-clause-filled g c =
    let done : c.loop-k.k ≡ c.args.count - 1 = omega (arith, c.loop-k-test.false, c.loop-k.auto.k-end) in
    let all : c.args.count - 1 + 1 ≡ c.args.count = omega (arith, c.if-count-eq0.false) in
    let inside : c.args.count - 1 < length c.loop-k.frames = omega (arith, c.if-count-eq0.false, c.requires.enough, c.loop-k.auto.frames) in
    subst (λ n. AreFilled c.args.to.now n (map (λ f. f.items) (slice_set c.loop-k.frames (c.args.count - 1) c.reduce_source.new.frame))) all
    (filled_more c.args.to.now c.loop-k.frames (c.args.count - 1) c.reduce_source.new.frame inside (subst (λ n. AreFilled c.args.to.now n (map (λ f. f.items) c.loop-k.frames)) done c.loop-k.invariant.filled) c.reduce_source.ensures.filled)

pub returns-clause-each : goal.returns-clause-each
returns-clause-each g c = holds_set c.args.to.now c.loop-k.frames (c.args.count - 1) _ c.loop-k.invariant.each c.reduce_source.ensures.holds

pub returns-clause-reads : goal.returns-clause-reads
returns-clause-reads g c = record {
  kept = c.loop-k.invariant.kept;
  history = c.loop-k.invariant.history;
  cause = record { later = omega (arith, c.loop-k.invariant.later); failed = λ told. absurd (cc told); stands = c.loop-k.invariant.later };
}
