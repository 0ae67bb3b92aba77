use Rattle.std.proofs.Common.{◌≡◌, ◌≤◌, ◌<◌, ℕ, Some, IfSome, true, false, ◌+◌, ◌-◌, ◌∙◌, ap, arith, sym, refl, length, map, subst, Ok, Err}
use Rattle.std.specs.Prelude.{All}
use Rattle.std.specs.Vec.{with_items}
use Rattle.std.proofs.lemmas.List.{length-map}
use Rattle.vol_spec.proofs.Told.{from_told, in_told}
use Rattle.cutout.specs.Kept.{KeepsIndex}
use Rattle.cutout.specs.Opened.{Opened}
use Rattle.cutout.specs.Runs.{HasRun}
use Rattle.write_plan.specs.Jobs.{Prepares, cells_in, jobs_fault, window_of}
use Rattle.copier.specs.Frames.{HasRoom, IsHeldIn, KeepChunks, holding_frames, values_in}
use Rattle.copier.specs.Held.{Held, IsApart, Keeps, cells_of, copies_of, raw_of, ready_of, work_of}
use Rattle.copier.specs.Sources.{sources}
use Rattle.copier.proofs.AskedSteps.{asked_held, more_held}
use Rattle.copier.proofs.HeldSteps.{all_cells, held_len, held_of, prepare_of, ready_held, ready_some, same_items}
use Rattle.copier.proofs.JobFrames.{frames_again}
use Rattle.copier.proofs.copier.CopierChunks.prepare.Goals as goal

pub read_jobs-requires-clause-cells : goal.read_jobs-requires-clause-cells
read_jobs-requires-clause-cells g c =
    let h : Held = holding_frames c.self.inside.reader.opened.dataset c.self.inside.reader.opened.scale c.self.inside.to c.self.inside.jobs c.self.inside.first c.self.inside.count c.self.inside.frames.items in
    all_cells h c.self.inside.jobs c.self.invariant.held.jobs_are

pub read_jobs-requires-clause-each : goal.read_jobs-requires-clause-each
read_jobs-requires-clause-each g c = subst (All (HasRoom c.self.inside.to)) (sym c.deref_mut.ensures.value) c.self.invariant.rooms

pub read_jobs-requires-clause-within : goal.read_jobs-requires-clause-within
read_jobs-requires-clause-within g c =
    let h : Held = holding_frames c.self.inside.reader.opened.dataset c.self.inside.reader.opened.scale c.self.inside.to c.self.inside.jobs c.self.inside.first c.self.inside.count c.self.inside.frames.items in
    let view = ap (λ x. length (cells_of x)) c.self.view_is in
    let len = held_len h c.self.inside.jobs c.self.invariant.held.jobs_are in
    omega (arith, view, len, c.requires.within, c.requires.order)

pub read_jobs-requires-clause-room : goal.read_jobs-requires-clause-room
read_jobs-requires-clause-room g c =
    let view = ap (λ x. length (cells_of x)) c.self.view_is in
    let window = ap (λ x. window_of x.to) c.self.view_is in
    let room = c.self.invariant.held.room in
    let all = length-map c.self.inside.frames.items (values_in c.self.inside.to) in
    let frames = ap length c.deref_mut.ensures.value in
    omega (arith, view, window, room, all, frames, c.requires.within, c.requires.window)

pub invariant_of-self : goal.invariant_of-self
invariant_of-self g c =
    let h : Held = holding_frames c.self.inside.reader.opened.dataset c.self.inside.reader.opened.scale c.self.inside.to c.self.inside.jobs c.self.inside.first c.self.inside.count c.self.inside.frames.items in
    let view = ap (λ x. length (cells_of x)) c.self.view_is in
    let window = ap (λ x. window_of x.to) c.self.view_is in
    let room = c.self.invariant.held.room in
    let all = length-map c.self.inside.frames.items (values_in c.self.inside.to) in
    let same = same_items c.self.inside.frames c.read_jobs.new.frames (c.read_jobs.ensures.frames ∙ ap length c.deref_mut.ensures.value) in
    subst (λ (r : Opened). IsHeldIn (holding_frames r.dataset r.scale c.self.inside.to c.self.inside.jobs c.args.from (c.args.to - c.args.from) (with_items c.self.inside.frames c.read_jobs.new.frames).items) c.self.inside.jobs c.self.inside.twins (with_items c.self.inside.frames c.read_jobs.new.frames).items)
    (sym c.read_jobs.ensures.same)
    (record {
      volume = c.self.invariant.volume;
      alike = c.self.invariant.alike;
      rooms = subst (All (HasRoom c.self.inside.to)) (sym same) c.read_jobs.ensures.each;
      chunks = subst (KeepChunks c.self.inside.to (cells_of h) c.args.from (c.args.to - c.args.from)) (sym same)
          (subst (λ cells. KeepChunks c.self.inside.to cells c.args.from (c.args.to - c.args.from) c.read_jobs.new.frames) (held_of h c.self.inside.jobs c.self.invariant.held.jobs_are) c.in-Ok.ensures.chunks);
      held =
          frames_again h c.self.inside.jobs c.args.from (c.args.to - c.args.from) (map (λ f. f.bytes) c.self.inside.frames.items) c.self.inside.frames c.read_jobs.new.frames c.self.invariant.held refl
          (c.read_jobs.ensures.frames ∙ ap length c.deref_mut.ensures.value)
          (omega (arith, view, window, room, all, c.requires.within, c.requires.window)) c.in-Ok.ensures.filled c.read_jobs.ensures.each;
    })

pub invariant_of-self-in-Err : goal.invariant_of-self-in-Err
invariant_of-self-in-Err g c =
    let h : Held = holding_frames c.self.inside.reader.opened.dataset c.self.inside.reader.opened.scale c.self.inside.to c.self.inside.jobs c.self.inside.first c.self.inside.count c.self.inside.frames.items in
    let same = same_items c.self.inside.frames c.read_jobs.new.frames (c.read_jobs.ensures.frames ∙ ap length c.deref_mut.ensures.value) in
    subst (λ (r : Opened). IsHeldIn (holding_frames r.dataset r.scale c.self.inside.to c.self.inside.jobs c.self.inside.first 0 (with_items c.self.inside.frames c.read_jobs.new.frames).items) c.self.inside.jobs c.self.inside.twins (with_items c.self.inside.frames c.read_jobs.new.frames).items)
    (sym c.read_jobs.ensures.same)
    (record {
      volume = c.self.invariant.volume;
      alike = c.self.invariant.alike;
      rooms = subst (All (HasRoom c.self.inside.to)) (sym same) c.read_jobs.ensures.each;
      chunks = λ k d l. absurd (omega (arith, l));
      held =
          frames_again h c.self.inside.jobs c.self.inside.first 0 (map (λ f. f.bytes) c.self.inside.frames.items) c.self.inside.frames c.read_jobs.new.frames c.self.invariant.held refl
          (c.read_jobs.ensures.frames ∙ ap length c.deref_mut.ensures.value) (omega arith) (λ k l. absurd (omega (arith, l))) c.read_jobs.ensures.each;
    })

pub returns-in-Err-clause-answer : goal.returns-in-Err-clause-answer
returns-in-Err-clause-answer g c =
    let h : Held = holding_frames c.self.inside.reader.opened.dataset c.self.inside.reader.opened.scale c.self.inside.to c.self.inside.jobs c.self.inside.first c.self.inside.count c.self.inside.frames.items in
    subst (λ x. IfSome (g.S.Source.objects c.args.store.now) (λ m. Prepares (Err c.in-Err.fault) (jobs_fault (work_of x) m c.args.from (c.args.to - c.args.from)))) c.self.view_is
    (prepare_of (g.S.Source.objects c.args.store.now) (Err c.in-Err.fault) (λ m. copies_of m h.dataset h.from h.to) h (cells_in c.self.inside.jobs) c.args.from (c.args.to - c.args.from) _ (held_of h c.self.inside.jobs c.self.invariant.held.jobs_are) c.in-Err.ensures.read)

pub returns-in-Ok-clause-answer : goal.returns-in-Ok-clause-answer
returns-in-Ok-clause-answer g c =
    let h : Held = holding_frames c.self.inside.reader.opened.dataset c.self.inside.reader.opened.scale c.self.inside.to c.self.inside.jobs c.self.inside.first c.self.inside.count c.self.inside.frames.items in
    subst (λ x. IfSome (g.S.Source.objects c.args.store.now) (λ m. Prepares (Ok tt) (jobs_fault (work_of x) m c.args.from (c.args.to - c.args.from)))) c.self.view_is
    (prepare_of (g.S.Source.objects c.args.store.now) (Ok tt) (λ m. copies_of m h.dataset h.from h.to) h (cells_in c.self.inside.jobs) c.args.from (c.args.to - c.args.from) _ (held_of h c.self.inside.jobs c.self.invariant.held.jobs_are) c.in-Ok.ensures.read)

pub returns-in-Ok-clause-prepared : goal.returns-in-Ok-clause-prepared
returns-in-Ok-clause-prepared g c job low high =
    let h : Held = holding_frames c.self.inside.reader.opened.dataset c.self.inside.reader.opened.scale c.self.inside.to c.self.inside.jobs c.self.inside.first c.self.inside.count c.self.inside.frames.items in
    ready_some h c.args.from c.args.to _ job low high

pub returns-in-Ok-clause-ready : goal.returns-in-Ok-clause-ready
returns-in-Ok-clause-ready g c =
    let h : Held = holding_frames c.self.inside.reader.opened.dataset c.self.inside.reader.opened.scale c.self.inside.to c.self.inside.jobs c.self.inside.first c.self.inside.count c.self.inside.frames.items in
    let len = c.read_jobs.ensures.frames ∙ ap length c.deref_mut.ensures.value in
    subst (λ x. IfSome (g.S.Source.objects c.args.store.now) (λ m. (job : ℕ) → c.args.from ≤ job → job < c.args.to
    → ready_of (record h { first = c.args.from; count = c.args.to - c.args.from; frames = map (values_in c.self.inside.to) (with_items c.self.inside.frames c.read_jobs.new.frames).items }) job ≡ Some (raw_of x m job))) c.self.view_is
    (ready_held (g.S.Source.objects c.args.store.now) (λ m. copies_of m h.dataset h.from h.to) h (cells_in c.self.inside.jobs) c.args.from c.args.to (map (values_in c.self.inside.to) c.read_jobs.new.frames) _ (held_of h c.self.inside.jobs c.self.invariant.held.jobs_are)
    (ap (map (values_in c.self.inside.to)) (same_items c.self.inside.frames c.read_jobs.new.frames len)) c.in-Ok.ensures.filled c.in-Ok.ensures.read)

pub returns-in-Ok-clause-work : goal.returns-in-Ok-clause-work
returns-in-Ok-clause-work g c =
    ap (λ (r : Opened). work_of (holding_frames r.dataset r.scale c.self.inside.to c.self.inside.jobs c.self.inside.first c.self.inside.count c.self.inside.frames.items)) c.read_jobs.ensures.same
    ∙ ap work_of c.self.view_is

pub returns-in-Err-clause-work : goal.returns-in-Err-clause-work
returns-in-Err-clause-work g c =
    ap (λ (r : Opened). work_of (holding_frames r.dataset r.scale c.self.inside.to c.self.inside.jobs c.self.inside.first c.self.inside.count c.self.inside.frames.items)) c.read_jobs.ensures.same
    ∙ ap work_of c.self.view_is

pub returns-in-Ok-clause-apart : goal.returns-in-Ok-clause-apart
returns-in-Ok-clause-apart g c dataset s apart =
    subst (λ (r : Opened). IsApart (holding_frames r.dataset r.scale c.self.inside.to c.self.inside.jobs c.self.inside.first c.self.inside.count c.self.inside.frames.items) dataset s) (sym c.read_jobs.ensures.same)
    (subst (λ h. IsApart h dataset s) (sym c.self.view_is) apart)

pub returns-in-Err-clause-apart : goal.returns-in-Err-clause-apart
returns-in-Err-clause-apart g c dataset s apart =
    subst (λ (r : Opened). IsApart (holding_frames r.dataset r.scale c.self.inside.to c.self.inside.jobs c.self.inside.first c.self.inside.count c.self.inside.frames.items) dataset s) (sym c.read_jobs.ensures.same)
    (subst (λ h. IsApart h dataset s) (sym c.self.view_is) apart)

pub returns-in-Ok-clause-sure : goal.returns-in-Ok-clause-sure
returns-in-Ok-clause-sure g c sure = absurd sure

pub returns-in-Err-clause-sure : goal.returns-in-Err-clause-sure
returns-in-Err-clause-sure g c sure = absurd sure

pub read_jobs-requires-clause-keeps : goal.read_jobs-requires-clause-keeps
read_jobs-requires-clause-keeps g c = subst (λ h. Keeps h (g.S.Source.objects c.args.store.now)) (sym c.self.view_is) c.requires.keeps

pub returns-in-Ok-clause-keeps : goal.returns-in-Ok-clause-keeps
returns-in-Ok-clause-keeps g c = subst (λ o. KeepsIndex o c.read_jobs.new.reader) (sym c.read_jobs.ensures.reads.kept.same_objects) c.read_jobs.ensures.keeps

pub returns-in-Ok-clause-asked : goal.returns-in-Ok-clause-asked
returns-in-Ok-clause-asked g c =
    let h : Held = holding_frames c.self.inside.reader.opened.dataset c.self.inside.reader.opened.scale c.self.inside.to c.self.inside.jobs c.self.inside.first c.self.inside.count c.self.inside.frames.items in
    asked_held (g.S.Source.objects c.args.store.now) true h c.args.self.now c.self.inside.reader.shards c.read_jobs.new.reader.shards (cells_in c.self.inside.jobs) c.args.from (c.args.to - c.args.from) _ _ c.self.view_is (held_of h c.self.inside.jobs c.self.invariant.held.jobs_are) c.in-Ok.ensures.run

pub returns-in-Err-clause-keeps : goal.returns-in-Err-clause-keeps
returns-in-Err-clause-keeps g c = subst (λ o. KeepsIndex o c.read_jobs.new.reader) (sym c.read_jobs.ensures.reads.kept.same_objects) c.read_jobs.ensures.keeps

pub returns-in-Err-clause-asked : goal.returns-in-Err-clause-asked
returns-in-Err-clause-asked g c =
    let h : Held = holding_frames c.self.inside.reader.opened.dataset c.self.inside.reader.opened.scale c.self.inside.to c.self.inside.jobs c.self.inside.first c.self.inside.count c.self.inside.frames.items in
    asked_held (g.S.Source.objects c.args.store.now) false h c.args.self.now c.self.inside.reader.shards c.read_jobs.new.reader.shards (cells_in c.self.inside.jobs) c.args.from (c.args.to - c.args.from) _ _ c.self.view_is (held_of h c.self.inside.jobs c.self.invariant.held.jobs_are) c.in-Err.ensures.run

pub returns-in-Ok-clause-more : goal.returns-in-Ok-clause-more
returns-in-Ok-clause-more g c =
    let h : Held = holding_frames c.self.inside.reader.opened.dataset c.self.inside.reader.opened.scale c.self.inside.to c.self.inside.jobs c.self.inside.first c.self.inside.count c.self.inside.frames.items in
    in_told (g.S.Source.objects c.args.store.now) _ (λ m told first count begin at has.
    let more =
    more_held m true h c.args.self.now c.self.inside.reader.shards c.read_jobs.new.reader.shards (cells_in c.self.inside.jobs) c.args.from (c.args.to - c.args.from) (g.S.Source.asked c.args.store.now) (g.S.Source.asked c.read_jobs.new.store) first count begin
    c.self.view_is (held_of h c.self.inside.jobs c.self.invariant.held.jobs_are) (from_told (g.S.Source.objects c.args.store.now) _ m told c.in-Ok.ensures.run) at has in (
      more.0,
      subst (λ (r : Opened). HasRun m r.dataset r.scale (sources r.scale c.self.inside.to (cells_of h) first (count + (c.args.to - c.args.from))) begin (g.S.Source.asked c.read_jobs.new.store) c.read_jobs.new.reader.shards)
          (sym c.read_jobs.ensures.same) (more.1 refl),
    ))

pub returns-in-Err-clause-more : goal.returns-in-Err-clause-more
returns-in-Err-clause-more g c =
    let h : Held = holding_frames c.self.inside.reader.opened.dataset c.self.inside.reader.opened.scale c.self.inside.to c.self.inside.jobs c.self.inside.first c.self.inside.count c.self.inside.frames.items in
    in_told (g.S.Source.objects c.args.store.now) _ (λ m told first count begin at has.
    let more =
    more_held m false h c.args.self.now c.self.inside.reader.shards c.read_jobs.new.reader.shards (cells_in c.self.inside.jobs) c.args.from (c.args.to - c.args.from) (g.S.Source.asked c.args.store.now) (g.S.Source.asked c.read_jobs.new.store) first count begin
    c.self.view_is (held_of h c.self.inside.jobs c.self.invariant.held.jobs_are) (from_told (g.S.Source.objects c.args.store.now) _ m told c.in-Err.ensures.run) at has in
    (more.0, tt))

pub read_jobs-requires-clause-twins : goal.read_jobs-requires-clause-twins
read_jobs-requires-clause-twins g c = c.self.invariant.alike
