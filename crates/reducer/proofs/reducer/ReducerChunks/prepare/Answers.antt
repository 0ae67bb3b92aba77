use Rattle.std.proofs.Common.{◌≡◌, ◌≤◌, ◌<◌, ℕ, List, Some, IfSome, ◌-◌, ◌∙◌, ap, arith, sym, refl, length, map, subst, Ok, Err}
use Rattle.std.specs.Prelude.{All}
use Rattle.std.specs.Vec.{with_items}
use Rattle.std.proofs.lemmas.List.{length-map}
use Rattle.cutout.specs.Opened.{Opened}
use Rattle.write_plan.specs.Jobs.{Prepares, cells_in, jobs_fault, window_of}
use Rattle.copier.specs.Held.{Held, Holds, cells_of, holding}
use Rattle.copier.proofs.HeldSteps.{all_cells, held_again, held_len, held_of, prepare_of, ready_held, ready_some, same_items}
use Rattle.reducer.specs.Reading.{reductions_of}
use Rattle.reducer.specs.Works.{IsApart, IsReduction, Reduction, raw_of, ready_of, work_of}
use Rattle.reducer.proofs.reducer.ReducerChunks.prepare.Goals as goal

pub reduce_jobs-requires-clause-source : goal.reduce_jobs-requires-clause-source
reduce_jobs-requires-clause-source g c = c.self.invariant.0

pub reduce_jobs-requires-clause-cells : goal.reduce_jobs-requires-clause-cells
reduce_jobs-requires-clause-cells g c =
    let h : Held = holding c.self.inside.reader.opened.dataset c.self.inside.from c.self.inside.to c.self.inside.jobs c.self.inside.first c.self.inside.count c.self.inside.frames.items in
    all_cells h c.self.inside.jobs c.self.invariant.1.held.jobs_are

pub reduce_jobs-requires-clause-each : goal.reduce_jobs-requires-clause-each
reduce_jobs-requires-clause-each g c = subst (All (Holds c.self.inside.to)) (sym c.deref_mut.ensures.value) c.self.invariant.1.held.each

pub reduce_jobs-requires-clause-within : goal.reduce_jobs-requires-clause-within
reduce_jobs-requires-clause-within g c =
    let h : Held = holding c.self.inside.reader.opened.dataset c.self.inside.from c.self.inside.to c.self.inside.jobs c.self.inside.first c.self.inside.count c.self.inside.frames.items in
    let view = ap (λ (x : Reduction). length (cells_of x.held)) c.self.view_is in
    let len = held_len h c.self.inside.jobs c.self.invariant.1.held.jobs_are in
    omega (arith, view, len, c.requires.within, c.requires.order)

pub reduce_jobs-requires-clause-enough : goal.reduce_jobs-requires-clause-enough
reduce_jobs-requires-clause-enough g c =
    let view = ap (λ (x : Reduction). length (cells_of x.held)) c.self.view_is in
    let window = ap (λ (x : Reduction). window_of x.held.to) c.self.view_is in
    let room = c.self.invariant.1.held.room in
    let all = length-map c.self.inside.frames.items (λ f. f.items) in
    let frames = ap length c.deref_mut.ensures.value in
    omega (arith, view, window, room, all, frames, c.requires.within, c.requires.window)

pub invariant_of-self : goal.invariant_of-self
invariant_of-self g c =
    let h : Held = holding c.self.inside.reader.opened.dataset c.self.inside.from c.self.inside.to c.self.inside.jobs c.self.inside.first c.self.inside.count c.self.inside.frames.items in
    let view = ap (λ (x : Reduction). length (cells_of x.held)) c.self.view_is in
    let window = ap (λ (x : Reduction). window_of x.held.to) c.self.view_is in
    let room = c.self.invariant.1.held.room in
    let all = length-map c.self.inside.frames.items (λ f. f.items) in (
      ap (λ (r : Opened). r.scale) c.reduce_jobs.ensures.same ∙ c.self.invariant.0,
      subst (λ (d : List ℕ). IsReduction (holding d c.self.inside.from c.self.inside.to c.self.inside.jobs c.args.from (c.args.to - c.args.from) (with_items c.self.inside.frames c.reduce_jobs.new.frames).items) c.self.inside.jobs
          (with_items c.self.inside.frames c.reduce_jobs.new.frames).items c.reduce_jobs.new.buffer c.reduce_jobs.new.ahead)
          (sym (ap (λ (r : Opened). r.dataset) c.reduce_jobs.ensures.same))
          (record {
            next = c.self.invariant.1.next;
            held =
                held_again h c.self.inside.jobs c.args.from (c.args.to - c.args.from) c.self.inside.frames.items c.self.inside.frames c.reduce_jobs.new.frames c.self.invariant.1.held refl
                (c.reduce_jobs.ensures.frames ∙ ap length c.deref_mut.ensures.value)
                (omega (arith, view, window, room, all, c.requires.within, c.requires.window)) c.in-Ok.ensures.filled c.reduce_jobs.ensures.each;
            room = c.reduce_jobs.ensures.room;
            room_ahead = c.reduce_jobs.ensures.ahead;
          }),
    )

pub invariant_of-self-in-Err : goal.invariant_of-self-in-Err
invariant_of-self-in-Err g c =
    let h : Held = holding c.self.inside.reader.opened.dataset c.self.inside.from c.self.inside.to c.self.inside.jobs c.self.inside.first c.self.inside.count c.self.inside.frames.items in (
      ap (λ (r : Opened). r.scale) c.reduce_jobs.ensures.same ∙ c.self.invariant.0,
      subst (λ (d : List ℕ). IsReduction (holding d c.self.inside.from c.self.inside.to c.self.inside.jobs c.self.inside.first 0 (with_items c.self.inside.frames c.reduce_jobs.new.frames).items) c.self.inside.jobs
          (with_items c.self.inside.frames c.reduce_jobs.new.frames).items c.reduce_jobs.new.buffer c.reduce_jobs.new.ahead)
          (sym (ap (λ (r : Opened). r.dataset) c.reduce_jobs.ensures.same))
          (record {
            next = c.self.invariant.1.next;
            held =
                held_again h c.self.inside.jobs c.self.inside.first 0 c.self.inside.frames.items c.self.inside.frames c.reduce_jobs.new.frames c.self.invariant.1.held refl
                (c.reduce_jobs.ensures.frames ∙ ap length c.deref_mut.ensures.value) (omega arith) (λ k l. absurd (omega (arith, l))) c.reduce_jobs.ensures.each;
            room = c.reduce_jobs.ensures.room;
            room_ahead = c.reduce_jobs.ensures.ahead;
          }),
    )

pub returns-in-Err-clause-answer : goal.returns-in-Err-clause-answer
returns-in-Err-clause-answer g c =
    let h : Held = holding c.self.inside.reader.opened.dataset c.self.inside.from c.self.inside.to c.self.inside.jobs c.self.inside.first c.self.inside.count c.self.inside.frames.items in
    subst (λ (x : Reduction). IfSome (g.S.Source.objects c.args.store.now) (λ m. Prepares (Err c.in-Err.fault) (jobs_fault (work_of x) m c.args.from (c.args.to - c.args.from)))) c.self.view_is
    (prepare_of (g.S.Source.objects c.args.store.now) (Err c.in-Err.fault) (λ m. reductions_of c.self.inside.method m h.dataset h.from h.to) h (cells_in c.self.inside.jobs) c.args.from (c.args.to - c.args.from) _
    (held_of h c.self.inside.jobs c.self.invariant.1.held.jobs_are)
    c.in-Err.ensures.read)

pub returns-in-Ok-clause-answer : goal.returns-in-Ok-clause-answer
returns-in-Ok-clause-answer g c =
    let h : Held = holding c.self.inside.reader.opened.dataset c.self.inside.from c.self.inside.to c.self.inside.jobs c.self.inside.first c.self.inside.count c.self.inside.frames.items in
    subst (λ (x : Reduction). IfSome (g.S.Source.objects c.args.store.now) (λ m. Prepares (Ok tt) (jobs_fault (work_of x) m c.args.from (c.args.to - c.args.from)))) c.self.view_is
    (prepare_of (g.S.Source.objects c.args.store.now) (Ok tt) (λ m. reductions_of c.self.inside.method m h.dataset h.from h.to) h (cells_in c.self.inside.jobs) c.args.from (c.args.to - c.args.from) _
    (held_of h c.self.inside.jobs c.self.invariant.1.held.jobs_are)
    c.in-Ok.ensures.read)

pub returns-in-Ok-clause-prepared : goal.returns-in-Ok-clause-prepared
returns-in-Ok-clause-prepared g c job low high =
    let h : Held = holding c.self.inside.reader.opened.dataset c.self.inside.from c.self.inside.to c.self.inside.jobs c.self.inside.first c.self.inside.count c.self.inside.frames.items in
    ready_some h c.args.from c.args.to _ job low high

pub returns-in-Ok-clause-ready : goal.returns-in-Ok-clause-ready
returns-in-Ok-clause-ready g c =
    let h : Held = holding c.self.inside.reader.opened.dataset c.self.inside.from c.self.inside.to c.self.inside.jobs c.self.inside.first c.self.inside.count c.self.inside.frames.items in
    let len = c.reduce_jobs.ensures.frames ∙ ap length c.deref_mut.ensures.value in
    subst (λ (x : Reduction). IfSome (g.S.Source.objects c.args.store.now) (λ m. (job : ℕ) → c.args.from ≤ job → job < c.args.to
    → ready_of (record { method = c.self.inside.method; held = record h { first = c.args.from; count = c.args.to - c.args.from; frames = map (λ f. f.items) (with_items c.self.inside.frames c.reduce_jobs.new.frames).items } }) job ≡ Some (raw_of x m job))) c.self.view_is
    (ready_held (g.S.Source.objects c.args.store.now) (λ m. reductions_of c.self.inside.method m h.dataset h.from h.to) h (cells_in c.self.inside.jobs) c.args.from c.args.to (map (λ f. f.items) c.reduce_jobs.new.frames) _
    (held_of h c.self.inside.jobs c.self.invariant.1.held.jobs_are)
    (ap (map (λ f. f.items)) (same_items c.self.inside.frames c.reduce_jobs.new.frames len)) c.in-Ok.ensures.filled
    c.in-Ok.ensures.read)

pub returns-in-Ok-clause-work : goal.returns-in-Ok-clause-work
returns-in-Ok-clause-work g c =
    ap (λ (r : Opened). work_of (record { method = c.self.inside.method; held = holding r.dataset c.self.inside.from c.self.inside.to c.self.inside.jobs c.self.inside.first c.self.inside.count c.self.inside.frames.items })) c.reduce_jobs.ensures.same
    ∙ ap work_of c.self.view_is

pub returns-in-Err-clause-work : goal.returns-in-Err-clause-work
returns-in-Err-clause-work g c =
    ap (λ (r : Opened). work_of (record { method = c.self.inside.method; held = holding r.dataset c.self.inside.from c.self.inside.to c.self.inside.jobs c.self.inside.first c.self.inside.count c.self.inside.frames.items })) c.reduce_jobs.ensures.same
    ∙ ap work_of c.self.view_is

pub returns-in-Ok-clause-apart : goal.returns-in-Ok-clause-apart
returns-in-Ok-clause-apart g c dataset s apart =
    subst (λ (r : Opened). IsApart (record { method = c.self.inside.method; held = holding r.dataset c.self.inside.from c.self.inside.to c.self.inside.jobs c.self.inside.first c.self.inside.count c.self.inside.frames.items }) dataset s) (sym c.reduce_jobs.ensures.same)
    (subst (λ r. IsApart r dataset s) (sym c.self.view_is) apart)

pub returns-in-Err-clause-apart : goal.returns-in-Err-clause-apart
returns-in-Err-clause-apart g c dataset s apart =
    subst (λ (r : Opened). IsApart (record { method = c.self.inside.method; held = holding r.dataset c.self.inside.from c.self.inside.to c.self.inside.jobs c.self.inside.first c.self.inside.count c.self.inside.frames.items }) dataset s) (sym c.reduce_jobs.ensures.same)
    (subst (λ r. IsApart r dataset s) (sym c.self.view_is) apart)

pub returns-in-Ok-clause-sure : goal.returns-in-Ok-clause-sure
returns-in-Ok-clause-sure g c sure = absurd sure

pub returns-in-Err-clause-sure : goal.returns-in-Err-clause-sure
returns-in-Err-clause-sure g c sure = absurd sure
