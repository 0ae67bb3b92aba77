use Rattle.std.proofs.Common.{◌≡◌, ◌≤◌, ◌-◌, [], IfSome, List, ap, arith, get_or, length, refl, subst, sym, take}
use Rattle.std.specs.Prelude.{IsSome, unwrap_or}
use Rattle.vol_base.specs.Bytes.{AreBytes}
use Rattle.vol_spec.specs.Encodings.{encoded}
use Rattle.vol_spec.specs.Limits.{limit_of}
use Rattle.vol_spec.specs.StoredCells.{cell_of}
use Rattle.copier.specs.Frames.{holding_frames}
use Rattle.copier.specs.Held.{Held, cells_of, ready_of}
use Rattle.copier.specs.declared.frame.JobFrame.{JobFrame}
use Rattle.copier.proofs.ChunkSteps.{frame_keeps, handed_bytes, handed_chunk, job_inside, ready_bounds}
use Rattle.copier.proofs.copier.CopierChunks.chunk.Goals as goal

pub find_frame-requires-clause-low : goal.find_frame-requires-clause-low
find_frame-requires-clause-low c =
    let h : Held = holding_frames c.self.inside.reader.opened.dataset c.self.inside.reader.opened.scale c.self.inside.to c.self.inside.jobs c.self.inside.first c.self.inside.count c.self.inside.frames.items in
    (ready_bounds h c.args.job (subst (λ x. IsSome (ready_of x c.args.job)) (sym c.self.view_is) c.requires.ready)).0

pub find_frame-requires-clause-within : goal.find_frame-requires-clause-within
find_frame-requires-clause-within c =
    let h : Held = holding_frames c.self.inside.reader.opened.dataset c.self.inside.reader.opened.scale c.self.inside.to c.self.inside.jobs c.self.inside.first c.self.inside.count c.self.inside.frames.items in
    let facts = ready_bounds h c.args.job (subst (λ x. IsSome (ready_of x c.args.job)) (sym c.self.view_is) c.requires.ready) in
    let inside = job_inside h c.self.inside.jobs c.self.inside.twins c.self.inside.frames.items c.self.invariant refl c.args.job facts.0 facts.1 in
    let same = ap length c.deref.ensures.value in
    omega (arith, inside, same)

pub hand_chunk-requires-clause-chunk : goal.hand_chunk-requires-clause-chunk
hand_chunk-requires-clause-chunk c =
    let h : Held = holding_frames c.self.inside.reader.opened.dataset c.self.inside.reader.opened.scale c.self.inside.to c.self.inside.jobs c.self.inside.first c.self.inside.count c.self.inside.frames.items in
    frame_keeps h c.self.inside.jobs c.self.inside.twins c.self.inside.frames.items c.self.invariant refl c.args.job c.find_frame.result.now
    (subst (λ (fs : List JobFrame). (d : JobFrame) → c.find_frame.result.now ≡ get_or fs (c.args.job - c.self.inside.first) d) c.deref.ensures.value c.find_frame.ensures) (subst (λ x. IsSome (ready_of x c.args.job)) (sym c.self.view_is) c.requires.ready)

pub hand_chunk-requires-clause-room : goal.hand_chunk-requires-clause-room
hand_chunk-requires-clause-room c =
    subst (λ (x : Held). limit_of x.to.encoding x.to.width x.to.channels x.to.size x.to.chunk ≤ length c.args.out.now) (sym c.self.view_is) c.requires.room

pub returns-clause-chunk : goal.returns-clause-chunk
returns-clause-chunk c =
    let h : Held = holding_frames c.self.inside.reader.opened.dataset c.self.inside.reader.opened.scale c.self.inside.to c.self.inside.jobs c.self.inside.first c.self.inside.count c.self.inside.frames.items in
    subst (λ (x : Held). IfSome c.hand_chunk.result (λ n. take n c.hand_chunk.new.out ≡ encoded x.to (cell_of (cells_of x) c.args.job) (unwrap_or (ready_of x c.args.job) []))) c.self.view_is
    (handed_chunk h c.self.inside.jobs c.self.inside.twins c.self.inside.frames.items c.self.invariant refl c.args.job c.find_frame.result.now
    (subst (λ (fs : List JobFrame). (d : JobFrame) → c.find_frame.result.now ≡ get_or fs (c.args.job - c.self.inside.first) d) c.deref.ensures.value c.find_frame.ensures) (subst (λ x. IsSome (ready_of x c.args.job)) (sym c.self.view_is) c.requires.ready) c.hand_chunk.result c.hand_chunk.new.out c.hand_chunk.ensures.chunk)

pub returns-clause-bytes : goal.returns-clause-bytes
returns-clause-bytes c =
    let h : Held = holding_frames c.self.inside.reader.opened.dataset c.self.inside.reader.opened.scale c.self.inside.to c.self.inside.jobs c.self.inside.first c.self.inside.count c.self.inside.frames.items in
    subst (λ (x : Held). IfSome c.hand_chunk.result (λ n. AreBytes (unwrap_or (ready_of x c.args.job) []))) c.self.view_is
    (handed_bytes h c.self.inside.jobs c.self.inside.twins c.self.inside.frames.items c.self.invariant refl c.args.job c.find_frame.result.now
    (subst (λ (fs : List JobFrame). (d : JobFrame) → c.find_frame.result.now ≡ get_or fs (c.args.job - c.self.inside.first) d) c.deref.ensures.value c.find_frame.ensures) (subst (λ x. IsSome (ready_of x c.args.job)) (sym c.self.view_is) c.requires.ready) c.hand_chunk.result c.hand_chunk.new.out c.hand_chunk.ensures.chunk)
