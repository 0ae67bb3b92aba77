use Rattle.std.proofs.Common.{◌≡◌, ◌-◌, ◌∙◌, List, ap, arith, get_or, length, refl, subst, sym, take}
use Rattle.std.specs.Prelude.{IsSomeAnd}
use Rattle.copier.specs.Frames.{holding_frames}
use Rattle.copier.specs.Held.{Held, ready_of}
use Rattle.copier.specs.declared.frame.JobFrame.{JobFrame}
use Rattle.copier.proofs.ChunkSteps.{frame_fills, frame_values, job_inside}
use Rattle.copier.proofs.HeldSteps.{ready_facts, ready_put}
use Rattle.copier.proofs.copier.CopierChunks.fill.Goals as goal

pub find_frame-requires-clause-low : goal.find_frame-requires-clause-low
find_frame-requires-clause-low c =
    let h : Held = holding_frames c.self.inside.reader.opened.dataset c.self.inside.reader.opened.scale c.self.inside.to c.self.inside.jobs c.self.inside.first c.self.inside.count c.self.inside.frames.items in
    (ready_facts h c.args.job (length c.args.raw.now) (subst (λ x. IsSomeAnd (ready_of x c.args.job) (λ b. length b ≡ length c.args.raw.now)) (sym c.self.view_is) c.requires)).0

pub find_frame-requires-clause-within : goal.find_frame-requires-clause-within
find_frame-requires-clause-within c =
    let h : Held = holding_frames c.self.inside.reader.opened.dataset c.self.inside.reader.opened.scale c.self.inside.to c.self.inside.jobs c.self.inside.first c.self.inside.count c.self.inside.frames.items in
    let facts = ready_facts h c.args.job (length c.args.raw.now) (subst (λ x. IsSomeAnd (ready_of x c.args.job) (λ b. length b ≡ length c.args.raw.now)) (sym c.self.view_is) c.requires) in
    let inside = job_inside h c.self.inside.jobs c.self.inside.twins c.self.inside.frames.items c.self.invariant refl c.args.job facts.0 facts.1 in
    let same = ap length c.deref.ensures.value in
    omega (arith, inside, same)

pub put_values-requires : goal.put_values-requires
put_values-requires c =
    let h : Held = holding_frames c.self.inside.reader.opened.dataset c.self.inside.reader.opened.scale c.self.inside.to c.self.inside.jobs c.self.inside.first c.self.inside.count c.self.inside.frames.items in
    frame_fills h c.self.inside.jobs c.self.inside.twins c.self.inside.frames.items c.self.invariant refl c.args.job c.find_frame.result.now
    (subst (λ (fs : List JobFrame). (d : JobFrame) → c.find_frame.result.now ≡ get_or fs (c.args.job - c.self.inside.first) d) c.deref.ensures.value c.find_frame.ensures) (length c.args.raw.now) (subst (λ x. IsSomeAnd (ready_of x c.args.job) (λ b. length b ≡ length c.args.raw.now)) (sym c.self.view_is) c.requires)

pub returns : goal.returns
returns c =
    let h : Held = holding_frames c.self.inside.reader.opened.dataset c.self.inside.reader.opened.scale c.self.inside.to c.self.inside.jobs c.self.inside.first c.self.inside.count c.self.inside.frames.items in
    let some = (subst (λ x. IsSomeAnd (ready_of x c.args.job) (λ b. length b ≡ length c.args.raw.now)) (sym c.self.view_is) c.requires) in
    let facts = ready_facts h c.args.job (length c.args.raw.now) some in
    ap (λ x. ready_of x c.args.job) (sym c.self.view_is)
    ∙ ready_put h c.self.inside.jobs _ c.args.job (length c.args.raw.now) c.put_values.new.raw c.self.invariant.held some
    (c.put_values.ensures ∙ ap (take (length c.args.raw.now)) (sym (frame_values h c.self.inside.jobs c.self.inside.twins c.self.inside.frames.items c.self.invariant refl c.args.job c.find_frame.result.now
    (subst (λ (fs : List JobFrame). (d : JobFrame) → c.find_frame.result.now ≡ get_or fs (c.args.job - c.self.inside.first) d) c.deref.ensures.value c.find_frame.ensures) facts.0 facts.1)))
