use Rattle.std.proofs.Common.{◌≡◌, ◌-◌, ◌∙◌, ℕ, List, [], Vec, Global, ap, length, map, subst, sym, take}
use Rattle.std.specs.Prelude.{IsSomeAnd, slice_index_or}
use Rattle.copier.specs.Held.{HasFront, Held, holding, ready_of}
use Rattle.copier.proofs.HeldSteps.{ready_front, ready_put}
use Rattle.reducer.specs.Works.{Reduction}
use Rattle.reducer.proofs.reducer.ReducerChunks.fill.Goals as goal

pub put_front-requires : goal.put_front-requires
put_front-requires g c =
    let h : Held = holding c.self.inside.reader.opened.dataset c.self.inside.from c.self.inside.to c.self.inside.jobs c.self.inside.first c.self.inside.count c.self.inside.frames.items in
    let some : IsSomeAnd (ready_of h c.args.job) (λ b. length b ≡ length c.args.raw.now) = subst (λ (x : Reduction). IsSomeAnd (ready_of x.held c.args.job) (λ b. length b ≡ length c.args.raw.now)) (sym c.self.view_is) c.requires in
    subst (λ (fs : List (Vec ℕ Global)). HasFront c.self.inside.first c.args.job (length c.args.raw.now) (map (λ (f : Vec ℕ Global). f.items) fs)) (sym c.deref.ensures.value)
    (ready_front h c.self.inside.jobs c.self.inside.frames.items c.args.job (length c.args.raw.now) c.self.invariant.1.held some)

pub returns : goal.returns
returns g c =
    let h : Held = holding c.self.inside.reader.opened.dataset c.self.inside.from c.self.inside.to c.self.inside.jobs c.self.inside.first c.self.inside.count c.self.inside.frames.items in
    let some : IsSomeAnd (ready_of h c.args.job) (λ b. length b ≡ length c.args.raw.now) = subst (λ (x : Reduction). IsSomeAnd (ready_of x.held c.args.job) (λ b. length b ≡ length c.args.raw.now)) (sym c.self.view_is) c.requires in
    ap (λ (x : Reduction). ready_of x.held c.args.job) (sym c.self.view_is)
    ∙ ready_put h c.self.inside.jobs c.self.inside.frames.items c.args.job (length c.args.raw.now) c.put_front.new.raw c.self.invariant.1.held some
    (c.put_front.ensures ∙ ap (λ (fs : List (Vec ℕ Global)). take (length c.args.raw.now) (slice_index_or (map (λ (f : Vec ℕ Global). f.items) fs) (c.args.job - c.self.inside.first) [])) c.deref.ensures.value)
