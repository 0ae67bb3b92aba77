use Rattle.std.proofs.Common.{◌∙◌, ap, subst, sym}
use Rattle.cutout.specs.Opened.{Opened}
use Rattle.copier.specs.Frames.{IsHeldIn, holding_frames}
use Rattle.copier.specs.Held.{IsApart, ready_of, work_of}
use Rattle.copier.proofs.copier.CopierChunks.forget.Goals as goal

pub invariant_of-self : goal.invariant_of-self
invariant_of-self c = subst (λ (r : Opened). IsHeldIn (holding_frames r.dataset r.scale c.self.inside.to c.self.inside.jobs c.self.inside.first c.self.inside.count c.self.inside.frames.items) c.self.inside.jobs c.self.inside.twins c.self.inside.frames.items) (sym c.forget.ensures.same) c.self.invariant

pub returns-clause-nothing : goal.returns-clause-nothing
returns-clause-nothing c objects = c.forget.ensures.nothing objects

pub returns-clause-ready : goal.returns-clause-ready
returns-clause-ready c = ap (λ (r : Opened). ready_of (holding_frames r.dataset r.scale c.self.inside.to c.self.inside.jobs c.self.inside.first c.self.inside.count c.self.inside.frames.items)) c.forget.ensures.same ∙ ap ready_of c.self.view_is

pub returns-clause-work : goal.returns-clause-work
returns-clause-work c = ap (λ (r : Opened). work_of (holding_frames r.dataset r.scale c.self.inside.to c.self.inside.jobs c.self.inside.first c.self.inside.count c.self.inside.frames.items)) c.forget.ensures.same ∙ ap work_of c.self.view_is

pub returns-clause-apart : goal.returns-clause-apart
returns-clause-apart c dataset s apart =
    subst (λ (r : Opened). IsApart (holding_frames r.dataset r.scale c.self.inside.to c.self.inside.jobs c.self.inside.first c.self.inside.count c.self.inside.frames.items) dataset s) (sym c.forget.ensures.same)
    (subst (λ h. IsApart h dataset s) (sym c.self.view_is) apart)
