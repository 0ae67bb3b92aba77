use Rattle.std.proofs.Common.{◌≡◌, ◌≢◌, ℕ, ap, subst, sym, ◌∙◌, rules, vec_capacity}
use Rattle.std.specs.Prelude.{Option, slice_get}
use Rattle.job_log.specs.declared.stages.Stage.{Stage}
use Rattle.job_log.specs.Replay.{out_at, stage_in}
use Rattle.job_log.proofs.Steps.{stage_is}
use Rattle.job_log.proofs.log.JobLog.has_out.Goals as goal

pub returns-clause-yes : goal.returns-clause-yes
returns-clause-yes g c = λ is.
    let r = c.self.inside in
    let seen : c.args.self.now ≡ r.log.items = search rules in
    let found = c.has_seat.ensures.yes is in
    (found.0, ap (λ l. stage_in g.N.Naming.jobs l found.0) seen ∙ stage_is g.N.Naming.jobs g.N.Naming.room r.next r.stages.items r.log.items (vec_capacity r.stages) (vec_capacity r.log) r.claims.total r.deposits.total c.self.invariant found.0 ∙ search (rules, found.1))

pub returns-clause-no : goal.returns-clause-no
returns-clause-no g c = λ is job out.
    let r = c.self.inside in
    let seen : c.args.self.now ≡ r.log.items = search rules in
    let at : slice_get r.stages.items job ≡ out_at c.args.seat = sym (stage_is g.N.Naming.jobs g.N.Naming.room r.next r.stages.items r.log.items (vec_capacity r.stages) (vec_capacity r.log) r.claims.total r.deposits.total c.self.invariant job) ∙ ap (λ l. stage_in g.N.Naming.jobs l job) (sym seen) ∙ out in
    c.has_seat.ensures.no is job (search (rules, at))
