use Rattle.std.proofs.Common.{sym}
use Rattle.write_plan.specs.WriteLists.{writes_in}
use Rattle.write_plan.proofs.KeySteps.{distinct_cells}
use Rattle.write_plan.proofs.PlanSteps.{planned}
use Rattle.write_plan.proofs.WholeSteps.{writes_bytes}
use Rattle.write_plan.proofs.plan.Plan.of.Goals as goal

pub of-requires-clause-distinct : goal.of-requires-clause-distinct
of-requires-clause-distinct c = distinct_cells c.args.scale.now _ c.in_ok-find_cells.ensures.order

pub invariant_of-result : goal.invariant_of-result
invariant_of-result c =
    planned c.args.scale.now c.duplicate-scale.result c.args.writes (writes_in c.list-2.result.now) c.in_ok-pairs.pairs.items c.deref.result.now _ _
    c.duplicate-scale.ensures (sym c.list-2.ensures.writes) c.deref.ensures.value c.requires c.in_ok-pairs.ensures c.in_ok-find_cells.ensures c.in_ok-jobs.ensures.jobs

pub returns-clause-bytes : goal.returns-clause-bytes
returns-clause-bytes c = writes_bytes c.args.writes c.list.ensures.limits
