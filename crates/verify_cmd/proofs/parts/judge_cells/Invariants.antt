use Rattle.std.proofs.Common.{◌≡◌, ◌≤◌, ◌+◌, ◌*◌, ◌++◌, length, IfSome, Some}
use Rattle.vol_base.specs.Outside.{Objects, OnlyReads}
use Rattle.vol_spec.specs.Grid.{cells_in}
use Rattle.cutout.proofs.CostSteps.{costs}
use Rattle.verify_cmd.specs.Judges.{Serves}
use Rattle.verify_cmd.proofs.PartSteps.{SoundSoFar}
use Rattle.verify_cmd.proofs.parts.judge_cells.Given as goal

abbrev pub invariant-loop-cell : goal.invariant-loop-cell
invariant-loop-cell g l = record {
  left : l.yielded ++ l.cell-iterator ≡ cells_in l.origin.scale l.part;
  cells : l.report.cells ≡ length l.yielded;
  both : l.report.stored + l.report.absent ≡ l.report.cells;
  sound : (m : Objects) → g.S.Source.objects l.fn.store ≡ Some m → SoundSoFar m l.origin.dataset l.origin.scale l.yielded l.report;
  serves : Serves (g.S.Source.objects l.fn.store) l.origin l.judge;
  asked : IfSome (g.S.Source.objects l.fn.store) (λ m. g.S.Source.asked l.store ≤ g.S.Source.asked l.fn.store + 2 * costs m l.origin.dataset l.origin.scale l.yielded);
  kept : OnlyReads (g.S.Source.objects l.fn.store) (g.S.Source.objects l.store) (g.S.Source.draft l.fn.store) (g.S.Source.draft l.store);
  history : g.S.Source.history l.store ≡ g.S.Source.history l.fn.store;
  later : g.S.Source.faults l.store ≡ g.S.Source.faults l.fn.store;
}
