use Rattle.std.proofs.Common.{◌≡◌, ◌++◌, true, Some}
use Rattle.vol_base.specs.Outside.{Objects, OnlyReads}
use Rattle.vol_spec.specs.Grid.{cells_in}
use Rattle.cutout.specs.Reading.{ReadSoFar}
use Rattle.cutout.specs.Runs.{RunsOn}
use Rattle.cutout.specs.Serving.{Serves}
use Rattle.cutout.proofs.cells.CellReader.read_cells.Given as goal

abbrev pub invariant-loop-cell : goal.invariant-loop-cell
invariant-loop-cell g l = record {
  left : l.yielded ++ l.cell-iterator ≡ cells_in l.origin.scale l.part;
  read : (m : Objects) → g.S.Source.objects l.fn.store ≡ Some m → ReadSoFar m l.origin.dataset l.origin.scale l.part l.channels l.yielded l.out;
  serves : Serves (g.S.Source.objects l.fn.store) l.origin l.self;
  run : (m : Objects) → g.S.Source.objects l.fn.store ≡ Some m → RunsOn true m l.origin.dataset l.origin.scale l.yielded (g.S.Source.asked l.fn.store) (g.S.Source.asked l.store) l.fn.self.shards l.self.shards;
  kept : OnlyReads (g.S.Source.objects l.fn.store) (g.S.Source.objects l.store) (g.S.Source.draft l.fn.store) (g.S.Source.draft l.store);
  history : g.S.Source.history l.store ≡ g.S.Source.history l.fn.store;
  later : g.S.Source.faults l.store ≡ g.S.Source.faults l.fn.store;
}
