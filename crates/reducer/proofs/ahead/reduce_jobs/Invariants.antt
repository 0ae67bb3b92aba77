use Rattle.std.proofs.Common.{◌≡◌, ◌+◌, length, map, IfSome, Ok, Some}
use Rattle.std.specs.Prelude.{All}
use Rattle.vol_base.specs.Outside.{Objects, OnlyReads}
use Rattle.vol_spec.specs.Grid.{IsCell}
use Rattle.vol_spec.specs.Raw.{raw_len}
use Rattle.vol_spec.specs.StoredCells.{cell_of}
use Rattle.cutout.specs.Kept.{KeepsIndex}
use Rattle.write_plan.specs.Jobs.{cells_in}
use Rattle.copier.specs.Held.{AreFilled, AreRead, CutsBox, Holds}
use Rattle.reduce_laws.specs.Reduced.{source_box}
use Rattle.reducer.specs.Reading.{HasRoom, reductions_of}
use Rattle.reducer.proofs.ahead.reduce_jobs.Given as goal

abbrev pub invariant-loop-k : goal.invariant-loop-k
invariant-loop-k g l = record {
  own : IsCell l.to l.cell;
  cell : l.cell ≡ cell_of (cells_in l.jobs) (l.first + l.k);
  filled : AreFilled l.to l.k (map (λ f. f.items) l.frames);
  each : All (Holds l.to) l.frames;
  frames : length l.frames ≡ length l.fn.frames;
  read : (m : Objects) → g.S.Source.objects l.fn.store ≡ Some m → AreRead (reductions_of l.method m l.fn.reader.opened.dataset l.from l.to) l.to (cells_in l.jobs) l.first l.k (map (λ f. f.items) l.frames);
  cut : (m : Objects) → g.S.Source.objects l.fn.store ≡ Some m → CutsBox (Ok tt) m l.fn.reader.opened.dataset l.from (source_box l.from l.to l.cell) l.buffer.items;
  len : length l.buffer.items ≡ raw_len (source_box l.from l.to l.cell) l.from.channels l.from.width;
  same : l.reader.opened ≡ l.fn.reader.opened;
  keeps : KeepsIndex (g.S.Source.objects l.fn.store) l.reader;
  room : HasRoom l.from l.to l.buffer;
  ahead : IfSome l.ahead (HasRoom l.from l.to);
  kept : OnlyReads (g.S.Source.objects l.fn.store) (g.S.Source.objects l.store) (g.S.Source.draft l.fn.store) (g.S.Source.draft l.store);
  history : g.S.Source.history l.store ≡ g.S.Source.history l.fn.store;
  later : g.S.Source.faults l.store ≡ g.S.Source.faults l.fn.store;
}
