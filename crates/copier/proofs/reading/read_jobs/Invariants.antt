use Rattle.std.proofs.Common.{◌≡◌, length, map, Some}
use Rattle.std.specs.Prelude.{All}
use Rattle.vol_base.specs.Outside.{Objects, OnlyReads}
use Rattle.cutout.specs.Kept.{KeepsIndex}
use Rattle.write_plan.specs.Jobs.{cells_in}
use Rattle.copier.specs.Frames.{HasRoom, KeepChunks, values_in}
use Rattle.copier.specs.Held.{AreFilled, AreRead, copies_of}
use Rattle.copier.proofs.AskedSteps.{HasRunOn}
use Rattle.copier.proofs.reading.read_jobs.Given as goal

abbrev pub invariant-loop-k : goal.invariant-loop-k
invariant-loop-k g l = record {
  filled : AreFilled l.to l.k (map (values_in l.to) l.frames);
  each : All (HasRoom l.to) l.frames;
  chunks : KeepChunks l.to (cells_in l.jobs) l.first l.k l.frames;
  frames : length l.frames ≡ length l.fn.frames;
  read : (m : Objects) → g.S.Source.objects l.fn.store ≡ Some m → AreRead (copies_of m l.fn.reader.opened.dataset l.fn.reader.opened.scale l.to) l.to (cells_in l.jobs) l.first l.k (map (values_in l.to) l.frames);
  same : l.reader.opened ≡ l.fn.reader.opened;
  keeps : KeepsIndex (g.S.Source.objects l.fn.store) l.reader;
  run : (m : Objects) → g.S.Source.objects l.fn.store ≡ Some m → HasRunOn m l.fn.reader.opened l.to (cells_in l.jobs) l.first l.k (g.S.Source.asked l.fn.store) (g.S.Source.asked l.store) l.fn.reader l.reader;
  kept : OnlyReads (g.S.Source.objects l.fn.store) (g.S.Source.objects l.store) (g.S.Source.draft l.fn.store) (g.S.Source.draft l.store);
  history : g.S.Source.history l.store ≡ g.S.Source.history l.fn.store;
  later : g.S.Source.faults l.store ≡ g.S.Source.faults l.fn.store;
}
