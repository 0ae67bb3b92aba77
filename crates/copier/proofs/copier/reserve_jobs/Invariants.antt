use Rattle.std.proofs.Common.{◌≡◌, length}
use Rattle.std.specs.Prelude.{All}
use Rattle.copier.specs.Frames.{HasRoom}
use Rattle.copier.proofs.copier.reserve_jobs.Given as goal

abbrev pub invariant-loop : goal.invariant-loop
invariant-loop l = record {
  count : length l.frames.items ≡ l.counter;
  each : All (HasRoom l.scale) l.frames.items;
}
