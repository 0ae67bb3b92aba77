use Rattle.std.proofs.Common.{◌≡◌, length}
use Rattle.std.specs.Prelude.{All}
use Rattle.copier.specs.Held.{Holds}
use Rattle.copier.proofs.copier.reserve_frames.Given as goal

abbrev pub invariant-loop : goal.invariant-loop
invariant-loop l = record {
  count : length l.frames.items ≡ l.counter;
  each : All (Holds l.scale) l.frames.items;
}
