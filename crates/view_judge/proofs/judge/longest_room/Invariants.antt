use Rattle.std.proofs.Common.{◌+◌, ◌<◌, ℕ}
use Rattle.vol_spec.specs.Views.{view}
use Rattle.view_judge.specs.Further.{HasRoom}
use Rattle.view_judge.specs.Regions.{own_regions, regions}
use Rattle.view_judge.proofs.judge.longest_room.Given as goal

abbrev pub invariant-loop-k : goal.invariant-loop-k
invariant-loop-k l = record {
  region : HasRoom (regions l.scale) l.room;
  own : (i : ℕ) → i < l.k → HasRoom (own_regions l.scale (view l.scale (1 + i))) l.room;
  cells : (i : ℕ) → i < l.k → HasRoom (view l.scale (1 + i)) l.room;
}
