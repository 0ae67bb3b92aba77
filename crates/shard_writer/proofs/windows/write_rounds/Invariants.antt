use Rattle.std.proofs.Common.{◌≡◌, ◌-◌, ◌*◌, ◌^◌, ◌≤◌, Ok}
use Rattle.vol_base.specs.declared.outside.StoreRefusal.{StoreRefusal}
use Rattle.shard_writer.specs.Plain.{ready_objects}
use Rattle.shard_writer.specs.Serving.{ServesRounds}
use Rattle.shard_writer.specs.Writing.{Drops}
use Rattle.shard_writer.specs.Works.{PassesFronts, Puts}
use Rattle.shard_writer.proofs.windows.write_rounds.Given as goal

abbrev pub invariant-loop-begin : goal.invariant-loop-begin
invariant-loop-begin g l = record {
  puts : Puts {E = StoreRefusal} (ready_objects l.dataset l.scale (g.C.Chunks.work l.chunks) (g.C.Chunks.ready l.chunks) l.from l.begin) (g.S.Source.objects l.fn.store) (g.S.Source.objects l.store) (Ok l.bytes);
  history : PassesFronts (λ _. ready_objects l.dataset l.scale (g.C.Chunks.work l.chunks) (g.C.Chunks.ready l.chunks) l.from l.to) (g.S.Source.objects l.fn.store) (g.S.Source.history l.fn.store) (g.S.Source.history l.store);
  small : l.bytes ≤ (l.begin - l.from) * 2 ^ 27;
  low : l.from ≤ l.begin;
  high : l.begin ≤ l.to;
  rounds : ServesRounds l.scale l.rounds;
  draft : Drops (g.S.Source.draft l.fn.store) (g.S.Source.draft l.store);
  later : g.S.Source.faults l.store ≡ g.S.Source.faults l.fn.store;
}

abbrev pub decreases-loop-begin : goal.decreases-loop-begin
decreases-loop-begin g l = l.to - l.begin
