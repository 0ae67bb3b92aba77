use Rattle.std.proofs.Common.{◌≡◌, ◌+◌, ◌≤◌}
use Rattle.vol_base.specs.Outside.{OnlyReads}
use Rattle.range_server.specs.Bodies.{WhereTold}
use Rattle.range_server.specs.Serving.{AddsServed, NotesGiven}
use Rattle.range_server.proofs.ends.serve_ends.Given as goal

abbrev pub invariant-loop : goal.invariant-loop
invariant-loop g l = record {
  served : WhereTold (g.S.Source.objects l.fn.store) (λ m. WhereTold (g.D.Door.served l.fn.door)
      (λ list. AddsServed m l.dataset l.counter (g.S.Source.faults l.fn.store) (g.S.Source.faults l.store) list (g.D.Door.served l.door)));
  accepted : g.D.Door.accepted l.door ≡ g.D.Door.accepted l.fn.door + l.counter;
  noted : NotesGiven (g.D.Door.served l.fn.door) (g.D.Door.served l.door) (g.D.Door.accepted l.fn.door) (g.D.Door.accepted l.door);
  bound : g.D.Door.bound l.door ≡ g.D.Door.bound l.fn.door;
  kept : OnlyReads (g.S.Source.objects l.fn.store) (g.S.Source.objects l.store) (g.S.Source.draft l.fn.store) (g.S.Source.draft l.store);
  history : g.S.Source.history l.store ≡ g.S.Source.history l.fn.store;
  store_later : g.S.Source.faults l.fn.store ≤ g.S.Source.faults l.store;
  later : g.D.Door.faults l.door ≡ g.D.Door.faults l.fn.door;
}
