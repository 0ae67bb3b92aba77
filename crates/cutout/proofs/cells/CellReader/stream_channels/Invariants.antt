use Rattle.std.proofs.Common.{◌≡◌, ◌≤◌, ◌+◌, ◌*◌, IfSome}
use Rattle.vol_base.specs.Outside.{OnlyReads}
use Rattle.vol_spec.specs.Costs.{cost}
use Rattle.cutout.proofs.StreamSteps.{ChannelsSoFar}
use Rattle.cutout.specs.Serving.{Serves}
use Rattle.cutout.specs.Streaming.{Leaves}
use Rattle.cutout.proofs.cells.CellReader.stream_channels.Given as goal

abbrev pub invariant-loop-channel : goal.invariant-loop-channel
invariant-loop-channel g l = record {
  end : l.channel-end ≡ l.origin.scale.channels;
  few : l.channel ≤ l.origin.scale.channels;
  gained : Leaves (g.S.Source.objects l.fn.store) (g.O.Outlet.written l.fn.out) (g.O.Outlet.written l.out) (λ m gained. ChannelsSoFar m l.origin.dataset l.origin.scale l.part l.channel gained);
  asked : IfSome (g.S.Source.objects l.fn.store) (λ m. g.S.Source.asked l.store ≤ g.S.Source.asked l.fn.store + l.channel * cost m l.origin.dataset l.origin.scale l.part);
  serves : Serves (g.S.Source.objects l.fn.store) l.origin l.self;
  kept : OnlyReads (g.S.Source.objects l.fn.store) (g.S.Source.objects l.store) (g.S.Source.draft l.fn.store) (g.S.Source.draft l.store);
  history : g.S.Source.history l.store ≡ g.S.Source.history l.fn.store;
  later : g.S.Source.faults l.store ≡ g.S.Source.faults l.fn.store;
  out_later : g.O.Outlet.faults l.out ≡ g.O.Outlet.faults l.fn.out;
}
