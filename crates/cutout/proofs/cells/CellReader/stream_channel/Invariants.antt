use Rattle.std.proofs.Common.{◌≡◌, ◌≤◌, ◌+◌, IfSome}
use Rattle.vol_base.specs.Outside.{OnlyReads}
use Rattle.cutout.proofs.CostSteps.{costs}
use Rattle.cutout.proofs.LayerSteps.{front_cells}
use Rattle.cutout.proofs.StreamSteps.{ChannelSoFar}
use Rattle.cutout.specs.Layers.{end_layer, first_layer}
use Rattle.cutout.specs.Serving.{Serves}
use Rattle.cutout.specs.Streaming.{Leaves}
use Rattle.cutout.proofs.cells.CellReader.stream_channel.Given as goal

abbrev pub invariant-loop-number : goal.invariant-loop-number
invariant-loop-number g l = record {
  first : first_layer l.origin.scale l.part ≤ l.number;
  end : l.number-end ≡ end_layer l.origin.scale l.part;
  last : l.number ≤ end_layer l.origin.scale l.part;
  gained : Leaves (g.S.Source.objects l.fn.store) (g.O.Outlet.written l.fn.out) (g.O.Outlet.written l.out) (λ m gained. ChannelSoFar m l.origin.dataset l.origin.scale l.part l.channel l.number gained);
  asked : IfSome (g.S.Source.objects l.fn.store) (λ m. g.S.Source.asked l.store ≤ g.S.Source.asked l.fn.store + costs m l.origin.dataset l.origin.scale (front_cells l.origin.scale l.part l.number));
  serves : Serves (g.S.Source.objects l.fn.store) l.origin l.self;
  kept : OnlyReads (g.S.Source.objects l.fn.store) (g.S.Source.objects l.store) (g.S.Source.draft l.fn.store) (g.S.Source.draft l.store);
  history : g.S.Source.history l.store ≡ g.S.Source.history l.fn.store;
  later : g.S.Source.faults l.store ≡ g.S.Source.faults l.fn.store;
  out_later : g.O.Outlet.faults l.out ≡ g.O.Outlet.faults l.fn.out;
}
