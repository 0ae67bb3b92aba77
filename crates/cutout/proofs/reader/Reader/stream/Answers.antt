use Rattle.std.proofs.Common.{◌≡◌, ◌≤◌, ◌^◌, arith, length, rules, subst, sym}
use Rattle.vol_spec.specs.Grid.{Inside}
use Rattle.vol_spec.specs.Raw.{raw_len}
use Rattle.cutout.proofs.LayerSteps.{room-small}
use Rattle.cutout.specs.Layers.{layer_room}
use Rattle.cutout.specs.Streaming.{Leaves, Streams}
use Rattle.cutout.proofs.reader.Reader.stream.Goals as goal

pub stream_channels-requires-clause-limit : goal.stream_channels-requires-clause-limit
stream_channels-requires-clause-limit g c =
    let small : raw_len c.args.part.now c.self.inside.origin.scale.channels c.self.inside.origin.scale.width ≤ 2 ^ 30 =
    subst (λ v. raw_len c.args.part.now v.scale.channels v.scale.width ≤ 2 ^ 30) (sym c.self.view_is)
    (c.requires (subst (λ v. Inside v.scale c.args.part.now) c.self.view_is (c.inside.ensures.0 c.if-not-inside.false))) in
    let room : length c.room.result.now ≡ layer_room c.self.inside.origin.scale c.args.part.now = search rules in
    omega (arith, room, room-small c.self.inside.origin.scale c.args.part.now small)

pub returns-clause-streams : goal.returns-clause-streams
returns-clause-streams g c =
    subst (λ v. Leaves (g.S.Source.objects c.args.store.now) (g.O.Outlet.written c.args.out.now) (g.O.Outlet.written c.stream_channels.new.out) (λ m gained. Streams c.stream_channels.result m v.dataset v.scale c.args.part.now gained))
    c.self.view_is c.stream_channels.ensures.pours.streams
