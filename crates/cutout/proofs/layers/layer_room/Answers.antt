use Rattle.vol_base.specs.Boxes.{size}
use Rattle.std.proofs.Common.{slice_index}
use Rattle.cutout.proofs.LayerSteps.{room_is}
use Rattle.cutout.proofs.layers.layer_room.Goals as goal

pub returns : goal.returns
returns c =
    room_is (size c.args.part.now 0) (size c.args.part.now 1) (size c.args.part.now 2) (slice_index c.args.scale.now.chunk 2) c.args.scale.now.channels c.args.scale.now.width c.min.result c.byte_len.result
    c.args.scale.now.some_channels c.requires.limit c.min.ensures c.byte_len.ensures
