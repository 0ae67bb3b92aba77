use Rattle.std.proofs.Common.{length}
use Rattle.vol_spec.specs.SegSizes.{width_of}
use Rattle.segment_blocks.proofs.Lines.{room_of, width_le, width_some}
use Rattle.segment_blocks.proofs.Ones.{one_row, row_one}
use Rattle.segment_blocks.proofs.one.test_row.Goals as goal

pub test_values-requires : goal.test_values-requires
test_values-requires c =
    let room = room_of c.args.b.now (width_of c.args.wide) c.find_line-from.result (length c.args.raw.now) c.args.y c.args.z (width_some c.args.wide) (width_le c.args.wide) c.requires.lies c.requires.y c.requires.z c.find_line-from.ensures in
    room.end

pub returns : goal.returns
returns c =
    let b = c.args.b.now in
    let raw = c.args.raw.now in
    let w = width_of c.args.wide in
    (λ t. row_one b raw w c.args.value c.args.y c.args.z c.find_line-from.result c.find_line-from.ensures (c.test_values.ensures.0 t), λ one. c.test_values.ensures.1 (one_row b raw w c.args.value c.args.y c.args.z c.find_line-from.result c.find_line-from.ensures one))
