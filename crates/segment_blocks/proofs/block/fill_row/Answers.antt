use Rattle.std.proofs.Common.{arith, rules, ◌≡◌, ℕ, ◌+◌, ◌-◌, ◌*◌, ◌≤◌, List, length, drop, length-take, length-drop, ◌∙◌, sym, subst}
use Rattle.vol_spec.specs.SegSizes.{width_of}
use Rattle.segment_blocks.specs.Filled.{Done, InRow}
use Rattle.segment_blocks.proofs.Lines.{line_of, room_of, width_le, width_some, words_more, Room}
use Rattle.segment_blocks.proofs.Rowwise.{row_done, row_out}
use Rattle.segment_blocks.proofs.block.fill_row.Goals as goal
use borrow.Rule.Slice.PartMut.{put_mid}

pub overflow_mul-width : goal.overflow_mul-width
overflow_mul-width c =
    let room : Room (width_of c.args.wide) c.find_line-at.result c.args.b.now.count_x (length c.args.raw.now) = room_of c.args.b.now (width_of c.args.wide) c.find_line-at.result (length c.args.raw.now) c.args.y c.args.z (width_some c.args.wide) (width_le c.args.wide) c.requires.lies c.requires.y c.requires.z c.find_line-at.ensures in
    let w : c.find_width-width.result ≡ width_of c.args.wide = c.find_width-width.ensures in
    rw w (omega (arith, room.begin, room.small))

pub overflow_mul-width-2 : goal.overflow_mul-width-2
overflow_mul-width-2 c =
    let room : Room (width_of c.args.wide) c.find_line-at.result c.args.b.now.count_x (length c.args.raw.now) = room_of c.args.b.now (width_of c.args.wide) c.find_line-at.result (length c.args.raw.now) c.args.y c.args.z (width_some c.args.wide) (width_le c.args.wide) c.requires.lies c.requires.y c.requires.z c.find_line-at.ensures in
    let w : c.find_width-width.result ≡ width_of c.args.wide = c.find_width-width.ensures in
    rw w (omega (arith, room.begin, room.small))

pub overflow_add-at : goal.overflow_add-at
overflow_add-at c =
    let room : Room (width_of c.args.wide) c.find_line-at.result c.args.b.now.count_x (length c.args.raw.now) = room_of c.args.b.now (width_of c.args.wide) c.find_line-at.result (length c.args.raw.now) c.args.y c.args.z (width_some c.args.wide) (width_le c.args.wide) c.requires.lies c.requires.y c.requires.z c.find_line-at.ensures in
    let w : c.find_width-width.result ≡ width_of c.args.wide = c.find_width-width.ensures in
    omega (arith, room.few)

pub slice_bounds-unpack-end : goal.slice_bounds-unpack-end
slice_bounds-unpack-end c =
    let room : Room (width_of c.args.wide) c.find_line-at.result c.args.b.now.count_x (length c.args.raw.now) = room_of c.args.b.now (width_of c.args.wide) c.find_line-at.result (length c.args.raw.now) c.args.y c.args.z (width_some c.args.wide) (width_le c.args.wide) c.requires.lies c.requires.y c.requires.z c.find_line-at.ensures in
    let w : c.find_width-width.result ≡ width_of c.args.wide = c.find_width-width.ensures in
    let begin : c.find_width-width.result * c.find_line-at.result ≤ c.find_width-width.result * (c.find_line-at.result + c.args.b.now.count_x) = rw w room.begin in
    let end : c.find_width-width.result * (c.find_line-at.result + c.args.b.now.count_x) ≤ length c.args.raw.now = rw w room.end in
    search rules

pub unpack-requires-clause-place : goal.unpack-requires-clause-place
unpack-requires-clause-place c =
    let line = line_of c.args.b.now _ c.args.y c.args.z c.requires.lies c.requires.y c.requires.z in
    omega (arith, line.first, c.requires.lies.limit, c.requires.lies.row, c.find_first-first.ensures)

pub unpack-requires-clause-within : goal.unpack-requires-clause-within
unpack-requires-clause-within c =
    let line = line_of c.args.b.now _ c.args.y c.args.z c.requires.lies c.requires.y c.requires.z in
    let more = words_more c.args.bits (c.find_first-first.result + c.args.b.now.count_x) c.args.b.now.indices (omega (arith, line.first, c.requires.lies.row, c.find_first-first.ensures)) in
    omega (arith, more, c.requires.values)

pub overflow_add-result : goal.overflow_add-result
overflow_add-result c =
    let line = line_of c.args.b.now _ c.args.y c.args.z c.requires.lies c.requires.y c.requires.z in
    omega (arith, line.first, c.requires.lies.limit, c.requires.lies.row, c.find_first-first.ensures, c.in-Err.ensures.out.within)

pub returns-in-Ok-clause-done : goal.returns-in-Ok-clause-done
returns-in-Ok-clause-done c =
    let room : Room (width_of c.args.wide) c.find_line-at.result c.args.b.now.count_x (length c.args.raw.now) = room_of c.args.b.now (width_of c.args.wide) c.find_line-at.result (length c.args.raw.now) c.args.y c.args.z (width_some c.args.wide) (width_le c.args.wide) c.requires.lies c.requires.y c.requires.z c.find_line-at.ensures in
    let w : c.find_width-width.result ≡ width_of c.args.wide = c.find_width-width.ensures in
    let row : List ℕ = c.unpack.new.row in
    let part : ℕ = c.find_width-width.result * (c.find_line-at.result + c.args.b.now.count_x) - c.find_width-width.result * c.find_line-at.result in
    let part_is : part ≡ width_of c.args.wide * c.args.b.now.count_x = rw w room.length in
    let end : c.find_width-width.result * (c.find_line-at.result + c.args.b.now.count_x) ≤ length c.args.raw.now = rw w room.end in
    let len : length row ≡ width_of c.args.wide * c.args.b.now.count_x = c.unpack.auto.row ∙ omega (arith, part_is, end, length-take part (drop (c.find_width-width.result * c.find_line-at.result) c.args.raw.now), length-drop (c.find_width-width.result * c.find_line-at.result) c.args.raw.now) in
    subst (λ v. Done (InRow c.args.b.now c.args.y c.args.z) c.args.b.now c.args.values.now c.args.table.now (width_of c.args.wide) c.args.bits c.args.raw.now (put_mid (v * c.find_line-at.result) part c.args.raw.now row)) (sym w)
    (row_done c.args.b.now c.args.values.now c.args.table.now c.args.raw.now row (width_of c.args.wide) c.args.bits c.args.y c.args.z c.find_first-first.result c.find_line-at.result part (width_some c.args.wide) c.requires.lies c.requires.y c.requires.z c.find_first-first.ensures c.find_line-at.ensures part_is len c.in-Ok.ensures.unpacked)

pub returns-in-Err-clause-out : goal.returns-in-Err-clause-out
returns-in-Err-clause-out c =
    row_out c.args.b.now c.args.values.now c.args.table.now (width_of c.args.wide) c.args.bits c.args.y c.args.z c.find_first-first.result c.in-Err.j c.find_first-first.ensures c.in-Err.ensures.out
