use Rattle.std.proofs.Common.{arith, ◌≡◌, ◌*◌, ◌∙◌, ◌++◌, ap, ℕ, List, length, length-take, take, drop}
use Rattle.std.specs.Prelude.{flat_map}
use Rattle.std.specs.List.{range_with_len}
use Rattle.vol_spec.specs.BoxValues.{bytes_of}
use Rattle.vol_spec.specs.SegWritten.{header, values_place}
use Rattle.segment_blocks.specs.Stored.{body}
use Rattle.segment_blocks.proofs.Bodies.{headers_bytes, over_front}
use Rattle.vol_spec.specs.SegBlocks.{block_count}
use Rattle.vol_spec.specs.SegShapes.{sizes_of}
use Rattle.segment_blocks.proofs.Offsets.{channel_room, headers_before}
use Rattle.segment_blocks.proofs.Shapes.{facts, limits, some_voxels}
use Rattle.segment_blocks.proofs.writing.encode_channel.Goals as goal

pub overflow_mul-blocks : goal.overflow_mul-blocks
overflow_mul-blocks c =
    let f = facts (sizes_of c.args.shape.now) (limits c.args.shape.now) in
    omega (arith, c.count_blocks-blocks.ensures, f.blocks)

pub slice_bounds-put_words-end : goal.slice_bounds-put_words-end
slice_bounds-put_words-end c =
    let s = sizes_of c.args.shape.now in
    let h = limits c.args.shape.now in
    let a = headers_before s c.args.raw.now c.args.c (block_count s) in
    let b = channel_room s c.args.raw.now c.args.c h (some_voxels s h) in
    omega (arith, a, b, c.count_blocks-blocks.ensures, c.requires.out, c.encode_blocks-len.auto.out)

pub slice_bounds-put_words-end-2 : goal.slice_bounds-put_words-end-2
slice_bounds-put_words-end-2 c =
    let s = sizes_of c.args.shape.now in
    let h = limits c.args.shape.now in
    let a = headers_before s c.args.raw.now c.args.c (block_count s) in
    let b = channel_room s c.args.raw.now c.args.c h (some_voxels s h) in
    omega (arith, a, b, c.count_blocks-blocks.ensures, c.requires.out, c.encode_blocks-len.auto.out, length-take (8 * c.count_blocks-blocks.result) c.encode_blocks-len.new.out)

pub put_words-requires : goal.put_words-requires
put_words-requires c =
    let s = sizes_of c.args.shape.now in
    let h = limits c.args.shape.now in
    let b : ℕ = c.count_blocks-blocks.result in
    let x = headers_before s c.args.raw.now c.args.c (block_count s) in
    let y = channel_room s c.args.raw.now c.args.c h (some_voxels s h) in
    let len : length c.deref.result.now ≡ length c.encode_blocks-len.new.room.headers.items = ap length c.deref.ensures.value in
    let front : length (take (8 * b) c.encode_blocks-len.new.out) ≡ 8 * b = omega (arith, x, y, c.count_blocks-blocks.ensures, c.requires.out, c.encode_blocks-len.auto.out, length-take (8 * b) c.encode_blocks-len.new.out) in
    let words : length (take (2 * b) c.deref.result.now) ≡ 2 * b = omega (arith, len, c.encode_blocks-len.ensures.same.headers, c.requires.room.headers, c.count_blocks-blocks.ensures, length-take (2 * b) c.deref.result.now) in
    omega (arith, front, words)

pub returns-clause-bytes : goal.returns-clause-bytes
returns-clause-bytes c =
    let s = sizes_of c.args.shape.now in
    let h = limits c.args.shape.now in
    let b : ℕ = c.count_blocks-blocks.result in
    let eb : b ≡ block_count s = c.count_blocks-blocks.ensures in
    let x = headers_before s c.args.raw.now c.args.c (block_count s) in
    let y = channel_room s c.args.raw.now c.args.c h (some_voxels s h) in
    let items : List ℕ = c.encode_blocks-len.new.room.headers.items in
    let put : List ℕ = c.put_words.new.out in
    let written : List ℕ = c.encode_blocks-len.new.out in
    let begun = c.encode_blocks-len.ensures.begun in
    let len_put : length put ≡ 8 * b = c.put_words.auto.out ∙ omega (arith, x, y, eb, c.requires.out, c.encode_blocks-len.auto.out, length-take (8 * b) written) in
    let front : put ≡ flat_map (header s c.args.raw.now c.args.c) (range_with_len 0 (block_count s)) =
    c.put_words.ensures ∙ ap (λ q. flat_map (bytes_of 4) (take (2 * b) q)) c.deref.ensures.value ∙ ap (λ q. flat_map (bytes_of 4) (take (2 * q) items)) eb
    ∙ headers_bytes s c.args.raw.now c.args.c items (block_count s) (block_count s) (omega arith) (omega (arith, c.encode_blocks-len.ensures.same.headers, c.requires.room.headers)) begun.headers in
    over_front (8 * b) c.encode_blocks-len.result written put (omega (arith, c.encode_blocks-len.ensures.at, x, eb)) len_put
    ∙ ap (λ q. put ++ drop (8 * b) (take q written)) c.encode_blocks-len.ensures.at ∙ ap (λ q. put ++ drop (8 * q) (take (4 * values_place s c.args.raw.now c.args.c (block_count s)) written)) eb
    ∙ ap (λ q. put ++ q) begun.bodies ∙ ap (λ q. q ++ flat_map (body s c.args.raw.now c.args.c) (range_with_len 0 (block_count s))) front
