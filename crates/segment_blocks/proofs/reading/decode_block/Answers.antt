use Rattle.std.proofs.Common.{arith, ◌≡◌, ◌*◌, ◌∙◌, ap, sym, drop, length, [], ◌∷◌, None}
use Rattle.std.specs.Prelude.{map}
use Rattle.vol_spec.specs.BoxValues.{first_some}
use Rattle.vol_spec.specs.SegFaults.{bits_fault, values_fault, table_fault}
use Rattle.vol_spec.specs.SegBlocks.{voxels_in}
use Rattle.vol_spec.specs.SegShapes.{sizes_of}
use Rattle.segment_blocks.proofs.Blocks.{Sound, block_filled, block_none, block_out, done_as, judged, lies, out_as, sound, table_of, values_of}
use Rattle.segment_blocks.proofs.Firsts.{two_none}
use Rattle.segment_blocks.proofs.Shapes.{limits, facts}
use Rattle.segment_blocks.proofs.Wholes.{named}
use Rattle.segment_blocks.proofs.reading.decode_block.Goals as goal

pub judge_header-requires-clause-n : goal.judge_header-requires-clause-n
judge_header-requires-clause-n c =
    let f = facts (sizes_of c.args.shape.now) (limits c.args.shape.now) in
    omega (arith, c.find_block-block.ensures.indices, f.voxels)

pub fill_block-requires-clause-lies : goal.fill_block-requires-clause-lies
fill_block-requires-clause-lies c = lies (sizes_of c.args.shape.now) c.args.c c.args.k (length c.args.raw.now) c.find_block-block.result (limits c.args.shape.now) c.requires.channel c.requires.block c.find_block-block.ensures c.requires.raw

pub returns-in-Ok-fill_block-clause-fault : goal.returns-in-Ok-fill_block-clause-fault
returns-in-Ok-fill_block-clause-fault c =
    let none : first_some (bits_fault c.args.bytes.now c.args.c c.args.k ∷ values_fault c.args.bytes.now (sizes_of c.args.shape.now) c.args.c c.args.k ∷ []) ≡ None = judged c.args.bytes.now (sizes_of c.args.shape.now) c.args.c c.args.k c.read_header-header.result.bits c.read_header-header.result.values c.find_block-block.result.indices None c.read_header-header.ensures.bits c.read_header-header.ensures.values c.find_block-block.ensures.indices c.in-Ok.ensures in
    let so : Sound c.args.bytes.now (sizes_of c.args.shape.now) c.args.c c.args.k c.find_block-block.result = sound c.args.bytes.now (sizes_of c.args.shape.now) c.args.c c.args.k c.find_block-block.result (limits c.args.shape.now) (λ i. omega (arith, c.type_inv.bytes i)) c.requires.whole c.find_block-block.ensures none in
    let ev : c.find_part-values.result.now ≡ values_of c.args.bytes.now c.args.c c.args.k = c.find_part-values.ensures ∙ ap (λ q. drop (4 * q) c.args.bytes.now) c.read_header-header.ensures.values in
    let et : c.find_part-table.result.now ≡ table_of c.args.bytes.now c.args.c c.args.k = c.find_part-table.ensures ∙ ap (λ q. drop (4 * q) c.args.bytes.now) c.read_header-header.ensures.table in
    sym (two_none (bits_fault c.args.bytes.now c.args.c c.args.k) (values_fault c.args.bytes.now (sizes_of c.args.shape.now) c.args.c c.args.k) (map (table_fault c.args.bytes.now (sizes_of c.args.shape.now) c.args.c c.args.k) (voxels_in (sizes_of c.args.shape.now) c.args.k)) none
    ∙ block_none c.args.bytes.now (sizes_of c.args.shape.now) c.args.c c.args.k c.find_block-block.result c.args.raw.now c.fill_block.new.raw so (done_as c.args.bytes.now (sizes_of c.args.shape.now) c.args.c c.args.k c.read_header-header.result.bits c.find_block-block.result c.find_part-values.result.now c.find_part-table.result.now c.args.raw.now c.fill_block.new.raw ev et c.read_header-header.ensures.bits c.in-Ok-fill_block.ensures.done))

pub returns-in-Ok-fill_block-clause-filled : goal.returns-in-Ok-fill_block-clause-filled
returns-in-Ok-fill_block-clause-filled c =
    let none : first_some (bits_fault c.args.bytes.now c.args.c c.args.k ∷ values_fault c.args.bytes.now (sizes_of c.args.shape.now) c.args.c c.args.k ∷ []) ≡ None = judged c.args.bytes.now (sizes_of c.args.shape.now) c.args.c c.args.k c.read_header-header.result.bits c.read_header-header.result.values c.find_block-block.result.indices None c.read_header-header.ensures.bits c.read_header-header.ensures.values c.find_block-block.ensures.indices c.in-Ok.ensures in
    let so : Sound c.args.bytes.now (sizes_of c.args.shape.now) c.args.c c.args.k c.find_block-block.result = sound c.args.bytes.now (sizes_of c.args.shape.now) c.args.c c.args.k c.find_block-block.result (limits c.args.shape.now) (λ i. omega (arith, c.type_inv.bytes i)) c.requires.whole c.find_block-block.ensures none in
    let ev : c.find_part-values.result.now ≡ values_of c.args.bytes.now c.args.c c.args.k = c.find_part-values.ensures ∙ ap (λ q. drop (4 * q) c.args.bytes.now) c.read_header-header.ensures.values in
    let et : c.find_part-table.result.now ≡ table_of c.args.bytes.now c.args.c c.args.k = c.find_part-table.ensures ∙ ap (λ q. drop (4 * q) c.args.bytes.now) c.read_header-header.ensures.table in
    named c.args.bytes.now (sizes_of c.args.shape.now) c.args.c c.args.k c.args.raw.now c.fill_block.new.raw (block_filled c.args.bytes.now (sizes_of c.args.shape.now) c.args.c c.args.k c.find_block-block.result c.args.raw.now c.fill_block.new.raw so (done_as c.args.bytes.now (sizes_of c.args.shape.now) c.args.c c.args.k c.read_header-header.result.bits c.find_block-block.result c.find_part-values.result.now c.find_part-table.result.now c.args.raw.now c.fill_block.new.raw ev et c.read_header-header.ensures.bits c.in-Ok-fill_block.ensures.done))

pub returns-in-Err-fill_block-clause-fault : goal.returns-in-Err-fill_block-clause-fault
returns-in-Err-fill_block-clause-fault c =
    let none : first_some (bits_fault c.args.bytes.now c.args.c c.args.k ∷ values_fault c.args.bytes.now (sizes_of c.args.shape.now) c.args.c c.args.k ∷ []) ≡ None = judged c.args.bytes.now (sizes_of c.args.shape.now) c.args.c c.args.k c.read_header-header.result.bits c.read_header-header.result.values c.find_block-block.result.indices None c.read_header-header.ensures.bits c.read_header-header.ensures.values c.find_block-block.ensures.indices c.in-Ok.ensures in
    let so : Sound c.args.bytes.now (sizes_of c.args.shape.now) c.args.c c.args.k c.find_block-block.result = sound c.args.bytes.now (sizes_of c.args.shape.now) c.args.c c.args.k c.find_block-block.result (limits c.args.shape.now) (λ i. omega (arith, c.type_inv.bytes i)) c.requires.whole c.find_block-block.ensures none in
    let ev : c.find_part-values.result.now ≡ values_of c.args.bytes.now c.args.c c.args.k = c.find_part-values.ensures ∙ ap (λ q. drop (4 * q) c.args.bytes.now) c.read_header-header.ensures.values in
    let et : c.find_part-table.result.now ≡ table_of c.args.bytes.now c.args.c c.args.k = c.find_part-table.ensures ∙ ap (λ q. drop (4 * q) c.args.bytes.now) c.read_header-header.ensures.table in
    sym (two_none (bits_fault c.args.bytes.now c.args.c c.args.k) (values_fault c.args.bytes.now (sizes_of c.args.shape.now) c.args.c c.args.k) (map (table_fault c.args.bytes.now (sizes_of c.args.shape.now) c.args.c c.args.k) (voxels_in (sizes_of c.args.shape.now) c.args.k)) none
    ∙ block_out c.args.bytes.now (sizes_of c.args.shape.now) c.args.c c.args.k c.in-Err-fill_block.n c.find_block-block.result so
    (out_as c.args.bytes.now (sizes_of c.args.shape.now) c.args.c c.args.k c.read_header-header.result.bits c.in-Err-fill_block.n c.find_block-block.result c.find_part-values.result.now c.find_part-table.result.now ev et c.read_header-header.ensures.bits c.in-Err-fill_block.ensures.out))
