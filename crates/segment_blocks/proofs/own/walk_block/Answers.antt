use Rattle.std.proofs.Common.{arith, ◌≡◌, ℕ, List}
use Rattle.vol_spec.specs.SegChunks.{table_at, values_at}
use Rattle.vol_spec.specs.SegShapes.{sizes_of}
use Rattle.vol_spec.specs.SegWritten.{table_place, values_place}
use Rattle.segment_blocks.specs.Said.{said}
use Rattle.segment_blocks.proofs.Offsets.{offsets_fit}
use Rattle.segment_blocks.proofs.OwnWalks.{bodies_walked, front_more}
use Rattle.segment_blocks.proofs.Shapes.{limits, some_voxels}
use Rattle.segment_blocks.proofs.own.walk_block.Goals as goal

pub read_block-requires-clause-at : goal.read_block-requires-clause-at
read_block-requires-clause-at c =
    let s = sizes_of c.args.shape.now in
    let h = limits c.args.shape.now in
    let f = offsets_fit s (said s c.args.chunk.now) c.args.c c.args.k h c.requires.limit c.requires.block (some_voxels s h) in
    omega (arith, f, c.requires.at)

pub returns-in-Some-place_block-clause-walked : goal.returns-in-Some-place_block-clause-walked
returns-in-Some-place_block-clause-walked c =
    let s = sizes_of c.args.shape.now in
    let chunk : List ℕ = c.args.chunk.now in
    let raw : List ℕ = said s chunk in
    let k : ℕ = c.args.k in
    let ev : values_at chunk c.args.c k ≡ values_place s raw c.args.c k = omega (arith, c.in-Some.ensures.values, c.requires.at) in
    let et : table_at chunk c.args.c k ≡ table_place s raw c.args.c k = omega (arith, c.in-Some.ensures.place, c.in-Some-place_block.ensures.spot) in
    record {
      tables = c.in-Some-place_block.ensures.tables;
      headers = front_more s raw chunk c.args.channel.now c.args.c k (λ i. omega (arith, c.type_inv.chunk i)) c.requires.is (omega (arith, c.requires.headers, c.requires.blocks, c.requires.block)) ev et c.in-Some.ensures.bits c.requires.walked.headers;
      bodies = bodies_walked s raw c.args.c c.args.channel.now k c.args.at c.in-Some.read.table c.in-Some.read.entries c.requires.at c.in-Some.ensures.spelled c.in-Some-place_block.ensures.spot c.requires.walked.bodies;
    }
