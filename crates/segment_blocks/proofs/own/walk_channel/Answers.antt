use Rattle.std.proofs.Common.{arith, ◌≡◌, ◌*◌, ◌∙◌, ap, refl, sym, subst, ℕ, List, ◌<◌, length, slice_index, drop}
use Rattle.std.proofs.lemmas.List.{take_at}
use Rattle.vol_spec.specs.SegBlocks.{block_count}
use Rattle.vol_spec.specs.SegShapes.{sizes_of}
use Rattle.vol_spec.specs.SegWritten.{values_place}
use Rattle.segment_blocks.specs.Said.{said}
use Rattle.segment_blocks.specs.Stored.{HasBodies}
use Rattle.segment_blocks.specs.Walked.{HasFront}
use Rattle.segment_blocks.proofs.Bodies.{first_at}
use Rattle.segment_blocks.proofs.OwnWalks.{bodies_none, channel_walked, tables_none}
use Rattle.segment_blocks.proofs.Shapes.{facts, limits}
use Rattle.segment_blocks.proofs.own.walk_channel.Goals as goal

pub overflow_mul-blocks : goal.overflow_mul-blocks
overflow_mul-blocks c =
    let f = facts (sizes_of c.args.shape.now) (limits c.args.shape.now) in
    omega (arith, c.count_blocks-blocks.ensures, f.blocks)

pub loop-k-init : goal.loop-k-init
loop-k-init c =
    let s = sizes_of c.args.shape.now in
    let raw : List ℕ = said s c.args.chunk.now in
    let heads = take_at c.clear.new.numbers (drop (length c.clear.new.numbers) c.args.room.now.heads.items) c.args.room.now.heads.len (omega (arith, c.clear.auto.numbers, c.deref_mut.ensures.len)) in (
      first_at s raw c.args.c c.count_blocks-blocks.result c.count_blocks-blocks.ensures,
      record { tables = tables_none s raw c.args.c c.args.channel.now c.args.room.now.at.items c.args.room.now.lens.items _ c.args.room.now.next.items (subst (λ q. (h : ℕ) → h < length q → slice_index q h ≡ 0) (sym heads) c.clear.ensures); headers = refl; bodies = bodies_none s raw c.args.c c.args.channel.now },
      record { voxels = refl; table = refl; heads = ap length heads ∙ c.clear.auto.numbers ∙ ap length c.deref_mut.ensures.value; next = refl; at = refl; lens = refl; headers = refl },
    )

pub returns-clause-bytes : goal.returns-clause-bytes
returns-clause-bytes c =
    let s = sizes_of c.args.shape.now in
    let raw : List ℕ = said s c.args.chunk.now in
    let ek : c.loop-k.k ≡ block_count s = omega (arith, c.loop-k-test.false, c.loop-k.auto.k-end, c.count_blocks-blocks.ensures) in
    channel_walked s raw c.args.c c.loop-k.at c.args.channel.now (c.loop-k.invariant.0 ∙ ap (λ q. 4 * values_place s raw c.args.c q) ek)
    (subst (HasFront s raw c.args.c c.args.channel.now) ek c.loop-k.invariant.1.headers)
    (subst (HasBodies s raw c.args.c c.args.channel.now) ek c.loop-k.invariant.1.bodies)
