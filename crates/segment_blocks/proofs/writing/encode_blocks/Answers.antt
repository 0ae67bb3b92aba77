use Rattle.std.proofs.Common.{arith, ◌≡◌, ◌∙◌, ap, refl, sym, subst, ℕ, ◌<◌, length, slice_index, drop}
use Rattle.std.proofs.lemmas.List.{take_at}
use Rattle.vol_spec.specs.SegShapes.{sizes_of}
use Rattle.segment_blocks.proofs.Bodies.{begun_none, first_at}
use Rattle.segment_blocks.proofs.Shapes.{facts, limits}
use Rattle.segment_blocks.proofs.writing.encode_blocks.Goals as goal

pub overflow_mul-at : goal.overflow_mul-at
overflow_mul-at c =
    let f = facts (sizes_of c.args.shape.now) (limits c.args.shape.now) in
    omega (arith, c.requires.blocks, f.blocks)

pub loop-k-init : goal.loop-k-init
loop-k-init c =
    let heads = take_at c.clear.new.numbers (drop (length c.clear.new.numbers) c.args.room.now.heads.items) c.args.room.now.heads.len (omega (arith, c.clear.auto.numbers, c.deref_mut.ensures.len)) in (
      first_at (sizes_of c.args.shape.now) c.args.raw.now c.args.c c.args.blocks c.requires.blocks,
      begun_none (sizes_of c.args.shape.now) c.args.raw.now c.args.c c.args.out.now _ (subst (λ q. (h : ℕ) → h < length q → slice_index q h ≡ 0) (sym heads) c.clear.ensures),
      record { voxels = refl; table = refl; heads = ap length heads ∙ c.clear.auto.numbers ∙ ap length c.deref_mut.ensures.value; next = refl; at = refl; lens = refl; headers = refl },
    )
