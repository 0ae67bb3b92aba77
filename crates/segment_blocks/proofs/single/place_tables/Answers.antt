use Rattle.std.proofs.Common.{arith, ◌≡◌, ◌+◌, ◌-◌, ◌*◌, ◌<◌, ◌≤◌, ℕ, List, length, slice_index, set, sym, subst, ap, ◌∙◌, ⊎_elim}
use Rattle.vol_spec.specs.SegShapes.{sizes_of}
use Rattle.vol_spec.specs.SegBlocks.{block_count}
use Rattle.std.proofs.Math.Nat.{le-mul_of_pos_right}
use Rattle.segment_blocks.specs.Shape.{padded}
use Rattle.segment_blocks.proofs.Bodies.{first_at}
use Rattle.segment_blocks.proofs.Lines.{width_le}
use Rattle.segment_blocks.proofs.Offsets.{block_room}
use Rattle.segment_blocks.proofs.Settling.{owner_none}
use Rattle.segment_blocks.proofs.Shapes.{facts, limits, some_voxels}
use Rattle.segment_blocks.proofs.Singles.{SaysBlock, SaysNone, number_says}
use Rattle.segment_blocks.proofs.Spots.{IsPlacing, placed_again, placed_new}
use Rattle.segment_blocks.proofs.single.place_tables.Goals.{then-number-eq0, else-number-eq0}
use Rattle.segment_blocks.proofs.single.place_tables.Goals as goal

pub overflow_cast-next : goal.overflow_cast-next
overflow_cast-next c =
    let f = facts (sizes_of c.args.shape.now) (limits c.args.shape.now) in
    omega (arith, c.requires.blocks, f.blocks)

pub overflow_mul-next : goal.overflow_mul-next
overflow_mul-next c =
    let f = facts (sizes_of c.args.shape.now) (limits c.args.shape.now) in
    omega (arith, c.requires.blocks, f.blocks)

pub loop-k-init : goal.loop-k-init
loop-k-init c =
    record {
      comes = first_at (sizes_of c.args.shape.now) c.args._raw.now c.args._c c.args.blocks c.requires.blocks;
      before = λ j l. absurd (omega arith);
      after = λ j l m. c.requires.earlier j m;
    }

pub overflow_add-next : goal.overflow_add-next
overflow_add-next c =
    let s = sizes_of c.args.shape.now in
    let h = limits c.args.shape.now in
    let room = block_room s c.args._raw.now c.args._c c.loop-k.k h (omega (arith, c.loop-k-test.true, c.requires.blocks)) (some_voxels s h) in
    let one : padded s ≤ padded s * s.channels = le-mul_of_pos_right (padded s) h.some_channels in
    omega (arith, room, one, h.reading, c.loop-k.invariant.comes, c.find_width-width.ensures, width_le c.args.shape.now.wide)

pub bounds-spots-number : goal.bounds-spots-number
bounds-spots-number c =
    let s = sizes_of c.args.shape.now in
    let k : ℕ = c.loop-k.k in
    let n : ℕ = slice_index c.loop-k.spots k in
    let lk : k < block_count s = omega (arith, c.loop-k-test.true, c.requires.blocks) in
    ⊎_elim
    (λ (a : (n ≡ 0) × SaysNone s c.args._raw.now c.args._c k). absurd (c.if-number-eq0.false a.0))
    (λ (b : (j : ℕ) × (n ≡ j + 1) × SaysBlock s c.args._raw.now c.args._c k j).
    omega (arith, b.1, b.2.0, c.loop-k-test.true, c.requires.room, c.loop-k.auto.spots))
    (number_says s c.args._raw.now c.args._c k n (c.loop-k.invariant.after k (omega arith) lk))

pub loop-k-preserved : goal.loop-k-preserved
loop-k-preserved c =
    let s = sizes_of c.args.shape.now in
    let raw : List ℕ = c.args._raw.now in
    let h = limits c.args.shape.now in
    let k : ℕ = c.loop-k.k in
    let spots : List ℕ = c.loop-k.spots in
    let n : ℕ = slice_index spots k in
    let lk : k < block_count s = omega (arith, c.loop-k-test.true, c.requires.blocks) in
    let fits : k < length spots = omega (arith, c.loop-k-test.true, c.requires.room, c.loop-k.auto.spots) in
    let own = number_says s raw c.args._c k n (c.loop-k.invariant.after k (omega arith) lk) in
    elim c.if-number-eq0.branch [
      | then-number-eq0 w ↦ ⊎_elim
          (λ (a : (n ≡ 0) × SaysNone s raw c.args._c k).
          let x = placed_new s raw c.args._c spots c.loop-k.next k h c.requires.single lk fits (owner_none s raw c.args._c k a.1) c.loop-k.invariant in
          let e = w.next-is ∙ ap (λ q. c.loop-k.next + q) c.find_width-width.ensures in
          subst (λ q. IsPlacing s raw c.args._c q c.if-number-eq0.next (k + 1)) (sym w.spots-is) (subst (λ q. IsPlacing s raw c.args._c (set spots k c.loop-k.next) q (k + 1)) (sym e) x))
          (λ (b : (j : ℕ) × (n ≡ j + 1) × SaysBlock s raw c.args._c k j). absurd (omega (arith, b.1, w.if-number-eq0.true)))
          own
      | else-number-eq0 w ↦ ⊎_elim
          (λ (a : (n ≡ 0) × SaysNone s raw c.args._c k). absurd (w.if-number-eq0.false a.0))
          (λ (b : (j : ℕ) × (n ≡ j + 1) × SaysBlock s raw c.args._c k j).
          let x = placed_again s raw c.args._c spots c.loop-k.next k b.0 h c.requires.single lk fits b.2 c.loop-k.invariant in
          let e : b.0 ≡ n - 1 = omega (arith, b.1) in
          let put : c.if-number-eq0.spots ≡ set spots k (slice_index spots b.0) = w.spots-is ∙ ap (λ q. set spots k (slice_index spots q)) (sym e) in
          subst (λ q. IsPlacing s raw c.args._c q c.if-number-eq0.next (k + 1)) (sym put) (subst (λ q. IsPlacing s raw c.args._c (set spots k (slice_index spots b.0)) q (k + 1)) (sym w.next-is) x))
          own
    ]

pub returns : goal.returns
returns c = λ k l. c.loop-k.invariant.before k (omega (arith, l, c.requires.blocks, c.loop-k-test.false))
