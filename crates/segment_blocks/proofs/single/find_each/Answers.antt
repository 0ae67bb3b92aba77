use Rattle.std.proofs.Common.{arith, ◌≡◌, ◌+◌, ◌*◌, ◌^◌, ◌≤◌, ◌∙◌, ◌++◌, ap, ℕ, List, length, slice_index, take, drop}
use Rattle.std.proofs.lemmas.List.{take_at}
use Rattle.std.proofs.lemmas.Nat.{mul-le}
use Rattle.equal_values.specs.Earlier.{coded}
use Rattle.vol_spec.specs.Raw.{digit}
use Rattle.vol_spec.specs.SegBlocks.{block_count}
use Rattle.vol_spec.specs.SegShapes.{sizes_of}
use Rattle.vol_spec.specs.SegSizes.{width_of}
use Rattle.segment_blocks.proofs.Shapes.{facts, limits}
use Rattle.segment_blocks.proofs.Singles.{earlier_is, single_blocks, single_room}
use Rattle.segment_blocks.proofs.single.find_each.Goals as goal

pub overflow_mul-c : goal.overflow_mul-c
overflow_mul-c c =
    let s = sizes_of c.args.shape.now in
    let h = limits c.args.shape.now in
    let f = facts s h in
    let lc : c.args.c ≤ 1024 = omega (arith, c.requires.channel, h.few_channels) in
    let lb : c.args.blocks ≤ 2 ^ 24 = omega (arith, c.requires.blocks, f.blocks) in
    let m : c.args.c * c.args.blocks ≤ 1024 * 2 ^ 24 = mul-le _ _ _ _ lc lb in
    omega (arith, m)

pub find_in-requires-clause-raw : goal.find_in-requires-clause-raw
find_in-requires-clause-raw c =
    let s = sizes_of c.args.shape.now in
    let room = single_room s c.args.c (single_blocks s (limits c.args.shape.now) c.requires.single) c.requires.channel in
    let end : width_of s.wide * (c.args.c * c.args.blocks + c.args.blocks) ≡ width_of s.wide * (c.args.c * block_count s + block_count s) = ap (λ q. width_of s.wide * (c.args.c * q + q)) c.requires.blocks in
    omega (arith, room, c.requires.raw, end)

pub place_tables-requires-clause-earlier : goal.place_tables-requires-clause-earlier
place_tables-requires-clause-earlier c =
    let s = sizes_of c.args.shape.now in
    let b : ℕ = c.args.blocks in
    let new : List ℕ = c.find_in.new.earlier in
    let whole : take c.args.singles.now.spots.len (new ++ drop (length new) c.args.singles.now.spots.items) ≡ new = take_at new _ _ (omega (arith, c.find_in.auto.earlier, c.deref_mut-2.ensures.len)) in
    λ k l. ap (λ q. slice_index q k) (c.deref_mut-3.ensures.value ∙ whole) ∙ c.find_in.ensures.earlier k (omega (arith, l, c.requires.blocks))
    ∙ ap coded (earlier_is s c.args.raw.now c.args.c (take b c.find_in.new.values) k (limits c.args.shape.now) c.requires.single l
    (λ j m. c.find_in.ensures.values j (omega (arith, m, c.requires.blocks)) ∙ ap (λ q. digit c.args.raw.now (width_of s.wide) (c.args.c * q + j)) c.requires.blocks))
