use Rattle.std.proofs.Common.{arith, refl, ◌≡◌, ◌+◌, ◌-◌, ◌*◌, ◌≤◌, ap, subst, sym, ℕ, List, IsTrue, length, length-drop, take, drop}
use Rattle.std.specs.Prelude.{flat_map, nat_eq}
use Rattle.std.specs.List.{range_with_len}
use Rattle.std.proofs.lemmas.Bool.Decides.{nat_tests}
use Rattle.std.proofs.lemmas.List.{take_all}
use Rattle.std.proofs.Math.Nat.{le-mul_of_pos_right}
use Rattle.vol_spec.specs.BoxValues.{bytes_of}
use Rattle.vol_spec.specs.SegChunks.{word}
use Rattle.vol_spec.specs.SegShapes.{sizes_of}
use Rattle.vol_spec.specs.SegWritten.{channel_bytes, channel_start}
use Rattle.segment_blocks.specs.Said.{said}
use Rattle.segment_blocks.specs.Shape.{padded}
use Rattle.segment_blocks.proofs.Channels.{channels_first, same_more, start_first, start_low, start_more, start_room}
use Rattle.segment_blocks.proofs.Offsets.{channel_room}
use Rattle.segment_blocks.proofs.OwnWalks.{channel_next, chunk_walked, words_front}
use Rattle.segment_blocks.proofs.Shapes.{limits, some_voxels}
use Rattle.segment_blocks.proofs.own.walk_channels.Goals as goal

pub loop-c-init : goal.loop-c-init
loop-c-init c = (
  ap (λ q. 4 * q) (sym (start_first (sizes_of c.args.shape.now) (said (sizes_of c.args.shape.now) c.args.chunk.now))),
  refl,
  channels_first (4 * c.args.shape.now.channels) c.args.chunk.now,
  record { voxels = refl; table = refl; heads = refl; next = refl; at = refl; lens = refl; headers = refl },
)

pub walk_channel-requires-clause-limit : goal.walk_channel-requires-clause-limit
walk_channel-requires-clause-limit c =
    let s = sizes_of c.args.shape.now in
    let e : padded s ≤ padded s * s.channels = le-mul_of_pos_right (padded s) (limits c.args.shape.now).some_channels in
    omega (arith, e, c.requires.limit)

pub overflow_add-at : goal.overflow_add-at
overflow_add-at c =
    let s = sizes_of c.args.shape.now in
    let h = limits c.args.shape.now in
    let raw : List ℕ = said s c.args.chunk.now in
    let r = start_room s raw c.loop-c.c (4 * s.channels + 16 * (padded s * s.channels)) h c.loop-c-test.true (omega arith) in
    let y = channel_room s raw c.loop-c.c h (some_voxels s h) in
    omega (arith, r, y, c.loop-c.invariant.0, c.in-Some.ensures.len, c.requires.limit, h.few_channels)

pub loop-c-preserved : goal.loop-c-preserved
loop-c-preserved c =
    let s = sizes_of c.args.shape.now in
    let chunk : List ℕ = c.args.chunk.now in
    let raw : List ℕ = said s chunk in
    let more = start_more s raw c.loop-c.c in
    let low = start_low s raw c.loop-c.c in
    let e : word chunk c.loop-c.c ≡ channel_start s raw c.loop-c.c = omega (arith, c.read_word.ensures, c.if-read_word-at.false, c.loop-c.invariant.0) in (
      omega (arith, more, c.loop-c.invariant.0, c.in-Some.ensures.len),
      words_front (channel_start s raw) chunk c.loop-c.c (λ i. omega (arith, c.type_inv.chunk i)) (omega (arith, c.requires.starts, c.loop-c-test.true)) e c.loop-c.invariant.1,
      channel_next s raw c.loop-c.c c.loop-c.at c.in-Some.len chunk (take (length chunk - c.loop-c.at) (drop c.loop-c.at chunk)) (omega (arith, c.if-chunk-at.false)) (omega (arith, low, c.loop-c.invariant.0)) (take_all (length chunk - c.loop-c.at) (drop c.loop-c.at chunk) (omega (arith, length-drop c.loop-c.at chunk))) c.in-Some.ensures.bytes c.loop-c.invariant.2,
      same_more c.args.room.now c.loop-c.room c.walk_channel.new.room c.loop-c.invariant.3 c.walk_channel.ensures.same,
    )

is_eq : (a b : ℕ) → IsTrue (nat_eq a b) → a ≡ b
is_eq a b t = grind (arith, nat_tests)

pub returns-clause-own : goal.returns-clause-own
returns-clause-own c = λ t.
    let s = sizes_of c.args.shape.now in
    let chunk : List ℕ = c.args.chunk.now in
    let raw : List ℕ = said s chunk in
    let e : c.loop-c.at ≡ length chunk = is_eq c.loop-c.at (length chunk) t in
    let ec : c.loop-c.c ≡ s.channels = omega (arith, c.loop-c-test.false, c.loop-c.auto.c-end) in
    chunk_walked s raw c.loop-c.at chunk (omega (arith, e))
    (subst (λ q. take (4 * q) chunk ≡ flat_map (λ d. bytes_of 4 (channel_start s raw d)) (range_with_len 0 q)) ec c.loop-c.invariant.1)
    (subst (λ q. drop (4 * s.channels) (take c.loop-c.at chunk) ≡ flat_map (channel_bytes s raw) (range_with_len 0 q)) ec c.loop-c.invariant.2)
