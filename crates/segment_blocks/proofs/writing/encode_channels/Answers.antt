use Rattle.std.proofs.Common.{arith, rules, ◌≡◌, ◌+◌, ◌-◌, ◌*◌, ◌/◌, ◌++◌, ◌≤◌, ◌∙◌, ap, refl, sym, ℕ, List, length, length-drop, length-take, take, drop}
use Rattle.std.proofs.Math.Nat.{le-mul_of_pos_right}
use Rattle.vol_spec.specs.SegShapes.{sizes_of}
use Rattle.vol_spec.specs.SegWritten.{channel_bytes}
use Rattle.segment_blocks.specs.Shape.{padded}
use Rattle.segment_blocks.proofs.Channels.{channel_more, channels_first, front_of, same_more, start_first, start_low, start_more, start_room, starts_more}
use Rattle.segment_blocks.proofs.Offsets.{channel_room}
use Rattle.segment_blocks.proofs.Rooms.{kept_singles, same_self, same_singles}
use Rattle.segment_blocks.proofs.Shapes.{limits, some_voxels}
use Rattle.segment_blocks.proofs.writing.encode_channels.Goals as goal
use borrow.Rule.Slice.PartMut.{post_of}

pub loop-c-init : goal.loop-c-init
loop-c-init c = (
  ap (λ q. 4 * q) (sym (start_first (sizes_of c.args.shape.now) c.args.raw.now)),
  channels_first (4 * c.args.shape.now.channels) c.args.out.now,
  (λ d l. absurd (omega arith)),
  record { voxels = refl; table = refl; heads = refl; next = refl; at = refl; lens = refl; headers = refl },
  same_self c.args.singles.now,
)

pub overflow_cast-starts : goal.overflow_cast-starts
overflow_cast-starts c =
    let s = sizes_of c.args.shape.now in
    let h = limits c.args.shape.now in
    let r = start_room s c.args.raw.now c.loop-c.c (4 * s.channels + 16 * (padded s * s.channels)) h c.loop-c-test.true (omega arith) in
    omega (arith, r, c.loop-c.invariant.0, c.requires.limit, h.few_channels)

pub slice_bounds-encode_channel-count : goal.slice_bounds-encode_channel-count
slice_bounds-encode_channel-count c =
    let s = sizes_of c.args.shape.now in
    let r = start_room s c.args.raw.now c.loop-c.c (length c.args.out.now) (limits c.args.shape.now) c.loop-c-test.true c.requires.out in
    omega (arith, r, c.loop-c.invariant.0, c.loop-c.auto.out)

pub slice_bounds-encode_channel-start : goal.slice_bounds-encode_channel-start
slice_bounds-encode_channel-start c =
    let s = sizes_of c.args.shape.now in
    let r = start_room s c.args.raw.now c.loop-c.c (length c.args.out.now) (limits c.args.shape.now) c.loop-c-test.true c.requires.out in
    let begin : c.loop-c.at ≤ length c.loop-c.out = omega (arith, r, c.loop-c.invariant.0, c.loop-c.auto.out) in
    search rules

pub encode_channel-at-requires-clause-limit : goal.encode_channel-at-requires-clause-limit
encode_channel-at-requires-clause-limit c =
    let s = sizes_of c.args.shape.now in
    let e : padded s ≤ padded s * s.channels = le-mul_of_pos_right (padded s) (limits c.args.shape.now).some_channels in
    omega (arith, e, c.requires.limit)

pub encode_channel-at-requires-clause-out : goal.encode_channel-at-requires-clause-out
encode_channel-at-requires-clause-out c =
    let s = sizes_of c.args.shape.now in
    let r = start_room s c.args.raw.now c.loop-c.c (length c.args.out.now) (limits c.args.shape.now) c.loop-c-test.true c.requires.out in
    omega (arith, r, c.loop-c.invariant.0, c.loop-c.auto.out, length-take (length c.loop-c.out - c.loop-c.at) (drop c.loop-c.at c.loop-c.out), length-drop c.loop-c.at c.loop-c.out)

pub overflow_add-at : goal.overflow_add-at
overflow_add-at c =
    let s = sizes_of c.args.shape.now in
    let h = limits c.args.shape.now in
    let r = start_room s c.args.raw.now c.loop-c.c (4 * s.channels + 16 * (padded s * s.channels)) h c.loop-c-test.true (omega arith) in
    let y = channel_room s c.args.raw.now c.loop-c.c h (some_voxels s h) in
    omega (arith, r, y, c.loop-c.invariant.0, c.encode_channel-at.ensures.len, c.requires.limit, h.few_channels)

pub loop-c-preserved : goal.loop-c-preserved
loop-c-preserved c =
    let s = sizes_of c.args.shape.now in
    let h = limits c.args.shape.now in
    let at : ℕ = c.loop-c.at in
    let out : List ℕ = c.loop-c.out in
    let new : List ℕ = c.encode_channel-at.new.out in
    let n : ℕ = c.encode_channel-at.result in
    let r = start_room s c.args.raw.now c.loop-c.c (length c.args.out.now) h c.loop-c-test.true c.requires.out in
    let y = channel_room s c.args.raw.now c.loop-c.c h (some_voxels s h) in
    let low = start_low s c.args.raw.now c.loop-c.c in
    let len : length new ≡ length out - at = c.encode_channel-at.auto.out ∙ omega (arith, length-take (length out - at) (drop at out), length-drop at out) in
    let post : List ℕ = post_of at (length out - at) out in
    let here : take n (new ++ post) ≡ channel_bytes s c.args.raw.now c.loop-c.c = front_of n new post (omega (arith, len, r, y, c.loop-c.invariant.0, c.loop-c.auto.out, c.encode_channel-at.ensures.len)) ∙ c.encode_channel-at.ensures.bytes in
    let more = start_more s c.args.raw.now c.loop-c.c in (
      omega (arith, more, c.loop-c.invariant.0, c.encode_channel-at.ensures.len),
      channel_more s c.args.raw.now c.loop-c.c at n out (new ++ post) (omega (arith, r, c.loop-c.invariant.0, c.loop-c.auto.out)) (omega (arith, low, c.loop-c.invariant.0)) here c.loop-c.invariant.1,
      starts_more s c.args.raw.now c.loop-c.starts c.loop-c.c (at / 4) (omega (arith, c.loop-c.auto.starts, c.requires.starts, c.loop-c-test.true)) (omega (arith, c.loop-c.invariant.0)) c.loop-c.invariant.2,
      same_more c.args.room.now c.loop-c.room c.encode_channel-at.new.room c.loop-c.invariant.3 c.encode_channel-at.ensures.same,
      same_singles c.args.singles.now c.loop-c.singles c.encode_channel-at.new.singles c.loop-c.invariant.4 c.encode_channel-at.ensures.singles,
    )

pub encode_channel-at-requires-clause-singles : goal.encode_channel-at-requires-clause-singles
encode_channel-at-requires-clause-singles c = kept_singles (sizes_of c.args.shape.now) c.args.singles.now c.loop-c.singles c.requires.singles c.loop-c.invariant.4
