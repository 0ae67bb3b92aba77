use Rattle.std.proofs.Common.{arith, ◌≡◌, ◌*◌, ◌^◌, ◌<◌, ◌≤◌, ◌∙◌, ◌++◌, None, ap, subst, sym, ℕ, List, length, length-take, take, drop}
use Rattle.std.specs.Prelude.{flat_map}
use Rattle.std.specs.List.{range_with_len}
use Rattle.std.proofs.lemmas.List.{take_at}
use Rattle.vol_spec.specs.BoxValues.{bytes_of}
use Rattle.vol_spec.specs.SegShapes.{sizes_of}
use Rattle.vol_spec.specs.SegWritten.{channel_bytes, channel_start}
use Rattle.segment_blocks.specs.Reserved.{sizes_for}
use Rattle.vol_spec.specs.Raw.{digit}
use Rattle.vol_spec.specs.SegBlocks.{InChunk, num, width}
use Rattle.vol_spec.specs.SegChunks.{seg_at}
use Rattle.vol_spec.specs.SegFaults.{seg_fault}
use Rattle.segment_blocks.proofs.Back.{table_fits}
use Rattle.segment_blocks.proofs.Bodies.{over_front}
use Rattle.segment_blocks.proofs.Channels.{seg_bytes_is, start_le, start_low, starts_bytes}
use Rattle.segment_blocks.proofs.Reserves.{serves_room}
use Rattle.segment_blocks.proofs.Rooms.{kept_singles, serves_singles}
use Rattle.segment_blocks.proofs.Shapes.{limits, padded_is, padded_le}
use Rattle.segment_blocks.proofs.Sound.{is_sound, reads_back}
use Rattle.segment_blocks.proofs.writing.encode.Goals as goal

pub encode_channels-len-requires-clause-limit : goal.encode_channels-len-requires-clause-limit
encode_channels-len-requires-clause-limit c = let e = padded_is (sizes_of c.args.shape.now) in omega (arith, e, c.requires.limit)

pub encode_channels-len-requires-clause-room : goal.encode_channels-len-requires-clause-room
encode_channels-len-requires-clause-room c = serves_room (sizes_for c.args.scratch.now) (sizes_of c.args.shape.now) c.args.scratch.now.room (limits c.args.shape.now) c.requires.scratch c.args.scratch.now.room_ok

pub encode_channels-len-requires-clause-singles : goal.encode_channels-len-requires-clause-singles
encode_channels-len-requires-clause-singles c = serves_singles (sizes_for c.args.scratch.now) (sizes_of c.args.shape.now) c.args.scratch.now.singles (limits c.args.shape.now) c.requires.scratch c.args.scratch.now.singles_ok

pub invariant_of-scratch-clause-singles_ok : goal.invariant_of-scratch-clause-singles_ok
invariant_of-scratch-clause-singles_ok c = kept_singles (sizes_for c.args.scratch.now) c.args.scratch.now.singles c.encode_channels-len.new.singles c.args.scratch.now.singles_ok c.encode_channels-len.ensures.singles

pub invariant_of-scratch-clause-starts_ok : goal.invariant_of-scratch-clause-starts_ok
invariant_of-scratch-clause-starts_ok c =
    let starts : List ℕ = c.encode_channels-len.new.starts in
    let items : take c.args.scratch.now.starts.len (starts ++ drop (length starts) c.args.scratch.now.starts.items) ≡ starts = take_at starts _ _ (omega (arith, c.encode_channels-len.auto.starts, c.deref_mut.ensures.len)) in
    omega (arith, ap length items, c.encode_channels-len.auto.starts, c.args.scratch.now.starts_ok, ap length c.deref_mut.ensures.value)

pub encode_channels-len-requires-clause-out : goal.encode_channels-len-requires-clause-out
encode_channels-len-requires-clause-out c = let e = padded_is (sizes_of c.args.shape.now) in omega (arith, e, c.requires.out)

pub returns-clause-bytes : goal.returns-clause-bytes
returns-clause-bytes c =
    let s = sizes_of c.args.shape.now in
    let n : ℕ = c.args.shape.now.channels in
    let starts : List ℕ = c.encode_channels-len.new.starts in
    let written : List ℕ = c.encode_channels-len.new.out in
    let put : List ℕ = c.put_words.new.out in
    let low = start_low s c.args.raw.now n in
    let items : take c.args.scratch.now.starts.len (starts ++ drop (length starts) c.args.scratch.now.starts.items) ≡ starts = take_at starts _ _ (omega (arith, c.encode_channels-len.auto.starts, c.deref_mut.ensures.len)) in
    let enough : n ≤ length starts = omega (arith, c.encode_channels-len.auto.starts, c.args.scratch.now.starts_ok, c.requires.scratch.channels, ap length c.deref_mut.ensures.value) in
    let front : put ≡ flat_map (λ d. bytes_of 4 (channel_start s c.args.raw.now d)) (range_with_len 0 n) =
    c.put_words.ensures ∙ ap (λ q. flat_map (bytes_of 4) (take n q)) (c.deref.ensures.value ∙ items) ∙ starts_bytes s c.args.raw.now starts n n (omega arith) enough c.encode_channels-len.ensures.starts in
    let len : length put ≡ 4 * n = c.put_words.auto.out ∙ omega (arith, length-take (4 * n) written, c.requires.out, c.encode_channels-len.auto.out) in
    over_front (4 * n) c.encode_channels-len.result written put (omega (arith, low, c.encode_channels-len.ensures.len)) len
    ∙ ap (λ q. put ++ q) c.encode_channels-len.ensures.bytes ∙ ap (λ q. q ++ flat_map (channel_bytes s c.args.raw.now) (range_with_len 0 n)) front ∙ seg_bytes_is s c.args.raw.now

pub returns-clause-len : goal.returns-clause-len
returns-clause-len c =
    let s = sizes_of c.args.shape.now in
    let e = padded_is s in
    let a = start_le s c.args.raw.now c.args.shape.now.channels (limits c.args.shape.now) in
    omega (arith, e, a, c.encode_channels-len.ensures.len)

pub returns-clause-sound : goal.returns-clause-sound
returns-clause-sound c =
    let s = sizes_of c.args.shape.now in
    let h = limits c.args.shape.now in
    let few = padded_le s (2 ^ 22) h c.requires.limit in
    subst (λ q. seg_fault q s ≡ None) (sym (returns-clause-bytes c)) (is_sound s c.args.raw.now h few.0 few.1)

pub returns-clause-read_back : goal.returns-clause-read_back
returns-clause-read_back c =
    let s = sizes_of c.args.shape.now in
    let h = limits c.args.shape.now in
    let few = padded_le s (2 ^ 22) h c.requires.limit in
    subst (λ b. (x y z d : ℕ) → InChunk s x y z → d < s.channels → seg_at b s x y z d ≡ digit c.args.raw.now (width s) (num s x y z d)) (sym (returns-clause-bytes c))
    (reads_back s c.args.raw.now h (λ i. omega (arith, c.type_inv.raw i)) few.0 few.1)

pub returns-clause-offsets : goal.returns-clause-offsets
returns-clause-offsets c =
    let s = sizes_of c.args.shape.now in
    let h = limits c.args.shape.now in
    let few = padded_le s (2 ^ 22) h c.requires.limit in
    λ d k lk. table_fits s c.args.raw.now d k h few.1 lk
