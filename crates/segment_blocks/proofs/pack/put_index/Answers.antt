use Rattle.std.proofs.Common.{arith, ◌≡◌, ◌+◌, ◌-◌, ◌*◌, ◌/◌, ◌%◌, ◌^◌, ◌++◌, ℕ, List, length, take, drop, ap, ◌∙◌, refl, length-drop}
use Rattle.std.proofs.lemmas.List.{take_all}
use Rattle.std.proofs.Math.Nat.{mod-eq_of_lt}
use Rattle.byteorder.specs.Endian.{little_bytes, little_number}
use Rattle.vol_spec.specs.Raw.{number}
use Rattle.segment_blocks.proofs.Packing.{Room, index_put, room_for}
use Rattle.segment_blocks.proofs.Values.{IsBytes}
use Rattle.segment_blocks.proofs.pack.put_index.Goals as goal
use borrow.Rule.Slice.PartMut.{put_mid}

pub overflow_add-word : goal.overflow_add-word
overflow_add-word c =
    let at : ℕ = 4 * (c.args.n * c.args.bits / 32) in
    let r : ℕ = c.args.n * c.args.bits % 32 in
    let room : Room c.args.values.now c.args.bits c.args.n c.args.index = room_for c.args.values.now c.args.bits c.args.n c.args.index c.tell_bytes.ensures c.requires.bits c.requires.index c.requires.front in
    let whole : take (length c.args.values.now - at) (drop at c.args.values.now) ≡ drop at c.args.values.now = take_all _ _ (omega (arith, length-drop at c.args.values.now)) in
    let word : c.read_u32-word.result ≡ little_number 4 (drop at c.args.values.now) = c.read_u32-word.ensures ∙ ap (little_number 4) whole in
    let more : c.args.index * 2 ^ r % 4294967296 ≡ c.args.index * 2 ^ r = mod-eq_of_lt room.small in
    rw (word, more) (omega (arith, room.sum))

pub returns : goal.returns
returns c =
    let xs : List ℕ = c.args.values.now in
    let at : ℕ = 4 * (c.args.n * c.args.bits / 32) in
    let r : ℕ = c.args.n * c.args.bits % 32 in
    let k : ℕ = length xs - at in
    let fits : IsBytes xs = c.tell_bytes.ensures in
    let room : Room xs c.args.bits c.args.n c.args.index = room_for xs c.args.bits c.args.n c.args.index fits c.requires.bits c.requires.index c.requires.front in
    let whole : take k (drop at xs) ≡ drop at xs = take_all _ _ (omega (arith, length-drop at xs)) in
    let word : c.read_u32-word.result ≡ little_number 4 (drop at xs) = c.read_u32-word.ensures ∙ ap (little_number 4) whole in
    let more : c.args.index * 2 ^ r % 4294967296 ≡ c.args.index * 2 ^ r = mod-eq_of_lt room.small in
    let buf : c.write_u32.new.buf ≡ little_bytes 4 (little_number 4 (drop at xs) + c.args.index * 2 ^ r) ++ drop 4 (take k (drop at xs)) =
    c.write_u32.ensures ∙ ap (λ n. little_bytes 4 (n + c.args.index * 2 ^ r % 4294967296) ++ drop 4 (take k (drop at xs))) word ∙ ap (λ n. little_bytes 4 (little_number 4 (drop at xs) + n) ++ drop 4 (take k (drop at xs))) more in
    ap (λ b. number (put_mid at k xs b)) buf ∙ index_put xs c.args.bits c.args.n c.args.index k fits c.requires.bits c.requires.index c.requires.front c.requires.within refl
