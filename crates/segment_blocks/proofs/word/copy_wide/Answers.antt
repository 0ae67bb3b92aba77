use Rattle.std.proofs.Common.{arith, ◌≡◌, ◌*◌, ◌-◌, ◌++◌, ℕ, List, length, take, drop, ap, ◌∙◌, refl, length-take, length-drop}
use Rattle.byteorder.specs.Endian.{little_bytes, little_number}
use Rattle.vol_base.specs.Boxes.{value}
use Rattle.segment_blocks.proofs.Values.{bytes_8, first_value, part_bytes, stays, written_at}
use Rattle.segment_blocks.proofs.word.copy_wide.Goals as goal
use borrow.Rule.Slice.PartMut.{put_mid}

pub returns-clause-placed : goal.returns-clause-placed
returns-clause-placed c =
    let i : ℕ = c.args.i in
    let j : ℕ = c.args.j in
    let k : ℕ = length c.args.to.now - 8 * j in
    let source : List ℕ = take (length c.args.from.now - 8 * i) (drop (8 * i) c.args.from.now) in
    let rest : List ℕ = drop 8 (take k (drop (8 * j) c.args.to.now)) in
    let same : little_bytes 8 (little_number 8 source) ≡ take 8 source = bytes_8 source (omega (arith, length-take (length c.args.from.now - 8 * i) (drop (8 * i) c.args.from.now), length-drop (8 * i) c.args.from.now)) (part_bytes c.args.from.now _ _ (λ q. omega (arith, c.type_inv.from q))) in
    let buf : c.write_u64.new.buf ≡ little_bytes 8 (little_number 8 source) ++ rest = c.write_u64.ensures ∙ ap (λ r. little_bytes 8 r ++ rest) c.read_u64.ensures in
    ap (λ b. value 8 (put_mid (8 * j) k c.args.to.now b) j) buf
    ∙ written_at 8 j k c.args.to.now (little_bytes 8 (little_number 8 source)) rest (omega arith) refl
    ∙ same ∙ first_value 8 i _ c.args.from.now (omega arith) refl

pub returns-clause-kept : goal.returns-clause-kept
returns-clause-kept c = λ m other.
    ap (λ b. value 8 (put_mid (8 * c.args.j) (length c.args.to.now - 8 * c.args.j) c.args.to.now b) m) c.write_u64.ensures
    ∙ stays 8 c.args.j m _ c.args.to.now (little_bytes 8 c.read_u64.result) (omega arith) refl refl other
