use Rattle.std.proofs.Common.{arith, ◌≡◌, ◌*◌, ◌-◌, ◌++◌, ℕ, List, length, take, drop, ap, ◌∙◌, refl, length-take, length-drop}
use Rattle.byteorder.specs.Endian.{little_bytes, little_number}
use Rattle.vol_base.specs.Boxes.{value}
use Rattle.segment_blocks.proofs.Values.{bytes_4, first_value, part_bytes, stays, written_at}
use Rattle.segment_blocks.proofs.word.copy_narrow.Goals as goal
use borrow.Rule.Slice.PartMut.{put_mid}

pub returns-clause-placed : goal.returns-clause-placed
returns-clause-placed c =
    let i : ℕ = c.args.i in
    let j : ℕ = c.args.j in
    let k : ℕ = length c.args.to.now - 4 * j in
    let source : List ℕ = take (length c.args.from.now - 4 * i) (drop (4 * i) c.args.from.now) in
    let rest : List ℕ = drop 4 (take k (drop (4 * j) c.args.to.now)) in
    let same : little_bytes 4 (little_number 4 source) ≡ take 4 source = bytes_4 source (omega (arith, length-take (length c.args.from.now - 4 * i) (drop (4 * i) c.args.from.now), length-drop (4 * i) c.args.from.now)) (part_bytes c.args.from.now _ _ (λ q. omega (arith, c.type_inv.from q))) in
    let buf : c.write_u32.new.buf ≡ little_bytes 4 (little_number 4 source) ++ rest = c.write_u32.ensures ∙ ap (λ r. little_bytes 4 r ++ rest) c.read_u32.ensures in
    ap (λ b. value 4 (put_mid (4 * j) k c.args.to.now b) j) buf
    ∙ written_at 4 j k c.args.to.now (little_bytes 4 (little_number 4 source)) rest (omega arith) refl
    ∙ same ∙ first_value 4 i _ c.args.from.now (omega arith) refl

pub returns-clause-kept : goal.returns-clause-kept
returns-clause-kept c = λ m other.
    ap (λ b. value 4 (put_mid (4 * c.args.j) (length c.args.to.now - 4 * c.args.j) c.args.to.now b) m) c.write_u32.ensures
    ∙ stays 4 c.args.j m _ c.args.to.now (little_bytes 4 c.read_u32.result) (omega arith) refl refl other
