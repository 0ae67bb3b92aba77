-- What is reserved for larger chunks serves smaller ones.
use Rattle.std.proofs.Common.{◌≡◌, ℕ, ◌+◌, ◌-◌, ◌*◌, ◌/◌, ◌<◌, ◌≤◌, slice_index, arith, ap, ◌∙◌, sym, subst}
use Rattle.std.proofs.lemmas.Nat.{le-div, div-add-mod', mul-le}
use Rattle.vol_spec.specs.SegSizes.{SegSizes}
use Rattle.vol_spec.specs.SegBlocks.{block, block_count, block_voxels, blocks_on, size}
use Rattle.segment_blocks.specs.declared.room.Room.{Room}
use Rattle.segment_blocks.specs.Rooms.{IsRoom, Serves}
use Rattle.segment_blocks.specs.Shape.{IsShape}

fewer : (a b n : ℕ) → 0 < n → a ≤ b → (a + n - 1) / n ≤ (b + n - 1) / n
fewer a b n pn h =
    let e = div-add-mod' (a + n - 1) n in
    le-div ((a + n - 1) / n) (b + n - 1) n pn (omega arith)

pub fewer_blocks : (r s : SegSizes) → IsShape s → Serves r s → block_count s ≤ block_count r
fewer_blocks r s h v =
    let on : (axis : ℕ) → axis < 3 → 0 < block s axis → blocks_on s axis ≤ blocks_on r axis = λ axis l p.
    subst (λ q. blocks_on s axis ≤ (size r axis + q - 1) / q) (ap (λ q. slice_index q axis) v.block) (fewer (size s axis) (size r axis) (block s axis) p (v.size axis l)) in
    mul-le _ _ _ _ (mul-le _ _ _ _ (on 0 (omega arith) h.block_0.0) (on 1 (omega arith) h.block_1.0)) (on 2 (omega arith) h.block_2.0)

pub serves_room : (r s : SegSizes) (room : Room) → IsShape s → Serves r s → IsRoom r room → IsRoom s room
serves_room r s room h v x =
    let few = fewer_blocks r s h v in
    let same : block_voxels s ≡ block_voxels r = ap (λ q. slice_index q 0 * slice_index q 1 * slice_index q 2) v.block in
    record {
      voxels = x.voxels ∙ sym same;
      table = x.table ∙ sym same;
      some_heads = x.some_heads;
      few_heads = x.few_heads;
      next = omega (arith, few, x.next);
      at = omega (arith, few, x.at);
      lens = omega (arith, few, x.lens);
      headers = omega (arith, few, x.headers);
    }

pub serves_self : (r s : SegSizes) → r ≡ s → Serves r s
serves_self r s e = record { block = ap (λ q. q.block) (sym e); channels = ap (λ q. q.channels) (sym e); wide = ap (λ q. q.wide) (sym e); size = λ axis l. let f : size r axis ≡ size s axis = ap (λ q. size q axis) e in omega (arith, f) }
