-- The values of a cell's chunk that is spelled as it is written.
use Rattle.std.proofs.Common.{◌≡◌, ℕ, zero, suc, ◌<◌, List, [], ◌∷◌, length, arith, refl, ap, ◌∙◌, sym, subst}
use Rattle.std.specs.Prelude.{ℤ, pos, ◌+ℤ◌, ◌-ℤ◌, ◌≤ℤ◌, ◌<ℤ◌, nat_abs}
use Rattle.std.proofs.lemmas.Int.{ints}
use Rattle.vol_base.specs.Boxes.{Covers, at, from_begin, num, size as box_size}
use Rattle.vol_base.specs.Bytes.{AreBytes}
use Rattle.vol_base.specs.declared.boxes.Box3.{Box3}
use Rattle.vol_spec.specs.Encodings.{by_encoding, encoded, raw_size, sizes_in}
use Rattle.vol_spec.specs.Grid.{cell_box}
use Rattle.vol_spec.specs.Raw.{digit, raw_at}
use Rattle.vol_spec.specs.SegBlocks.{InChunk, num as seg_num, raw_len as seg_raw_len, width}
use Rattle.vol_spec.specs.SegChunks.{seg_at}
use Rattle.vol_spec.specs.SegSizes.{SegSizes}
use Rattle.vol_spec.specs.SegWritten.{seg_bytes}
use Rattle.vol_spec.specs.Types.{Bytes}
use Rattle.vol_spec.specs.declared.encoding.Encoding.{Encoding}
use Rattle.vol_spec.specs.declared.encoding.Encoding.TheVariants.{Seg}
use Rattle.vol_spec.specs.declared.scale.Scale.{Scale}
use Rattle.segment_blocks.proofs.Numbered.{same_voxel}
use Rattle.segment_cells.specs.Decoding.{HoldsValues}
use Rattle.segment_cells.proofs.CellSteps.{encoded-seg}
use Rattle.segment_cells.proofs.SegSteps.{raw_same, width_is}

back : (b : ℤ) (q : ℕ) → nat_abs ((b +ℤ pos q) -ℤ b) ≡ q
back b q = omega (arith, ints)

on_axis : (b : ℤ) (q n : ℕ) → q < n → (b ≤ℤ (b +ℤ pos q)) × ((b +ℤ pos q) <ℤ (b +ℤ pos n))
on_axis b q n h = (omega (arith, ints), omega (arith, ints))

abbrev point : Box3 → ℕ → ℕ → ℕ → List ℤ
point b x y z = (at b.begin 0 +ℤ pos x) ∷ (at b.begin 1 +ℤ pos y) ∷ (at b.begin 2 +ℤ pos z) ∷ []

covers : (b : Box3) (x y z : ℕ) → x < box_size b 0 → y < box_size b 1 → z < box_size b 2 → Covers b (point b x y z)
covers b x y z lx ly lz zero h = on_axis (at b.begin 0) x (box_size b 0) lx
covers b x y z lx ly lz (suc zero) h = on_axis (at b.begin 1) y (box_size b 1) ly
covers b x y z lx ly lz (suc (suc zero)) h = on_axis (at b.begin 2) z (box_size b 2) lz
covers b x y z lx ly lz (suc (suc (suc n))) h = absurd (omega arith)

-- the values of a chunk, by the chunk's own places
digits_of : (s : Scale) (cell block : List ℕ) → s.encoding ≡ Seg block → (bytes values : Bytes) (x y z c : ℕ) → HoldsValues s cell bytes values → InChunk (sizes_in s cell) x y z → c < s.channels
    → digit values (width (sizes_in s cell)) (seg_num (sizes_in s cell) x y z c) ≡ seg_at bytes (sizes_in s cell) x y z c
digits_of s cell block seg bytes values x y z c holds i lc =
    let b = cell_box s cell in
    let p : List ℤ = point b x y z in
    let ex : from_begin b p 0 ≡ x = back (at b.begin 0) x in
    let ey : from_begin b p 1 ≡ y = back (at b.begin 1) y in
    let ez : from_begin b p 2 ≡ z = back (at b.begin 2) z in
    let en : num b p c ≡ seg_num (sizes_in s cell) x y z c = same_voxel (seg_num (sizes_in s cell)) ex ey ez refl in
    let chosen : by_encoding s.encoding (raw_at b s.width bytes p c) (seg_at bytes (sizes_in s cell) (from_begin b p 0) (from_begin b p 1) (from_begin b p 2) c) ≡ seg_at bytes (sizes_in s cell) (from_begin b p 0) (from_begin b p 1) (from_begin b p 2) c =
    ap (λ (e : Encoding). by_encoding e (raw_at b s.width bytes p c) (seg_at bytes (sizes_in s cell) (from_begin b p 0) (from_begin b p 1) (from_begin b p 2) c)) seg in
    ap (λ w. digit values w (seg_num (sizes_in s cell) x y z c)) (width_is s cell block seg) ∙ ap (digit values s.width) (sym en)
    ∙ holds p c (covers b x y z i.on_x i.on_y i.on_z) lc ∙ chosen ∙ same_voxel (seg_at bytes (sizes_in s cell)) ex ey ez refl

-- what says that all values that a chunk says have this chunk
abbrev pub Again : Bytes → SegSizes → Type 0
Again chunk sizes = (raw : List ℕ) → AreBytes raw → length raw ≡ seg_raw_len sizes
    → ((x y z c : ℕ) → InChunk sizes x y z → c < sizes.channels → digit raw (width sizes) (seg_num sizes x y z c) ≡ seg_at chunk sizes x y z c) → seg_bytes sizes raw ≡ chunk

pub cell_again : (s : Scale) (cell block : List ℕ) → s.encoding ≡ Seg block → (chunk : Bytes) (sizes : SegSizes) → sizes ≡ sizes_in s cell → Again chunk sizes → (values : Bytes) → AreBytes values → length values ≡ raw_size s cell
    → HoldsValues s cell chunk values → encoded s cell values ≡ chunk
cell_again s cell block seg chunk sizes is again values fits len holds =
    let law : Again chunk (sizes_in s cell) = subst (Again chunk) is again in
    encoded-seg s cell block seg values ∙ law values fits (len ∙ sym (raw_same s cell block seg)) (λ x y z c i lc. digits_of s cell block seg chunk values x y z c holds i lc)
