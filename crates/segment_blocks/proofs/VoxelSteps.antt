-- A block's values, row by row.
use Rattle.std.proofs.Common.{◌≡◌, ℕ, ◌+◌, ◌-◌, ◌*◌, ◌/◌, ◌%◌, ◌^◌, ◌<◌, ◌≤◌, List, length, slice_index, Bool, true, false, IsTrue, arith, refl, ap, ◌∙◌, sym, subst, inl, ⊎_elim}
use Rattle.std.specs.Prelude.{◌&&◌, nat_lt, if◌then◌else◌}
use Rattle.std.proofs.lemmas.Bool.{cases_lt}
use Rattle.std.proofs.lemmas.Bool.Decides.{nat_tests}
use Rattle.std.proofs.lemmas.Grind.{same_number_lists}
use Rattle.std.proofs.lemmas.List.FromFn.{length-map-range_with_len, get_or-map-range_with_len}
use Rattle.std.proofs.lemmas.Nat.{div-add-mod', div-mul-add, mod-mul-add, mod_below}
use Rattle.std.proofs.Math.Nat.{mod-add-div, mul-le-mul_left, mul-le-mul_right}
use Rattle.equal_values.proofs.Ranges.{either}
use Rattle.vol_spec.specs.Raw.{digit}
use Rattle.vol_spec.specs.SegSizes.{SegSizes}
use Rattle.vol_spec.specs.SegBlocks.{block, block_voxels, in_chunk, width}
use Rattle.vol_spec.specs.SegWritten.{raw_value}
use Rattle.segment_blocks.specs.declared.block.Block.{Block}
use Rattle.segment_blocks.specs.declared.voxels.Row.{Row}
use Rattle.segment_blocks.specs.Filled.{Lies, Voxel, spot}
use Rattle.segment_blocks.specs.Located.{IsBlock}
use Rattle.segment_blocks.specs.Shape.{IsShape, place}
use Rattle.segment_blocks.specs.Voxels.{row_of, voxel_of, voxels_of}
use Rattle.segment_blocks.proofs.Blocks.{inside_from, inside_to, voxel, voxel_spot}
use Rattle.segment_blocks.proofs.Lines.{Room, room_of, width_le, width_some}
use Rattle.segment_blocks.proofs.Rowwise.{mid_inside, mid_outside}
use borrow.Rule.Slice.PartMut.{put_mid}

-- the row behind one, in the same plane or the next
pub line_more : (r y z rows : ℕ) → y ≡ r % rows → z ≡ r / rows → y + 1 < rows → (y + 1 ≡ (r + 1) % rows) × (z ≡ (r + 1) / rows)
line_more r y z rows ey ez l =
    let f = div-add-mod' r rows in
    let same : z * rows ≡ r / rows * rows = ap (λ q. q * rows) ez in
    let d : z * rows + (y + 1) ≡ r + 1 = omega (arith, f, same, ey) in
    (sym (ap (λ q. q % rows) (sym d) ∙ mod-mul-add z rows (y + 1) l), sym (ap (λ q. q / rows) (sym d) ∙ div-mul-add z rows (y + 1) l))

pub line_end : (r y z rows : ℕ) → 0 < rows → y ≡ r % rows → z ≡ r / rows → rows ≤ y + 1 → (0 ≡ (r + 1) % rows) × (z + 1 ≡ (r + 1) / rows)
line_end r y z rows some ey ez h =
    let f = div-add-mod' r rows in
    let below : r % rows < rows = mod_below r rows some in
    let same : z * rows ≡ r / rows * rows = ap (λ q. q * rows) ez in
    let d : (z + 1) * rows + 0 ≡ r + 1 = omega (arith, f, same, ey, below, h) in
    (sym (ap (λ q. q % rows) (sym d) ∙ mod-mul-add (z + 1) rows 0 some), sym (ap (λ q. q / rows) (sym d) ∙ div-mul-add (z + 1) rows 0 some))

-- a row of so many places lies in them
pub row_in : (len w r : ℕ) → r < len / w → r * w + w ≤ len
row_in len w r h =
    let e : (r + 1) * w ≤ len / w * w = mul-le-mul_right w (omega arith) in
    let f = div-add-mod' len w in
    omega arith

row_true : (b : Block) (y z : ℕ) → y < b.count_y → z < b.count_z → row_of b y z ≡ record { at = ((b.z + z) * b.size_y + (b.y + y)) * b.size_x + b.x; count = b.count_x }
row_true b y z hy hz = grind (arith, nat_tests)

-- a row with a voxel in the chunk
pub record Begins (b : Block) (y z : ℕ) : Type 0 where
  pub on_y : y < b.count_y
  pub on_z : z < b.count_z

begins_of : (t u : Bool) (p : Row) → 0 < (if t && u then p else record { at = 0; count = 0 }).count → IsTrue t × IsTrue u
begins_of true true p h = (refl, refl)
begins_of true false p h = absurd (omega arith)
begins_of false u p h = absurd (omega arith)

lt_is : (a b : ℕ) → IsTrue (nat_lt a b) → a < b
lt_is a b h = grind (arith, nat_tests)

pub row_begins : (b : Block) (y z : ℕ) (row : Row) → row ≡ row_of b y z → 0 < row.count → Begins b y z
row_begins b y z row e h =
    let t = begins_of (nat_lt y b.count_y) (nat_lt z b.count_z) (record { at = ((b.z + z) * b.size_y + (b.y + y)) * b.size_x + b.x; count = b.count_x }) (subst (λ q. 0 < q.count) e h) in
    record { on_y = lt_is y b.count_y t.0; on_z = lt_is z b.count_z t.1 }

pub row_is : (b : Block) (y z : ℕ) (row : Row) → row ≡ row_of b y z → Begins b y z → (row.at ≡ ((b.z + z) * b.size_y + (b.y + y)) * b.size_x + b.x) × (row.count ≡ b.count_x)
row_is b y z row e h =
    let f = e ∙ row_true b y z h.on_y h.on_z in
    (ap (λ q. q.at) f, ap (λ q. q.count) f)

row_at : (b : Block) (y z n : ℕ) → 0 < n → (y < b.count_y → z < b.count_z → ((b.z + z) * b.size_y + (b.y + y)) * b.size_x + b.x < n) → (row_of b y z).at < n
row_at b y z n pn h = small (nat_lt y b.count_y) (nat_lt z b.count_z) (record { at = ((b.z + z) * b.size_y + (b.y + y)) * b.size_x + b.x; count = b.count_x }) (λ t u. h (lt_is y b.count_y t) (lt_is z b.count_z u))
  where
    small : (t u : Bool) (p : Row) → (IsTrue t → IsTrue u → p.at < n) → (if t && u then p else record { at = 0; count = 0 }).at < n
    small true true p g = g refl refl
    small true false p g = pn
    small false u p g = pn

-- its values are in the raw bytes
pub row_within : (s : SegSizes) (b : Block) (len y z : ℕ) (row : Row) → Lies b (len / width s) → row ≡ row_of b y z → (x : ℕ) → x < row.count → width s * (row.at + x) + width s ≤ len
row_within s b len y z row l e x lx =
    let h = row_begins b y z row e (omega arith) in
    let is = row_is b y z row e h in
    let room : Room (width s) row.at b.count_x len = room_of b (width s) row.at len y z (width_some s.wide) (width_le s.wide) l h.on_y h.on_z is.0 in
    let more : width s * (row.at + x + 1) ≤ width s * (row.at + b.count_x) = mul-le-mul_left (width s) (omega (arith, is.1)) in
    omega (arith, room.end)

pub row_small : (s : SegSizes) (b : Block) (len y z : ℕ) (row : Row) → Lies b (len / width s) → row ≡ row_of b y z → row.at < 2 ^ 60
row_small s b len y z row l e =
    subst (λ q. q.at < 2 ^ 60) (sym e)
    (row_at b y z (2 ^ 60) (omega arith)
    (λ hy hz.
    let room : Room (width s) (((b.z + z) * b.size_y + (b.y + y)) * b.size_x + b.x) b.count_x len = room_of b (width s) _ len y z (width_some s.wide) (width_le s.wide) l hy hz refl in
    omega (arith, room.few)))

pub if_lt : (x count d p : ℕ) → x < count → (if nat_lt x count then d else p) ≡ d
if_lt x count d p h = grind (arith, nat_tests)

pub if_ge : (x count d p : ℕ) → count ≤ x → (if nat_lt x count then d else p) ≡ p
if_ge x count d p h = grind (arith, nat_tests)

if_is : (t : Bool) (d p : ℕ) → t ≡ true → (if t then d else p) ≡ d
if_is t d p e = rw e refl

if_not : (t : Bool) (d p : ℕ) → t ≡ false → (if t then d else p) ≡ p
if_not t d p e = rw e refl

apart : (t : Bool) → t ≡ false → IsTrue t → ⊥
apart true e h = cc
apart false e h = cc

-- each value of a row
pub row_voxel : (s : SegSizes) (raw : List ℕ) (c k : ℕ) (b : Block) (padding r x : ℕ) (row : Row) → IsShape s → IsBlock s c k b → row ≡ row_of b (r % b.block_y) (r / b.block_y)
    → r * block s 0 + block s 0 ≤ block_voxels s → x < block s 0
    → (if nat_lt x row.count then digit raw (width s) (row.at + x) else padding) ≡ voxel_of s raw c k padding (r * block s 0 + x)
row_voxel s raw c k b padding r x row h is e fits lx =
    let n : ℕ = r * block s 0 + x in
    let nm : n % block s 0 ≡ x = mod-mul-add r (block s 0) x lx in
    let nd : n / block s 0 ≡ r = div-mul-add r (block s 0) x lx in
    let y : ℕ = r % b.block_y in
    let z : ℕ = r / b.block_y in
    let ey : n / block s 0 % block s 1 ≡ y = ap (λ q. q % block s 1) nd ∙ ap (λ q. r % q) (sym is.block_y) in
    let ez : n / block s 0 / block s 1 ≡ z = ap (λ q. q / block s 1) nd ∙ ap (λ q. r / q) (sym is.block_y) in
    ⊎_elim
    (λ (t : in_chunk s k n ≡ true).
    let i = inside_to s c k n b h is (record { below = omega arith; inside = t }) in
    let here : Begins b y z = record { on_y = omega (arith, i.1, ey); on_z = omega (arith, i.2, ez) } in
    let m = row_is b y z row e here in
    let spot_n : place s c k n ≡ spot b (voxel s n) = voxel_spot s c k n b is in
    let same : spot b (voxel s n) ≡ (b.x + x) + b.size_x * ((b.y + y) + b.size_y * (b.z + z)) =
    ap (λ q. (b.x + q) + b.size_x * ((b.y + n / block s 0 % block s 1) + b.size_y * (b.z + n / block s 0 / block s 1))) nm
    ∙ ap (λ q. (b.x + x) + b.size_x * ((b.y + q) + b.size_y * (b.z + n / block s 0 / block s 1))) ey
    ∙ ap (λ q. (b.x + x) + b.size_x * ((b.y + y) + b.size_y * (b.z + q))) ez in
    let turned : ((b.z + z) * b.size_y + (b.y + y)) * b.size_x + b.x + x ≡ (b.x + x) + b.size_x * ((b.y + y) + b.size_y * (b.z + z)) = omega arith in
    let at : row.at + x ≡ place s c k n = ap (λ q. q + x) m.0 ∙ turned ∙ sym (spot_n ∙ same) in
    if_lt x row.count _ padding (omega (arith, m.1, i.0, nm)) ∙ ap (digit raw (width s)) at ∙ sym (if_is (in_chunk s k n) (raw_value s raw c k n) padding t))
    (λ (f : in_chunk s k n ≡ false). ⊎_elim
    (λ (l : x < row.count).
    let here = row_begins b y z row e (omega arith) in
    let m = row_is b y z row e here in
    let v : Voxel = record { x = x; y = y; z = z } in
    let t = inside_from s c k b v h is (omega (arith, m.1), here.on_y, here.on_z) in
    let dy : t.0 / block s 0 ≡ r =
    sym (mod-add-div (t.0 / block s 0) (block s 1)) ∙ ap (λ q. q + block s 1 * (t.0 / block s 0 / block s 1)) (sym t.3 ∙ ap (λ q. r % q) is.block_y) ∙ ap (λ q. r % block s 1 + block s 1 * q) (sym t.4 ∙ ap (λ q. r / q) is.block_y) ∙ mod-add-div r (block s 1) in
    let back : x + block s 0 * r ≡ n = omega arith in
    let same : t.0 ≡ n = sym (mod-add-div t.0 (block s 0)) ∙ ap (λ q. q + block s 0 * (t.0 / block s 0)) (sym t.2) ∙ ap (λ q. x + block s 0 * q) dy ∙ back in
    absurd (apart (in_chunk s k n) f (subst (λ q. IsTrue (in_chunk s k q)) same t.1.inside)))
    (λ (g : row.count ≤ x). if_ge x row.count _ padding g ∙ sym (if_not (in_chunk s k n) (raw_value s raw c k n) padding f))
    (cases_lt x row.count))
    (either (in_chunk s k n))

-- one row more
pub row_more : (s : SegSizes) (raw : List ℕ) (c k : ℕ) (b : Block) (padding r m : ℕ) (row : Row) (old new : List ℕ) → IsShape s → IsBlock s c k b → row ≡ row_of b (r % b.block_y) (r / b.block_y)
    → length old ≡ block_voxels s → r < block_voxels s / block s 0 → m ≡ block s 0 → length new ≡ m
    → ((n : ℕ) → n < r * block s 0 → slice_index old n ≡ voxel_of s raw c k padding n)
    → ((x : ℕ) → x < m → slice_index new x ≡ (if nat_lt x row.count then digit raw (width s) (row.at + x) else padding))
    → (n : ℕ) → n < (r + 1) * block s 0 → slice_index (put_mid (r * block s 0) m old new) n ≡ voxel_of s raw c k padding n
row_more s raw c k b padding r m row old new h is e len lr em ln before here n lt =
    let fits = row_in (block_voxels s) (block s 0) r lr in
    ⊎_elim
    (λ (l : n < r * block s 0). mid_outside (r * block s 0) m old new n (omega arith) ln (inl l) ∙ before n l)
    (λ (g : r * block s 0 ≤ n).
    let x : ℕ = n - r * block s 0 in
    let at : r * block s 0 + x ≡ n = omega arith in
    let lx : x < block s 0 = omega arith in
    ap (slice_index (put_mid (r * block s 0) m old new)) (sym at) ∙ mid_inside (r * block s 0) m old new x (omega arith) (omega arith)
    ∙ here x (omega arith) ∙ row_voxel s raw c k b padding r x row h is e fits lx ∙ ap (voxel_of s raw c k padding) at)
    (cases_lt n (r * block s 0))

-- all rows
pub rows_all : (s : SegSizes) (raw : List ℕ) (c k padding r : ℕ) (xs : List ℕ) → IsShape s → length xs ≡ block_voxels s → block_voxels s / block s 0 ≤ r
    → ((n : ℕ) → n < r * block s 0 → slice_index xs n ≡ voxel_of s raw c k padding n) → xs ≡ voxels_of s raw c k padding
rows_all s raw c k padding r xs h len lr each =
    let n : ℕ = block_voxels s in
    let product : n ≡ block s 1 * block s 2 * block s 0 + 0 = omega arith in
    let rows : n / block s 0 ≡ block s 1 * block s 2 = ap (λ q. q / block s 0) product ∙ div-mul-add (block s 1 * block s 2) (block s 0) 0 h.block_0.0 in
    let all : n ≤ r * block s 0 = let e : block s 1 * block s 2 * block s 0 ≤ r * block s 0 = mul-le-mul_right (block s 0) (omega (arith, rows, lr)) in omega arith in
    same_number_lists xs (voxels_of s raw c k padding) (len ∙ sym (length-map-range_with_len (voxel_of s raw c k padding) 0 n))
    (λ i li. each i (omega arith) ∙ sym (get_or-map-range_with_len (voxel_of s raw c k padding) 0 n i i 0 (omega arith) (omega arith)))
