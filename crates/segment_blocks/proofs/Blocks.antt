-- One block against the definitions.
use Rattle.std.proofs.Common.{◌≡◌, ℕ, ◌+◌, ◌-◌, ◌*◌, ◌/◌, ◌%◌, ◌<◌, ◌≤◌, ◌&&◌, nat_lt, List, length, take, drop, arith, refl, ap, ◌∙◌, sym, subst, Bool, true, false, IsTrue, Option, Some, None, length-drop}
use Rattle.std.specs.Prelude.{if◌then◌else◌, not, ◌==◌, [], ◌∷◌, map}
use Rattle.std.proofs.lemmas.Bool.Decides.{nat_tests}
use Rattle.std.proofs.lemmas.Nat.{row_fits, div_below, mod_below, div-mul-add, mod-mul-add}
use Rattle.std.proofs.Math.Nat.{mul-le-mul_right, mod-add-div}
use Rattle.std.proofs.Math.Seq.{drop-drop}
use Rattle.vol_spec.specs.SegSizes.{SegSizes}
use Rattle.vol_base.specs.declared.faults.ChunkFault.{ChunkFault}
use Rattle.vol_base.specs.declared.faults.ChunkFault.TheVariants.{SegBits, SegValues, SegTable}
use Rattle.segment_blocks.specs.declared.block.Block.{Block}
use Rattle.vol_spec.specs.SegBlocks.{size, block, blocks_on, block_count, block_voxels, raw_len, width, in_chunk, x_of, y_of, z_of, packed_words, voxels_in}
use Rattle.vol_spec.specs.SegSizes.{width_of}
use Rattle.segment_blocks.specs.Shape.{place, InBlock, IsShape}
use Rattle.vol_base.specs.Boxes.{value}
use Rattle.vol_spec.specs.SegChunks.{words, start, bits, table_at, values_at, index, entry, entry_at}
use Rattle.vol_spec.specs.SegFaults.{is_allowed, when, bits_fault, values_fault, table_fault}
use Rattle.vol_spec.specs.BoxValues.{first_some}
use Rattle.segment_blocks.specs.Row.{index_in}
use Rattle.segment_blocks.specs.Located.{IsBlock}
use Rattle.segment_blocks.specs.Filled.{Filled, Voxel, Lies, Done, IsOut, InPlanes, spot, want, number_of, HasFor}
use Rattle.segment_blocks.proofs.Fills.{filled_via}
use Rattle.segment_blocks.proofs.Firsts.{none_kept, first_kept}
use Rattle.segment_blocks.proofs.Field.{field_is}
use Rattle.segment_blocks.proofs.Lines.{width_some}
use Rattle.segment_blocks.proofs.Shapes.{facts, spots}
use Rattle.segment_blocks.proofs.Values.{IsBytes}

pub lies : (s : SegSizes) (c k len : ℕ) (b : Block) → IsShape s → c < s.channels → k < block_count s → IsBlock s c k b → len ≡ raw_len s → Lies b (len / width s)
lies s c k len b h lc lk is el =
    let f = facts s h in
    let p = spots s k h lk in
    let m : ℕ = size s 0 * size s 1 * size s 2 * s.channels in
    let values : len / width s ≡ m =
    let e : m * width s ≡ m * width s + 0 = omega arith in
    ap (λ q. q / width s) (el ∙ e) ∙ div-mul-add m (width s) 0 (width_some s.wide) in
    let kz : ℕ = k / blocks_on s 0 / blocks_on s 1 * block s 2 in
    let top : (c + 1) * size s 2 ≤ s.channels * size s 2 = mul-le-mul_right (size s 2) (omega arith) in
    let planes : b.z + b.count_z ≤ s.channels * size s 2 = omega (arith, is.z, is.count_z, p.z) in
    let volume : (b.z + b.count_z) * (size s 1 * size s 0) ≤ s.channels * size s 2 * (size s 1 * size s 0) = mul-le-mul_right (size s 1 * size s 0) planes in
    let deep : b.count_z ≤ block s 2 = omega (arith, is.count_z) in
    let all : b.count_z * (block s 1 * block s 0) ≤ block s 2 * (block s 1 * block s 0) = mul-le-mul_right (block s 1 * block s 0) deep in
    record {
      x = omega (arith, is.x, is.count_x, is.size_x, p.x);
      y = omega (arith, is.y, is.count_y, is.size_y, p.y);
      z = rw (is.size_x, is.size_y, values) (omega (arith, volume));
      row = omega (arith, is.count_x, is.block_x);
      plane = omega (arith, is.count_y, is.block_y);
      all = rw (is.block_x, is.block_y, is.indices) (omega (arith, all));
      some_x = omega (arith, is.size_x, h.size_0);
      some_y = omega (arith, is.size_y, h.size_1);
      some_block = omega (arith, is.block_x, h.block_0);
      limit = omega (arith, is.indices, f.voxels);
      limit_values = omega (arith, values, f.values);
    }

-- the voxel N of a block, counted from its first
abbrev pub voxel : SegSizes → ℕ → Voxel
voxel s n = record { x = n % block s 0; y = n / block s 0 % block s 1; z = n / block s 0 / block s 1 }

-- its numbers
pub voxel_number : (s : SegSizes) (c k n : ℕ) (b : Block) → IsBlock s c k b → number_of b (voxel s n) ≡ n
voxel_number s c k n b is =
    ap (λ q. n % block s 0 + q * (n / block s 0 % block s 1 + b.block_y * (n / block s 0 / block s 1))) is.block_x
    ∙ ap (λ q. n % block s 0 + block s 0 * (n / block s 0 % block s 1 + q * (n / block s 0 / block s 1))) is.block_y
    ∙ ap (λ q. n % block s 0 + block s 0 * q) (mod-add-div (n / block s 0) (block s 1)) ∙ mod-add-div n (block s 0)

pub voxel_spot : (s : SegSizes) (c k n : ℕ) (b : Block) → IsBlock s c k b → place s c k n ≡ spot b (voxel s n)
voxel_spot s c k n b is =
    let v : Voxel = voxel s n in
    let e : x_of s k n + size s 0 * (y_of s k n + size s 1 * (z_of s k n + size s 2 * c)) ≡ x_of s k n + size s 0 * (y_of s k n + size s 1 * ((c * size s 2 + k / blocks_on s 0 / blocks_on s 1 * block s 2) + n / block s 0 / block s 1)) = omega arith in
    e ∙ sym (rw (is.x, is.y, is.z, is.size_x, is.size_y) refl)

-- whether a voxel lies in the chunk
pub tests : (a b c d e f : ℕ) → IsTrue (nat_lt a b && nat_lt c d && nat_lt e f) → (a < b) × (c < d) × (e < f)
tests a b c d e f h = (grind (arith, nat_tests), grind (arith, nat_tests), grind (arith, nat_tests))

pub tests_back : (a b c d e f : ℕ) → a < b → c < d → e < f → IsTrue (nat_lt a b && nat_lt c d && nat_lt e f)
tests_back a b c d e f h1 h2 h3 = grind (arith, nat_tests)

pub inside_to : (s : SegSizes) (c k n : ℕ) (b : Block) → IsShape s → IsBlock s c k b → InBlock s k n → InPlanes b b.count_z (voxel s n)
unfolding in_chunk
inside_to s c k n b h is i =
    let t = tests (x_of s k n) (size s 0) (y_of s k n) (size s 1) (z_of s k n) (size s 2) i.inside in
    let mx = mod_below n (block s 0) h.block_0.0 in
    let my = mod_below (n / block s 0) (block s 1) h.block_1.0 in
    let a : n / block s 0 < block s 2 * block s 1 = div_below n (block s 0) (block s 2 * block s 1) h.block_0.0 (omega (arith, i.below)) in
    let mz : n / block s 0 / block s 1 < block s 2 = div_below (n / block s 0) (block s 1) (block s 2) h.block_1.0 a in
    (omega (arith, is.count_x, is.x, t.0), omega (arith, is.count_y, is.y, t.1), omega (arith, is.count_z, t.2))

-- each voxel that is counted so is one of them
pub inside_from : (s : SegSizes) (c k : ℕ) (b : Block) (v : Voxel) → IsShape s → IsBlock s c k b → InPlanes b b.count_z v
    → (n : ℕ) × InBlock s k n × (v.x ≡ n % block s 0) × (v.y ≡ n / block s 0 % block s 1) × (v.z ≡ n / block s 0 / block s 1)
unfolding in_chunk
inside_from s c k b v h is i =
    let lx : v.x < block s 0 = omega (arith, i.0, is.count_x) in
    let ly : v.y < block s 1 = omega (arith, i.1, is.count_y) in
    let lz : v.z < block s 2 = omega (arith, i.2, is.count_z) in
    let n : ℕ = (v.z * block s 1 + v.y) * block s 0 + v.x in
    let ex : n % block s 0 ≡ v.x = mod-mul-add (v.z * block s 1 + v.y) (block s 0) v.x lx in
    let dx : n / block s 0 ≡ v.z * block s 1 + v.y = div-mul-add (v.z * block s 1 + v.y) (block s 0) v.x lx in
    let ey : n / block s 0 % block s 1 ≡ v.y = ap (λ q. q % block s 1) dx ∙ mod-mul-add v.z (block s 1) v.y ly in
    let ez : n / block s 0 / block s 1 ≡ v.z = ap (λ q. q / block s 1) dx ∙ div-mul-add v.z (block s 1) v.y ly in
    let zy : v.z * block s 1 + block s 1 ≤ block s 2 * block s 1 = row_fits v.z (block s 1) (block s 2) (block s 1) lz (omega arith) in
    let all : (v.z * block s 1 + v.y) * block s 0 + block s 0 ≤ (block s 2 * block s 1) * block s 0 = row_fits (v.z * block s 1 + v.y) (block s 0) (block s 2 * block s 1) (block s 0) (omega arith) (omega arith) in
    (n, record { below = omega arith; inside = tests_back (x_of s k n) (size s 0) (y_of s k n) (size s 1) (z_of s k n) (size s 2) (omega (arith, ex, i.0, is.count_x, is.x)) (omega (arith, ey, i.1, is.count_y, is.y)) (omega (arith, ez, i.2, is.count_z)) }, sym ex, sym ey, sym ez)

-- and has its value at the same place
pub inside_spot : (s : SegSizes) (c k : ℕ) (b : Block) (v : Voxel) → IsShape s → IsBlock s c k b → InPlanes b b.count_z v
    → (n : ℕ) × InBlock s k n × (place s c k n ≡ spot b v)
inside_spot s c k b v h is i =
    let t = inside_from s c k b v h is i in
    let same : spot b (voxel s t.0) ≡ spot b v =
    ap (λ q. (b.x + q) + b.size_x * ((b.y + t.0 / block s 0 % block s 1) + b.size_y * (b.z + t.0 / block s 0 / block s 1))) (sym t.2)
    ∙ ap (λ q. (b.x + v.x) + b.size_x * ((b.y + q) + b.size_y * (b.z + t.0 / block s 0 / block s 1))) (sym t.3)
    ∙ ap (λ q. (b.x + v.x) + b.size_x * ((b.y + v.y) + b.size_y * (b.z + q))) (sym t.4) in
    (t.0, t.1, voxel_spot s c k t.0 b is ∙ same)

-- an entry that the table has, in words
has_words : (wide : Bool) (len t i : ℕ) → len % 4 ≡ 0 → width_of wide * i + width_of wide ≤ len - 4 * t → t + (i + 1) * (if wide then 2 else 1) ≤ len / 4
has_words true len t i m h = omega arith
has_words false len t i m h = omega arith

out_words : (wide : Bool) (len t i : ℕ) → len % 4 ≡ 0 → len - 4 * t < width_of wide * i + width_of wide → len / 4 < t + (i + 1) * (if wide then 2 else 1)
out_words true len t i m h = omega arith
out_words false len t i m h = omega arith

entry_bytes : (wide : Bool) (t i : ℕ) → 4 * t + width_of wide * i ≡ 4 * (t + i * (if wide then 2 else 1))
entry_bytes true t i = omega arith
entry_bytes false t i = omega arith

pub when_none : (a b : ℕ) (f : ChunkFault) → b ≤ a → when (nat_lt a b) f ≡ None
when_none a b f h = grind (arith, nat_tests)

pub when_some : (a b : ℕ) (f : ChunkFault) → a < b → when (nat_lt a b) f ≡ Some f
when_some a b f h = grind (arith, nat_tests)

-- a block's parts
abbrev pub values_of : List ℕ → ℕ → ℕ → List ℕ
values_of bytes c k = drop (4 * (start bytes c + values_at bytes c k)) bytes

abbrev pub table_of : List ℕ → ℕ → ℕ → List ℕ
table_of bytes c k = drop (4 * (start bytes c + table_at bytes c k)) bytes

entry_is : (bytes : List ℕ) (s : SegSizes) (c k n : ℕ) → value (width s) (table_of bytes c k) (index bytes c k n) ≡ entry bytes s c k n
unfolding entry
entry_is bytes s c k n =
    ap (take (width s)) (drop-drop (width s * index bytes c k n) (4 * (start bytes c + table_at bytes c k)) bytes ∙ ap (λ q. drop q bytes) (entry_bytes s.wide (start bytes c + table_at bytes c k) (index bytes c k n)))

-- what is known of a block whose header is sound
pub record Sound (bytes : List ℕ) (s : SegSizes) (c k : ℕ) (b : Block) : Type 0 where
  pub shape : IsShape s
  pub fits : IsBytes bytes
  pub whole : length bytes % 4 ≡ 0
  pub allowed : IsTrue (is_allowed (bits bytes c k))
  pub is : IsBlock s c k b

index_is : (bytes : List ℕ) (s : SegSizes) (c k n : ℕ) (b : Block) → Sound bytes s c k b → index_in (values_of bytes c k) (bits bytes c k) (number_of b (voxel s n)) ≡ index bytes c k n
index_is bytes s c k n b h =
    ap (index_in (values_of bytes c k) (bits bytes c k)) (voxel_number s c k n b h.is) ∙ sym (field_is bytes (start bytes c + values_at bytes c k) (bits bytes c k) n h.fits h.allowed)

has_none : (bytes : List ℕ) (s : SegSizes) (c k n : ℕ) (b : Block) → Sound bytes s c k b → HasFor b (values_of bytes c k) (table_of bytes c k) (width s) (bits bytes c k) (voxel s n) → table_fault bytes s c k n ≡ None
has_none bytes s c k n b h has =
    let i : ℕ = index bytes c k n in
    let here : width s * i + width s ≤ length (table_of bytes c k) = subst (λ q. width s * q + width s ≤ length (table_of bytes c k)) (index_is bytes s c k n b h) has in
    let len : length (table_of bytes c k) ≡ length bytes - 4 * (start bytes c + table_at bytes c k) = length-drop _ bytes in
    when_none (words bytes) (entry_at bytes s c k (i + 1)) (SegTable c k n) (has_words s.wide (length bytes) (start bytes c + table_at bytes c k) i h.whole (omega (arith, here, len)))

pub block_filled : (bytes : List ℕ) (s : SegSizes) (c k : ℕ) (b : Block) (old new : List ℕ) → Sound bytes s c k b
    → Done (InPlanes b b.count_z) b (values_of bytes c k) (table_of bytes c k) (width s) (bits bytes c k) old new
    → Filled (InBlock s k) (place s c k) (entry bytes s c k) (width s) old new
block_filled bytes s c k b old new h d =
    filled_via (InPlanes b b.count_z) (InBlock s k) (spot b) (place s c k) (want b (values_of bytes c k) (table_of bytes c k) (width s) (bits bytes c k)) (entry bytes s c k) (width s) old new d.filled
    (λ n i. (voxel s n, inside_to s c k n b h.shape h.is i, voxel_spot s c k n b h.is, ap (value (width s) (table_of bytes c k)) (index_is bytes s c k n b h) ∙ entry_is bytes s c k n))
    (λ v i. inside_spot s c k b v h.shape h.is i)

pub block_none : (bytes : List ℕ) (s : SegSizes) (c k : ℕ) (b : Block) (old new : List ℕ) → Sound bytes s c k b
    → Done (InPlanes b b.count_z) b (values_of bytes c k) (table_of bytes c k) (width s) (bits bytes c k) old new
    → first_some (map (table_fault bytes s c k) (voxels_in s k)) ≡ None
block_none bytes s c k b old new h d =
    none_kept (table_fault bytes s c k) (in_chunk s k) 0 (block_voxels s) (λ n l ln inside. has_none bytes s c k n b h (d.has (voxel s n) (inside_to s c k n b h.shape h.is (record { below = omega arith; inside = inside }))))

pub block_out : (bytes : List ℕ) (s : SegSizes) (c k n : ℕ) (b : Block) → Sound bytes s c k b
    → IsOut (InPlanes b b.count_z) b (values_of bytes c k) (table_of bytes c k) (width s) (bits bytes c k) n
    → first_some (map (table_fault bytes s c k) (voxels_in s k)) ≡ Some (SegTable c k n)
block_out bytes s c k n b h o =
    let v : Voxel = o.at.0 in
    let t = inside_from s c k b v h.shape h.is o.at.1 in
    let same : number_of b (voxel s t.0) ≡ number_of b v =
    ap (λ q. q + b.block_x * (t.0 / block s 0 % block s 1 + b.block_y * (t.0 / block s 0 / block s 1))) (sym t.2)
    ∙ ap (λ q. v.x + b.block_x * (q + b.block_y * (t.0 / block s 0 / block s 1))) (sym t.3)
    ∙ ap (λ q. v.x + b.block_x * (v.y + b.block_y * q)) (sym t.4) in
    let number : number_of b (voxel s t.0) ≡ t.0 = voxel_number s c k t.0 b h.is in
    let is : n ≡ t.0 = o.at.2 ∙ sym same ∙ number in
    let here : InBlock s k n = subst (InBlock s k) (sym is) t.1 in
    let i : ℕ = index bytes c k n in
    let index_n : index_in (values_of bytes c k) (bits bytes c k) n ≡ i = sym (field_is bytes (start bytes c + values_at bytes c k) (bits bytes c k) n h.fits h.allowed) in
    let out : length (table_of bytes c k) < width s * i + width s = subst (λ q. length (table_of bytes c k) < width s * q + width s) index_n o.out in
    let len : length (table_of bytes c k) ≡ length bytes - 4 * (start bytes c + table_at bytes c k) = length-drop _ bytes in
    first_kept (table_fault bytes s c k) (in_chunk s k) 0 (block_voxels s) n (SegTable c k n) (omega arith) (omega (arith, here.below)) here.inside
    (λ m l less inside. has_none bytes s c k m b h
    (let im : InBlock s k m = record { below = omega (arith, here.below); inside = inside } in
    o.before (voxel s m) (inside_to s c k m b h.shape h.is im) (omega (arith, voxel_number s c k m b h.is))))
    (when_some (words bytes) (entry_at bytes s c k (i + 1)) (SegTable c k n) (out_words s.wide (length bytes) (start bytes c + table_at bytes c k) i h.whole (omega (arith, out, len))))

-- the two faults of a header
pub judged : (bytes : List ℕ) (s : SegSizes) (c k hb hv n : ℕ) (o : Option ChunkFault) → hb ≡ bits bytes c k → hv ≡ start bytes c + values_at bytes c k → n ≡ block_voxels s
    → o ≡ first_some (when (not (is_allowed hb)) (SegBits c k hb) ∷ when (not (hb == 0) && nat_lt (words bytes) (hv + packed_words hb n)) (SegValues c k) ∷ [])
    → first_some (bits_fault bytes c k ∷ values_fault bytes s c k ∷ []) ≡ o
judged bytes s c k hb hv n o eb ev en h =
    let G : ℕ → ℕ → ℕ → Option ChunkFault = λ b v m. first_some (when (not (is_allowed b)) (SegBits c k b) ∷ when (not (b == 0) && nat_lt (words bytes) (v + packed_words b m)) (SegValues c k) ∷ []) in
    sym (h ∙ ap (λ q. G q hv n) eb ∙ ap (λ q. G (bits bytes c k) q n) ev ∙ ap (λ q. G (bits bytes c k) (start bytes c + values_at bytes c k) q) en)

allowed_from : (t : Bool) (f : ChunkFault) (rest : List (Option ChunkFault)) → first_some (when (not t) f ∷ rest) ≡ None → IsTrue t
allowed_from true f rest h = refl
allowed_from false f rest h = absurd (cc)

pub sound : (bytes : List ℕ) (s : SegSizes) (c k : ℕ) (b : Block) → IsShape s → IsBytes bytes → length bytes % 4 ≡ 0 → IsBlock s c k b
    → first_some (bits_fault bytes c k ∷ values_fault bytes s c k ∷ []) ≡ None → Sound bytes s c k b
sound bytes s c k b h fits whole is none = record { shape = h; fits = fits; whole = whole; allowed = allowed_from (is_allowed (bits bytes c k)) _ _ none; is = is }

-- the code's names for a block's parts
pub done_as : (bytes : List ℕ) (s : SegSizes) (c k hb : ℕ) (b : Block) (values table old new : List ℕ) → values ≡ values_of bytes c k → table ≡ table_of bytes c k → hb ≡ bits bytes c k
    → Done (InPlanes b b.count_z) b values table (width s) hb old new → Done (InPlanes b b.count_z) b (values_of bytes c k) (table_of bytes c k) (width s) (bits bytes c k) old new
done_as bytes s c k hb b values table old new ev et eb d =
    subst (λ q. Done (InPlanes b b.count_z) b (values_of bytes c k) (table_of bytes c k) (width s) q old new) eb
    (subst (λ q. Done (InPlanes b b.count_z) b (values_of bytes c k) q (width s) hb old new) et
    (subst (λ q. Done (InPlanes b b.count_z) b q table (width s) hb old new) ev d))

pub out_as : (bytes : List ℕ) (s : SegSizes) (c k hb n : ℕ) (b : Block) (values table : List ℕ) → values ≡ values_of bytes c k → table ≡ table_of bytes c k → hb ≡ bits bytes c k
    → IsOut (InPlanes b b.count_z) b values table (width s) hb n → IsOut (InPlanes b b.count_z) b (values_of bytes c k) (table_of bytes c k) (width s) (bits bytes c k) n
out_as bytes s c k hb n b values table ev et eb d =
    subst (λ q. IsOut (InPlanes b b.count_z) b (values_of bytes c k) (table_of bytes c k) (width s) q n) eb
    (subst (λ q. IsOut (InPlanes b b.count_z) b (values_of bytes c k) q (width s) hb n) et
    (subst (λ q. IsOut (InPlanes b b.count_z) b q table (width s) hb n) ev d))
