-- Voxels of a part and the bytes that move.
use Rattle.std.proofs.Common.{IsTrue, ◌↔◌, Bool, true, false, replicate, ◌≡◌, ℕ, zero, suc, ◌+◌, ◌-◌, ◌*◌, ◌<◌, ◌≤◌, ℤ, pos, ◌+ℤ◌, ◌-ℤ◌, ◌≤ℤ◌, ◌<ℤ◌, nat_abs, List, length, slice_index, arith, refl, ◌∙◌, sym, lit<, ⊎_elim}
use Rattle.std.proofs.lemmas.Bool.{cases_lt}
use Rattle.std.proofs.lemmas.Int.{ints}
use Rattle.std.proofs.lemmas.Grind.{elements}
use Rattle.std.proofs.lemmas.Nat.{same_from_place, mul-add-lt}
use Rattle.std.proofs.Math.Nat.{mul-le-mul_left}
use Rattle.vol_base.specs.Boxes.{from_begin, size, Covers, IsSome, num, value, at, end}
use Rattle.vol_base.specs.declared.boxes.Box3.{Box3}
use Rattle.voxel_raw.specs.Blocks.{Moves, FitsFrom, FitsTo}
use Rattle.voxel_raw.specs.Places.{IsPlace, run_of, axes_of}
use Rattle.voxel_raw.specs.declared.boxes.Place.{Place}
use Rattle.voxel_raw.proofs.Parts.{LiesIn, covers_some}
use Rattle.vol_base.proofs.Axes.{by_axis}
use Rattle.voxel_raw.proofs.Products.{Facts}

-- on an axis, the distances add up
pub split : (b a p : ℤ) → b ≤ℤ a → a ≤ℤ p → nat_abs (p -ℤ b) ≡ nat_abs (a -ℤ b) + nat_abs (p -ℤ a)
split b a p h k = omega (arith, ints)

pub less : (b p : ℤ) (n : ℕ) → b ≤ℤ p → p <ℤ (b +ℤ pos n) → nat_abs (p -ℤ b) < n
less b p n h k = omega (arith, ints)

pub back_in : (b a p : ℤ) (n j : ℕ) → b ≤ℤ a → b ≤ℤ p → nat_abs (p -ℤ b) ≡ nat_abs (a -ℤ b) + j → j < n → (a ≤ℤ p) × (p <ℤ (a +ℤ pos n))
back_in b a p n j h k e l = (omega (arith, ints), omega (arith, ints))

-- the byte of a voxel by its blocks
pub blocks : (w s0 s1 s2 x y z c k : ℕ) → w * (x + s0 * (y + s1 * (z + s2 * c))) + k ≡ c * (w * s0 * s1 * s2) + (z * (w * s0 * s1) + (y * (w * s0) + (w * x + k)))
blocks w s0 s1 s2 x y z c k = omega arith

-- one byte has one channel, plane, row and place in the row
pub unique : (w s0 s1 s2 x y z c k y' z' c' m : ℕ) → x < s0 → y < s1 → z < s2 → k < w → y' < s1 → z' < s2 → m < w * s0
    → c * (w * s0 * s1 * s2) + (z * (w * s0 * s1) + (y * (w * s0) + (w * x + k))) ≡ c' * (w * s0 * s1 * s2) + (z' * (w * s0 * s1) + (y' * (w * s0) + m))
    → (z ≡ z') × (y ≡ y') × (w * x + k ≡ m)
unique w s0 s1 s2 x y z c k y' z' c' m lx ly lz lk ly' lz' lm e =
    let in_row : w * x + k < w * s0 = omega (arith, mul-add-lt x w k s0 lx lk) in
    let in_plane : y * (w * s0) + (w * x + k) < w * s0 * s1 = mul-add-lt y (w * s0) (w * x + k) s1 ly in_row in
    let in_plane' : y' * (w * s0) + m < w * s0 * s1 = mul-add-lt y' (w * s0) m s1 ly' lm in
    let in_volume : z * (w * s0 * s1) + (y * (w * s0) + (w * x + k)) < w * s0 * s1 * s2 = mul-add-lt z (w * s0 * s1) _ s2 lz in_plane in
    let in_volume' : z' * (w * s0 * s1) + (y' * (w * s0) + m) < w * s0 * s1 * s2 = mul-add-lt z' (w * s0 * s1) _ s2 lz' in_plane' in
    let one = same_from_place c (z * (w * s0 * s1) + (y * (w * s0) + (w * x + k))) c' (z' * (w * s0 * s1) + (y' * (w * s0) + m)) (w * s0 * s1 * s2) in_volume in_volume' e in
    let two = same_from_place z (y * (w * s0) + (w * x + k)) z' (y' * (w * s0) + m) (w * s0 * s1) in_plane in_plane' one.1 in
    let three = same_from_place y (w * x + k) y' m (w * s0) in_row lm two.1 in
    (two.0, three.0, three.1)

run_low : (w x o k j : ℕ) → k < w → w * x + k ≡ w * o + j → o ≤ x
run_low w x o k j lk e = ⊎_elim (λ (lt : x < o).
    let le : x + 1 ≤ o = omega arith in
    let m : w * (x + 1) ≤ w * o = mul-le-mul_left w le in
    absurd (omega arith)) (λ (ge : o ≤ x). ge) (cases_lt x o)

run_high : (w x o n k j : ℕ) → j < w * n → w * x + k ≡ w * o + j → x < o + n
run_high w x o n k j lj e = ⊎_elim (λ (lt : x < o + n). lt) (λ (ge : o + n ≤ x).
    let m : w * (o + n) ≤ w * x = mul-le-mul_left w ge in
    absurd (omega arith)) (cases_lt x (o + n))

-- a byte of a run of voxels is a byte of one of them
pub in_run : (w x o n k j : ℕ) → k < w → j < w * n → w * x + k ≡ w * o + j → (i : ℕ) × (x ≡ o + i) × (i < n)
in_run w x o n k j lk lj e =
    let low = run_low w x o k j lk e in
    let high = run_high w x o n k j lj e in
    (x - o, omega arith, omega arith)

pub same_values : (w n m : ℕ) (xs ys : List ℕ) → w * n + w ≤ length xs → w * m + w ≤ length ys → ((k : ℕ) → k < w → slice_index xs (w * n + k) ≡ slice_index ys (w * m + k)) → value w xs n ≡ value w ys m
same_values w n m xs ys lx ly same = grind (arith, elements)

pub fits_source : (b part : Box3) (channels w n : ℕ) (at to_at : Place) → Facts b part channels w n → IsPlace b part w at → 0 < w → FitsFrom (run_of at to_at part.size w) (axes_of at to_at part.size channels) n
fits_source b part channels w n at to_at f p pw =
    let z : w * size b 0 * size b 1 * (from_begin b part.begin 2 + size part 2) ≤ w * size b 0 * size b 1 * size b 2 = mul-le-mul_left (w * size b 0 * size b 1) f.z in
    let y : w * size b 0 * (from_begin b part.begin 1 + size part 1) ≤ w * size b 0 * size b 1 = mul-le-mul_left (w * size b 0) f.y in
    let whole = f.whole in
    let run = f.run in
    let m1 = f.row_more in
    let m2 = f.plane_more in
    let m3 = f.volume_more in
    rw (p.x, p.y, p.z, p.row, p.plane, p.volume) (omega arith, omega arith, (omega arith, omega arith, (omega arith, omega arith, omega arith)))

pub fits_target : (b part : Box3) (channels w n : ℕ) (at to_at : Place) → Facts b part channels w n → IsPlace b part w to_at → 0 < w → FitsTo (run_of at to_at part.size w) (axes_of at to_at part.size channels) n
fits_target b part channels w n at to_at f p pw =
    let z : w * size b 0 * size b 1 * (from_begin b part.begin 2 + size part 2) ≤ w * size b 0 * size b 1 * size b 2 = mul-le-mul_left (w * size b 0 * size b 1) f.z in
    let y : w * size b 0 * (from_begin b part.begin 1 + size part 1) ≤ w * size b 0 * size b 1 = mul-le-mul_left (w * size b 0) f.y in
    let whole = f.whole in
    let run = f.run in
    let m1 = f.row_more in
    let m2 = f.plane_more in
    let m3 = f.volume_more in
    rw (p.x, p.y, p.z, p.row, p.plane, p.volume) (omega arith, omega arith, (omega arith, omega arith, (omega arith, omega arith, omega arith)))

-- the byte of a voxel of the part, from the part's place
pub place_of : (w s0 s1 s2 ox oy oz x y z c k X Y Z row plane volume px py pz : ℕ)
    → X ≡ ox + x → Y ≡ oy + y → Z ≡ oz + z → px ≡ w * ox → py ≡ oy → pz ≡ oz → row ≡ w * s0 → plane ≡ w * s0 * s1 → volume ≡ w * s0 * s1 * s2
    → w * (X + s0 * (Y + s1 * (Z + s2 * c))) + k ≡ (0 + c) * volume + ((pz + z) * plane + ((py + y) * row + (px + (w * x + k))))
place_of w s0 s1 s2 ox oy oz x y z c k X Y Z row plane volume px py pz eX eY eZ ex ey ez er ep ev =
    rw (eX, eY, eZ, ex, ey, ez, er, ep, ev) (omega arith)

pub moves : (fb tb part : Box3) (channels w : ℕ) (at to_at : Place) → IsPlace fb part w at → IsPlace tb part w to_at → LiesIn part fb → LiesIn part tb
    → (p : List ℤ) (c k : ℕ) → Covers part p → c < channels → k < w
    → Moves (run_of at to_at part.size w) (axes_of at to_at part.size channels) (w * num tb p c + k) (w * num fb p c + k)
moves fb tb part channels w at' to_at f t in_f in_t p c k cov lc lk =
    let x : ℕ = from_begin part p 0 in
    let y : ℕ = from_begin part p 1 in
    let z : ℕ = from_begin part p 2 in
    let lx : from_begin part p 0 < size part 0 = less _ _ _ (cov 0 (lit< tt)).0 (cov 0 (lit< tt)).1 in
    let ly : from_begin part p 1 < size part 1 = less _ _ _ (cov 1 (lit< tt)).0 (cov 1 (lit< tt)).1 in
    let lz : from_begin part p 2 < size part 2 = less _ _ _ (cov 2 (lit< tt)).0 (cov 2 (lit< tt)).1 in
    let run : w * from_begin part p 0 + k < w * size part 0 = omega (arith, mul-add-lt (from_begin part p 0) w k (size part 0) lx lk) in (
      c,
      _,
      _,
      lc,
      (from_begin part p 2, _, _, lz, (from_begin part p 1, _, _, ly, (w * from_begin part p 0 + k, run, refl, refl), refl, refl), refl, refl),
      place_of w (size tb 0) (size tb 1) (size tb 2) _ _ _ (from_begin part p 0) (from_begin part p 1) (from_begin part p 2) c k _ _ _ _ _ _ _ _ _
          (split _ _ _ (in_t 0 (lit< tt)).0 (cov 0 (lit< tt)).0) (split _ _ _ (in_t 1 (lit< tt)).0 (cov 1 (lit< tt)).0) (split _ _ _ (in_t 2 (lit< tt)).0 (cov 2 (lit< tt)).0)
          t.x t.y t.z t.row t.plane t.volume,
      place_of w (size fb 0) (size fb 1) (size fb 2) _ _ _ (from_begin part p 0) (from_begin part p 1) (from_begin part p 2) c k _ _ _ _ _ _ _ _ _
          (split _ _ _ (in_f 0 (lit< tt)).0 (cov 0 (lit< tt)).0) (split _ _ _ (in_f 1 (lit< tt)).0 (cov 1 (lit< tt)).0) (split _ _ _ (in_f 2 (lit< tt)).0 (cov 2 (lit< tt)).0)
          f.x f.y f.z f.row f.plane f.volume,
    )

pub from_moves : (w s0 s1 s2 ox oy oz j y z c q3 q2 q1 px py pz row plane volume d : ℕ)
    → d ≡ (0 + c) * volume + q1 → q1 ≡ (pz + z) * plane + q2 → q2 ≡ (py + y) * row + q3 → q3 ≡ px + j
    → px ≡ w * ox → py ≡ oy → pz ≡ oz → row ≡ w * s0 → plane ≡ w * s0 * s1 → volume ≡ w * s0 * s1 * s2
    → d ≡ c * (w * s0 * s1 * s2) + ((oz + z) * (w * s0 * s1) + ((oy + y) * (w * s0) + (w * ox + j)))
from_moves w s0 s1 s2 ox oy oz j y z c q3 q2 q1 px py pz row plane volume d ed e1 e2 e3 ex ey ez er ep ev =
    rw (ed, e1, e2, e3, ex, ey, ez, er, ep, ev) (omega arith)

-- no byte moves to a voxel outside the part
pub stays : (tb part : Box3) (channels w : ℕ) (at to_at : Place) → IsPlace tb part w to_at → LiesIn part tb → (n : ℕ) → Facts tb part channels w n
    → (p : List ℤ) (c k s : ℕ) → Covers tb p → (Covers part p → ⊥) → k < w
    → Moves (run_of at to_at part.size w) (axes_of at to_at part.size channels) (w * num tb p c + k) s → ⊥
stays tb part channels w at' to_at t in_t n facts p c k s cov out lk m =
    let px = less _ _ _ (cov 0 (lit< tt)).0 (cov 0 (lit< tt)).1 in
    let py = less _ _ _ (cov 1 (lit< tt)).0 (cov 1 (lit< tt)).1 in
    let pz = less _ _ _ (cov 2 (lit< tt)).0 (cov 2 (lit< tt)).1 in
    let same = from_moves w (size tb 0) (size tb 1) (size tb 2) (from_begin tb part.begin 0) (from_begin tb part.begin 1) (from_begin tb part.begin 2)
    m.4.4.4.0 m.4.4.0 m.4.0 m.0 m.4.4.1 m.4.1 m.1 to_at.x to_at.y to_at.z to_at.row to_at.plane to_at.volume _ m.5 m.4.5 m.4.4.5 m.4.4.4.2 t.x t.y t.z t.row t.plane t.volume in
    let one = unique w (size tb 0) (size tb 1) (size tb 2) (from_begin tb p 0) (from_begin tb p 1) (from_begin tb p 2) c k
    (from_begin tb part.begin 1 + m.4.4.0) (from_begin tb part.begin 2 + m.4.0) m.0 (w * from_begin tb part.begin 0 + m.4.4.4.0)
    px py pz lk (omega (arith, facts.y, m.4.4.3)) (omega (arith, facts.z, m.4.3)) (omega (arith, facts.run, m.4.4.4.1))
    (sym (blocks w (size tb 0) (size tb 1) (size tb 2) (from_begin tb p 0) (from_begin tb p 1) (from_begin tb p 2) c k) ∙ same) in
    let run = in_run w (from_begin tb p 0) (from_begin tb part.begin 0) (size part 0) k m.4.4.4.0 lk m.4.4.4.1 one.2 in
    out (by_axis (λ axis. (at part.begin axis ≤ℤ at p axis) × (at p axis <ℤ end part axis))
    (back_in (at tb.begin 0) (at part.begin 0) (at p 0) (size part 0) run.0 (in_t 0 (lit< tt)).0 (cov 0 (lit< tt)).0 run.1 run.2)
    (back_in (at tb.begin 1) (at part.begin 1) (at p 1) (size part 1) m.4.4.0 (in_t 1 (lit< tt)).0 (cov 1 (lit< tt)).0 one.1 m.4.4.3)
    (back_in (at tb.begin 2) (at part.begin 2) (at p 2) (size part 2) m.4.0 (in_t 2 (lit< tt)).0 (cov 2 (lit< tt)).0 one.0 m.4.3))

-- a part that has a position but no bytes has values of no bytes
pub no_width : (part : Box3) (channels w : ℕ) (b : Bool) → IsTrue b ↔ (IsSome part × (0 < channels) × (0 < w)) → b ≡ false → (p : List ℤ) (c : ℕ) → Covers part p → c < channels → w ≡ 0
no_width part channels w true h e p c cov lc = cc
no_width part channels zero false h e p c cov lc = refl
no_width part channels (suc w) false h e p c cov lc = let t : false ≡ true = h.1 (covers_some part p cov, omega arith, omega arith) in cc

-- a value among zeros
pub zero_value : (w k n : ℕ) → w * k + w ≤ n → value w (replicate {A = ℕ} n 0) k ≡ replicate {A = ℕ} w 0
zero_value w k n h = grind (arith, elements)
