-- The numbers of the cells of a grid.
use Rattle.std.proofs.Common.{◌≡◌, ℕ, ◌+◌, ◌*◌, ◌/◌, ◌%◌, ◌^◌, ◌<◌, ◌≤◌, List, [], ◌∷◌, refl, sym, ap, ◌∙◌, subst, arith, lit<}
use Rattle.std.specs.Prelude.{slice_index}
use Rattle.std.proofs.lemmas.Nat.{mul-add-lt, mul-le}
use Rattle.std.proofs.Math.Nat.{mod-add-div}
use Rattle.vol_spec.specs.Limits.{cell_counts}
use Rattle.vol_spec.specs.Grid.{cells_on, IsCell}
use Rattle.vol_spec.specs.StoredCells.{cell_number}
use Rattle.vol_spec.specs.declared.scale.Scale.{Scale}
use Rattle.vol_base.proofs.Axes.{by_axis}
use Rattle.chunk_grid.proofs.GridSteps.{AreSizes-counts}
use Rattle.chunk_grid.proofs.ListingSteps.{parts_below, some_cells}
use Rattle.write_plan.specs.Pairs.{cell_count}

pub few_cells : (s : Scale) (axis : ℕ) → axis < 3 → cells_on s axis ≤ 2 ^ 40
few_cells s = by_axis (λ axis. cells_on s axis ≤ 2 ^ 40) (AreSizes-counts s.size s.chunk s.size_ok s.chunk_ok 0 (lit< tt)).1 (AreSizes-counts s.size s.chunk s.size_ok s.chunk_ok 1 (lit< tt)).1 (AreSizes-counts s.size s.chunk s.size_ok s.chunk_ok 2 (lit< tt)).1

-- a number by its parts
number_again : (m n k : ℕ) → k % m + m * (k / m % n + n * (k / m / n)) ≡ k
number_again m n k = ap (λ q. k % m + m * q) (mod-add-div (k / m) n) ∙ mod-add-div k m

pub number_below : (m n o x y z : ℕ) → x < m → y < n → z < o → x + m * (y + n * z) < m * n * o
number_below m n o x y z hx hy hz =
    let plane : z * n + y < n * o = mul-add-lt z n y o hz hy in
    let all : (y + n * z) * m + x < m * (n * o) = mul-add-lt (y + n * z) m x (n * o) (omega arith) hx in
    omega arith

pub cell_number-below : (s : Scale) (cell : List ℕ) → IsCell s cell → cell_number s cell < cell_count s
cell_number-below s cell h = number_below (cells_on s 0) (cells_on s 1) (cells_on s 2) _ _ _ (h.below 0 (lit< tt)) (h.below 1 (lit< tt)) (h.below 2 (lit< tt))

-- the cell of a number, by what is known of its parts
pub record IsNumbered (s : Scale) (k : ℕ) (cell : List ℕ) : Type 0 where
  pub in_grid : IsCell s cell
  pub number : cell_number s cell ≡ k

pub numbered : (s : Scale) (k x y z : ℕ) → k < cell_count s → x ≡ k % cells_on s 0 → y ≡ k / cells_on s 0 % cells_on s 1 → z ≡ k / cells_on s 0 / cells_on s 1 → IsNumbered s k (x ∷ y ∷ z ∷ [])
numbered s k x y z h ex ey ez =
    let below = parts_below (cells_on s 0) (cells_on s 1) (cells_on s 2) k (some_cells s 0 (lit< tt)) (some_cells s 1 (lit< tt)) h in
    let bx : x < cells_on s 0 = let b = below.0 in omega arith in
    let by : y < cells_on s 1 = let b = below.1 in omega arith in
    let bz : z < cells_on s 2 = let b = below.2 in omega arith in
    record {
      in_grid = record { axes = refl; below = by_axis (λ axis. slice_index (x ∷ y ∷ z ∷ []) axis < cells_on s axis) bx by bz };
      number = ap (λ q. q + cells_on s 0 * (y + cells_on s 1 * z)) ex ∙ ap (λ q. k % cells_on s 0 + cells_on s 0 * (q + cells_on s 1 * z)) ey ∙ ap (λ q. k % cells_on s 0 + cells_on s 0 * (k / cells_on s 0 % cells_on s 1 + cells_on s 1 * q)) ez ∙ number_again (cells_on s 0) (cells_on s 1) k;
    }

-- what the steps to a number need to fit
pub record NumberFits (s : Scale) (cell size : List ℕ) : Type 0 where
  pub product : slice_index size 0 * (slice_index cell 1 + slice_index size 1 * slice_index cell 2) < 2 ^ 120
  pub whole : slice_index cell 0 + slice_index size 0 * (slice_index cell 1 + slice_index size 1 * slice_index cell 2) < 2 ^ 120
  pub below : slice_index cell 0 + slice_index size 0 * (slice_index cell 1 + slice_index size 1 * slice_index cell 2) < cell_count s

product_small : (m n o : ℕ) → m ≤ 2 ^ 40 → n ≤ 2 ^ 40 → o ≤ 2 ^ 40 → m * n * o ≤ 2 ^ 120
product_small m n o hm hn ho =
    let one : m * n ≤ 2 ^ 40 * 2 ^ 40 = mul-le m n (2 ^ 40) (2 ^ 40) hm hn in
    let two : m * n * o ≤ 2 ^ 40 * 2 ^ 40 * 2 ^ 40 = mul-le (m * n) o (2 ^ 40 * 2 ^ 40) (2 ^ 40) one ho in
    omega arith

pub number_fits : (s : Scale) (cell size : List ℕ) → size ≡ cell_counts s.size s.chunk → IsCell s cell → NumberFits s cell size
number_fits s cell size e h =
    let below = cell_number-below s cell h in
    let small = product_small (cells_on s 0) (cells_on s 1) (cells_on s 2) (few_cells s 0 (lit< tt)) (few_cells s 1 (lit< tt)) (few_cells s 2 (lit< tt)) in
    subst (NumberFits s cell) (sym e) (record { product = omega arith; whole = omega arith; below = below })

-- the cell of a number
pub found_cell : (s : Scale) (k : ℕ) (size : List ℕ) → size ≡ cell_counts s.size s.chunk → k < cell_count s
    → IsNumbered s k ((k % slice_index size 0) ∷ (k / slice_index size 0 % slice_index size 1) ∷ (k / slice_index size 0 / slice_index size 1) ∷ [])
found_cell s k size e h = subst (λ size. IsNumbered s k ((k % slice_index size 0) ∷ (k / slice_index size 0 % slice_index size 1) ∷ (k / slice_index size 0 / slice_index size 1) ∷ [])) (sym e) (numbered s k _ _ _ h refl refl refl)

pub plane_below : (s : Scale) (k : ℕ) (size : List ℕ) → size ≡ cell_counts s.size s.chunk → k < cell_count s → k / slice_index size 0 / slice_index size 1 < 2 ^ 41
plane_below s k size e h =
    let below = (parts_below (cells_on s 0) (cells_on s 1) (cells_on s 2) k (some_cells s 0 (lit< tt)) (some_cells s 1 (lit< tt)) h).2 in
    let few = few_cells s 2 (lit< tt) in
    subst (λ size. k / slice_index size 0 / slice_index size 1 < 2 ^ 41) (sym e) (omega arith)
