-- One cell of a walk, and what is left after it.
use Rattle.std.proofs.Common.{◌≡◌, ℕ, suc, ◌+◌, ◌-◌, ◌<◌, List, ◌∷◌, map, length, ap, arith}
use Rattle.std.specs.List.{range_with_len}
use Rattle.std.proofs.lemmas.List.FromFn.{length-map-range_with_len}
use Rattle.chunk_grid.specs.Walks.{cell_by_number, total, cells_from}

pub cells_from-next : (first count : List ℕ) (n : ℕ) → n < total count → cells_from first count n ≡ cell_by_number first count n ∷ cells_from first count (n + 1)
cells_from-next first count n h =
    let e : total count - n ≡ suc (total count - (n + 1)) = omega arith in
    ap (λ k. map (cell_by_number first count) (range_with_len n k)) e

pub length-cells_from : (first count : List ℕ) (n : ℕ) → length (cells_from first count n) ≡ total count - n
length-cells_from first count n = length-map-range_with_len (cell_by_number first count) n (total count - n)
