-- Numbers of eight bytes in a row (this project's words for the columns of an index).
use Rattle.std.specs.Prelude.{ℕ, ◌+◌, ◌*◌, ◌^◌, ◌<◌, List, ◌++◌, length, take, drop, slice_index}
use Rattle.vol_spec.specs.IndexBytes.{eight, ids}
use Rattle.vol_spec.specs.declared.row.Row.{Row}

-- each id fits 64 bits, as that of a row in memory does
abbrev pub AreIds : List Row → Type 0
AreIds rows = (r : ℕ) → r < length rows → slice_index (ids rows) r < 2 ^ 64

-- a number put over the k-th one of some bytes
abbrev pub with_number : List ℕ → ℕ → ℕ → List ℕ
with_number bytes k n = take (8 * k) bytes ++ eight n ++ drop (8 * k + 8) bytes
