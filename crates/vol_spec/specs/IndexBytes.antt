-- The bytes of a minishard index (precomputed volume format, sharded format, minishard index format).
use Rattle.std.specs.Prelude.{ℕ, ◌+◌, ◌-◌, ◌^◌, ◌<◌, ◌≤◌, List, ◌∷◌, ◌++◌, length, map, flat_map, zip, slice_index}
use Rattle.byteorder.specs.Endian.{little_bytes}
use Rattle.vol_spec.specs.Rows.{Columns}
use Rattle.vol_spec.specs.Types.{Bytes}
use Rattle.vol_spec.specs.declared.row.Row.{Row}

abbrev pub ids : List Row → List ℕ
ids rows = map (λ (row : Row). row.id) rows

abbrev pub starts : List Row → List ℕ
starts rows = map (λ (row : Row). row.start) rows

abbrev pub sizes : List Row → List ℕ
sizes rows = map (λ (row : Row). row.size) rows

abbrev pub ends : List Row → List ℕ
ends rows = map (λ (row : Row). row.start + row.size) rows

-- what each number has over the one beside it
abbrev pub over : List ℕ → List ℕ → List ℕ
over xs before = map (λ (p : ℕ × ℕ). p.0 - p.1) (zip xs before)

-- Of each row is stored what its id has over the id before it, what its start has over the end before it, and its size.
abbrev pub stored : List Row → Columns
stored rows = record {
  ids = over (ids rows) (0 ∷ ids rows);
  starts =
      over (starts rows) (0 ∷ ends rows);
  sizes = sizes rows;
}

unfoldable pub eight : ℕ → Bytes
eight n = little_bytes 8 n

-- numbers of eight bytes each, the lowest first
abbrev pub numbers : List ℕ → Bytes
numbers ns = flat_map eight ns

-- ids, then starts, then sizes
abbrev pub index_bytes : Columns → Bytes
index_bytes c = numbers c.ids ++ numbers c.starts ++ numbers c.sizes

-- rows that can be stored: ids ascend, each row starts at or after the end of the one before, and no end passes 64 bits
pub record AreRows (rows : List Row) : Type 0 where
  pub ascend : (r : ℕ) → r + 1 < length rows → slice_index (ids rows) r < slice_index (ids rows) (r + 1)
  pub follow : (r : ℕ) → r + 1 < length rows → slice_index (ends rows) r ≤ slice_index (starts rows) (r + 1)
  pub fit : (r : ℕ) → r < length rows → slice_index (ends rows) r < 2 ^ 64
