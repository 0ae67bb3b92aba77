-- For each value of a list, the first one before it that is equal (this project's).
use Rattle.std.specs.Prelude.{◌+◌, ◌==◌, ℕ, List, Option, None, Some, find, slice_index}
use Rattle.std.specs.List.{range_with_len}

-- the place of the first value before place k that equals it, if there is one
unfoldable pub earlier : List ℕ → ℕ → Option ℕ
earlier values k = find (λ j. slice_index values j == slice_index values k) (range_with_len 0 k)

-- as a number: the place and 1, or 0 for none
abbrev pub coded : Option ℕ → ℕ
coded None = 0
coded (Some j) = j + 1
