-- A row of a block, out of the words of the block's indices (this project's words for proofs).
use Rattle.std.specs.Prelude.{◌≡◌, ℕ, ◌+◌, ◌*◌, ◌/◌, ◌%◌, ◌^◌, ◌<◌, ◌≤◌, List, length}
use Rattle.vol_spec.specs.SegChunks.{word}
use Rattle.vol_base.specs.Boxes.{value}

-- the n-th index of b bits, in the one word that holds it
unfoldable pub index_in : List ℕ → ℕ → ℕ → ℕ
index_in values b n = word values (n * b / 32) / 2 ^ (n * b % 32) % 2 ^ b

-- whether the table has the entry of an index
abbrev pub Has : ℕ → List ℕ → ℕ → Type 0
Has w table i = w * i + w ≤ length table

-- the first values of a row are those of the indices from a place on
pub record Unpacked (values table : List ℕ) (w b first count : ℕ) (row : List ℕ) : Type 0 where
  pub has : (j : ℕ) → j < count → Has w table (index_in values b (first + j))
  pub placed : (j : ℕ) → j < count → value w row j ≡ value w table (index_in values b (first + j))

-- the first of the indices from a place on that the table has no entry for
pub record IsFirstOut (values table : List ℕ) (w b first count at : ℕ) : Type 0 where
  pub within : at < count
  pub out : length table < w * index_in values b (first + at) + w
  pub before : (j : ℕ) → j < at → Has w table (index_in values b (first + j))
