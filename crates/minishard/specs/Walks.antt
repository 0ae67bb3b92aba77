-- A walk over the rows of a minishard index (this project's). Rows are those of the precomputed volume format
-- (sharded format, minishard index format).
use Rattle.std.specs.Prelude.{◌≡◌, ℕ, ◌+◌, sum, take, slice_get, Some}
use Rattle.vol_spec.specs.Rows.{Columns}

-- how far a walk has come: the number of rows that it answered, the last one's id and its end
pub record Progress : Type 0 where
  pub rows : ℕ
  pub id : ℕ
  pub end : ℕ

-- the walk has answered rows of these columns
pub record IsWalked (c : Columns) (w : Progress) : Type 0 where
  pub id : w.id ≡ sum (take w.rows c.ids)
  pub end : w.end ≡ sum (take w.rows c.starts) + sum (take w.rows c.sizes)

-- what is stored of row r
pub record IsStored (c : Columns) (r stored_id stored_start stored_size : ℕ) : Type 0 where
  pub id : slice_get c.ids r ≡ Some stored_id
  pub start : slice_get c.starts r ≡ Some stored_start
  pub size : slice_get c.sizes r ≡ Some stored_size
