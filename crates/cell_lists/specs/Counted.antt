-- Cells that are counted (this project's).
use Rattle.std.specs.Prelude.{◌≡◌, ◌≤◌, ◌^◌, ℕ, Bool, false, List, Contains, length}
use Rattle.vol_spec.specs.Grid.{IsCell}
use Rattle.vol_spec.specs.Places.{id_of}
use Rattle.vol_spec.specs.StoredCells.{met}
use Rattle.vol_spec.specs.Types.{Cell, Writes}
use Rattle.vol_spec.specs.declared.scale.Scale.{Scale}
use Rattle.cell_lists.specs.Lists.{AreDistinct, Lists}
use Rattle.cell_lists.specs.declared.found.FoundCells.{FoundCells}

-- the cells of the grid that pass a test are counted, and those that are kept are all of them where they are few
pub record Counts (s : Scale) (test : Cell → Bool) (found : FoundCells) : Type 0 where
  pub all : List Cell
  pub listed : Lists s test all
  pub counted : found.count ≡ length all
  pub kept : found.count ≤ 2 ^ 22 → found.cells.items ≡ all

-- those that are kept are distinct cells of the grid, as many as are counted
pub record IsWhole (s : Scale) (found : FoundCells) : Type 0 where
  pub distinct : AreDistinct s found.cells.items
  pub count : found.count ≡ length found.cells.items

-- no more are kept than are counted, and at most 2^22
pub record IsShort (found : FoundCells) : Type 0 where
  pub counted : length found.cells.items ≤ found.count
  pub few : length found.cells.items ≤ 2 ^ 22

-- cells are counted by a test that differs from another one only where a third one passes
pub record CountsBut (s : Scale) (test there : Cell → Bool) (found : FoundCells) : Type 0 where
  pub more : Cell → Bool
  pub counts : Counts s more found
  pub same : (cell : Cell) → IsCell s cell → there cell ≡ false → more cell ≡ test cell

-- of the cells with these ids only those pass a test that some write meets
abbrev pub AreNew : Scale → (Cell → Bool) → Writes → List ℕ → Type 0
AreNew s test writes ids = (cell : Cell) → IsCell s cell → Contains ids (id_of s cell) → test cell ≡ met s writes cell
