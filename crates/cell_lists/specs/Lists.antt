-- Cells that are listed in any order (this project's).
use Rattle.std.specs.Prelude.{◌≡◌, ◌≢◌, Bool, true, List, All, AllPairs, Contains}
use Rattle.vol_spec.specs.Grid.{IsCell}
use Rattle.vol_spec.specs.Types.{Cell}
use Rattle.vol_spec.specs.declared.scale.Scale.{Scale}

-- distinct cells of the grid
pub record AreDistinct (s : Scale) (cells : List Cell) : Type 0 where
  pub each : All (IsCell s) cells
  pub distinct : AllPairs (λ a b. a ≢ b) cells

-- the cells of the grid that pass a test, each once, in any order
pub record Lists (s : Scale) (test : Cell → Bool) (cells : List Cell) : Type 0 where
  pub each : All (IsCell s) cells
  pub distinct : AllPairs (λ a b. a ≢ b) cells
  pub pass : (cell : Cell) → Contains cells cell → test cell ≡ true
  pub all : (cell : Cell) → IsCell s cell → test cell ≡ true → Contains cells cell
