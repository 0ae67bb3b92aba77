-- What a call leaves of its outlets, and of a reader (this project's).
use Rattle.std.specs.Prelude.{ℕ, ◌<◌, ◌≤◌, List, length, take, Option}
use Rattle.std.specs.Io.KnownBytes.{Consumes}
use Rattle.vol_base.specs.Causes.{Rose}
use Rattle.vol_base.specs.Gains.{Gains}

-- an outlet gained these bytes, or a front of them where its count of faults rose
pub record Says (old new : Option (List ℕ)) (before now : ℕ) (bytes : List ℕ) : Type 0 where
  pub count : ℕ
  pub within : count ≤ length bytes
  pub gained : Gains old new (take count bytes)
  pub cut_short : count < length bytes → Rose before now

-- a reader lost at most so many of the bytes that it had left, where it tells these
pub record LosesAtMost (most : ℕ) (old new : Option (List ℕ)) : Type 0 where
  pub bytes : List ℕ
  pub lost : Consumes old new bytes
  pub few : length bytes ≤ most
