-- Bytes with zeros behind them (this project's).
use Rattle.std.specs.Prelude.{ℕ, ◌-◌, List, ◌++◌, length, replicate}

-- the bytes, and zeros behind them up to so many in all
abbrev pub filled_up : ℕ → List ℕ → List ℕ
filled_up len bytes = bytes ++ replicate (len - length bytes) 0
