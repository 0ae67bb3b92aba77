-- Names of data sets and scales (this project's limit).
use Rattle.std.specs.Prelude.{ℕ, ◌&&◌, Bool, List, length, nat_le}
use Rattle.vol_base.specs.Names.{is_name}

-- a name of at most 200 bytes
abbrev pub is_short_name : List ℕ → Bool
is_short_name bytes = is_name bytes && nat_le (length bytes) 200
