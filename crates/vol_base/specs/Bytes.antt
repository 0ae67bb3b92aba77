-- Lists of bytes (this project's).
use Rattle.std.specs.Prelude.{ℕ, ◌<◌, List, slice_index}

-- each number is below 256
abbrev pub AreBytes : List ℕ → Type 0
AreBytes xs = (i : ℕ) → slice_index xs i < 256
