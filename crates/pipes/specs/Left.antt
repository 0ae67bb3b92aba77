-- What is left of a stream that is read ahead (this project's).
use Rattle.std.specs.Prelude.{ℕ, List, ◌++◌, Option}
use Rattle.std.specs.Option.{option_map}

-- what was read ahead and not handed on, and then what is still to come
abbrev pub left_of : List ℕ → Option (List ℕ) → Option (List ℕ)
left_of ahead coming = option_map (λ c. ahead ++ c) coming
