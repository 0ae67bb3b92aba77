-- How many values a finder is reserved for (this project's).
use Rattle.std.specs.Prelude.{ℕ, length}
use Rattle.equal_values.specs.declared.finder.Finder.{Finder}

abbrev pub most_of : Finder → ℕ
most_of f = length f.order.items
