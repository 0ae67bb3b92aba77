-- What an outlet or a link gains (this project's).
use Rattle.std.specs.Prelude.{◌≡◌, ℕ, ◌≤◌, List, ◌++◌, length, take, Option}
use Rattle.std.specs.Option.{option_map}

-- it gained these bytes, where it tells what was written or sent
abbrev pub Gains : Option (List ℕ) → Option (List ℕ) → List ℕ → Type 0
Gains old new bytes = new ≡ option_map (λ w. w ++ bytes) old

-- it gained a front of these bytes
abbrev pub GainsFront : Option (List ℕ) → Option (List ℕ) → List ℕ → Type 0
GainsFront old new bytes = (k : ℕ) × (k ≤ length bytes) × Gains old new (take k bytes)
