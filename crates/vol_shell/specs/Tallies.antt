-- What a door keeps of its calls (this project's).
use Rattle.std.specs.Prelude.{ℕ, Option}

-- the port that a door is bound to, where a listen succeeded, how many ends it gave, and how often a call failed
pub record Doorway : Type 0 where
  pub port : Option ℕ
  pub accepted : ℕ
  pub faults : ℕ
