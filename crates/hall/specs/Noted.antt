-- What an exit in memory tells (this project's).
use Rattle.std.specs.Prelude.{Bool, true, false, List, map, Option, Some, None, ℕ}
use Rattle.vol_base.specs.Peers.{Linked}
use Rattle.hall.specs.Halls.{Numbered}

-- the ends that were closed, with their numbers, for how many there is room, and whether there were more
pub record Notes : Type 0 where
  pub closed : List (ℕ × Linked)
  pub room : ℕ
  pub over : Bool

abbrev pub note_of : ℕ × Linked → Numbered
note_of e = (e.0, (e.1.stream, e.1.sent, e.1.faults))

-- the ends that were closed, unless there were more than it has room for
abbrev pub noted_by : List (ℕ × Linked) → Bool → Option (List Numbered)
noted_by closed false = Some (map note_of closed)
noted_by closed true = None
