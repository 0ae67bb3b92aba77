-- How a hall ends (this project's).
use Rattle.std.specs.Prelude.{◌≡◌, ◌≤◌, ◌-◌, ℕ, List, Option, IfSome}
use Rattle.vol_base.specs.Causes.{Rose}
use Rattle.vol_base.specs.Outside.{Draft, Objects}
use Rattle.hall.specs.Halls.{Accepts, EachServed, HasExactly, NoneFell, Numbered, is_short, numbers_of}
use Rattle.hall.specs.declared.outcome.HallEnd.{HallEnd}
use Rattle.hall.specs.declared.outcome.HallEnd.TheVariants as ended

-- what an entrance tells: its port, how many ends it gave, and its count of faults
pub record Told : Type 0 where
  pub port : Option ℕ
  pub accepted : ℕ
  pub faults : ℕ

abbrev pub told_as : Option ℕ → ℕ → ℕ → Told
told_as port accepted faults = record { port = port; accepted = accepted; faults = faults }

-- of a hall of so many ends that is over, by what its entrance, its stores and its exit tell: each end that was accepted was noted once,
-- and served from objects that the stores tell; counts of faults rose where something failed, and the entrance's stands where all is well
pub record Finishes (jobs : ℕ) (dataset : List ℕ) (objects : List (Option Objects)) (drafts : List (Option Draft)) (counts : List ℕ) (before : Told) (end : HallEnd) (after : Told) (served : Option (List Numbered)) (objects_after : List (Option Objects)) (drafts_after : List (Option Draft)) (counts_after : List ℕ) : Type 0 where
  pub bound : after.port ≡ before.port
  pub exact : IfSome served (λ list. HasExactly (after.accepted - before.accepted) (numbers_of list))
  pub given : Accepts end jobs before.faults after.faults (after.accepted - before.accepted)
  pub more : before.accepted ≤ after.accepted
  pub each : EachServed objects dataset (is_short end) served counts counts_after
  pub stores_later : NoneFell counts counts_after
  pub told : objects_after ≡ objects
  pub writes : drafts_after ≡ drafts
  pub later : before.faults ≤ after.faults
  pub rose : end ≡ ended.DoorFault → Rose before.faults after.faults
  pub stands : end ≡ ended.All → after.faults ≡ before.faults
