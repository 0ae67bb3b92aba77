-- Counts of faults over several calls.
use Rattle.std.proofs.Common.{◌≡◌, ℕ, ◌≤◌, Bool, true, false, refl, arith}
use Rattle.vol_base.specs.Causes.{Rose}
use Rattle.range_server.specs.Bodies.{failures}

pub rose_later : (before mid now : ℕ) → before ≤ mid → Rose mid now → Rose before now
rose_later before mid now le rose = omega (arith, le, rose)

pub rose_before : (before mid now : ℕ) → mid ≤ now → Rose before mid → Rose before now
rose_before before mid now le rose = omega (arith, le, rose)

pub is_failing : (failing : Bool) → Rose 0 (failures failing) → failing ≡ true
is_failing true rose = refl
is_failing false rose = absurd (omega (arith, rose))
