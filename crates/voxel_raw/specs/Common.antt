-- Places on one axis, and what two boxes have in common (this project's).
use Rattle.std.specs.Prelude.{◌↔◌, ℕ, ℤ, pos, ◌+ℤ◌, ◌≤ℤ◌, ◌<ℤ◌, List}
use Rattle.vol_base.specs.declared.boxes.Box3.{Box3}
use Rattle.vol_base.specs.Boxes.{Covers}

-- from a begin on, so many places
abbrev pub IsOn : ℤ → ℕ → ℤ → Type 0
IsOn begin size x = (begin ≤ℤ x) × (x <ℤ (begin +ℤ pos size))

-- a box of the positions that both boxes have
pub record IsCommon (a b part : Box3) : Type 0 where
  pub both : (p : List ℤ) → Covers part p ↔ (Covers a p × Covers b p)
