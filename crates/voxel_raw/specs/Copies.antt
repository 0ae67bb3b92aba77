-- Copies of the values of a part, between the raw bytes of boxes that it lies in (this project's).
use Rattle.std.specs.Prelude.{◌≡◌, ℕ, ◌<◌, ◌≤◌, ◌^◌, List, ℤ, replicate}
use Rattle.vol_base.specs.Boxes.{Covers, Within, num, value}
use Rattle.vol_base.specs.declared.boxes.Box3.{Box3}
use Rattle.vol_spec.specs.Raw.{raw_len}

-- n is the raw length of a box that a part lies in, and at most 2^30
pub record Holds (b part : Box3) (channels w n : ℕ) : Type 0 where
  pub within : Within part b
  pub len : n ≡ raw_len b channels w
  pub limit : n ≤ 2 ^ 30

-- each value of the part is that of the source
abbrev pub HasValues : Box3 → Box3 → Box3 → ℕ → ℕ → List ℕ → List ℕ → Type 0
HasValues from_box to_box part channels w from to = (p : List ℤ) (c : ℕ) → Covers part p → c < channels →
    value w to (num to_box p c) ≡ value w from (num from_box p c)

-- each value of the part is zero
abbrev pub HasZeros : Box3 → Box3 → ℕ → ℕ → List ℕ → Type 0
HasZeros to_box part channels w to = (p : List ℤ) (c : ℕ) → Covers part p → c < channels →
    value w to (num to_box p c) ≡ replicate w 0

-- each value of the box outside the part is as before; the box has no other bytes
abbrev pub KeepsRest : Box3 → Box3 → ℕ → ℕ → List ℕ → List ℕ → Type 0
KeepsRest b part channels w old new = (p : List ℤ) (c : ℕ) → Covers b p → (Covers part p → ⊥) → c < channels →
    value w new (num b p c) ≡ value w old (num b p c)
