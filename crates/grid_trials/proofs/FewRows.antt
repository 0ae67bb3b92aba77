-- One row and two rows that can be stored.
use Rattle.std.proofs.Common.{ℕ, zero, suc, ◌+◌, ◌^◌, ◌<◌, ◌≤◌, [], ◌∷◌, length, slice_index, arith}
use Rattle.vol_spec.specs.IndexBytes.{ids, starts, ends, AreRows}
use Rattle.vol_spec.specs.declared.row.Row.{Row}

pub one_row : (a : Row) → a.start + a.size < 2 ^ 64 → AreRows (a ∷ [])
one_row a small = record { ascend = λ r h. absurd (omega arith); follow = λ r h. absurd (omega arith); fit = fit }
  where
    fit : (r : ℕ) → r < length (a ∷ []) → slice_index (ends (a ∷ [])) r < 2 ^ 64
    fit zero h = small
    fit (suc r) h = absurd (omega arith)

pub two_rows : (a b : Row) → a.id < b.id → a.start + a.size ≤ b.start → b.start + b.size < 2 ^ 64 → AreRows (a ∷ b ∷ [])
two_rows a b up behind small = record { ascend = ascend; follow = follow; fit = fit }
  where
    ascend : (r : ℕ) → r + 1 < length (a ∷ b ∷ []) → slice_index (ids (a ∷ b ∷ [])) r < slice_index (ids (a ∷ b ∷ [])) (r + 1)
    ascend zero h = up
    ascend (suc r) h = absurd (omega arith)

    follow : (r : ℕ) → r + 1 < length (a ∷ b ∷ []) → slice_index (ends (a ∷ b ∷ [])) r ≤ slice_index (starts (a ∷ b ∷ [])) (r + 1)
    follow zero h = behind
    follow (suc r) h = absurd (omega arith)

    fit : (r : ℕ) → r < length (a ∷ b ∷ []) → slice_index (ends (a ∷ b ∷ [])) r < 2 ^ 64
    fit zero h = omega arith
    fit (suc zero) h = small
    fit (suc (suc r)) h = absurd (omega arith)
