-- The three axes.
use Rattle.std.proofs.Common.{ℕ, zero, suc, ◌<◌, arith}

-- a fact on each axis from the three
pub by_axis : (P : ℕ → Type 0) → P 0 → P 1 → P 2 → (axis : ℕ) → axis < 3 → P axis
by_axis P x y z zero h = x
by_axis P x y z (suc zero) h = y
by_axis P x y z (suc (suc zero)) h = z
by_axis P x y z (suc (suc (suc a))) h = absurd (omega arith)
