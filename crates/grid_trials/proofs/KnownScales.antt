-- What known scales of one cell keep.
use Rattle.std.proofs.Common.{◌≤◌, List, ℕ, [], ◌∷◌, length, lit≤}
use Rattle.vol_base.specs.Grids.{pairs}
use Rattle.vol_spec.specs.Limits.{cell_counts}

abbrev ones : List ℕ
ones = 1 ∷ 1 ∷ 1 ∷ []

pub one_code : length (pairs (cell_counts ones ones)) ≤ 64
unfolding pairs
one_code = lit≤ tt
