use Rattle.std.proofs.Common.{arith}
use Rattle.std.proofs.lemmas.Int.{ints}
use Rattle.vol_base.proofs.Axes.{by_axis}
use Rattle.grid_trials.proofs.chunk_grid_rows.counts_bytes_and_places.Goals as goal

pub local_index-requires-clause-position : goal.local_index-requires-clause-position
local_index-requires-clause-position g c = by_axis _ (omega (arith, ints), omega (arith, ints)) (omega (arith, ints), omega (arith, ints)) (omega (arith, ints), omega (arith, ints))
