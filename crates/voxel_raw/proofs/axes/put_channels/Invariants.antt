use Rattle.std.proofs.Common.{[], ◌∷◌}
use Rattle.voxel_raw.specs.Blocks.{Copied, first}
use Rattle.voxel_raw.proofs.axes.put_channels.Given as goal

abbrev pub invariant-loop-i : goal.invariant-loop-i
invariant-loop-i g l = Copied l.run (first l.c l.i ∷ l.z ∷ l.y ∷ []) (g.S.Source.bytes l.from) l.initial.to l.to
