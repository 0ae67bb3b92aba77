use Rattle.std.proofs.Common.{◌∙◌, ◌≤◌, ap, length, subst, sym}
use Rattle.vol_base.specs.Grids.{pairs}
use Rattle.vol_spec.specs.Codes.{code_of}
use Rattle.cutout.proofs.FoundSteps.{few_bits}
use Rattle.cutout.proofs.chunk.chunk_id.Goals as goal

pub returns : goal.returns
returns c = c.code.ensures ∙ ap (λ size. code_of size c.args.cell) c.grid.ensures

pub code-requires-clause-bits : goal.code-requires-clause-bits
code-requires-clause-bits c = subst (λ size. length (pairs size) ≤ 64) (sym c.grid.ensures) (few_bits c.args.scale.now c.requires.sharded)
