use Rattle.std.proofs.Common.{arith, ◌+◌, ◌<◌, ◌≤◌, ◌∙◌, sym, ⊎_elim}
use Rattle.std.proofs.lemmas.Bool.{cases_lt}
use Rattle.vol_spec.specs.Raw.{digit}
use Rattle.vol_spec.specs.SegSizes.{width_of}
use Rattle.segment_blocks.proofs.VoxelSteps.{if_ge, if_lt}
use Rattle.segment_blocks.proofs.voxels.fill_row.Goals as goal

pub returns : goal.returns
returns c = λ x lx.
    let d = digit c.args.raw.now (width_of c.args.wide) (c.args.from.at + x) in
    ⊎_elim
    (λ (l : x < c.args.from.count). c.pad_row.ensures.kept x (omega arith) ∙ c.read_row.ensures x (omega arith) ∙ sym (if_lt x c.args.from.count d c.args.padding l))
    (λ (g : c.args.from.count ≤ x). c.pad_row.ensures.padding x (omega arith) (omega arith) ∙ sym (if_ge x c.args.from.count d c.args.padding g))
    (cases_lt x c.args.from.count)
