use Rattle.std.proofs.Common.{arith, ◌≡◌, ◌^◌, ◌∙◌, ap, length, subst, sym, None}
use Rattle.vol_spec.specs.SegFaults.{seg_fault}
use Rattle.vol_spec.specs.SegShapes.{sizes_of}
use Rattle.vol_spec.specs.SegWritten.{seg_bytes}
use Rattle.segment_blocks.proofs.Back.{length_seg}
use Rattle.segment_blocks.proofs.Channels.{start_le}
use Rattle.segment_blocks.proofs.SaidSteps.{is_said, own_said}
use Rattle.segment_blocks.proofs.Shapes.{limits, padded_is, padded_le}
use Rattle.segment_blocks.proofs.Sound.{is_sound}
use Rattle.segment_blocks.proofs.own.own_again.Goals as goal

pub returns-clause-sound : goal.returns-clause-sound
returns-clause-sound c =
    let s = sizes_of c.args._shape.now in
    let h = limits c.args._shape.now in
    let few = padded_le s (2 ^ 22) h c.requires.limit in
    subst (λ q. seg_fault q s ≡ None) (sym c.requires.own.is) (is_sound s c.requires.own.raw h few.0 few.1)

pub returns-clause-again : goal.returns-clause-again
returns-clause-again c = λ raw fits len says.
    let s = sizes_of c.args._shape.now in
    let h = limits c.args._shape.now in
    let few = padded_le s (2 ^ 22) h c.requires.limit in
    ap (seg_bytes s) (is_said s c.args._chunk.now raw h len fits says) ∙ own_said s c.args._chunk.now h few.0 few.1 c.requires.own

pub returns-clause-len : goal.returns-clause-len
returns-clause-len c =
    let s = sizes_of c.args._shape.now in
    let h = limits c.args._shape.now in
    let own = c.requires.own in
    let e = padded_is s in
    let a = start_le s own.raw c.args._shape.now.channels h in
    let l = ap length own.is ∙ length_seg s own.raw in
    omega (arith, e, a, l)
