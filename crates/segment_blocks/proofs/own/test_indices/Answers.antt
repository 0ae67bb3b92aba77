use Rattle.std.proofs.Common.{arith, subst, sym, ◌≡◌, ℕ, length, IsTrue}
use Rattle.std.specs.Prelude.{nat_eq}
use Rattle.std.proofs.lemmas.Bool.Decides.{nat_tests}
use Rattle.vol_spec.specs.SegShapes.{sizes_of}
use Rattle.segment_blocks.specs.Walked.{HasIndices}
use Rattle.segment_blocks.proofs.OwnMarks.{no_bits}
use Rattle.segment_blocks.proofs.Shapes.{limits}
use Rattle.segment_blocks.proofs.own.test_indices.Goals as goal

is_one : (n : ℕ) → IsTrue (nat_eq n 1) → n ≡ 1
is_one n t = grind (arith, nat_tests)

pub returns-then-bits-eq0 : goal.returns-then-bits-eq0
returns-then-bits-eq0 c = λ t.
    let s = sizes_of c.args.shape.now in
    let n : ℕ = length c.args.marks.now in
    let z : c.args.bits ≡ 0 = omega (arith, c.if-bits-eq0.true) in
    subst (λ q. HasIndices s c.args.k q n c.args.values.now) (sym z) (no_bits s c.args.k n c.args.values.now (limits c.args.shape.now) c.requires.block (is_one n t))
