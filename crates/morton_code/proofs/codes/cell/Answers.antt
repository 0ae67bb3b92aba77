use Rattle.std.proofs.Common.{◌≡◌, ◌%◌, ◌^◌, ℕ, List, arith, ap, ◌∙◌, sym, slice_index, lit<, subst, Some}
use Rattle.vol_spec.specs.Codes.{IsInGrid, code_of}
use Rattle.vol_base.specs.Grids.{is_pair}
use Rattle.morton_code.proofs.Steps.{taken_small, taken_step, taken_all, not_true, code_from-0}
use Rattle.morton_code.proofs.codes.cell.Goals as goal

pub loop-bit-preserved : goal.loop-bit-preserved
loop-bit-preserved c = record {
  small_x = rw c.take_lowest-taken_x.ensures (taken_small (is_pair c.args.grid.now.size (c.loop-bit.bit, 0)) _ _ _ c.loop-bit.invariant.small_x);
  small_y = rw c.take_lowest-taken_y.ensures (taken_small (is_pair c.args.grid.now.size (c.loop-bit.bit, 1)) _ _ _ c.loop-bit.invariant.small_y);
  small_z = rw c.take_lowest-taken_z.ensures (taken_small (is_pair c.args.grid.now.size (c.loop-bit.bit, 2)) _ _ _ c.loop-bit.invariant.small_z);
  taken = λ cell is same.
      taken_step c.args.grid.now.size cell c.loop-bit.bit c.loop-bit.rest c.loop-bit.x c.loop-bit.y c.loop-bit.z
      c.take_lowest-taken_x.result c.take_lowest-taken_y.result c.take_lowest-taken_z.result (omega arith) is (c.loop-bit.invariant.taken cell is same)
      c.take_lowest-taken_x.ensures c.take_lowest-taken_y.ensures c.take_lowest-taken_z.ensures;
}

pub returns-then-has_code-clause-only : goal.returns-then-has_code-clause-only
returns-then-has_code-clause-only c = λ cell is same.
    let was = c.loop-bit.invariant.taken cell is same in
    let end : c.loop-bit.bit ≡ c.count_bits-bit-end.result = omega arith in
    ap Some (taken_all c.args.grid.now.size cell c.count_bits-bit-end.result c.loop-bit.x c.loop-bit.y c.loop-bit.z c.count_bits-bit-end.ensures.sizes is
    (was.1 ∙ ap (λ i. slice_index cell 0 % 2 ^ i) end) (was.2 ∙ ap (λ i. slice_index cell 1 % 2 ^ i) end) (was.3 ∙ ap (λ i. slice_index cell 2 % 2 ^ i) end))

pub returns-else-has_code-clause-only : goal.returns-else-has_code-clause-only
returns-else-has_code-clause-only c = λ cell is same.
    let was = c.loop-bit.invariant.taken cell is same in
    let end : c.loop-bit.bit ≡ c.count_bits-bit-end.result = omega arith in
    let all = taken_all c.args.grid.now.size cell c.count_bits-bit-end.result c.loop-bit.x c.loop-bit.y c.loop-bit.z c.count_bits-bit-end.ensures.sizes is
    (was.1 ∙ ap (λ i. slice_index cell 0 % 2 ^ i) end) (was.2 ∙ ap (λ i. slice_index cell 1 % 2 ^ i) end) (was.3 ∙ ap (λ i. slice_index cell 2 % 2 ^ i) end) in
    let P : List ℕ → Type 0 = λ x. IsInGrid c.args.grid.now.size x × (code_of c.args.grid.now.size x ≡ c.args.code) in
    absurd (not_true c.has_code.result c.has_code.ensures c.if-has_code.false (subst P (sym all) (is, same)))

pub loop-bit-init : goal.loop-bit-init
loop-bit-init c = record {
  small_x = lit< tt;
  small_y = lit< tt;
  small_z = lit< tt;
  taken = λ cell is same. (sym same ∙ sym (code_from-0 c.args.grid.now.size cell), omega arith, omega arith, omega arith);
}
