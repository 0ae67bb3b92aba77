use Rattle.std.proofs.Common.{◌≡◌, ◌+◌, ◌%◌, ◌^◌, ◌-◌, arith, ap, sym, ◌∙◌}
use Rattle.morton_code.proofs.Steps.{code_from, code_step, code-fits, code_from-0, code_from-top}
use Rattle.morton_code.proofs.codes.code.Goals as goal

pub loop-bit-init : goal.loop-bit-init
loop-bit-init c =
    ap (λ n. n % 2 ^ 64) (sym (code_from-top c.args.grid.now.size c.args.cell c.count_bits-bit.result c.count_bits-bit.result (40 - c.count_bits-bit.result) c.count_bits-bit.ensures.sizes (omega arith) (omega (arith, c.count_bits-bit.ensures.small))))

pub loop-bit-preserved : goal.loop-bit-preserved
loop-bit-preserved c =
    let up : c.loop-bit.bit ≡ (c.loop-bit.bit - 1) + 1 = omega arith in
    code_step c.args.grid.now.size c.args.cell (c.loop-bit.bit - 1) c.loop-bit.code _ _ _ (omega arith) (c.loop-bit.invariant ∙ ap (λ i. code_from c.args.grid.now.size c.args.cell i % 2 ^ 64) up)
    c.put_below-code.ensures c.put_below-code-in-loop-bit.ensures c.put_below-code-in-loop-bit-2.ensures

pub returns : goal.returns
returns c =
    let end : c.loop-bit.bit ≡ 0 = omega arith in
    c.loop-bit.invariant ∙ ap (λ i. code_from c.args.grid.now.size c.args.cell i % 2 ^ 64) end ∙ ap (λ n. n % 2 ^ 64) (code_from-0 c.args.grid.now.size c.args.cell) ∙ code-fits c.args.grid.now.size c.args.cell c.requires.bits
