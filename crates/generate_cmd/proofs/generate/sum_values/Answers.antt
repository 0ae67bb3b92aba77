use Rattle.std.proofs.Common.{◌∙◌, Err, Some, ap, subst, sym}
use Rattle.generate_cmd.proofs.GenerateSteps.{broken_told, broken_unsummed, never_rose, sums_told}
use Rattle.generate_cmd.specs.Generating.{Sums}
use Rattle.generate_cmd.proofs.generate.sum_values.Goals as goal

pub returns-in-Ok-clause-sums : goal.returns-in-Ok-clause-sums
returns-in-Ok-clause-sums g c =
    sums_told c.sum.result (g.S.Source.objects c.args.store.now) c.args.reader.now.dataset c.args.scale.now c.args.reader.now.scale c.whole.result c.stream_part.new.out _ c.requires.scale c.whole.ensures (ap Some c.new-sums.ensures)
    c.in-Ok.ensures.cuts (subst (λ w. Sums w c.stream_part.new.out c.sum.result) (sym c.requires.width) c.sum.ensures)

pub returns-in-Err-clause-sums : goal.returns-in-Err-clause-sums
returns-in-Err-clause-sums g c =
    broken_told c.in-Err.refusal (g.S.Source.objects c.args.store.now) c.args.reader.now.dataset c.args.scale.now c.args.reader.now.scale c.whole.result _ _ c.requires.scale c.whole.ensures c.in-Err.ensures.cuts

pub returns-in-Err-clause-refused : goal.returns-in-Err-clause-refused
returns-in-Err-clause-refused g c = broken_unsummed c.in-Err.refusal c.in-Err.ensures.broken (λ e. never_rose (c.stream_part.ensures.out_cause.failed (c.in-Err.is ∙ ap Err e)))
