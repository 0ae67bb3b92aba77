use Rattle.vectors_vol.specs.Generated.{counting_bytes}
use Rattle.vectors_vol.proofs.PlainSteps.{counting_more, pushed}
use Rattle.vectors_vol.proofs.plain.push_values.Goals as goal

pub loop-n-preserved : goal.loop-n-preserved
loop-n-preserved c =
    pushed c.args.bytes.now.items c.loop-n.bytes.items _ (counting_bytes c.args.width c.args.first c.loop-n.n) _ _ c.loop-n.invariant
    c.in_ok-push_number.ensures (counting_more c.args.width c.args.first c.loop-n.n)
