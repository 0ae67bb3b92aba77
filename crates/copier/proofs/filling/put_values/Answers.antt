use Rattle.std.proofs.Common.{◌∙◌, ap, length, take}
use Rattle.copy_laws.specs.Twins.{said_raw}
use Rattle.copier.proofs.TakingSteps.{said_filled}
use Rattle.copier.proofs.filling.put_values.Goals as goal

pub returns-in-Some : goal.returns-in-Some
returns-in-Some c =
    said_filled c.args.to.now c.in-Some.own c.args.frame.now.own c.args.frame.now.bytes.items c.put_said.new.raw (length c.args.raw.now) c.in-Some.is c.requires
    (c.put_said.ensures ∙ ap (λ xs. said_raw c.args.to.now c.in-Some.own.cell (take c.in-Some.own.len xs)) c.deref-in-Some.ensures.value)
