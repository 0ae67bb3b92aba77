use Rattle.std.proofs.Common.{◌∙◌, ap}
use Rattle.vol_spec.specs.declared.encoding.Encoding.TheVariants.{Seg}
use Rattle.copier.proofs.twins.is_blocked.Goals as goal

pub returns-in-Seg : goal.returns-in-Seg
returns-in-Seg c = λ t. c.in-Seg.is ∙ ap Seg (c.is_block.ensures.0 t)
