use Rattle.std.proofs.Common.{◌∙◌, sym}
use Rattle.copier.proofs.twins.has_encoding.Goals as goal

pub returns-in-Seg : goal.returns-in-Seg
returns-in-Seg c = λ t. c.in-Seg.is ∙ sym (c.is_blocked.ensures t)
