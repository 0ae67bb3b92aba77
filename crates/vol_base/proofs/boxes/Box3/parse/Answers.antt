use Rattle.std.proofs.Common.{sym, ap, ◌∙◌}
use Rattle.vol_base.specs.BoxText.{box_numbers, parsed}
use Rattle.vol_base.proofs.Clamps.{parsed_as}
use Rattle.vol_base.proofs.boxes.Box3.parse.Goals as goal

pub returns-in-Some : goal.returns-in-Some
returns-in-Some c = c.judge.ensures ∙ ap parsed (sym c.in-Some.is ∙ c.read_numbers.ensures) ∙ parsed_as c.as_bytes.result.now ∙ ap (λ bytes. parsed (box_numbers bytes)) c.as_bytes.ensures.value

pub returns-in-None : goal.returns-in-None
returns-in-None c = ap parsed (sym c.in-None.is ∙ c.read_numbers.ensures) ∙ parsed_as c.as_bytes.result.now ∙ ap (λ bytes. parsed (box_numbers bytes)) c.as_bytes.ensures.value
