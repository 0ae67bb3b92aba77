use Rattle.std.proofs.Common.{◌∙◌, sym, refl}
use Rattle.morton_code.proofs.Steps.{same_number}
use Rattle.morton_code.proofs.codes.has_code.Goals as goal

pub returns-then-is_inside : goal.returns-then-is_inside
returns-then-is_inside c = (λ t. (c.if-is_inside.ensures.0 refl, sym c.code.ensures ∙ (same_number c.code.result c.args.wanted).0 t), λ p. (same_number c.code.result c.args.wanted).1 (c.code.ensures ∙ p.1))
