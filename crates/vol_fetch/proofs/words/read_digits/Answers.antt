use Rattle.std.proofs.Common.{◌∙◌, rules}
use Rattle.vol_fetch.proofs.LineSteps.{digits_are_read}
use Rattle.vol_fetch.proofs.words.read_digits.Goals as goal

pub returns-then-is_port_word : goal.returns-then-is_port_word
returns-then-is_port_word c = c.ok.ensures.value ∙ digits_are_read c.args.word.now c.parse.result c.parse.ensures.value.0 (search rules)
