use Rattle.std.proofs.Common.{◌∙◌, rules}
use Rattle.line_words.proofs.NumberSteps.{number_is_read}
use Rattle.line_words.proofs.numbers.read_number.Goals as goal

pub returns-then-is_number_word : goal.returns-then-is_number_word
returns-then-is_number_word c = c.ok.ensures.value ∙ number_is_read c.args.word.now c.parse.result c.parse.ensures.value.0 (search rules)
