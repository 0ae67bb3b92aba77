use Rattle.line_words.proofs.PrefixSteps.{stripped}
use Rattle.line_words.proofs.words.value_after.Goals as goal

pub returns : goal.returns
returns c = stripped c.strip_prefix.result c.args.option.now c.args.word.now c.strip_prefix.ensures.cases
