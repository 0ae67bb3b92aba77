use Rattle.std.proofs.Common.{◌≡◌, ◌∙◌, eqb, rules}
use Rattle.std.specs.List.{starts_with}
use Rattle.command_line.proofs.ParserSteps.{given_is}
use Rattle.command_line.proofs.words.is_option.Goals as goal

-- a longer word that begins so has something behind it
pub returns-then-option-word : goal.returns-then-option-word
returns-then-option-word c =
    let begins : c.starts_with.result ≡ starts_with eqb c.args.word.now c.args.option.now = search rules in
    begins ∙ given_is c.args.option.now c.args.word.now c.if-option-word.true
