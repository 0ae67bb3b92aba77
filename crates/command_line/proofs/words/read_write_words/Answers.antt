use Rattle.std.proofs.Common.{◌≡◌, ◌∙◌, true, false, ap, codes, option_and_then, sym, rules}
use Rattle.command_line.specs.Parsers.{is_given, write_by}
use Rattle.command_line.specs.Words.{write_of}
use Rattle.line_words.specs.Words.{short_name, value_after, worker_count}
use Rattle.command_line.proofs.LineSteps.{without_value}
use Rattle.command_line.proofs.ParserSteps.{value_behind, write_finds_word}
use Rattle.command_line.proofs.words.read_write_words.Goals as goal

pub returns-then-not-is_option : goal.returns-then-not-is_option
returns-then-not-is_option c =
    let no : is_given (value_after (codes "--workers=") c.args.workers.now) ≡ false = search rules in
    without_value (short_name c.args.dataset.now) (short_name c.args.key.now) (value_after (codes "--workers=") c.args.workers.now) no

pub find_values-requires : goal.find_values-requires
find_values-requires c =
    let given : is_given (value_after (codes "--workers=") c.args.workers.now) ≡ true = search rules in
    (write_finds_word c.args.dataset.now c.args.key.now c.args.workers.now c.requires.dataset c.requires.key given).takes_words

pub returns : goal.returns
returns c =
    let given : is_given (value_after (codes "--workers=") c.args.workers.now) ≡ true = search rules in
    c.take_write.ensures ∙
    ap write_by (c.in_ok-values.ensures ∙ (write_finds_word c.args.dataset.now c.args.key.now c.args.workers.now c.requires.dataset c.requires.key given).values_are) ∙
    ap (λ value. write_of (short_name c.args.dataset.now) (short_name c.args.key.now) (option_and_then worker_count value)) (sym (value_behind (codes "--workers=") c.args.workers.now given))
