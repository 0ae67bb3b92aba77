use Rattle.std.proofs.Common.{◌≡◌, ◌∙◌, true, false, ap, codes, option_and_then, refl, rules}
use Rattle.command_line.specs.Parsers.{is_given, serve_by}
use Rattle.line_words.specs.Words.{port_number, short_name, value_after}
use Rattle.command_line.proofs.ParserSteps.{serve_finds_words, value_behind}
use Rattle.command_line.proofs.ServeSteps.{without_connections}
use Rattle.command_line.proofs.serving.read_serve_words.Goals as goal

pub returns-then-not-is_option-2 : goal.returns-then-not-is_option-2
returns-then-not-is_option-2 c =
    let no : is_given (value_after (codes "--connections=") c.args.connections.now) ≡ false = search rules in
    without_connections (short_name c.args.dataset.now) (option_and_then port_number (value_after (codes "--port=") c.args.port.now)) (value_after (codes "--connections=") c.args.connections.now) no

pub find_values-requires : goal.find_values-requires
find_values-requires c =
    let port : is_given (value_after (codes "--port=") c.args.port.now) ≡ true = search rules in
    let count : is_given (value_after (codes "--connections=") c.args.connections.now) ≡ true = search rules in
    (serve_finds_words c.args.dataset.now c.args.port.now c.args.connections.now c.requires.dataset port count).takes_words

pub returns : goal.returns
returns c =
    let port : is_given (value_after (codes "--port=") c.args.port.now) ≡ true = search rules in
    let count : is_given (value_after (codes "--connections=") c.args.connections.now) ≡ true = search rules in
    c.take_serve.ensures ∙
    ap serve_by (c.in_ok-values.ensures ∙ (serve_finds_words c.args.dataset.now c.args.port.now c.args.connections.now c.requires.dataset port count).values_are) ∙
    rw (value_behind (codes "--port=") c.args.port.now port, value_behind (codes "--connections=") c.args.connections.now count) refl
