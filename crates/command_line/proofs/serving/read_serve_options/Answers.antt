use Rattle.std.proofs.Common.{◌≡◌, IfOk, false, codes, subst, rules}
use Rattle.command_line.specs.Parsers.{is_given}
use Rattle.line_words.specs.Words.{value_after}
use Rattle.command_line.proofs.ServeSteps.{port_second}
use Rattle.command_line.proofs.serving.read_serve_options.Goals as goal

-- the first word isn't the port
pub returns-else-is_option : goal.returns-else-is_option
returns-else-is_option c =
    let no : is_given (value_after (codes "--port=") c.args.first.now) ≡ false = search rules in
    subst (λ wanted. IfOk c.read_serve_words-else-is_option.result (λ command. command ≡ wanted)) (port_second c.args.dataset.now c.args.first.now c.args.second.now no) c.read_serve_words-else-is_option.ensures
