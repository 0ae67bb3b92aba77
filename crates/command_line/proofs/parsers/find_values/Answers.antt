use Rattle.std.proofs.Common.{◌∙◌, map}
use Rattle.clap.specs.Words.{app_of, found_of}
use Rattle.command_line.proofs.ParserSteps.{parser_simple, values_in}
use Rattle.command_line.proofs.parsers.find_values.Goals as goal

-- a command that takes words is simple, so its matches are known
pub returns-in-Ok : goal.returns-in-Ok
returns-in-Ok c =
    let words = map (λ word. word.now) c.args.words.now in
    let is = c.in_ok-parser.ensures in
    let rows = (c.in-Ok.ensures.matches (parser_simple (app_of c.in_ok-parser.parser) _ words is c.requires)).0 in
    c.take_values.ensures ∙ values_in (app_of c.in_ok-parser.parser) _ words is c.requires (found_of c.in-Ok.found) c.args.arguments.0.now c.args.arguments.1.now c.args.arguments.2.now rows
