use Rattle.std.proofs.Common.{◌∙◌, ap}
use Rattle.command_line.specs.Parsers.{cutout_by}
use Rattle.command_line.proofs.ParserSteps.{cutout_finds}
use Rattle.command_line.proofs.words.read_cutout_words.Goals as goal

pub find_values-requires : goal.find_values-requires
find_values-requires c = (cutout_finds c.args.dataset.now c.args.key.now c.args.part.now c.requires.dataset c.requires.key c.requires.part).takes_words

pub returns : goal.returns
returns c = c.take_cutout.ensures ∙ ap cutout_by (c.in_ok-values.ensures ∙ (cutout_finds c.args.dataset.now c.args.key.now c.args.part.now c.requires.dataset c.requires.key c.requires.part).values_are)
