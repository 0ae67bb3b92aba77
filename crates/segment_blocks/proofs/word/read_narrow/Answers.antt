use Rattle.std.proofs.Common.{◌∙◌}
use Rattle.segment_blocks.proofs.Field.{word_digit}
use Rattle.segment_blocks.proofs.word.read_narrow.Goals as goal

pub returns : goal.returns
returns c = c.read_word.ensures ∙ word_digit c.args.bytes.now c.args.i
