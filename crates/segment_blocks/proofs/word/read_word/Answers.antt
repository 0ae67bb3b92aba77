use Rattle.std.proofs.Common.{arith, ◌*◌, ◌-◌, ap, ◌∙◌, sym, drop, length, length-drop}
use Rattle.std.proofs.lemmas.List.{take_all}
use Rattle.byteorder.specs.Endian.{little_number}
use Rattle.segment_blocks.proofs.Field.{word_little}
use Rattle.segment_blocks.proofs.word.read_word.Goals as goal

pub returns : goal.returns
returns c =
    c.read_u32.ensures ∙ ap (little_number 4) (take_all (length c.args.bytes.now - 4 * c.args.i) (drop (4 * c.args.i) c.args.bytes.now) (omega (arith, length-drop (4 * c.args.i) c.args.bytes.now)))
    ∙ sym (word_little c.args.bytes.now c.args.i)
