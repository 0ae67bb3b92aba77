use Rattle.std.proofs.Common.{arith, ◌*◌, ◌-◌, ap, ◌∙◌, sym, drop, length, length-drop}
use Rattle.std.proofs.lemmas.List.{take_all}
use Rattle.byteorder.specs.Endian.{little_number}
use Rattle.segment_blocks.proofs.Field.{front_number_8}
use Rattle.segment_blocks.proofs.word.read_wide.Goals as goal

pub returns : goal.returns
returns c =
    c.read_u64.ensures ∙ ap (little_number 8) (take_all (length c.args.bytes.now - 8 * c.args.i) (drop (8 * c.args.i) c.args.bytes.now) (omega (arith, length-drop (8 * c.args.i) c.args.bytes.now)))
    ∙ sym (front_number_8 (drop (8 * c.args.i) c.args.bytes.now))
