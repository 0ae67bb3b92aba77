use Rattle.std.proofs.Common.{◌≡◌, ◌*◌, take}
use Rattle.std.specs.Prelude.{flat_map}
use Rattle.vol_spec.specs.BoxValues.{bytes_of}
use Rattle.segment_blocks.proofs.append.put_words.Given as goal

abbrev pub invariant-loop-i : goal.invariant-loop-i
invariant-loop-i l = take (4 * l.i) l.out ≡ flat_map (bytes_of 4) (take l.i l.words)
