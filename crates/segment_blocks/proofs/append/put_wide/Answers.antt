use Rattle.std.proofs.Common.{arith, ◌-◌, ◌+◌, ◌++◌, ◌∙◌, ap, sym, refl, length, take}
use Rattle.byteorder.specs.Endian.{little_bytes}
use Rattle.segment_blocks.proofs.Again.{bytes_little}
use Rattle.segment_blocks.proofs.Appends.{appended}
use Rattle.segment_blocks.proofs.append.put_wide.Goals as goal
use borrow.Rule.Slice.PartMut.{put_mid}

pub returns : goal.returns
returns c =
    ap (λ b. take (c.args.at + 8) (put_mid c.args.at (length c.args.out.now - c.args.at) c.args.out.now b)) c.write_u64.ensures
    ∙ appended c.args.at 8 _ c.args.out.now (little_bytes 8 c.args.x) _ (omega (arith, c.requires)) refl
    ∙ ap (λ b. take c.args.at c.args.out.now ++ b) (sym (bytes_little 8 c.args.x))
