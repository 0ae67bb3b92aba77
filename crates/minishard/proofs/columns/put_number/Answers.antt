use Rattle.std.proofs.Common.{◌*◌, ap, ◌∙◌}
use Rattle.vol_spec.specs.IndexBytes.{eight}
use borrow.Rule.Slice.PartMut.{put_mid}
use Rattle.minishard.proofs.ColumnSteps.{put_over, length-eight}
use Rattle.minishard.proofs.columns.put_number.Goals as goal

pub returns : goal.returns
unfolding eight
returns c = ap (put_mid (8 * c.args.place) _ c.args.out.now) c.write_u64.ensures ∙ put_over (8 * c.args.place) c.args.out.now (eight c.args.number) (length-eight c.args.number) c.requires
