use Rattle.std.proofs.Common.{◌≡◌, lit<}
use Rattle.vol_base.specs.Boxes.{at}
use Rattle.reduce_laws.specs.Halves.{twice}
use Rattle.downsample_cmd.proofs.JudgeSteps.{all_axes, twice_on}
use Rattle.downsample_cmd.proofs.judge.has_twice_offset.Goals as goal

pub returns : goal.returns
returns c = all_axes (λ axis. at c.args.from.now.offset axis ≡ twice (at c.args.to.now.offset axis)) c.is_twice-x.result c.is_twice-y.result c.is_twice-z.result (twice_on c.args.from.now c.args.to.now 0 (lit< tt) c.is_twice-x.result c.is_twice-x.ensures) (twice_on c.args.from.now c.args.to.now 1 (lit< tt) c.is_twice-y.result c.is_twice-y.ensures) (twice_on c.args.from.now c.args.to.now 2 (lit< tt) c.is_twice-z.result c.is_twice-z.ensures) c.are_all.result c.are_all.ensures
