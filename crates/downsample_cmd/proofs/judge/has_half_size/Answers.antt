use Rattle.std.proofs.Common.{◌≡◌, ◌+◌, ◌/◌}
use Rattle.std.specs.Prelude.{slice_index}
use Rattle.downsample_cmd.proofs.JudgeSteps.{all_axes}
use Rattle.downsample_cmd.proofs.judge.has_half_size.Goals as goal

pub returns : goal.returns
returns c = all_axes (λ axis. slice_index c.args.to.now.size axis ≡ (slice_index c.args.from.now.size axis + 1) / 2) c.is_half-x.result c.is_half-y.result c.is_half-z.result c.is_half-x.ensures c.is_half-y.ensures c.is_half-z.ensures c.are_all.result c.are_all.ensures
