use Rattle.std.proofs.Common.{Global, map, string_bytes}
use Rattle.command_line.proofs.LimitSteps.{command_keeps}
use Rattle.command_line.proofs.words.tell_limits.Goals as goal

pub returns : goal.returns
returns c = command_keeps c.args.found.now (map (string_bytes {Z = Global}) c.args.words.now) c.requires
