use Rattle.std.proofs.Common.{rules}
use Rattle.segment_blocks.proofs.VoxelSteps.{line_end, line_more}
use Rattle.segment_blocks.proofs.voxels.find_next.Goals as goal

pub returns-then-y-rows-clause-y : goal.returns-then-y-rows-clause-y
returns-then-y-rows-clause-y c = (line_more c.args._r c.args.y c.args.z c.args.rows c.requires.y c.requires.z (search rules)).0

pub returns-then-y-rows-clause-z : goal.returns-then-y-rows-clause-z
returns-then-y-rows-clause-z c = (line_more c.args._r c.args.y c.args.z c.args.rows c.requires.y c.requires.z (search rules)).1

pub returns-else-y-rows-clause-y : goal.returns-else-y-rows-clause-y
returns-else-y-rows-clause-y c = (line_end c.args._r c.args.y c.args.z c.args.rows c.requires.some c.requires.y c.requires.z (search rules)).0

pub returns-else-y-rows-clause-z : goal.returns-else-y-rows-clause-z
returns-else-y-rows-clause-z c = (line_end c.args._r c.args.y c.args.z c.args.rows c.requires.some c.requires.y c.requires.z (search rules)).1
