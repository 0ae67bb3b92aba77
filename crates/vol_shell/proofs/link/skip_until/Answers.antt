use Rattle.std.proofs.Common.{rules, ◌≤◌, ◌-◌, arith}
use Rattle.vol_shell.proofs.DrainSteps.{loses_more}
use Rattle.vol_shell.proofs.link.skip_until.Goals as goal

pub loop-left-preserved : goal.loop-left-preserved
loop-left-preserved g c =
    let fits : c.in-Ok.n ≤ c.loop-left.left = search rules in
    record {
      within = omega (arith, c.loop-left.invariant.within);
      lost = loses_more _ _ _ (65536 - c.loop-left.left) c.in-Ok.n (65536 - (c.loop-left.left - c.in-Ok.n)) c.read_until.new.out c.loop-left.invariant.lost c.in-Ok.ensures.bytes.0 (omega (arith, fits, c.loop-left.invariant.within));
    }
