use Rattle.std.proofs.Common.{◌≡◌, ◌≤◌, ◌-◌, length, take}
use Rattle.vol_base.specs.Gains.{Gains}
use Rattle.vol_base.proofs.whole.write_all.Given as goal

abbrev pub invariant-loop-done : goal.invariant-loop-done
invariant-loop-done g l = record {
  within : l.done ≤ length l.bytes;
  gained : Gains (g.O.Outlet.written l.fn.out) (g.O.Outlet.written l.out) (take l.done l.bytes);
  later : g.O.Outlet.faults l.out ≡ g.O.Outlet.faults l.fn.out;
}

abbrev pub decreases-loop-done : goal.decreases-loop-done
decreases-loop-done g l = length l.bytes - l.done
