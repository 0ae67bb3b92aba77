use Rattle.std.proofs.Common.{length, ◌-◌, ◌≡◌, ◌≤◌, drop, IfSome}
use Rattle.std.specs.Option.{option_map}
use Rattle.vol_base.specs.Bytes.{AreBytes}
use Rattle.write_plan.specs.Readers.{IsFront}
use Rattle.write_plan.proofs.bytes.read_front.Given as goal

abbrev pub invariant-loop-done : goal.invariant-loop-done
invariant-loop-done g l = record {
  within : l.done ≤ length l.buffer;
  came : IfSome (g.F.Feed.left l.fn.feed) (IsFront l.done l.buffer);
  bytes : AreBytes l.buffer;
  left : g.F.Feed.left l.feed ≡ option_map (drop l.done) (g.F.Feed.left l.fn.feed);
  later : g.F.Feed.faults l.feed ≡ g.F.Feed.faults l.fn.feed;
}

abbrev pub decreases-loop-done : goal.decreases-loop-done
decreases-loop-done g l = length l.initial.buffer - l.done
