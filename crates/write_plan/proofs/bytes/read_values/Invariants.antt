use Rattle.std.proofs.Common.{length, ◌-◌, ◌≡◌, ◌≤◌, drop, IfSome}
use Rattle.std.specs.Option.{option_map}
use Rattle.std.specs.Prelude.{vec_capacity}
use Rattle.write_plan.specs.Readers.{IsFront}
use Rattle.write_plan.proofs.bytes.read_values.Given as goal

abbrev pub invariant-loop-fault : goal.invariant-loop-fault
invariant-loop-fault g l = record {
  within : length l.bytes.items ≤ l.len;
  came : IfSome (g.F.Feed.left l.fn.feed) (IsFront (length l.bytes.items) l.bytes.items);
  left : g.F.Feed.left l.feed ≡ option_map (drop (length l.bytes.items)) (g.F.Feed.left l.fn.feed);
  room : l.len ≤ vec_capacity l.bytes;
  later : g.F.Feed.faults l.feed ≡ g.F.Feed.faults l.fn.feed;
}

abbrev pub decreases-loop-fault : goal.decreases-loop-fault
decreases-loop-fault g l = l.len - length l.bytes.items
