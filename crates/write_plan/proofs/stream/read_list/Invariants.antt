use Rattle.std.proofs.Common.{◌≡◌, ◌+◌, ◌-◌, ◌*◌, ◌≤◌, ◌^◌, [], length}
use Rattle.std.specs.List.{All}
use Rattle.std.specs.Option.{option_map}
use Rattle.vol_base.specs.Bytes.{AreBytes}
use Rattle.write_plan.specs.Readers.{Took}
use Rattle.write_plan.specs.Reading.{writes_at}
use Rattle.write_plan.specs.WriteLists.{IsWriteOf, writes_in, total}
use Rattle.write_plan.proofs.stream.read_list.Given as goal

abbrev pub invariant-loop-number : goal.invariant-loop-number
invariant-loop-number g l = record {
  steps : option_map (writes_at l.scale l.count []) (g.F.Feed.left l.fn.feed) ≡ option_map (writes_at l.scale (l.count - l.number) (writes_in l.writes.items)) (g.F.Feed.left l.feed);
  len : l.number ≡ length l.writes.items;
  sum : l.before ≡ total (writes_in l.writes.items);
  small : l.before ≤ 2 ^ 30;
  fits : All (IsWriteOf l.scale) (writes_in l.writes.items);
  bytes : All (λ w. AreBytes w.1) (writes_in l.writes.items);
  took : Took (48 * l.number + l.before) (g.F.Feed.left l.fn.feed) (g.F.Feed.left l.feed);
  later : g.F.Feed.faults l.feed ≡ g.F.Feed.faults l.fn.feed;
}
