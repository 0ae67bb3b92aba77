use Rattle.std.proofs.Common.{◌≡◌, ◌-◌, ◌≤◌, length, Some}
use Rattle.vol_base.specs.Outside.{OnlyReads, part}
use Rattle.vol_base.specs.Gains.{Gains}
use Rattle.range_server.specs.Bodies.{WhereTold, object_in}
use Rattle.range_server.proofs.send.send_rest.Given as goal

abbrev pub invariant-loop-at : goal.invariant-loop-at
invariant-loop-at g l = record {
  room : length l.piece ≡ length l.fn.piece;
  begun : l.from ≤ l.at;
  within : l.at ≤ l.end;
  gained : WhereTold (g.S.Source.objects l.fn.store) (λ m. length (part (object_in m (Some l.name)) l.from (l.end - l.from)) ≡ l.end - l.from
      → Gains (g.L.Link.sent l.fn.link) (g.L.Link.sent l.link) (part (object_in m (Some l.name)) l.from (l.at - l.from)));
  left : g.L.Link.left l.link ≡ g.L.Link.left l.fn.link;
  stream : g.L.Link.stream l.link ≡ g.L.Link.stream l.fn.link;
  kept : OnlyReads (g.S.Source.objects l.fn.store) (g.S.Source.objects l.store) (g.S.Source.draft l.fn.store) (g.S.Source.draft l.store);
  history : g.S.Source.history l.store ≡ g.S.Source.history l.fn.store;
  link_stands : g.L.Link.faults l.link ≡ g.L.Link.faults l.fn.link;
  store_later : g.S.Source.faults l.fn.store ≤ g.S.Source.faults l.store;
}

abbrev pub decreases-loop-at : goal.decreases-loop-at
decreases-loop-at g l = l.end - l.at
