use Rattle.std.proofs.Common.{◌≡◌, ◌≤◌, ◌<◌, false}
use Rattle.vol_base.specs.Outside.{OnlyReads}
use Rattle.request_heads.specs.Heads.{pending}
use Rattle.range_server.specs.Bodies.{WhereTold}
use Rattle.range_server.specs.Replies.{HasReached}
use Rattle.range_server.proofs.conn.serve_link.Given as goal

abbrev pub invariant-loop-number : goal.invariant-loop-number
invariant-loop-number g l = record {
  calm : l.desk.writer.failing ≡ false;
  within : l.len ≤ 8192;
  alive : l.number < 65536;
  reached : WhereTold (g.S.Source.objects l.fn.store) (λ m. WhereTold (g.L.Link.left l.fn.link)
      (λ stream. HasReached m l.dataset l.number stream (pending l.desk.received.items l.len (g.L.Link.left l.link)) (g.L.Link.sent l.fn.link) (g.L.Link.sent l.link)));
  stream : g.L.Link.stream l.link ≡ g.L.Link.stream l.fn.link;
  kept : OnlyReads (g.S.Source.objects l.fn.store) (g.S.Source.objects l.store) (g.S.Source.draft l.fn.store) (g.S.Source.draft l.store);
  history : g.S.Source.history l.store ≡ g.S.Source.history l.fn.store;
  link_stands : g.L.Link.faults l.link ≡ g.L.Link.faults l.fn.link;
  store_later : g.S.Source.faults l.fn.store ≤ g.S.Source.faults l.store;
}
