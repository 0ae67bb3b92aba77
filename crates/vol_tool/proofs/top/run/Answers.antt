use Rattle.std.proofs.Common.{map, refl, string_bytes}
use Rattle.command_line.specs.Words.{line}
use Rattle.vol_tool.specs.Seen.{view}
use Rattle.vol_tool.proofs.MemorySteps.{memory_answers, memory_causes, memory_headline, memory_keeps, memory_killed, memory_succeeds}
use Rattle.vol_tool.proofs.top.run.Goals as goal

pub returns-in-Err-clause-answers : goal.returns-in-Err-clause-answers
returns-in-Err-clause-answers g c =
    memory_answers (line (map string_bytes c.args.words.now))
    (view g.S.Source.objects g.S.Source.draft g.S.Source.asked g.S.Source.faults g.F.Feed.left g.F.Feed.faults g.O.Outlet.written g.O.Outlet.faults g.E.Outlet.written g.E.Outlet.faults
    g.D.Door.bound g.D.Door.accepted g.D.Door.served g.D.Door.faults c.args.store.now c.args.feed.now c.args.out.now c.args.err.now c.args.door.now)
    (g.E.Outlet.written c.tell.new.err) (g.E.Outlet.faults c.tell.new.err) c.requires c.tell.ensures.told

pub returns-in-Err-clause-succeeds : goal.returns-in-Err-clause-succeeds
returns-in-Err-clause-succeeds g c =
    memory_succeeds (line (map string_bytes c.args.words.now))
    (view g.S.Source.objects g.S.Source.draft g.S.Source.asked g.S.Source.faults g.F.Feed.left g.F.Feed.faults g.O.Outlet.written g.O.Outlet.faults g.E.Outlet.written g.E.Outlet.faults
    g.D.Door.bound g.D.Door.accepted g.D.Door.served g.D.Door.faults c.args.store.now c.args.feed.now c.args.out.now c.args.err.now c.args.door.now)
    (g.E.Outlet.written c.tell.new.err) (g.E.Outlet.faults c.tell.new.err)

pub returns-in-Err-clause-headline : goal.returns-in-Err-clause-headline
returns-in-Err-clause-headline g c = memory_headline _ _ (g.E.Outlet.written c.tell.new.err) (g.E.Outlet.faults c.tell.new.err)

pub returns-in-Err-clause-keeps : goal.returns-in-Err-clause-keeps
returns-in-Err-clause-keeps g c = memory_keeps _ _ _ (g.E.Outlet.written c.tell.new.err) (g.E.Outlet.faults c.tell.new.err) refl

pub returns-in-Err-clause-causes : goal.returns-in-Err-clause-causes
returns-in-Err-clause-causes g c = memory_causes _ _ (g.E.Outlet.faults c.tell.new.err) c.tell.ensures.later

pub returns-in-Err-clause-killed : goal.returns-in-Err-clause-killed
returns-in-Err-clause-killed g c =
    memory_killed (line (map string_bytes c.args.words.now))
    (view g.S.Source.objects g.S.Source.draft g.S.Source.asked g.S.Source.faults g.F.Feed.left g.F.Feed.faults g.O.Outlet.written g.O.Outlet.faults g.E.Outlet.written g.E.Outlet.faults
    g.D.Door.bound g.D.Door.accepted g.D.Door.served g.D.Door.faults c.args.store.now c.args.feed.now c.args.out.now c.args.err.now c.args.door.now)
    (g.S.Source.history c.args.store.now)
