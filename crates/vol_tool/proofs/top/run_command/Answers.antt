use Rattle.std.proofs.Common.{◌≡◌, ℕ, List, Some, subst, sym}
use Rattle.vol_base.specs.Causes.{Rose}
use Rattle.vol_base.specs.Outside.{Objects}
use Rattle.vol_spec.proofs.Told.{in_told}
use Rattle.write_plan.specs.Stream.{writes_of}
use Rattle.command_base.specs.Ending.{EndsWell}
use Rattle.write_cmd.specs.Storing.{CanWrite}
use Rattle.update_cmd.specs.Answering.{CanBeUpdated}
use Rattle.vol_tool.specs.Runs.{Succeeds}
use Rattle.vol_tool.specs.Seen.{view}
use Rattle.vol_tool.proofs.top.run_command.Goals as goal

pub returns-in-Write-clause-succeeds : goal.returns-in-Write-clause-succeeds
returns-in-Write-clause-succeeds g c =
    subst (λ command. Succeeds (Some command) c.run_write.result
    (view g.S.Source.objects g.S.Source.draft g.S.Source.asked g.S.Source.faults g.F.Feed.left g.F.Feed.faults g.O.Outlet.written g.O.Outlet.faults g.E.Outlet.written g.E.Outlet.faults
    g.D.Door.bound g.D.Door.accepted g.D.Door.served g.D.Door.faults c.args.store.now c.args.feed.now c.args.out.now c.args.err.now c.args.door.now)
    (view g.S.Source.objects g.S.Source.draft g.S.Source.asked g.S.Source.faults g.F.Feed.left g.F.Feed.faults g.O.Outlet.written g.O.Outlet.faults g.E.Outlet.written g.E.Outlet.faults
    g.D.Door.bound g.D.Door.accepted g.D.Door.served g.D.Door.faults c.run_write.new.store c.run_write.new.feed c.run_write.new.out c.run_write.new.err c.args.door.now))
    (sym c.in-Write.is)
    (let done : (m : Objects) (bytes : List ℕ) → g.S.Source.objects c.args.store.now ≡ Some m → g.F.Feed.left c.args.feed.now ≡ Some bytes
    → CanWrite m (writes_of bytes) c.in-Write.dataset c.in-Write.key → (Rose (g.S.Source.faults c.args.store.now) (g.S.Source.faults c.run_write.new.store) → ⊥)
    → (Rose (g.F.Feed.faults c.args.feed.now) (g.F.Feed.faults c.run_write.new.feed) → ⊥) → (Rose (g.O.Outlet.faults c.args.out.now) (g.O.Outlet.faults c.run_write.new.out) → ⊥) → EndsWell c.run_write.result = c.run_write.ensures.complete in
    in_told (g.S.Source.objects c.args.store.now) _ (λ m told. in_told (g.F.Feed.left c.args.feed.now) _ (λ bytes fed. done m bytes told fed)))

pub returns-in-Update-clause-succeeds : goal.returns-in-Update-clause-succeeds
returns-in-Update-clause-succeeds g c =
    subst (λ command. Succeeds (Some command) c.run_update.result
    (view g.S.Source.objects g.S.Source.draft g.S.Source.asked g.S.Source.faults g.F.Feed.left g.F.Feed.faults g.O.Outlet.written g.O.Outlet.faults g.E.Outlet.written g.E.Outlet.faults
    g.D.Door.bound g.D.Door.accepted g.D.Door.served g.D.Door.faults c.args.store.now c.args.feed.now c.args.out.now c.args.err.now c.args.door.now)
    (view g.S.Source.objects g.S.Source.draft g.S.Source.asked g.S.Source.faults g.F.Feed.left g.F.Feed.faults g.O.Outlet.written g.O.Outlet.faults g.E.Outlet.written g.E.Outlet.faults
    g.D.Door.bound g.D.Door.accepted g.D.Door.served g.D.Door.faults c.run_update.new.store c.run_update.new.feed c.run_update.new.out c.run_update.new.err c.args.door.now))
    (sym c.in-Update.is)
    (let done : (m : Objects) (bytes : List ℕ) → g.S.Source.objects c.args.store.now ≡ Some m → g.F.Feed.left c.args.feed.now ≡ Some bytes
    → CanBeUpdated m (writes_of bytes) c.in-Update.dataset c.in-Update.key → (Rose (g.S.Source.faults c.args.store.now) (g.S.Source.faults c.run_update.new.store) → ⊥)
    → (Rose (g.F.Feed.faults c.args.feed.now) (g.F.Feed.faults c.run_update.new.feed) → ⊥) → (Rose (g.O.Outlet.faults c.args.out.now) (g.O.Outlet.faults c.run_update.new.out) → ⊥) → EndsWell c.run_update.result = c.run_update.ensures.complete in
    in_told (g.S.Source.objects c.args.store.now) _ (λ m told. in_told (g.F.Feed.left c.args.feed.now) _ (λ bytes fed. done m bytes told fed)))
