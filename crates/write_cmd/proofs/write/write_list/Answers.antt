use Rattle.std.proofs.Common.{refl}
use Rattle.write_cmd.proofs.MomentSteps.{list_passed, none_passed}
use Rattle.write_cmd.proofs.StreamSteps.{list_told}
use Rattle.write_cmd.proofs.WriteSteps.{takes_read}
use Rattle.write_cmd.proofs.write.write_list.Goals as goal

pub returns-clause-writes : goal.returns-clause-writes
returns-clause-writes g c key =
    list_told c.write_all.result (g.S.Source.objects c.args.store.now) (g.S.Source.objects c.write_all.new.store) (g.S.Source.draft c.args.store.now) (g.S.Source.draft c.write_all.new.store)
    (g.F.Feed.left c.args.feed.now) c.args.dataset.now key c.args.scale.now c.in_ok-writes.writes (record { outside = c.tell_stored_views.ensures.outside; last = c.tell_stored_views.ensures.values; back = c.tell_stored_views.ensures.cutout; sound = c.tell_stored_views.ensures.sound }) c.requires.writable c.in_ok-writes.ensures.bytes
    c.requires.empty c.in_ok-writes.ensures.exact c.write_all.ensures.kept c.write_all.ensures.put

pub returns-in_err-writes-clause-took : goal.returns-in_err-writes-clause-took
returns-in_err-writes-clause-took g c = takes_read (g.F.Feed.left c.args.feed.now) (g.F.Feed.left c.read_writes.new.feed) c.read_writes.ensures.took

pub returns-clause-took : goal.returns-clause-took
returns-clause-took g c = takes_read (g.F.Feed.left c.args.feed.now) (g.F.Feed.left c.read_writes.new.feed) c.read_writes.ensures.took

pub returns-in_err-writes-clause-killed : goal.returns-in_err-writes-clause-killed
returns-in_err-writes-clause-killed g c = none_passed (g.F.Feed.left c.args.feed.now) _ (g.S.Source.history c.args.store.now) (g.S.Source.history c.args.store.now) refl

pub returns-clause-killed : goal.returns-clause-killed
returns-clause-killed g c =
    list_passed (g.S.Source.objects c.args.store.now) (g.F.Feed.left c.args.feed.now) c.args.dataset.now c.args.scale.now c.in_ok-writes.writes (g.S.Source.history c.args.store.now) (g.S.Source.history c.write_all.new.store) c.requires.writable
    c.requires.empty c.in_ok-writes.ensures.exact c.write_all.ensures.killed
