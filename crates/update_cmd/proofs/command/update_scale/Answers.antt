use Rattle.std.proofs.Common.{refl}
use Rattle.write_cmd.proofs.MomentSteps.{none_passed}
use Rattle.update_cmd.proofs.MomentSteps.{over_fed}
use Rattle.command_base.proofs.Choices.{err_is}
use Rattle.update_cmd.specs.Refusals.{unstreamed}
use Rattle.update_cmd.proofs.BegunSteps.{begun_fed}
use Rattle.update_cmd.proofs.AnswerSteps.{made_told, refused_document, refused_feed, refused_judges, refused_leaves, refused_told, unstreamed_document, unstreamed_judges, unstreamed_told}
use Rattle.write_cmd.proofs.WriteSteps.{takes_read}
use Rattle.update_cmd.proofs.command.update_scale.Goals as goal

pub returns-in-Ok-clause-answers : goal.returns-in-Ok-clause-answers
returns-in-Ok-clause-answers g c key =
    made_told c.in-Ok.written (g.S.Source.objects c.args.store.now) (g.S.Source.objects c.update.new.store) (g.F.Feed.left c.args.feed.now) c.args.stored.now.dataset key c.args.stored.now.scale c.in_ok-writes.writes
    c.in_ok-writes.ensures.exact (c.requires.writable, c.requires.one) c.in_ok-writes.ensures.bytes (g.met.S.Source.bytes c.args.store.now) c.in-Ok.ensures.updates

pub returns-in-Err-clause-answers : goal.returns-in-Err-clause-answers
returns-in-Err-clause-answers g c key =
    refused_told c.in-Err.fault c.refuse.result (g.S.Source.objects c.args.store.now) (g.S.Source.objects c.update.new.store) (g.F.Feed.left c.args.feed.now) c.args.stored.now.dataset key c.args.stored.now.scale c.in_ok-writes.writes c.refuse.ensures
    c.in_ok-writes.ensures.exact (c.requires.writable, c.requires.one) c.in-Err.ensures.updates

pub returns-in-Err-clause-judges : goal.returns-in-Err-clause-judges
returns-in-Err-clause-judges g c = refused_judges c.in-Err.fault c.refuse.result c.args.stored.now.scale c.refuse.ensures (c.requires.writable, c.requires.one)

pub returns-in-Err-clause-feed : goal.returns-in-Err-clause-feed
returns-in-Err-clause-feed g c = refused_feed c.in-Err.fault c.refuse.result (g.F.Feed.left c.args.feed.now) _ c.refuse.ensures

pub returns-in-Err-clause-document : goal.returns-in-Err-clause-document
returns-in-Err-clause-document g c = refused_document c.in-Err.fault c.refuse.result c.refuse.ensures

pub returns-in_err-writes-clause-document : goal.returns-in_err-writes-clause-document
returns-in_err-writes-clause-document g c =
    unstreamed_document c.from_residual.result c.in_err-writes.field-0.0 (err_is c.from_residual.result (unstreamed c.in_err-writes.field-0.0) c.from_residual.ensures.1)

pub returns-in-Err-clause-store : goal.returns-in-Err-clause-store
returns-in-Err-clause-store g c =
    refused_leaves c.in-Err.fault c.refuse.result (g.S.Source.objects c.args.store.now) (g.S.Source.objects c.update.new.store) (g.S.Source.draft c.args.store.now) (g.S.Source.draft c.update.new.store) c.refuse.ensures c.in-Err.ensures.kept

pub returns-in_err-writes-clause-answers : goal.returns-in_err-writes-clause-answers
returns-in_err-writes-clause-answers g c key =
    unstreamed_told c.from_residual.result c.in_err-writes.field-0.0 (g.S.Source.objects c.args.store.now) (g.F.Feed.left c.args.feed.now) c.args.stored.now.dataset key c.args.stored.now.scale
    (err_is c.from_residual.result (unstreamed c.in_err-writes.field-0.0) c.from_residual.ensures.1) c.in_err-writes.ensures.exact

pub returns-in_err-writes-clause-judges : goal.returns-in_err-writes-clause-judges
returns-in_err-writes-clause-judges g c =
    unstreamed_judges c.from_residual.result c.in_err-writes.field-0.0 c.args.stored.now.scale (err_is c.from_residual.result (unstreamed c.in_err-writes.field-0.0) c.from_residual.ensures.1) (c.requires.writable, c.requires.one)

pub returns-in_err-writes-clause-took : goal.returns-in_err-writes-clause-took
returns-in_err-writes-clause-took g c = takes_read (g.F.Feed.left c.args.feed.now) (g.F.Feed.left c.read_writes.new.feed) c.read_writes.ensures.took

pub returns-in-Ok-clause-took : goal.returns-in-Ok-clause-took
returns-in-Ok-clause-took g c = takes_read (g.F.Feed.left c.args.feed.now) (g.F.Feed.left c.read_writes.new.feed) c.read_writes.ensures.took

pub returns-in-Err-clause-took : goal.returns-in-Err-clause-took
returns-in-Err-clause-took g c = takes_read (g.F.Feed.left c.args.feed.now) (g.F.Feed.left c.read_writes.new.feed) c.read_writes.ensures.took

pub returns-in-Ok-clause-begun : goal.returns-in-Ok-clause-begun
returns-in-Ok-clause-begun g c =
    begun_fed (g.S.Source.objects c.args.store.now) (g.S.Source.objects c.update.new.store) (g.F.Feed.left c.args.feed.now) c.args.stored.now.dataset c.args.stored.now.scale c.in_ok-writes.writes (g.S.Source.draft c.args.store.now)
    (g.S.Source.draft c.update.new.store) c.in_ok-writes.ensures.exact c.update.ensures.begun

pub returns-in-Err-clause-begun : goal.returns-in-Err-clause-begun
returns-in-Err-clause-begun g c =
    begun_fed (g.S.Source.objects c.args.store.now) (g.S.Source.objects c.update.new.store) (g.F.Feed.left c.args.feed.now) c.args.stored.now.dataset c.args.stored.now.scale c.in_ok-writes.writes (g.S.Source.draft c.args.store.now)
    (g.S.Source.draft c.update.new.store) c.in_ok-writes.ensures.exact c.update.ensures.begun

pub returns-in_err-writes-clause-killed : goal.returns-in_err-writes-clause-killed
returns-in_err-writes-clause-killed g c = none_passed (g.F.Feed.left c.args.feed.now) _ (g.S.Source.history c.args.store.now) (g.S.Source.history c.args.store.now) refl

pub returns-in-Ok-clause-killed : goal.returns-in-Ok-clause-killed
returns-in-Ok-clause-killed g c =
    over_fed (g.S.Source.objects c.args.store.now) (g.F.Feed.left c.args.feed.now) c.args.stored.now.dataset c.args.stored.now.scale c.in_ok-writes.writes (g.S.Source.history c.args.store.now) (g.S.Source.history c.update.new.store) c.in_ok-writes.ensures.exact c.update.ensures.killed

pub returns-in-Err-clause-killed : goal.returns-in-Err-clause-killed
returns-in-Err-clause-killed g c =
    over_fed (g.S.Source.objects c.args.store.now) (g.F.Feed.left c.args.feed.now) c.args.stored.now.dataset c.args.stored.now.scale c.in_ok-writes.writes (g.S.Source.history c.args.store.now) (g.S.Source.history c.update.new.store) c.in_ok-writes.ensures.exact c.update.ensures.killed
