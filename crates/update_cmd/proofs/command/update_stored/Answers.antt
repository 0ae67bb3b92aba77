use Rattle.std.proofs.Common.{◌∙◌, ◌⊎◌, IfSome, Ok, ap, subst, sym}
use Rattle.command_base.proofs.StoredSteps.{of_stored}
use Rattle.command_base.specs.Scales.{HasOneSize}
use Rattle.shard_writer.specs.Writing.{Drops}
use Rattle.update_cmd.specs.Answering.{AnswersScale, BeginsUpdate, JudgesUpdate, PassesOver}
use Rattle.vol_spec.specs.Writable.{IsWritable}
use Rattle.vol_spec.specs.declared.scale.Scale.{Scale}
use Rattle.write_plan.specs.Stream.{writes_of}
use Rattle.write_cmd.proofs.MomentSteps.{none_passed}
use Rattle.update_cmd.proofs.MomentSteps.{over_stored}
use Rattle.update_cmd.proofs.AnswerSteps.{drops_read, drops_unread, key_judges, key_told, leaves_read, unread_document, unread_feed, unread_judges, unread_leaves, unread_told}
use Rattle.update_cmd.proofs.BegunSteps.{begun_stored}
use Rattle.write_cmd.proofs.WriteSteps.{takes_none}
use Rattle.update_cmd.proofs.command.update_stored.Goals as goal

pub update_scale-requires-clause-writable : goal.update_scale-requires-clause-writable
update_scale-requires-clause-writable g c κs within = subst IsWritable (sym c.of-stored.ensures.scale) c.in-Ok.ensures.writable

pub update_scale-requires-clause-one : goal.update_scale-requires-clause-one
update_scale-requires-clause-one g c κs within = subst HasOneSize (sym c.of-stored.ensures.scale) c.in-Ok.ensures.one

pub returns-in-Ok-clause-judges : goal.returns-in-Ok-clause-judges
returns-in-Ok-clause-judges g c = key_judges c.update_scale.result (g.S.Source.objects c.args.store.now) c.args.dataset.now c.args.key.now c.in-Ok.scale c.in-Ok.ensures.read
    (subst (λ s. JudgesUpdate c.update_scale.result (Ok s)) c.of-stored.ensures.scale c.update_scale.ensures.judges)

pub returns-in-Ok-clause-answers : goal.returns-in-Ok-clause-answers
returns-in-Ok-clause-answers g c =
    key_told c.update_scale.result (g.S.Source.objects c.args.store.now) (g.S.Source.objects c.read_writable.new.store) (g.S.Source.objects c.update_scale.new.store) (g.F.Feed.left c.args.feed.now) c.args.dataset.now c.args.key.now c.in-Ok.scale
    c.read_writable.ensures.reads.kept.same_objects c.in-Ok.ensures.read
    (of_stored (λ d s. IfSome (g.S.Source.objects c.read_writable.new.store) (λ m. IfSome (g.F.Feed.left c.args.feed.now) (λ bytes. AnswersScale c.update_scale.result m (g.S.Source.objects c.update_scale.new.store) (writes_of bytes s) d c.args.key.now s)))
    c.of-stored.result.dataset c.args.dataset.now c.of-stored.result.scale c.in-Ok.scale c.of-stored.ensures.dataset c.of-stored.ensures.scale (c.update_scale.ensures.answers c.args.key.now))

pub returns-in-Ok-clause-store : goal.returns-in-Ok-clause-store
returns-in-Ok-clause-store g c =
    leaves_read c.update_scale.result (g.S.Source.objects c.args.store.now) (g.S.Source.objects c.read_writable.new.store) (g.S.Source.objects c.update_scale.new.store) (g.S.Source.draft c.args.store.now) (g.S.Source.draft c.read_writable.new.store)
    (g.S.Source.draft c.update_scale.new.store) c.read_writable.ensures.reads.kept.same_objects c.read_writable.ensures.reads.kept.same_draft c.update_scale.ensures.store

pub returns-in-Ok-clause-unsharded : goal.returns-in-Ok-clause-unsharded
returns-in-Ok-clause-unsharded g c =
    drops_read (g.S.Source.objects c.args.store.now) c.args.dataset.now c.args.key.now c.in-Ok.scale (g.S.Source.draft c.args.store.now) (g.S.Source.draft c.read_writable.new.store) (g.S.Source.draft c.update_scale.new.store)
    c.read_writable.ensures.reads.kept.same_draft c.in-Ok.ensures.read
    (λ unsharded. c.update_scale.ensures.unsharded (ap (λ (s : Scale). s.sharding) c.of-stored.ensures.scale ∙ unsharded))

pub returns-in-Err-clause-judges : goal.returns-in-Err-clause-judges
returns-in-Err-clause-judges g c = unread_judges c.in-Err.refusal (g.S.Source.objects c.args.store.now) c.args.dataset.now c.args.key.now c.in-Err.ensures.read

pub returns-in-Err-clause-answers : goal.returns-in-Err-clause-answers
returns-in-Err-clause-answers g c =
    unread_told c.in-Err.refusal (g.S.Source.objects c.args.store.now) (g.S.Source.objects c.read_writable.new.store) (g.F.Feed.left c.args.feed.now) c.args.dataset.now c.args.key.now c.read_writable.ensures.reads.kept.same_objects c.in-Err.ensures.read

pub returns-in-Err-clause-feed : goal.returns-in-Err-clause-feed
returns-in-Err-clause-feed g c = unread_feed c.in-Err.refusal (g.F.Feed.left c.args.feed.now)

pub returns-in-Ok-clause-document : goal.returns-in-Ok-clause-document
returns-in-Ok-clause-document g c = c.update_scale.ensures.document (g.S.Source.asked c.args.store.now) (g.S.Source.asked c.update_scale.new.store)

pub returns-in-Err-clause-document : goal.returns-in-Err-clause-document
returns-in-Err-clause-document g c =
    unread_document c.in-Err.refusal (g.S.Source.asked c.args.store.now) (g.S.Source.asked c.read_writable.new.store) c.read_writable.ensures.asked

pub returns-in-Err-clause-store : goal.returns-in-Err-clause-store
returns-in-Err-clause-store g c =
    unread_leaves c.in-Err.refusal (g.S.Source.objects c.args.store.now) (g.S.Source.objects c.read_writable.new.store) (g.S.Source.draft c.args.store.now) (g.S.Source.draft c.read_writable.new.store) c.read_writable.ensures.reads.kept

pub returns-in-Err-clause-unsharded : goal.returns-in-Err-clause-unsharded
returns-in-Err-clause-unsharded g c =
    drops_unread (g.S.Source.objects c.args.store.now) c.args.dataset.now c.args.key.now (g.S.Source.draft c.args.store.now) (g.S.Source.draft c.read_writable.new.store) c.read_writable.ensures.reads.kept.same_draft

pub returns-in-Err-clause-took : goal.returns-in-Err-clause-took
returns-in-Err-clause-took g c = takes_none (g.F.Feed.left c.args.feed.now)

pub returns-in-Ok-clause-begun : goal.returns-in-Ok-clause-begun
returns-in-Ok-clause-begun g c =
    begun_stored (g.S.Source.objects c.args.store.now) (g.S.Source.objects c.read_writable.new.store) (g.S.Source.objects c.update_scale.new.store) (g.F.Feed.left c.args.feed.now) c.args.dataset.now c.args.key.now c.in-Ok.scale
    (g.S.Source.draft c.args.store.now) (g.S.Source.draft c.read_writable.new.store) (g.S.Source.draft c.update_scale.new.store)
    c.read_writable.ensures.reads.kept.same_objects c.read_writable.ensures.reads.kept.same_draft c.in-Ok.ensures.read
    (of_stored (λ d s. Drops (g.S.Source.draft c.read_writable.new.store) (g.S.Source.draft c.update_scale.new.store) ⊎ IfSome (g.S.Source.objects c.read_writable.new.store) (λ m. IfSome (g.F.Feed.left c.args.feed.now) (λ bytes. BeginsUpdate m (g.S.Source.objects c.update_scale.new.store) (writes_of bytes s) d s (g.S.Source.draft c.update_scale.new.store))))
    c.of-stored.result.dataset c.args.dataset.now c.of-stored.result.scale c.in-Ok.scale c.of-stored.ensures.dataset c.of-stored.ensures.scale c.update_scale.ensures.begun)

pub returns-in-Ok-clause-killed : goal.returns-in-Ok-clause-killed
returns-in-Ok-clause-killed g c =
    over_stored (g.S.Source.objects c.args.store.now) (g.S.Source.objects c.read_writable.new.store) (g.F.Feed.left c.args.feed.now) c.args.dataset.now c.args.key.now c.in-Ok.scale (g.S.Source.history c.args.store.now) (g.S.Source.history c.read_writable.new.store) (g.S.Source.history c.update_scale.new.store)
    c.read_writable.ensures.reads.kept.same_objects c.read_writable.ensures.reads.history c.in-Ok.ensures.read
    (of_stored (λ d s. IfSome (g.F.Feed.left c.args.feed.now) (λ bytes. PassesOver (writes_of bytes s) d s (g.S.Source.objects c.read_writable.new.store) (g.S.Source.history c.read_writable.new.store) (g.S.Source.history c.update_scale.new.store)))
    c.of-stored.result.dataset c.args.dataset.now c.of-stored.result.scale c.in-Ok.scale c.of-stored.ensures.dataset c.of-stored.ensures.scale c.update_scale.ensures.killed)

pub returns-in-Err-clause-killed : goal.returns-in-Err-clause-killed
returns-in-Err-clause-killed g c = none_passed (g.F.Feed.left c.args.feed.now) _ (g.S.Source.history c.args.store.now) (g.S.Source.history c.read_writable.new.store) c.read_writable.ensures.reads.history
