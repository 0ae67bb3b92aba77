use Rattle.std.proofs.Common.{◌≡◌, ◌∙◌, IfSome, false, subst, sym}
use Rattle.vol_base.specs.Outside.{any_under}
use Rattle.vol_spec.specs.CellNames.{folder_of}
use Rattle.write_cmd.proofs.MomentSteps.{key_passed, none_passed}
use Rattle.write_cmd.proofs.StreamSteps.{folder_found, key_told}
use Rattle.write_cmd.proofs.WriteSteps.{takes_none}
use Rattle.write_cmd.proofs.write.write_objects.Goals as goal

pub write_list-requires-clause-empty : goal.write_list-requires-clause-empty
write_list-requires-clause-empty g c κs within =
    subst (λ o. IfSome o (λ m. any_under m (folder_of c.args.dataset.now c.in_ok-scale.scale) ≡ false)) (sym c.any_under.ensures.kept.same_objects)
    (folder_found (g.S.Source.objects c.read_scale.new.store) c.find_folder.result c.args.dataset.now c.in_ok-scale.scale c.in-Ok-false.field-0 false c.find_folder.ensures c.in-Ok-false.field-0-test c.in-Ok-false.ensures.found)

pub returns-clause-writes : goal.returns-clause-writes
returns-clause-writes g c =
    key_told c.write_list.result (g.S.Source.objects c.args.store.now) (g.S.Source.objects c.any_under.new.self) (g.S.Source.objects c.write_list.new.store) (g.F.Feed.left c.args.feed.now)
    c.args.dataset.now c.args.key.now c.in_ok-scale.scale (c.any_under.ensures.kept.same_objects ∙ c.read_scale.ensures.reads.kept.same_objects) c.in_ok-scale.ensures.read (c.write_list.ensures.writes c.args.key.now)

pub returns-in_err-scale-clause-took : goal.returns-in_err-scale-clause-took
returns-in_err-scale-clause-took g c = takes_none (g.F.Feed.left c.args.feed.now)

pub returns-in_err-scale-clause-killed : goal.returns-in_err-scale-clause-killed
returns-in_err-scale-clause-killed g c = none_passed (g.F.Feed.left c.args.feed.now) _ (g.S.Source.history c.args.store.now) (g.S.Source.history c.read_scale.new.store) c.read_scale.ensures.reads.history

pub returns-in_err-judge_limit-clause-killed : goal.returns-in_err-judge_limit-clause-killed
returns-in_err-judge_limit-clause-killed g c = none_passed (g.F.Feed.left c.args.feed.now) _ (g.S.Source.history c.args.store.now) (g.S.Source.history c.read_scale.new.store) c.read_scale.ensures.reads.history

pub returns-in-Ok-true-clause-killed : goal.returns-in-Ok-true-clause-killed
returns-in-Ok-true-clause-killed g c = none_passed (g.F.Feed.left c.args.feed.now) _ (g.S.Source.history c.args.store.now) (g.S.Source.history c.any_under.new.self) (c.any_under.ensures.history ∙ c.read_scale.ensures.reads.history)

pub returns-in-Err-clause-killed : goal.returns-in-Err-clause-killed
returns-in-Err-clause-killed g c = none_passed (g.F.Feed.left c.args.feed.now) _ (g.S.Source.history c.args.store.now) (g.S.Source.history c.any_under.new.self) (c.any_under.ensures.history ∙ c.read_scale.ensures.reads.history)

pub returns-clause-killed : goal.returns-clause-killed
returns-clause-killed g c =
    key_passed (g.S.Source.objects c.args.store.now) (g.S.Source.objects c.any_under.new.self) (g.F.Feed.left c.args.feed.now) c.args.dataset.now c.args.key.now c.in_ok-scale.scale (g.S.Source.history c.args.store.now) (g.S.Source.history c.any_under.new.self) (g.S.Source.history c.write_list.new.store)
    (c.any_under.ensures.kept.same_objects ∙ c.read_scale.ensures.reads.kept.same_objects) (c.any_under.ensures.history ∙ c.read_scale.ensures.reads.history) c.in_ok-scale.ensures.read c.write_list.ensures.killed
