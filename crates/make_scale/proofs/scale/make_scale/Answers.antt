use Rattle.std.proofs.Common.{◌≡◌, false, refl}
use Rattle.vol_base.specs.Outside.{any_under}
use Rattle.vol_base.proofs.Moments.{passes_none}
use Rattle.vol_spec.specs.CellNames.{folder_of}
use Rattle.shard_writer.proofs.FrontSteps.{passed_behind}
use Rattle.make_scale.proofs.AnswerSteps.{few_cells, folder_judged, folder_kept, folder_told, scales_judged, scales_kept, scales_told, told_in}
use Rattle.make_scale.proofs.scale.make_scale.Goals as goal

pub returns-in-Err-clause-judges : goal.returns-in-Err-clause-judges
returns-in-Err-clause-judges g c =
    scales_judged (g.M.Making.differs c.args.making.now c.args.from.now.scale c.args.to.now.scale) (g.M.Making.fits c.args.making.now c.args.from.now.scale c.args.to.now.scale) c.in-Err.fault c.args.from.now.scale c.args.to.now.scale c.in-Err.ensures.early
    c.in-Err.ensures.judges

pub returns-in-Err-clause-makes : goal.returns-in-Err-clause-makes
returns-in-Err-clause-makes g c =
    scales_told (λ m. g.M.Making.says c.args.making.now m (g.S.Source.objects c.args.store.now) c.args.from.now.dataset c.args.from.now.scale c.args.to.now.dataset c.args.to.now.scale) c.in-Err.fault (g.S.Source.objects c.args.store.now) c.args.to.now.dataset c.args.to.now.scale
    c.in-Err.ensures.early

pub returns-in-Err-clause-kept : goal.returns-in-Err-clause-kept
returns-in-Err-clause-kept g c = scales_kept c.in-Err.fault (g.S.Source.objects c.args.store.now) (g.S.Source.draft c.args.store.now) c.in-Err.ensures.early

pub returns-in-Err-judge_folder-clause-judges : goal.returns-in-Err-judge_folder-clause-judges
returns-in-Err-judge_folder-clause-judges g c =
    folder_judged (g.M.Making.differs c.args.making.now c.args.from.now.scale c.args.to.now.scale) (g.M.Making.fits c.args.making.now c.args.from.now.scale c.args.to.now.scale) c.in-Err-judge_folder.refusal c.args.from.now.scale c.args.to.now.scale
    c.in-Err-judge_folder.ensures.early c.in-Ok.ensures.judges

pub returns-in-Err-judge_folder-clause-makes : goal.returns-in-Err-judge_folder-clause-makes
returns-in-Err-judge_folder-clause-makes g c =
    folder_told (λ m. g.M.Making.says c.args.making.now m (g.S.Source.objects c.judge_folder.new.store) c.args.from.now.dataset c.args.from.now.scale c.args.to.now.dataset c.args.to.now.scale) c.in-Err-judge_folder.refusal (g.S.Source.objects c.args.store.now)
    (g.S.Source.objects c.judge_folder.new.store) c.args.to.now.dataset c.args.to.now.scale c.in-Err-judge_folder.ensures.early c.judge_folder.ensures.reads.kept.same_objects c.in-Err-judge_folder.ensures.empty

pub returns-in-Err-judge_folder-clause-kept : goal.returns-in-Err-judge_folder-clause-kept
returns-in-Err-judge_folder-clause-kept g c =
    folder_kept c.in-Err-judge_folder.refusal (g.S.Source.objects c.args.store.now) (g.S.Source.objects c.judge_folder.new.store) (g.S.Source.draft c.args.store.now) (g.S.Source.draft c.judge_folder.new.store)
    c.in-Err-judge_folder.ensures.early c.judge_folder.ensures.reads.kept

pub write_made-requires-clause-few : goal.write_made-requires-clause-few
write_made-requires-clause-few g c κs within = few_cells c.args.from.now.scale c.args.to.now.scale c.in-Ok.ensures.judges.1

pub write_made-requires-clause-empty : goal.write_made-requires-clause-empty
write_made-requires-clause-empty g c κs within =
    told_in (g.S.Source.objects c.args.store.now) (g.S.Source.objects c.judge_folder.new.store) (λ m. any_under m (folder_of c.args.to.now.dataset c.args.to.now.scale) ≡ false) c.judge_folder.ensures.reads.kept.same_objects
    c.in-Ok-judge_folder.ensures.empty

pub returns-in-Err-clause-killed : goal.returns-in-Err-clause-killed
returns-in-Err-clause-killed g c = passes_none _ _ _ refl

pub returns-in-Err-judge_folder-clause-killed : goal.returns-in-Err-judge_folder-clause-killed
returns-in-Err-judge_folder-clause-killed g c = passes_none _ _ _ c.judge_folder.ensures.reads.history

pub returns-in_err-written-clause-killed : goal.returns-in_err-written-clause-killed
returns-in_err-written-clause-killed g c =
    passed_behind (λ m. g.M.Making.due c.args.making.now m c.args.from.now.dataset c.args.from.now.scale c.args.to.now.dataset c.args.to.now.scale) (g.S.Source.objects c.args.store.now) (g.S.Source.objects c.judge_folder.new.store) (g.S.Source.history c.args.store.now) (g.S.Source.history c.judge_folder.new.store) (g.S.Source.history c.write_made.new.store)
    c.judge_folder.ensures.reads.kept.same_objects c.judge_folder.ensures.reads.history c.write_made.ensures.killed

pub returns-clause-killed : goal.returns-clause-killed
returns-clause-killed g c =
    passed_behind (λ m. g.M.Making.due c.args.making.now m c.args.from.now.dataset c.args.from.now.scale c.args.to.now.dataset c.args.to.now.scale) (g.S.Source.objects c.args.store.now) (g.S.Source.objects c.judge_folder.new.store) (g.S.Source.history c.args.store.now) (g.S.Source.history c.judge_folder.new.store) (g.S.Source.history c.write_made.new.store)
    c.judge_folder.ensures.reads.kept.same_objects c.judge_folder.ensures.reads.history c.write_made.ensures.killed
