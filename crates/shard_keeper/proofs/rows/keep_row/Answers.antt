use Rattle.std.proofs.Common.{◌∙◌, refl, sym}
use Rattle.shard_keeper.proofs.AddSteps.{added_more, row_ascends}
use Rattle.shard_keeper.proofs.KeepSteps.{fault_here, kept_more}
use Rattle.shard_keeper.proofs.rows.keep_row.Goals as goal

pub returns-in-Err-clause-keeps : goal.returns-in-Err-clause-keeps
returns-in-Err-clause-keeps c = λ k first n was stored below.
    fault_here k c.args.sharding.now c.args.home.now.shard c.args.home.now.minishard first n c.args.walk.now c.args.kept.now.items c.in-Err.fault _ (sym (c.next_row.ensures.judged k was.walked stored) ∙ c.in-Err.is) below was refl

pub returns-in-Ok-keep_id-clause-keeps : goal.returns-in-Ok-keep_id-clause-keeps
returns-in-Ok-keep_id-clause-keeps c = λ k first n was stored below.
    kept_more k c.args.sharding.now c.args.home.now.shard c.args.home.now.minishard first c.args.walk.now c.next_row.new.self c.args.kept.now.items c.keep_id.new.kept.items c.in-Ok.row
    (sym (c.next_row.ensures.judged k was.walked stored) ∙ c.in-Ok.is) was (c.in-Ok.ensures.walked k was.walked stored) c.in-Ok.ensures.rows c.in-Ok-keep_id.ensures.kept

pub returns-in-Ok-keep_id-clause-added : goal.returns-in-Ok-keep_id-clause-added
returns-in-Ok-keep_id-clause-added c = λ first had.
    added_more c.args.sharding.now c.args.home.now.shard c.args.home.now.minishard first c.args.walk.now c.next_row.new.self c.args.kept.now.items c.keep_id.new.kept.items c.in-Ok.row.id had
    (row_ascends c.args.walk.now c.next_row.new.self c.next_row.result c.in-Ok.row c.args.id c.args.start c.args.size c.in-Ok.is c.next_row.ensures.judged c.in-Ok.ensures.walked c.in-Ok.ensures.rows (λ none. ((had.begun none).1, (had.begun none).2)))
    c.in-Ok.ensures.rows c.in-Ok-keep_id.ensures.kept
