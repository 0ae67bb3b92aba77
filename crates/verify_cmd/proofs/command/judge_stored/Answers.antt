use Rattle.std.proofs.Common.{◌≡◌, ◌≤◌, ◌+◌, ◌^◌, true, IfSome, arith}
use Rattle.command_base.proofs.Choices.{if_err}
use Rattle.command_base.proofs.StoredSteps.{of_stored}
use Rattle.command_base.specs.Statuses.{refuses}
use Rattle.verify_cmd.specs.Refusals.{verify_status}
use Rattle.verify_cmd.specs.Verified.{JudgesScale, part_in}
use Rattle.verify_cmd.specs.Verifying.{part_cost}
use Rattle.verify_cmd.proofs.AskedSteps.{asks_cells, asks_info}
use Rattle.verify_cmd.proofs.VerifySteps.{key_judges, unread_asked, unread_judges}
use Rattle.verify_cmd.proofs.command.judge_stored.Goals as goal

pub returns-in-Ok-clause-right : goal.returns-in-Ok-clause-right
returns-in-Ok-clause-right g c = record {
  judges =
      key_judges c.judge_scale.result (g.S.Source.objects c.args.store.now) (g.S.Source.objects c.read_scale.new.store) c.args.dataset.now c.args.key.now c.in-Ok.scale c.args.part.now
      c.read_scale.ensures.reads.kept.same_objects c.in-Ok.ensures.read
      (of_stored (λ d s. IfSome (g.S.Source.objects c.read_scale.new.store) (λ m. JudgesScale c.judge_scale.result m d s (part_in s c.args.part.now)))
      c.of-stored.result.dataset c.args.dataset.now c.of-stored.result.scale c.in-Ok.scale c.of-stored.ensures.dataset c.of-stored.ensures.scale c.judge_scale.ensures.judges);
  asked = c.judge_scale.ensures.asked;
}

pub returns-in-Err-clause-right : goal.returns-in-Err-clause-right
returns-in-Err-clause-right g c = record {
  judges =
      unread_judges c.in-Err.refusal c.from.result (g.S.Source.objects c.args.store.now) c.args.dataset.now c.args.key.now c.args.part.now c.from.ensures c.in-Err.ensures.read;
  asked = unread_asked c.in-Err.refusal c.from.result c.args.part.now c.from.ensures;
}

pub returns-in-Ok-clause-unread : goal.returns-in-Ok-clause-unread
returns-in-Ok-clause-unread g c =
    if_err c.judge_scale.result (λ refusal. refuses (verify_status refusal) ≡ true → g.S.Source.asked c.judge_scale.new.store ≡ g.S.Source.asked c.read_scale.new.store)
    (λ refusal. refuses (verify_status refusal) ≡ true → g.S.Source.asked c.judge_scale.new.store ≤ g.S.Source.asked c.args.store.now + (2 ^ 20 + 1))
    (λ refusal same is. let alone = same is in omega (arith, alone, c.read_scale.ensures.asked)) c.judge_scale.ensures.unread

pub returns-in-Ok-clause-cost : goal.returns-in-Ok-clause-cost
returns-in-Ok-clause-cost g c =
    asks_cells (g.S.Source.objects c.args.store.now) (g.S.Source.objects c.read_scale.new.store) c.args.dataset.now c.args.key.now c.in-Ok.scale c.args.part.now (g.S.Source.asked c.args.store.now)
    (g.S.Source.asked c.read_scale.new.store) (g.S.Source.asked c.judge_scale.new.store) c.read_scale.ensures.reads.kept.same_objects c.in-Ok.ensures.read c.read_scale.ensures.asked
    (of_stored (λ d s. IfSome (g.S.Source.objects c.read_scale.new.store) (λ m. g.S.Source.asked c.judge_scale.new.store ≤ g.S.Source.asked c.read_scale.new.store + part_cost m d s (part_in s c.args.part.now)))
    c.of-stored.result.dataset c.args.dataset.now c.of-stored.result.scale c.in-Ok.scale c.of-stored.ensures.dataset c.of-stored.ensures.scale c.judge_scale.ensures.asks.asked)

pub returns-in-Err-clause-cost : goal.returns-in-Err-clause-cost
returns-in-Err-clause-cost g c =
    asks_info (g.S.Source.objects c.args.store.now) c.args.dataset.now c.args.key.now c.args.part.now (g.S.Source.asked c.args.store.now) (g.S.Source.asked c.read_scale.new.store) c.read_scale.ensures.asked
