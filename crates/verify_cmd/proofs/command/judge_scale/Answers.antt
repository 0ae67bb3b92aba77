use Rattle.std.proofs.Common.{◌≡◌, rules}
use Rattle.vol_spec.specs.Grid.{whole}
use Rattle.verify_cmd.proofs.AskedSteps.{asked_part}
use Rattle.verify_cmd.proofs.UnreadSteps.{refused_unread}
use Rattle.verify_cmd.proofs.VerifySteps.{bounded, found_judges, refused_asked, refused_judges}
use Rattle.verify_cmd.proofs.command.judge_scale.Goals as goal

pub returns-in-Ok-clause-judges : goal.returns-in-Ok-clause-judges
returns-in-Ok-clause-judges g c =
    found_judges c.verify.result c.args.stored.now.scale c.pick_part-chosen.result (bounded c.verify.result c.args.stored.now.scale c.pick_part-chosen.result c.verify.ensures.outside c.verify.ensures.too_many c.verify.ensures.judged)
    c.in-Ok.report (g.S.Source.objects c.args.store.now) c.args.stored.now.dataset c.args.part.now c.in-Ok.is c.pick_part-chosen.ensures c.in-Ok.ensures.verified

pub returns-in-Err-clause-judges : goal.returns-in-Err-clause-judges
returns-in-Err-clause-judges g c =
    refused_judges c.verify.result c.args.stored.now.scale c.pick_part-chosen.result (bounded c.verify.result c.args.stored.now.scale c.pick_part-chosen.result c.verify.ensures.outside c.verify.ensures.too_many c.verify.ensures.judged)
    c.in-Err.fault c.refuse.result (g.S.Source.objects c.args.store.now) c.args.stored.now.dataset c.args.part.now c.in-Err.is c.refuse.ensures c.pick_part-chosen.ensures c.in-Err.ensures.verified

pub returns-in-Err-clause-asked : goal.returns-in-Err-clause-asked
returns-in-Err-clause-asked g c =
    refused_asked c.verify.result c.args.stored.now.scale c.pick_part-chosen.result (bounded c.verify.result c.args.stored.now.scale c.pick_part-chosen.result c.verify.ensures.outside c.verify.ensures.too_many c.verify.ensures.judged)
    c.in-Err.fault c.refuse.result c.args.part.now c.in-Err.is c.refuse.ensures c.pick_part-chosen.ensures

pub returns-in-Err-clause-unread : goal.returns-in-Err-clause-unread
returns-in-Err-clause-unread g c =
    refused_unread c.verify.result c.in-Err.fault c.refuse.result c.pick_part-chosen.result (whole c.args.stored.now.scale) (g.S.Source.asked c.verify.new.store ≡ g.S.Source.asked c.args.store.now) c.in-Err.is c.refuse.ensures
    c.verify.ensures.unasked c.verify.ensures.uncounted

pub returns-in-Ok-clause-asks : goal.returns-in-Ok-clause-asks
returns-in-Ok-clause-asks g c = record {
  asked = asked_part (g.S.Source.objects c.args.store.now) c.args.stored.now.dataset c.args.stored.now.scale c.pick_part-chosen.result c.args.part.now (g.S.Source.asked c.args.store.now) (g.S.Source.asked c.verify.new.store) c.pick_part-chosen.ensures c.verify.ensures.asked;
  reads = search rules;
}

pub returns-in-Err-clause-asks : goal.returns-in-Err-clause-asks
returns-in-Err-clause-asks g c = record {
  asked = asked_part (g.S.Source.objects c.args.store.now) c.args.stored.now.dataset c.args.stored.now.scale c.pick_part-chosen.result c.args.part.now (g.S.Source.asked c.args.store.now) (g.S.Source.asked c.verify.new.store) c.pick_part-chosen.ensures c.verify.ensures.asked;
  reads = search rules;
}
