use Rattle.std.proofs.Common.{◌≡◌, ◌≤◌, ◌+◌, ◌^◌, true, IfSome, ap, arith}
use Rattle.command_base.proofs.Choices.{if_err}
use Rattle.command_base.proofs.StoredSteps.{of_stored}
use Rattle.command_base.specs.Statuses.{refuses}
use Rattle.cutout_cmd.specs.Cutouts.{CutsScale, parts_cost}
use Rattle.cutout_cmd.specs.Refusals.{cutout_status}
use Rattle.cutout_cmd.proofs.AnswerSteps.{key_cuts}
use Rattle.cutout_cmd.proofs.AskSteps.{asks_cells, asks_info}
use Rattle.cutout_cmd.proofs.cut_out.cut_out.Goals as goal

pub returns-in_err-scale-clause-asked : goal.returns-in_err-scale-clause-asked
returns-in_err-scale-clause-asked g c =
    asks_info (g.S.Source.objects c.args.store.now) c.args.dataset.now c.args.key.now c.args.part.now (g.S.Source.asked c.args.store.now) (g.S.Source.asked c.read_scale.new.store) c.read_scale.ensures.asked

pub returns-clause-cuts : goal.returns-clause-cuts
returns-clause-cuts g c =
    key_cuts c.cut_scale.result (g.S.Source.objects c.args.store.now) (g.S.Source.objects c.read_scale.new.store) c.args.dataset.now c.args.key.now c.in_ok-scale.scale c.args.part.now (g.O.Outlet.written c.args.out.now) (g.O.Outlet.written c.cut_scale.new.out)
    c.read_scale.ensures.reads.kept.same_objects c.in_ok-scale.ensures.read
    (of_stored (λ d s. IfSome (g.S.Source.objects c.read_scale.new.store) (λ m. CutsScale c.cut_scale.result m d s c.args.part.now (g.O.Outlet.written c.args.out.now) (g.O.Outlet.written c.cut_scale.new.out)))
    c.of-stored.result.dataset c.args.dataset.now c.of-stored.result.scale c.in_ok-scale.scale c.of-stored.ensures.dataset c.of-stored.ensures.scale c.cut_scale.ensures.cuts)

pub returns-clause-asked : goal.returns-clause-asked
returns-clause-asked g c =
    asks_cells (g.S.Source.objects c.args.store.now) (g.S.Source.objects c.read_scale.new.store) c.args.dataset.now c.args.key.now c.in_ok-scale.scale c.args.part.now (g.S.Source.asked c.args.store.now)
    (g.S.Source.asked c.read_scale.new.store) (g.S.Source.asked c.cut_scale.new.store) c.read_scale.ensures.reads.kept.same_objects c.in_ok-scale.ensures.read c.read_scale.ensures.asked
    (of_stored (λ d s. IfSome (g.S.Source.objects c.read_scale.new.store) (λ m. g.S.Source.asked c.cut_scale.new.store ≤ g.S.Source.asked c.read_scale.new.store + parts_cost m d s c.args.part.now))
    c.of-stored.result.dataset c.args.dataset.now c.of-stored.result.scale c.in_ok-scale.scale c.of-stored.ensures.dataset c.of-stored.ensures.scale c.cut_scale.ensures.asked)

pub returns-clause-unread : goal.returns-clause-unread
returns-clause-unread g c =
    if_err c.cut_scale.result (λ refusal. refuses (cutout_status refusal) ≡ true → c.cut_scale.new.store ≡ c.read_scale.new.store)
    (λ refusal. refuses (cutout_status refusal) ≡ true → g.S.Source.asked c.cut_scale.new.store ≤ g.S.Source.asked c.args.store.now + (2 ^ 20 + 1))
    (λ refusal same is. let alone = ap g.S.Source.asked (same is) in omega (arith, alone, c.read_scale.ensures.asked)) c.cut_scale.ensures.unasked
