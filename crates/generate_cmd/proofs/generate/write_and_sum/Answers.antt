use Rattle.std.proofs.Common.{◌∙◌, Err, IfSome, ap, subst, sym}
use Rattle.write_plan.specs.Stream.{writes_of}
use Rattle.generate_cmd.proofs.GenerateSteps.{never_rose, summed_told, unsummed_told, unwritten_told}
use Rattle.generate_cmd.specs.Generating.{drawn}
use Rattle.write_cmd.specs.Storing.{PassesPut, WritesScale}
use Rattle.generate_cmd.proofs.generate.write_and_sum.Goals as goal

pub returns-in-Err-clause-generates : goal.returns-in-Err-clause-generates
returns-in-Err-clause-generates g c key =
    unwritten_told c.in-Err.refusal (g.S.Source.objects c.args.store.now) (g.S.Source.objects c.write_list.new.store) (writes_of c.new-list.result c.args.stored.now.scale) (drawn c.args.number c.args.count) c.args.stored.now.dataset key c.args.stored.now.scale
    c.requires.small.1 (λ fed. never_rose (c.write_list.ensures.feed_cause.failed (c.in-Err.is ∙ ap Err fed))) c.new-list.ensures.read c.in-Err.ensures.judges
    (subst (λ r. IfSome (g.S.Source.objects c.args.store.now) (λ m. WritesScale r m (g.S.Source.objects c.write_list.new.store) (writes_of c.new-list.result c.args.stored.now.scale) c.args.stored.now.dataset key c.args.stored.now.scale)) c.in-Err.is (c.write_list.ensures.writes key))

pub returns-in-Ok-sum_scale-clause-generates : goal.returns-in-Ok-sum_scale-clause-generates
returns-in-Ok-sum_scale-clause-generates g c key =
    summed_told c.in-Ok.written c.in-Ok-sum_scale.sum (g.S.Source.objects c.args.store.now) (g.S.Source.objects c.write_list.new.store) (g.S.Source.objects c.sum_scale.new.store) (writes_of c.new-list.result c.args.stored.now.scale)
    (drawn c.args.number c.args.count) c.args.stored.now.dataset key c.args.stored.now.scale c.requires.small.1 c.new-list.ensures.read c.sum_scale.ensures.reads.kept.same_objects
    (subst (λ r. IfSome (g.S.Source.objects c.args.store.now) (λ m. WritesScale r m (g.S.Source.objects c.write_list.new.store) (writes_of c.new-list.result c.args.stored.now.scale) c.args.stored.now.dataset key c.args.stored.now.scale)) c.in-Ok.is (c.write_list.ensures.writes key))
    c.in-Ok-sum_scale.ensures.sums

pub returns-in-Err-sum_scale-clause-generates : goal.returns-in-Err-sum_scale-clause-generates
returns-in-Err-sum_scale-clause-generates g c key =
    unsummed_told c.in-Err-sum_scale.refusal (g.S.Source.objects c.args.store.now) (g.S.Source.objects c.write_list.new.store) (g.S.Source.objects c.sum_scale.new.store) (writes_of c.new-list.result c.args.stored.now.scale)
    (drawn c.args.number c.args.count) c.args.stored.now.dataset key c.args.stored.now.scale c.in-Ok.written c.requires.small.1 c.in-Err-sum_scale.ensures.refused c.new-list.ensures.read c.sum_scale.ensures.reads.kept.same_objects
    (subst (λ r. IfSome (g.S.Source.objects c.args.store.now) (λ m. WritesScale r m (g.S.Source.objects c.write_list.new.store) (writes_of c.new-list.result c.args.stored.now.scale) c.args.stored.now.dataset key c.args.stored.now.scale)) c.in-Ok.is (c.write_list.ensures.writes key))
    c.in-Err-sum_scale.ensures.sums

pub returns-in-Err-clause-killed : goal.returns-in-Err-clause-killed
returns-in-Err-clause-killed g c = subst (λ list. PassesPut list c.args.stored.now.dataset c.args.stored.now.scale (g.S.Source.objects c.args.store.now) (g.S.Source.history c.args.store.now) (g.S.Source.history c.write_list.new.store)) c.new-list.ensures.read c.write_list.ensures.killed

pub returns-in-Ok-sum_scale-clause-killed : goal.returns-in-Ok-sum_scale-clause-killed
returns-in-Ok-sum_scale-clause-killed g c =
    subst (λ h. PassesPut (drawn c.args.number c.args.count c.args.stored.now.scale) c.args.stored.now.dataset c.args.stored.now.scale (g.S.Source.objects c.args.store.now) (g.S.Source.history c.args.store.now) h) (sym c.sum_scale.ensures.reads.history)
    (subst (λ list. PassesPut list c.args.stored.now.dataset c.args.stored.now.scale (g.S.Source.objects c.args.store.now) (g.S.Source.history c.args.store.now) (g.S.Source.history c.write_list.new.store)) c.new-list.ensures.read c.write_list.ensures.killed)

pub returns-in-Err-sum_scale-clause-killed : goal.returns-in-Err-sum_scale-clause-killed
returns-in-Err-sum_scale-clause-killed g c =
    subst (λ h. PassesPut (drawn c.args.number c.args.count c.args.stored.now.scale) c.args.stored.now.dataset c.args.stored.now.scale (g.S.Source.objects c.args.store.now) (g.S.Source.history c.args.store.now) h) (sym c.sum_scale.ensures.reads.history)
    (subst (λ list. PassesPut list c.args.stored.now.dataset c.args.stored.now.scale (g.S.Source.objects c.args.store.now) (g.S.Source.history c.args.store.now) (g.S.Source.history c.write_list.new.store)) c.new-list.ensures.read c.write_list.ensures.killed)
