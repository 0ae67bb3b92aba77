use Rattle.std.proofs.Common.{◌≡◌, ◌+◌, ◌≤◌, IfSome, subst}
use Rattle.cutout_cmd.specs.Cutouts.{CutsScale, parts_cost}
use Rattle.cutout_cmd.proofs.UnreadSteps.{never_refused}
use Rattle.cutout_cmd.proofs.cut_out.cut_scale.Goals as goal

pub returns-clause-cuts : goal.returns-clause-cuts
returns-clause-cuts g c =
    subst (λ d. IfSome (g.S.Source.objects c.args.store.now) (λ m. CutsScale c.stream_part.result m d c.args.stored.now.scale c.args.part.now (g.O.Outlet.written c.args.out.now) (g.O.Outlet.written c.stream_part.new.out))) c.in_ok-reader.ensures.dataset
    (subst (λ s. IfSome (g.S.Source.objects c.args.store.now) (λ m. CutsScale c.stream_part.result m c.in_ok-reader.reader.dataset s c.args.part.now (g.O.Outlet.written c.args.out.now) (g.O.Outlet.written c.stream_part.new.out))) c.in_ok-reader.ensures.scale
    c.stream_part.ensures.cuts)

pub returns-clause-asked : goal.returns-clause-asked
returns-clause-asked g c =
    subst (λ d. IfSome (g.S.Source.objects c.args.store.now) (λ m. g.S.Source.asked c.stream_part.new.store ≤ g.S.Source.asked c.args.store.now + parts_cost m d c.args.stored.now.scale c.args.part.now)) c.in_ok-reader.ensures.dataset
    (subst (λ s. IfSome (g.S.Source.objects c.args.store.now) (λ m. g.S.Source.asked c.stream_part.new.store ≤ g.S.Source.asked c.args.store.now + parts_cost m c.in_ok-reader.reader.dataset s c.args.part.now)) c.in_ok-reader.ensures.scale
    c.stream_part.ensures.asked)

pub returns-clause-unasked : goal.returns-clause-unasked
returns-clause-unasked g c = never_refused c.stream_part.result (c.stream_part.new.store ≡ c.args.store.now) c.stream_part.ensures.broken

pub returns-clause-unprinted : goal.returns-clause-unprinted
returns-clause-unprinted g c = never_refused c.stream_part.result (c.stream_part.new.out ≡ c.args.out.now) c.stream_part.ensures.broken
