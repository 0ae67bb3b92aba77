use Rattle.std.proofs.Common.{◌≡◌, ◌↔◌, Err, IfSome, ◌≤◌, ◌+◌, subst}
use Rattle.vol_spec.specs.Costs.{cost}
use Rattle.cutout.proofs.RunSteps.{run_asked}
use Rattle.cutout.proofs.ServeSteps.{serves_none}
use Rattle.vol_spec.specs.Grid.{Inside}
use Rattle.cutout.specs.Reading.{HasCut}
use Rattle.cutout.specs.declared.fault.CutFault.TheVariants.{OutsideScale}
use Rattle.cutout.specs.Opened.{Opened}
use Rattle.cutout.proofs.reader.Reader.cutout.Goals as goal

pub cut_box-requires-clause-serves : goal.cut_box-requires-clause-serves
cut_box-requires-clause-serves g c = serves_none (g.S.Source.objects c.args.store.now) c.self.inside.origin (record c.self.inside.cells { shards = c.forget.new.self }) (record { chunk = c.self.invariant.chunk; values = c.self.invariant.values }) c.forget.ensures

pub returns-clause-asked : goal.returns-clause-asked
returns-clause-asked g c =
    subst (λ (v : Opened). IfSome (g.S.Source.objects c.args.store.now) (λ m. g.S.Source.asked c.cut_box.new.store ≤ g.S.Source.asked c.args.store.now + cost m v.dataset v.scale c.args.part.now)) c.self.view_is
    (run_asked (g.S.Source.objects c.args.store.now) _ c.self.inside.origin.dataset c.self.inside.origin.scale c.args.part.now _ _ _ _ c.cut_box.ensures.walks.run)

pub returns-clause-outside : goal.returns-clause-outside
returns-clause-outside g c = subst (λ (v : Opened). (c.cut_box.result ≡ Err OutsideScale) ↔ (Inside v.scale c.args.part.now → ⊥)) c.self.view_is c.cut_box.ensures.outside

pub returns-clause-cut : goal.returns-clause-cut
returns-clause-cut g c = subst (λ (v : Opened). IfSome (g.S.Source.objects c.args.store.now) (λ m. HasCut c.cut_box.result m v.dataset v.scale c.args.part.now c.cut_box.new.out)) c.self.view_is c.cut_box.ensures.cut
