use Rattle.std.proofs.Common.{◌≡◌, ◌↔◌, Err, IfSome, ◌≤◌, ◌+◌, subst}
use Rattle.std.specs.Prelude.{is_ok}
use Rattle.vol_spec.specs.Costs.{cost}
use Rattle.vol_spec.specs.Grid.{cells_in, Inside}
use Rattle.cutout.proofs.RunSteps.{run_asked}
use Rattle.cutout.specs.Kept.{Keeping}
use Rattle.cutout.specs.Reading.{HasCut}
use Rattle.cutout.specs.declared.fault.CutFault.TheVariants.{OutsideScale}
use Rattle.cutout.specs.Runs.{RunsOn}
use Rattle.cutout.proofs.keeping.KeepingReader.cutout.Goals as goal

pub returns-clause-run : goal.returns-clause-run
returns-clause-run g c =
    subst (λ (v : Keeping). IfSome (g.S.Source.objects c.args.store.now) (λ m. RunsOn (is_ok c.cut_box.result) m v.opened.dataset v.opened.scale (cells_in v.opened.scale c.args.part.now) (g.S.Source.asked c.args.store.now) (g.S.Source.asked c.cut_box.new.store) v.shards c.cut_box.new.self.shards))
    c.self.view_is c.cut_box.ensures.walks.run

pub returns-clause-asked : goal.returns-clause-asked
returns-clause-asked g c =
    subst (λ (v : Keeping). IfSome (g.S.Source.objects c.args.store.now) (λ m. g.S.Source.asked c.cut_box.new.store ≤ g.S.Source.asked c.args.store.now + cost m v.opened.dataset v.opened.scale c.args.part.now)) c.self.view_is
    (run_asked (g.S.Source.objects c.args.store.now) _ c.self.inside.origin.dataset c.self.inside.origin.scale c.args.part.now _ _ _ _ c.cut_box.ensures.walks.run)

pub returns-clause-outside : goal.returns-clause-outside
returns-clause-outside g c = subst (λ (v : Keeping). (c.cut_box.result ≡ Err OutsideScale) ↔ (Inside v.opened.scale c.args.part.now → ⊥)) c.self.view_is c.cut_box.ensures.outside

pub returns-clause-cut : goal.returns-clause-cut
returns-clause-cut g c = subst (λ (v : Keeping). IfSome (g.S.Source.objects c.args.store.now) (λ m. HasCut c.cut_box.result m v.opened.dataset v.opened.scale c.args.part.now c.cut_box.new.out)) c.self.view_is c.cut_box.ensures.cut
