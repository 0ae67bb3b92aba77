use Rattle.std.proofs.Common.{IfSome, Ok, subst}
use Rattle.vol_spec.specs.declared.scale.Scale.{Scale}
use Rattle.cutout.specs.Reading.{HasCut}
use Rattle.view_judge.proofs.BoxSteps.{compares}
use Rattle.view_judge.proofs.boxes.compare_view.Goals as goal

pub returns-in-Ok-clause-judged : goal.returns-in-Ok-clause-judged
returns-in-Ok-clause-judged g c =
    compares (g.S.Source.objects c.args.store.now) c.args.reader.now.dataset c.args.number c.args.view.now c.args.part.now c.cutout.new.out c.args.wanted.now tt c.compare_box.result c.requires.inside (g.met.S.Source.bytes c.args.store.now)
    (subst (λ (s : Scale). IfSome (g.S.Source.objects c.args.store.now) (λ m. HasCut (Ok tt) m c.args.reader.now.dataset s c.args.part.now c.cutout.new.out)) c.requires.reads c.in-Ok.ensures.cut) c.compare_box.ensures
