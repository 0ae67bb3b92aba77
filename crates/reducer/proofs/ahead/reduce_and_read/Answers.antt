use Rattle.std.proofs.Common.{◌∙◌, ℕ, IfSome, Vec, ap, length, subst, sym, take}
use Rattle.std.specs.Global.{Global}
use Rattle.vol_spec.specs.Encodings.{raw_size}
use Rattle.copier.specs.Held.{CutsBox}
use Rattle.reduce_laws.specs.Reduced.{source_box}
use Rattle.reducer.specs.Reading.{HasRoom, IsReducedOf}
use Rattle.reducer.proofs.ahead.reduce_and_read.Goals as goal

pub returns-in-Some-clause-reduced : goal.returns-in-Some-clause-reduced
returns-in-Some-clause-reduced g c =
    subst (λ bytes. IsReducedOf c.args.method c.args.from.now c.args.to.now c.args.cell bytes (take (raw_size c.args.to.now c.args.cell) c.reduce_beside-answer.new.frame.items)) c.deref.ensures.value c.reduce_beside-answer.ensures.reduced

pub returns-in-Some-clause-cut : goal.returns-in-Some-clause-cut
returns-in-Some-clause-cut g c =
    subst (λ (v : Vec ℕ Global). IfSome (g.S.Source.objects c.args.store.now) (λ m. CutsBox c.reduce_beside-answer.result m c.args.reader.now.opened.dataset c.args.from.now (source_box c.args.from.now c.args.to.now c.args.next) v.items))
    (sym c.swap.ensures.x_after) c.reduce_beside-answer.ensures.cut

pub returns-in-Some-clause-len : goal.returns-in-Some-clause-len
returns-in-Some-clause-len g c = ap (λ (v : Vec ℕ Global). length v.items) c.swap.ensures.x_after ∙ c.reduce_beside-answer.ensures.len

pub returns-in-Some-clause-room : goal.returns-in-Some-clause-room
returns-in-Some-clause-room g c = subst (HasRoom c.args.from.now c.args.to.now) (sym c.swap.ensures.x_after) c.reduce_beside-answer.ensures.room

pub returns-in-Some-clause-ahead : goal.returns-in-Some-clause-ahead
returns-in-Some-clause-ahead g c = subst (HasRoom c.args.from.now c.args.to.now) (sym c.swap.ensures.y_after) c.requires.room

pub returns-in-None-clause-reduced : goal.returns-in-None-clause-reduced
returns-in-None-clause-reduced g c =
    subst (λ bytes. IsReducedOf c.args.method c.args.from.now c.args.to.now c.args.cell bytes (take (raw_size c.args.to.now c.args.cell) c.reduce_source.new.frame.items)) c.deref-in-None.ensures.value c.reduce_source.ensures.reduced
