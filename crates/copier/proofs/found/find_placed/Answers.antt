use Rattle.std.proofs.Common.{◌≡◌, ◌∙◌, ◌≤◌, ◌^◌, ap, arith, false, length, refl, subst, sym, IfSome}
use Rattle.std.specs.Prelude.{All}
use Rattle.std.proofs.lemmas.List.{length-replicate}
use Rattle.std.proofs.lemmas.List.Elements.{All-replicate}
use Rattle.vol_spec.specs.Grid.{Inside, cells_in}
use Rattle.vol_spec.specs.StoredCells.{AreInOrder}
use Rattle.cutout.specs.Opened.{Opened}
use Rattle.write_plan.specs.Pairs.{cell_count}
use Rattle.copier.specs.Marks.{AreMarked, marked}
use Rattle.copier.specs.Placed.{is_placed}
use Rattle.copier.proofs.FoundSteps.{found_placed}
use Rattle.copier.proofs.HeldSteps.{same_items}
use Rattle.copier.proofs.MarkSteps.{count_whole, few_pass, inside_whole, pass_in_order}
use Rattle.copier.proofs.found.find_placed.Goals as goal

pub count_cells-count-requires : goal.count_cells-count-requires
count_cells-count-requires g c = subst (Inside c.args.to.now) (sym c.whole.ensures) (inside_whole c.args.to.now)

pub overflow_cast-count : goal.overflow_cast-count
overflow_cast-count g c =
    let count : c.count_cells-count.result ≡ cell_count c.args.to.now = c.count_cells-count.ensures ∙ ap (λ b. length (cells_in c.args.to.now b)) c.whole.ensures ∙ count_whole c.args.to.now in
    omega (arith, count, c.requires.few)

pub mark_placed-requires-clause-source : goal.mark_placed-requires-clause-source
mark_placed-requires-clause-source g c = ap (λ (r : Opened). r.scale) c.forget.ensures.same ∙ c.requires.source

pub mark_placed-requires-clause-keeps : goal.mark_placed-requires-clause-keeps
mark_placed-requires-clause-keeps g c = c.forget.ensures.nothing (g.S.Source.objects c.args.store.now)

pub mark_placed-requires-clause-len : goal.mark_placed-requires-clause-len
mark_placed-requires-clause-len g c =
    ap length (c.deref_mut.ensures.value ∙ c.in-Ok.ensures) ∙ length-replicate c.count_cells-count.result false
    ∙ c.count_cells-count.ensures ∙ ap (λ b. length (cells_in c.args.to.now b)) c.whole.ensures ∙ count_whole c.args.to.now

pub mark_placed-requires-clause-clear : goal.mark_placed-requires-clause-clear
mark_placed-requires-clause-clear g c =
    subst (All (λ mark. mark ≡ false)) (sym (c.deref_mut.ensures.value ∙ c.in-Ok.ensures)) (All-replicate (λ mark. mark ≡ false) c.count_cells-count.result false refl)

pub list_marked-requires-clause-len : goal.list_marked-requires-clause-len
list_marked-requires-clause-len g c =
    let all = c.deref_mut.ensures.value ∙ c.in-Ok.ensures in
    let kept : length c.mark_placed.new.marks ≡ length c.in-Ok.marks.items = c.mark_placed.auto.marks ∙ ap length c.deref_mut.ensures.value in
    ap length (c.deref.ensures.value ∙ same_items c.in-Ok.marks c.mark_placed.new.marks kept) ∙ c.mark_placed.auto.marks ∙ ap length all ∙ length-replicate c.count_cells-count.result false
    ∙ c.count_cells-count.ensures ∙ ap (λ b. length (cells_in c.args.to.now b)) c.whole.ensures ∙ count_whole c.args.to.now

pub returns-in-Ok-list_marked-clause-order : goal.returns-in-Ok-list_marked-clause-order
returns-in-Ok-list_marked-clause-order g c = subst (AreInOrder c.args.to.now) (sym c.in-Ok-list_marked.ensures) (pass_in_order c.args.to.now (marked c.args.to.now c.deref.result.now))

pub returns-in-Ok-list_marked-clause-few : goal.returns-in-Ok-list_marked-clause-few
returns-in-Ok-list_marked-clause-few g c = subst (λ cells. length cells ≤ 2 ^ 22) (sym c.in-Ok-list_marked.ensures) (few_pass c.args.to.now (marked c.args.to.now c.deref.result.now) c.requires.few)

pub returns-in-Ok-list_marked-clause-made : goal.returns-in-Ok-list_marked-clause-made
returns-in-Ok-list_marked-clause-made g c =
    let kept : length c.mark_placed.new.marks ≡ length c.in-Ok.marks.items = c.mark_placed.auto.marks ∙ ap length c.deref_mut.ensures.value in
    found_placed (g.P.Placing.place c.args.from.now c.args.to.now) (λ m. g.P.Placing.made m c.args.reader.now.opened.dataset c.args.from.now c.args.to.now) (g.S.Source.objects c.args.store.now) c.args.reader.now.opened.dataset c.args.from.now c.args.to.now c.deref.result.now c.in-Ok-list_marked.list.items
    (λ m. g.met.P.Placing.placed m c.args.reader.now.opened.dataset c.args.from.now c.args.to.now) c.in-Ok-list_marked.ensures
    (subst (λ marks. IfSome (g.S.Source.objects c.args.store.now) (λ m. AreMarked c.args.to.now (is_placed (g.P.Placing.place c.args.from.now c.args.to.now) m c.args.reader.now.opened.dataset c.args.from.now c.args.to.now) marks))
    (sym (c.deref.ensures.value ∙ same_items c.in-Ok.marks c.mark_placed.new.marks kept))
    (subst (λ dataset. IfSome (g.S.Source.objects c.args.store.now) (λ m. AreMarked c.args.to.now (is_placed (g.P.Placing.place c.args.from.now c.args.to.now) m dataset c.args.from.now c.args.to.now) c.mark_placed.new.marks))
    (ap (λ (r : Opened). r.dataset) c.forget.ensures.same) c.in-Ok-mark_placed.ensures.marks))
