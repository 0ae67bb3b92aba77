use Rattle.std.proofs.Common.{◌≡◌, ◌∙◌, ◌<◌, ◌==◌, List, [], ap, arith, length, subst, sym}
use Rattle.std.specs.List.{All}
use Rattle.std.proofs.lemmas.List.{length-map}
use Rattle.std.proofs.lemmas.List.Elements.{All-filter}
use Rattle.vol_spec.specs.Encodings.{raw_size}
use Rattle.vol_spec.specs.Grid.{IsCell, cell_box}
use Rattle.vol_spec.specs.Raw.{raw_at}
use Rattle.vol_spec.specs.StoredCells.{cell_number, written_raw}
use Rattle.vol_spec.specs.declared.scale.Scale.{Scale}
use Rattle.write_plan.specs.Fills.{HoldsValues}
use Rattle.write_plan.specs.Pairs.{run_of, writes_of_run}
use Rattle.write_plan.specs.Plans.{Planned}
use Rattle.write_plan.specs.WriteLists.{BoxWrite, write_in, writes_in}
use Rattle.write_plan.specs.declared.pairs.Pair.{Pair}
use Rattle.chunk_grid.proofs.GridSteps.{cell_box-IsSome}
use Rattle.write_plan.proofs.FillSteps.{fits_values, holds_cell, shows_along, written_is}
use Rattle.write_plan.proofs.plan.Plan.overlay.Goals as goal

pub apply_run-requires-clause-within : goal.apply_run-requires-clause-within
apply_run-requires-clause-within c =
    let own = c.find_run-run.ensures ∙ ap (λ (ps : List Pair). run_of ps c.find_number.result) c.deref.ensures.value in
    subst (λ (run : List Pair). All (λ (pair : Pair). pair.write < length c.list.result.now) run) (sym own)
    (All-filter (λ (pair : Pair). pair.number == c.find_number.result) (λ (pair : Pair). pair.write < length c.list.result.now) c.self.inside.pairs.items
    (λ k d l. let low = c.self.invariant.ready.within k d l in omega (arith, length-map c.list.result.now write_in, ap length c.list.ensures.writes)))

pub apply_run-requires-clause-source : goal.apply_run-requires-clause-source
apply_run-requires-clause-source c =
    let s = c.self.inside.scale in
    subst (All (λ (w : BoxWrite). HoldsValues w.0 s.channels s.width (length w.1))) (sym c.list.ensures.writes) (fits_values s c.self.inside.writes c.self.invariant.fits c.list.ensures.limits.small)

pub apply_run-requires-clause-target : goal.apply_run-requires-clause-target
apply_run-requires-clause-target c =
    let len : length c.args.raw.now ≡ raw_size c.self.inside.scale c.args.cell = subst (λ (p : Planned). length c.args.raw.now ≡ raw_size p.scale c.args.cell) (sym c.self.view_is) c.requires.len in
    holds_cell c.self.inside.scale c.args.cell c.cell_box-part.result _ c.cell_box-part.ensures.positions len

pub returns : goal.returns
returns c =
    let s : Scale = c.self.inside.scale in
    let ws : List BoxWrite = c.self.inside.writes in
    let vs : List BoxWrite = writes_in c.list.result.now in
    let d : BoxWrite = (c.cell_box-part.result, []) in
    let ps : List Pair = c.self.inside.pairs.items in
    let in_grid : IsCell s c.args.cell = subst (λ (p : Planned). IsCell p.scale c.args.cell) (sym c.self.view_is) c.requires.cell in
    let len : length c.args.raw.now ≡ raw_size s c.args.cell = subst (λ (p : Planned). length c.args.raw.now ≡ raw_size p.scale c.args.cell) (sym c.self.view_is) c.requires.len in
    let own = c.find_run-run.ensures ∙ ap (λ (ps : List Pair). run_of ps c.find_number.result) c.deref.ensures.value ∙ ap (run_of ps) c.find_number.ensures in
    subst (λ (p : Planned). c.apply_run.new.raw ≡ written_raw p.scale (raw_at (cell_box p.scale c.args.cell) p.scale.width c.args.raw.now) p.writes c.args.cell) c.self.view_is
    (written_is s (raw_at (cell_box s c.args.cell) s.width c.args.raw.now) ws c.args.cell (writes_of_run vs d c.find_run-run.result.now) c.apply_run.new.raw (cell_box-IsSome s c.args.cell in_grid)
    (ap (writes_of_run vs d) own ∙ ap (λ (vs : List BoxWrite). writes_of_run vs d (run_of ps (cell_number s c.args.cell))) c.list.ensures.writes ∙ c.self.invariant.ready.runs c.args.cell d in_grid)
    (c.apply_run.auto.raw ∙ len) (λ i. omega (arith, c.type_inv.raw i))
    (shows_along c.cell_box-part.result (cell_box s c.args.cell) s.channels s.width c.args.raw.now (writes_of_run vs d c.find_run-run.result.now) c.apply_run.new.raw c.cell_box-part.ensures.positions (c.apply_run.ensures d)))
