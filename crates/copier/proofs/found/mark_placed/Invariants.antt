use Rattle.std.proofs.Common.{◌≡◌, ◌++◌, Some}
use Rattle.std.specs.Prelude.{filter}
use Rattle.std.specs.List.{list_any}
use Rattle.vol_base.specs.Outside.{Objects, OnlyReads}
use Rattle.vol_spec.specs.Chunks.{chunk_in}
use Rattle.vol_spec.specs.Copies.{is_there}
use Rattle.vol_spec.specs.Grid.{cells_in, meets, whole}
use Rattle.cutout.specs.Kept.{KeepsIndex}
use Rattle.copier.specs.Marks.{AddsMarks}
use Rattle.copier.proofs.found.mark_placed.Given as goal

abbrev pub invariant-loop-cell : goal.invariant-loop-cell
invariant-loop-cell g l = record {
  left : l.yielded ++ l.cell-iterator ≡ cells_in l.from (whole l.from);
  marks : (m : Objects) → g.S.Source.objects l.fn.store ≡ Some m
      → AddsMarks l.to (λ c. list_any (λ source. meets l.to (g.P.Placing.place l.from l.to source) c) (filter (λ source. is_there (chunk_in m l.fn.reader.opened.dataset l.from source)) l.yielded)) l.fn.marks l.marks;
  same : l.reader.opened ≡ l.fn.reader.opened;
  keeps : KeepsIndex (g.S.Source.objects l.fn.store) l.reader;
  kept : OnlyReads (g.S.Source.objects l.fn.store) (g.S.Source.objects l.store) (g.S.Source.draft l.fn.store) (g.S.Source.draft l.store);
  history : g.S.Source.history l.store ≡ g.S.Source.history l.fn.store;
  later : g.S.Source.faults l.store ≡ g.S.Source.faults l.fn.store;
}
