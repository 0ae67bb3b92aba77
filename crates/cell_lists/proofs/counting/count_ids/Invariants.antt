use Rattle.std.proofs.Common.{◌||◌, ◌==◌, ◌+◌, ◌<◌, ◌≤◌, Bool, take}
use Rattle.std.specs.Prelude.{AllPairs}
use Rattle.std.specs.List.{list_any}
use Rattle.vol_spec.specs.Places.{id_of}
use Rattle.vol_spec.specs.Types.{Cell}
use Rattle.cell_lists.specs.Counted.{AreNew, Counts, IsShort}
use Rattle.cell_lists.proofs.counting.count_ids.Given as goal

abbrev pub invariant-loop-id : goal.invariant-loop-id
invariant-loop-id l = record {
  counted : (test : Cell → Bool) → Counts l.scale test l.initial.found → AllPairs (λ a b. a < b) l.ids → AreNew l.scale test l.plan.writes l.ids
      → Counts l.scale (λ c. test c || list_any (λ id. id_of l.scale c == id) (take l.id-index l.ids)) l.found;
  short : IsShort l.initial.found → IsShort l.found;
  few : l.found.count ≤ l.initial.found.count + l.id-index;
}
