-- How many objects, cells and bytes views have at most, so that no sum of theirs is cut off.
use Rattle.std.proofs.Common.{◌≡◌, ℕ, ◌*◌, ◌^◌, ◌<◌, ◌≤◌, List, [], ◌∷◌, length, Option, Some, None, refl, ap, ◌∙◌, arith}
use Rattle.std.specs.Prelude.{All}
use Rattle.std.proofs.lemmas.List.{length-append, length-map}
use Rattle.std.proofs.lemmas.List.Concat.{flat_map-cons}
use Rattle.std.proofs.lemmas.List.Elements.{All-head, All-map, All-tail, All-cons}
use Rattle.std.proofs.lemmas.List.Sums.{sum_by-append, sum_by-cons}
use Rattle.std.specs.List.{range_with_len}
use Rattle.vol_spec.proofs.RawSteps.{length-written_raw}
use Rattle.vol_spec.specs.CellNames.{cell_name}
use Rattle.vol_spec.specs.Encodings.{encoded}
use Rattle.vol_spec.specs.Grid.{IsCell}
use Rattle.vol_spec.specs.LastWrite.{zeros}
use Rattle.vol_spec.specs.StoredCells.{met_cells, written_raw}
use Rattle.vol_spec.specs.Types.{Cell, Name, Writes}
use Rattle.vol_spec.specs.Views.{view}
use Rattle.vol_spec.specs.Writable.{IsWritable}
use Rattle.vol_spec.specs.declared.scale.Scale.{Scale}
use Rattle.vol_spec.specs.declared.sharding.Sharding.{Sharding}
use Rattle.chunk_grid.proofs.OrderSteps.{AreInOrder-met_cells}
use Rattle.chunk_grid.proofs.StoredSteps.{cell_objects}
use Rattle.chunk_laws.proofs.EncodedSteps.{encoded-short, limit-short}
use Rattle.write_plan.specs.Plans.{pairs}
use Rattle.shard_writer.specs.Writing.{joint_len}
use Rattle.size_laws.proofs.Law.{list_of_view}
use Rattle.size_laws.specs.Further.{all_views, further}
use Rattle.size_laws.specs.Sizes.{stored_all}
use Rattle.view_writer.proofs.PlanSteps.{few_cells}
use Rattle.view_writer.specs.Views.{cells_all, of_view}

-- an unsharded view that keeps the writing limit, with few pairs
pub record IsSmall (writes : Writes) (v : Scale) : Type 0 where
  pub unsharded : v.sharding ≡ None
  pub writable : IsWritable v
  pub few : pairs v writes ≤ 2 ^ 22

-- the objects of its cells
abbrev cell_bytes : Scale → Writes → Cell → List ℕ
cell_bytes v writes cell = encoded v cell (written_raw v zeros writes cell)

chunk_short : (v : Scale) (writes : Writes) (cell : Cell) → IsWritable v → IsCell v cell → length (cell_bytes v writes cell) ≤ 2 ^ 27
chunk_short v writes cell can is =
    let short = encoded-short v cell (written_raw v zeros writes cell) is can (length-written_raw v zeros writes cell) in
    let limit = limit-short v cell (written_raw v zeros writes cell) is can (length-written_raw v zeros writes cell) in
    omega (arith, short, limit)

cells_short : (dataset : Name) (v : Scale) (writes : Writes) (cells : List Cell) → IsWritable v → All (IsCell v) cells → joint_len (cell_objects dataset v (cell_bytes v writes) cells) ≤ length cells * 2 ^ 27
cells_short dataset v writes [] can each = omega arith
cells_short dataset v writes (cell ∷ cells) can each =
    let all = sum_by-cons (λ (o : Name × List ℕ). length o.1) (cell_name dataset v cell, cell_bytes v writes cell) (cell_objects dataset v (cell_bytes v writes) cells) in
    let one = chunk_short v writes cell can (All-head (IsCell v) cell cells each) in
    let rest = cells_short dataset v writes cells can (All-tail (IsCell v) cell cells each) in
    omega (arith, all, one, rest)

-- how many objects a view has, and cells, and bytes
pub objects_of : (dataset : Name) (v : Scale) (writes : Writes) → IsSmall writes v → length (of_view dataset v writes) ≡ length (met_cells v writes)
objects_of dataset v writes h =
    ap length (list_of_view dataset v writes h.unsharded)
    ∙ length-map (met_cells v writes) (λ cell. (cell_name dataset v cell, cell_bytes v writes cell))

view_short : (dataset : Name) (v : Scale) (writes : Writes) → IsSmall writes v → joint_len (of_view dataset v writes) ≤ length (met_cells v writes) * 2 ^ 27
view_short dataset v writes h =
    let same : joint_len (of_view dataset v writes) ≡ joint_len (cell_objects dataset v (cell_bytes v writes) (met_cells v writes)) = ap joint_len (list_of_view dataset v writes h.unsharded) in
    let short = cells_short dataset v writes (met_cells v writes) h.writable (AreInOrder-met_cells v writes).each in
    omega (arith, same, short)

pub record AreFew (objects cells bytes views : ℕ) : Type 0 where
  pub few_objects : objects ≤ views * 2 ^ 22
  pub few_cells : cells ≤ views * 2 ^ 22
  pub few_bytes : bytes ≤ views * 2 ^ 49

-- of all together
pub all_small : (dataset : Name) (vs : List Scale) (writes : Writes) → All (IsSmall writes) vs
    → AreFew (length (stored_all dataset vs writes)) (cells_all vs writes) (joint_len (stored_all dataset vs writes)) (length vs)
all_small dataset [] writes h = record { few_objects = omega arith; few_cells = omega arith; few_bytes = omega arith }
all_small dataset (v ∷ vs) writes h =
    let own = All-head (IsSmall writes) v vs h in
    let rest = all_small dataset vs writes (All-tail (IsSmall writes) v vs h) in
    let list = flat_map-cons (λ u. of_view dataset u writes) v vs in
    let cells = few_cells v writes in
    let few = own.few in
    let number = objects_of dataset v writes own in
    let short = view_short dataset v writes own in
    let long = ap length list ∙ length-append (of_view dataset v writes) (stored_all dataset vs writes) in
    let joint = ap joint_len list ∙ sum_by-append (λ (o : Name × List ℕ). length o.1) (of_view dataset v writes) (stored_all dataset vs writes) in
    let met = sum_by-cons (λ u. length (met_cells u writes)) v vs in
    let objects_more = rest.few_objects in
    let cells_more = rest.few_cells in
    let bytes_more = rest.few_bytes in
    record {
      few_objects = omega (arith, long, number, cells, few, objects_more);
      few_cells = omega (arith, met, cells, few, cells_more);
      few_bytes = omega (arith, joint, short, cells, few, bytes_more);
    }

-- a scale with a further view is unsharded, and its views are small
pub no_shards : (s : Scale) (k : ℕ) → k < length s.more → s.sharding ≡ None
no_shards s k l = by s.sharding refl
  where
    by : (o : Option Sharding) → s.sharding ≡ o → o ≡ None
    by None is = refl
    by (Some sharding) is = let none = s.alone_ok sharding is in absurd (omega (arith, none, l))

unsharded_too : (s : Scale) → s.sharding ≡ None → All (λ v. v.sharding ≡ None) (all_views s)
unfolding view
unsharded_too s is = All-cons (λ v. v.sharding ≡ None) s (further s) is (All-map (λ v. v.sharding ≡ None) (view s) (range_with_len 1 (length s.more)) (λ k d l. is))

pub views_small : (s : Scale) (writes : Writes) → s.sharding ≡ None → All IsWritable (all_views s) → All (λ v. pairs v writes ≤ 2 ^ 22) (all_views s) → All (IsSmall writes) (all_views s)
views_small s writes is can few k d l = record { unsharded = unsharded_too s is k d l; writable = can k d l; few = few k d l }
