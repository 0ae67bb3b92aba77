-- The views of a scale, and its first view, which says what the scale says.
use Rattle.std.proofs.Common.{◌≡◌, ◌+◌, ℕ, List, [], length, map, Option, Some, None, Ok, Err, refl, ap, ◌∙◌, sym}
use Rattle.std.specs.Prelude.{All, Result, ℤ, flat_map, option_map}
use Rattle.std.specs.FinMap as fin
use Rattle.vol_base.specs.declared.faults.Fault.{Fault}
use Rattle.vol_spec.specs.declared.sharding.Sharding.{Sharding}
use Rattle.std.specs.List.{range_with_len}
use Rattle.std.proofs.lemmas.List.Elements.{All-cons, All-map}
use Rattle.std.proofs.Common.{◌∷◌}
use Rattle.vol_base.specs.Outside.{Objects}
use Rattle.vol_base.specs.declared.boxes.Box3.{Box3}
use Rattle.vol_spec.proofs.SameScale.{same_scale}
use Rattle.vol_spec.specs.BoxValues.{before_fault, bytes_of, first_some, values_of}
use Rattle.vol_spec.specs.Chunks.{chunk_in, fault_of, judged, value_in, value_of}
use Rattle.vol_spec.specs.Cut.{cut, first_fault}
use Rattle.vol_spec.specs.Grid.{cell_at, cell_box, cells_in}
use Rattle.vol_spec.specs.LastWrite.{Before}
use Rattle.vol_spec.specs.StoredBytes.{held, held_by, object_by, object_of, stored_bytes}
use Rattle.vol_spec.specs.StoredCells.{chunks_of, met_cells, written_raw}
use Rattle.vol_spec.specs.Types.{Bytes, Cell, Name, Writes}
use Rattle.vol_spec.specs.Views.{chunk_of, view, views}
use Rattle.vol_spec.specs.declared.scale.Scale.{Scale}
use Rattle.size_laws.specs.FirstViews.{SaysSame}
use Rattle.size_laws.specs.Sizes.{CanWriteViews, IsView}
use Rattle.size_laws.specs.Further.{CanStore, all_views, further}

-- each view of an unsharded scale is one
pub view-IsView : (s : Scale) (k : ℕ) → s.sharding ≡ None → IsView s (view s k)
unfolding view
view-IsView s k is = record { keys = refl; widths = refl; channel_counts = refl; sizes = refl; offsets = refl; encodings = refl; unsharded = is }

pub views-alike : (s : Scale) → s.sharding ≡ None → All (IsView s) (views s)
views-alike s is = All-map (IsView s) (view s) (range_with_len 0 (1 + length s.more)) (λ k d l. view-IsView s _ is)

-- its chunk size, and that it has no other
pub view-chunk : (s : Scale) (k : ℕ) → (view s k).chunk ≡ chunk_of s k
unfolding view
view-chunk s k = refl

pub view-alone : (s : Scale) (k : ℕ) → (view s k).more ≡ []
unfolding view
view-alone s k = refl

-- a scale of one chunk size is its first view
pub view-first : (s : Scale) → s.more ≡ [] → view s 0 ≡ s
unfolding view
view-first s alone = same_scale (view s 0) s refl refl refl refl refl refl refl refl (sym alone)

-- the first view of any scale has the same box for each cell, the same names, and says the same of each cell and value
pub first-box : (s : Scale) (cell : Cell) → cell_box (view s 0) cell ≡ cell_box s cell
unfolding view
first-box s cell = refl

pub first-cells : (s : Scale) (b : Box3) → cells_in (view s 0) b ≡ cells_in s b
unfolding view
first-cells s b = refl

pub first-object : (dataset : Name) (s : Scale) (cell : Cell) → object_of dataset (view s 0) cell ≡ object_of dataset s cell
unfolding view
first-object dataset s cell = by s.sharding
  where
    by : (o : Option Sharding) → object_by o dataset (view s 0) cell ≡ object_by o dataset s cell
    by None = refl
    by (Some sharding) = refl

held_same : (s : Scale) (cell : Cell) (o : Option Bytes) → held (view s 0) cell o ≡ held s cell o
unfolding view
held_same s cell None = refl
held_same s cell (Some object) = by s.sharding
  where
    by : (o : Option Sharding) → held_by o (view s 0) cell object ≡ held_by o s cell object
    by None = refl
    by (Some sharding) = refl

judged_same : (s : Scale) (cell : Cell) (r : Result (Option Bytes) Fault) → judged (view s 0) cell r ≡ judged s cell r
unfolding view
judged_same s cell (Ok None) = refl
judged_same s cell (Ok (Some bytes)) = refl
judged_same s cell (Err fault) = refl

pub first-chunk : (objects : Objects) (dataset : Name) (s : Scale) (cell : Cell) → chunk_in objects dataset (view s 0) cell ≡ chunk_in objects dataset s cell
unfolding chunk_in stored_bytes
first-chunk objects dataset s cell =
    judged_same s cell (held (view s 0) cell (fin.get objects (object_of dataset (view s 0) cell)))
    ∙ ap (judged s cell) (held_same s cell (fin.get objects (object_of dataset (view s 0) cell)) ∙ ap (λ name. held s cell (fin.get objects name)) (first-object dataset s cell))

value_same : (s : Scale) (cell : Cell) (r : Result (Option Bytes) Fault) (p : List ℤ) (c : ℕ) → value_of (view s 0) cell r p c ≡ value_of s cell r p c
unfolding view
value_same s cell (Ok None) p c = refl
value_same s cell (Ok (Some bytes)) p c = refl
value_same s cell (Err fault) p c = refl

first-at : (s : Scale) (p : List ℤ) → cell_at (view s 0) p ≡ cell_at s p
unfolding view
first-at s p = refl

pub first-value : (objects : Objects) (dataset : Name) (s : Scale) (p : List ℤ) (c : ℕ) → value_in objects dataset (view s 0) p c ≡ value_in objects dataset s p c
first-value objects dataset s p c =
    ap (λ cell. value_of (view s 0) cell (chunk_in objects dataset (view s 0) cell) p c) (first-at s p)
    ∙ value_same s (cell_at s p) (chunk_in objects dataset (view s 0) (cell_at s p)) p c
    ∙ ap (λ r. value_of s (cell_at s p) r p c) (first-chunk objects dataset s (cell_at s p))

pub first-written : (s : Scale) (before : Before) (writes : Writes) → chunks_of (view s 0) before writes ≡ chunks_of s before writes
unfolding view chunks_of met_cells written_raw
first-written s before writes = refl

pub first-cut : (objects : Objects) (dataset : Name) (s : Scale) (b : Box3) → cut objects dataset (view s 0) b ≡ cut objects dataset s b
unfolding view cut
first-cut objects dataset s b = λ i. flat_map (bytes_of s.width) (before_fault (values_of b s.channels (λ p c. first-value objects dataset s p c i)))

pub first-fault : (objects : Objects) (dataset : Name) (s : Scale) (b : Box3) → first_fault objects dataset (view s 0) b ≡ first_fault objects dataset s b
unfolding view first_fault
first-fault objects dataset s b = λ i. first_some (map (λ cell. option_map (λ fault. (cell, fault)) (fault_of (first-chunk objects dataset s cell i))) (cells_in s b))

-- the first view says what the scale says
pub first_says : (dataset : Name) (s : Scale) → SaysSame dataset s (view s 0)
first_says dataset s = record {
  cells = first-cells s;
  boxes = first-box s;
  names = first-object dataset s;
  faults = λ m cell. ap fault_of (first-chunk m dataset s cell);
  values = λ m. first-value m dataset s;
  cuts = λ m. first-cut m dataset s;
  firsts = λ m. first-fault m dataset s;
  written = first-written s;
}

-- an unsharded scale and its further views are views of one volume
itself : (s : Scale) → s.sharding ≡ None → IsView s s
itself s is = record { keys = refl; widths = refl; channel_counts = refl; sizes = refl; offsets = refl; encodings = refl; unsharded = is }

further-alike : (s : Scale) → s.sharding ≡ None → All (IsView s) (s ∷ further s)
further-alike s is = All-cons (IsView s) s (further s) (itself s is) (All-map (IsView s) (view s) (range_with_len 1 (length s.more)) (λ k d l. view-IsView s _ is))

pub can_write : (m : Objects) (dataset : Name) (s : Scale) (writes : Writes) → s.sharding ≡ None → CanStore m dataset s writes → CanWriteViews m dataset s (all_views s) writes
can_write m dataset s writes is h = record { alike = further-alike s is; few = h.few; writable = h.writable; bytes = h.bytes; empty = h.empty }

-- a scale has further views only where it is unsharded
pub none_further : (s : Scale) (sharding : Sharding) → s.sharding ≡ Some sharding → further s ≡ []
none_further s sharding is = ap (λ n. map (view s) (range_with_len 1 n)) (s.alone_ok sharding is)
