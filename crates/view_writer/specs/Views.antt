-- What writing all views of a scale puts into a store, and the limits of views (this project's).
use Rattle.std.specs.Prelude.{◌≡◌, ◌^◌, ◌<◌, ℕ, List, All, length, map, nat_lt, Option, Some, None, IfSome, if◌then◌else◌}
use Rattle.std.specs.List.{sum_by}
use Rattle.vol_base.specs.Outside.{Objects, Passes}
use Rattle.vol_spec.specs.BoxValues.{first_some}
use Rattle.vol_spec.specs.LastWrite.{zeros}
use Rattle.vol_spec.specs.StoredCells.{chunks_of, met_cells, put_in}
use Rattle.vol_spec.specs.StoredLists.{stored_list}
use Rattle.vol_spec.specs.Types.{Listed, Name, Writes}
use Rattle.vol_spec.specs.Writable.{IsWritable, padded}
use Rattle.vol_spec.specs.declared.scale.Scale.{Scale}
use Rattle.size_laws.specs.Further.{all_views}
use Rattle.size_laws.specs.Sizes.{stored_all}
use Rattle.write_plan.specs.Plans.{pairs}
use Rattle.shard_writer.specs.Writing.{PutsFront, joint_len}
use Rattle.shard_writer.specs.declared.written.Written.{Written}

-- a count over 2^22, the limit of each view
abbrev pub over : ℕ → Option ℕ
over count = if nat_lt (2 ^ 22) count then Some count else None

-- the first count of some views that is
abbrev pub first_over : (Scale → ℕ) → List Scale → Option ℕ
first_over count views = first_some (map (λ v. over (count v)) views)

-- so many pairs of a write and a cell that it meets are in the first view where they are too many
abbrev pub first_many : List Scale → Writes → Option ℕ
first_many views writes = first_over (λ v. pairs v writes) views

-- and so many padded voxels times channels has the first view that passes the writing limit
abbrev pub first_wide : List Scale → Option ℕ
first_wide views = first_over padded views

-- so many has a scale one of whose views passes it
abbrev pub IsTooWide : Scale → ℕ → Type 0
IsTooWide s voxels = first_wide (all_views s) ≡ Some voxels

-- a scale of several chunk sizes, each view of which keeps the writing limit
abbrev pub HasSeveralSizes : Scale → Type 0
HasSeveralSizes s = All IsWritable (all_views s) × (0 < length s.more)

-- the objects of one view
abbrev pub of_view : Name → Scale → Writes → Listed
of_view dataset v writes = stored_list dataset v (chunks_of v zeros writes)

-- how many cells the writes meet in all views together
abbrev pub cells_all : List Scale → Writes → ℕ
cells_all views writes = sum_by (λ v. length (met_cells v writes)) views

-- objects were put in: how many they are, how many cells they hold, and how many bytes they have together
pub record ArePut (m : Objects) (now : Option Objects) (list : Listed) (cells : ℕ) (written : Written) :
    Type 0 where
  pub put : now ≡ Some (put_in m list)
  pub objects_are : written.objects ≡ length list
  pub cells_are : written.cells ≡ cells
  pub bytes_are : written.bytes ≡ joint_len list

abbrev pub IsPut : Option Objects → Option Objects → Listed → ℕ → Written → Type 0
IsPut old now list cells written = IfSome old (λ m. ArePut m now list cells written)

-- a front of them was put, where a store tells
abbrev pub IsFront : Option Objects → Option Objects → Listed → Type 0
IsFront old now list = IfSome old (λ m. PutsFront list m now)

-- at each moment that passed the pairs are few enough in each view, and a front of the objects of all views was put
abbrev pub PassesViews : Name → Scale → Writes → Option Objects → List Objects → List Objects → Type 0
PassesViews dataset s writes old was now = Passes
    (λ x. (first_many (all_views s) writes ≡ None) × IsFront old (Some x) (stored_all dataset (all_views s) writes))
    was now
