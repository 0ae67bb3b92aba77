-- What a folder of files is (this project's): the model of a file system that the trait `Folder` is said over.
use Rattle.std.specs.Prelude.{◌≡◌, ◌≢◌, ◌++◌, ℕ, Bool, true, not, nat_eq, ◌==◌, if◌then◌else◌, List, [], ◌∷◌, length, map as map_list, codes, Option, Some, None, IsSome, IfSome}
use Rattle.std.specs.Option.{option_map, unwrap_or}
use Rattle.std.specs.List.{ends_with}
use Rattle.std.specs.FinMap as map
use Rattle.std.specs.Ordering.{nat_cmp}
use Rattle.std.specs.Cmp.Lexicographic.{slice_cmp}
use Rattle.vol_base.specs.Bytes.{AreBytes}
use Rattle.vol_base.specs.Outside.{Objects, overwritten}
use Rattle.folder_store.specs.declared.folder.Kind.TheVariants.{File}
use Rattle.folder_store.specs.declared.folder.Standing.{Standing}

-- which file stands at each path, by a number of its own, and what each file holds. Folders are only what paths have in front
pub record Disk : Type 0 where
  pub files : map.FinMap (slice_cmp nat_cmp) ℕ
  pub holds : ℕ → List ℕ

abbrev pub file_at : Disk → List ℕ → Option ℕ
file_at d path = map.get d.files path

abbrev pub bytes_at : Disk → List ℕ → Option (List ℕ)
bytes_at d path = option_map d.holds (file_at d path)

-- each file holds bytes
abbrev pub HoldBytes : Disk → Type 0
HoldBytes d = (number : ℕ) → AreBytes (d.holds number)

-- what is told of a path where a file with these bytes stands, or none
abbrev pub StandsAs : Option (List ℕ) → Standing → Type 0
StandsAs None s = s.kind ≢ File
StandsAs (Some bytes) s = (s.kind ≡ File) × (s.len ≡ length bytes)

-- no path leads to this file
abbrev pub IsNew : Disk → ℕ → Type 0
IsNew d number = (path : List ℕ) → file_at d path ≢ Some number

abbrev pub with_bytes : Disk → ℕ → List ℕ → Disk
with_bytes d number bytes = record { files = d.files; holds = λ n. if n == number then bytes else d.holds n }

-- a file with no bytes, made at a path
abbrev pub made : Disk → List ℕ → ℕ → Disk
made d path number = record { files = map.insert d.files path number; holds = λ n. if n == number then [] else d.holds n }

-- bytes written from a place on, which isn't past the end
abbrev pub written : Disk → ℕ → ℕ → List ℕ → Disk
written d number at piece = with_bytes d number (overwritten (d.holds number) at piece)

-- a file that stands at a path from now on, in place of another
abbrev pub renamed : Disk → List ℕ → List ℕ → Disk
renamed d from to = record { files = map.insert (map.remove d.files from) to (unwrap_or (file_at d from) 0); holds = d.holds }

abbrev pub removed : Disk → List ℕ → Disk
removed d path = record { files = map.remove d.files path; holds = d.holds }

-- a path of an object: one that doesn't end in `.part`
abbrev pub part_end : List ℕ
part_end = codes ".part"

abbrev pub is_object : List ℕ → Bool
is_object path = not (ends_with nat_eq path part_end)

-- the files of a map by their numbers, with what they hold
unfoldable pub values_by : (ℕ → List ℕ) → map.FinMap (slice_cmp nat_cmp) ℕ → Objects
values_by holds files = map.from_entries (map_list (λ e. (e.0, holds e.1)) (map.entries files))

-- the objects: files at such paths
unfoldable pub objects_of : Disk → Objects
objects_of d = values_by d.holds (map.retain_keys d.files is_object)

-- what stands at a moment, and of which files the disk has what they hold: a loss of power leaves them so
pub record Moment : Type 0 where
  pub disk : Disk
  pub kept : ℕ → Bool

abbrev pub objects_at : Moment → Objects
objects_at m = objects_of m.disk

-- no object's path leads to this file
abbrev pub IsApart : Disk → ℕ → Type 0
IsApart d number = (path : List ℕ) → is_object path ≡ true → file_at d path ≢ Some number

-- where a file stands at the second path, the one at the first is kept
abbrev pub IsSettled : Disk → (ℕ → Bool) → List ℕ → List ℕ → Type 0
IsSettled d kept from to = IsSome (file_at d to) → IfSome (file_at d from) (λ number. kept number ≡ true)

-- this is what stands, so the call has changed it by then
abbrev pub Stands : Option Disk → Moment → Type 0
Stands disk m = disk ≡ Some m.disk

-- one file holds something else, and all else is as it was
abbrev pub Touches : Option Disk → ℕ → Moment → Type 0
Touches disk number m = (bytes : List ℕ) × (option_map (λ x. with_bytes x number bytes) disk ≡ Some m.disk)

-- the last of some moments
abbrev pub IsLast : List Moment → Moment → Type 0
IsLast moments m = (front : List Moment) × (moments ≡ front ++ m ∷ [])
