-- What a loss of power leaves of a folder (this project's).
use Rattle.std.specs.Prelude.{◌≡◌, ℕ, Bool, true, false, List, [], ◌∷◌, ◌++◌, Option, None, IsSome}
use Rattle.std.specs.Option.{option_map, unwrap_or}
use Rattle.std.specs.List.{AllByRecursion}
use Rattle.std.specs.FinMap as map
use Rattle.vol_base.specs.Outside.{Objects}
use Rattle.folder_store.specs.Below.{Among}
use Rattle.folder_store.specs.Disks.{Moment, file_at, bytes_at, is_object, objects_at}

-- a file stands there, and the disk has what it holds
abbrev pub is_kept : Moment → List ℕ → Bool
is_kept m path = unwrap_or (option_map m.kept (file_at m.disk path)) false

-- each object that is kept at one moment is so at another
abbrev pub KeepsKept : Moment → Moment → Type 0
KeepsKept m later = (path : List ℕ) → is_object path ≡ true → is_kept m path ≡ true → is_kept later path ≡ true

-- an object that is kept at some moment is so from then on
abbrev pub Lasts : List Moment → Type 0
Lasts [] = Unit {0}
Lasts (m ∷ moments) = AllByRecursion (KeepsKept m) moments × Lasts moments

-- what may be left of a path of which the disk has what it led to at this moment: no file, if there was none; its bytes, if
-- they were kept; and of any other file anything
pub record LeavesAt (m : Moment) (path : List ℕ) (left : Option (List ℕ)) : Type 0 where
  pub absent : file_at m.disk path ≡ None → left ≡ None
  pub bytes : is_kept m path ≡ true → left ≡ bytes_at m.disk path

-- Objects that a loss of power may leave after these moments, where the disk had all names at the first: of each path it has
-- what it led to at some one of them
abbrev pub MayLeave : List Moment → Objects → Type 0
MayLeave moments left = (path : List ℕ) → is_object path ≡ true → Among (λ m. LeavesAt m path (map.get left path)) moments

-- an object is there, and as it was at this moment
pub record IsAsAt (left : Objects) (path : List ℕ) (m : Moment) : Type 0 where
  pub stands : IsSome (map.get left path)
  pub as_it_was : map.get left path ≡ map.get (objects_at m) path

-- Whenever power is lost, each object that was kept at some moment is as it was at that or a later one
abbrev pub Survives : List Moment → Type 0
Survives moments =
    (before after later : List Moment) (m : Moment) (left : Objects) → moments ≡ before ++ ((m ∷ after) ++ later)
    → MayLeave (m ∷ after) left → (path : List ℕ) → is_object path ≡ true → is_kept m path ≡ true
    → Among (IsAsAt left path) (m ∷ after)
