-- How far a search for objects below a folder has come (this project's).
use Rattle.std.specs.Prelude.{◌≡◌, true, ℕ, List, ◌++◌, Some, None}
use Rattle.std.specs.List.{AllByRecursion}
use Rattle.folder_store.specs.Below.{Below, AtOrBelow, Among, IsLeaf}
use Rattle.folder_store.specs.Disks.{Disk, file_at, is_object}
use Rattle.folder_store.specs.declared.directory.Entry.{Entry}
use Rattle.folder_store.specs.declared.directory.Entry.TheVariants.{Object, Folder, Nothing}

-- an object's file stands there
pub record IsObjectAt (d : Disk) (path : List ℕ) : Type 0 where
  pub is : is_object path ≡ true
  pub file : ℕ
  pub stands : file_at d path ≡ Some file

abbrev pub HasBelow : Disk → List ℕ → Type 0
HasBelow d path = (lower : List ℕ) × Below path lower × IsObjectAt d lower

-- this path is below one of these folders
abbrev pub IsBelowOne : List (List ℕ) → List ℕ → Type 0
IsBelowOne folders lower = Among (λ f. Below f lower) folders

-- folders that come behind others: each is such a one, and each object that is asked for is below one of them
pub record Adds (d : Disk) (Is Asks : List ℕ → Type 0) (old new : List (List ℕ)) : Type 0 where
  pub more : List (List ℕ)
  pub added : new ≡ old ++ more
  pub each : AllByRecursion Is more
  pub all : (lower : List ℕ) → IsObjectAt d lower → Asks lower → IsBelowOne more lower

-- a path that isn't an object's is dealt with
abbrev pub IsPassed : Disk → List ℕ → List (List ℕ) → List (List ℕ) → Type 0
IsPassed d path old new = Adds d (λ f. f ≡ path) (AtOrBelow path) old new

-- and so are several
abbrev pub ArePassed : Disk → List (List ℕ) → List (List ℕ) → List (List ℕ) → Type 0
ArePassed d paths old new = Adds d (λ f. Among (λ p. f ≡ p) paths) (λ lower. Among (λ p. AtOrBelow p lower) paths) old new

-- so far as these paths don't come any more
abbrev pub Progress : Disk → List (List ℕ) → List (List ℕ) → List (List ℕ) → List (List ℕ) → Type 0
Progress d paths coming old new = (done : List (List ℕ)) × (paths ≡ done ++ coming) × ArePassed d done old new

-- and all that stands in a folder
abbrev pub IsSearched : Disk → List ℕ → List (List ℕ) → List (List ℕ) → Type 0
IsSearched d path old new = Adds d (Below path) (Below path) old new

-- folders that are left to be searched: each is this one or below it, and each object below it is below one of them
pub record AreLeft (d : Disk) (path : List ℕ) (folders : List (List ℕ)) : Type 0 where
  pub each : AllByRecursion (AtOrBelow path) folders
  pub all : (lower : List ℕ) → IsObjectAt d lower → Below path lower → IsBelowOne folders lower

-- what stands at a path
abbrev pub JudgesPath : Disk → List ℕ → Entry → Type 0
JudgesPath d path Object = IsObjectAt d path
JudgesPath d path Folder = file_at d path ≡ None
JudgesPath d path Nothing = (IsObjectAt d path → ⊥) × IsLeaf d path
