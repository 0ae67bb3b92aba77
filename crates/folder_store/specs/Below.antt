-- What stands below a folder (this project's).
use Rattle.std.specs.Prelude.{◌≡◌, ◌⊎◌, ℕ, List, [], ◌∷◌, ◌++◌, Some, None}
use Rattle.std.specs.List.{AllByRecursion}
use Rattle.folder_store.specs.Disks.{Disk, file_at}

-- a path that begins with another and `/`
abbrev pub Below : List ℕ → List ℕ → Type 0
Below path lower = (tail : List ℕ) × (lower ≡ path ++ 47 ∷ tail)

-- that path, or one below it
abbrev pub AtOrBelow : List ℕ → List ℕ → Type 0
AtOrBelow path lower = (lower ≡ path) ⊎ Below path lower

-- one of them passes
abbrev pub Among : {X : Type 0} → (X → Type 0) → List X → Type 0
Among P [] = ⊥
Among P (x ∷ xs) = P x ⊎ Among P xs

-- no file stands below
abbrev pub IsLeaf : Disk → List ℕ → Type 0
IsLeaf d path = (lower : List ℕ) → Below path lower → file_at d lower ≡ None

-- the paths of what a folder has: each file below it is at one of them, or below one
pub record Lists (d : Disk) (path : List ℕ) (paths : List (List ℕ)) : Type 0 where
  pub below : AllByRecursion (Below path) paths
  pub all : (lower : List ℕ) (number : ℕ) → Below path lower → file_at d lower ≡ Some number → Among (λ p. AtOrBelow p lower) paths
