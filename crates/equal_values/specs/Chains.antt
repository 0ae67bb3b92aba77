-- An index of numbered things, by a number that equal ones share (this project's). Place i of heads and next
-- has 0, or a thing's number and 1.
use Rattle.std.specs.Prelude.{◌≡◌, ◌⊎◌, ℕ, ◌+◌, ◌*◌, ◌/◌, ◌%◌, ◌^◌, ◌<◌, Bool, IsTrue, List, MatchOption, Option, length, slice_index}

-- the high half of a number, spread over so many places
unfoldable pub spread : ℕ → ℕ → ℕ
spread h places = h / 2 ^ 32 % 2 ^ 32 * places / 2 ^ 32

-- a number of the index leads to a thing below `limit` that is put in and has the hash h, or to none
abbrev pub LeadsTo : (ℕ → ℕ) → (ℕ → Bool) → ℕ → ℕ → ℕ → Type 0
LeadsTo hash placed h limit cursor =
    (cursor ≡ 0) ⊎ ((j : ℕ) × (cursor ≡ j + 1) × (j < limit) × IsTrue (placed j) × (hash j ≡ h))

-- the index of those below k
pub record IsIndex (hash : ℕ → ℕ) (placed : ℕ → Bool) (heads next : List ℕ) (k : ℕ) : Type 0 where
  pub heads_lead : (h : ℕ) → h < length heads → LeadsTo hash placed h k (slice_index heads h)
  pub next_lead : (i : ℕ) → i < k → IsTrue (placed i) → LeadsTo hash placed (hash i) i (slice_index next i)
  pub heads_all : (j : ℕ) → j < k → IsTrue (placed j) → j < slice_index heads (hash j)
  pub next_all : (i j : ℕ) → i < k → j < i → IsTrue (placed i) → IsTrue (placed j) → hash i ≡ hash j
      → j < slice_index next i

-- one of those before k that are put in and equal, if there is one
abbrev pub IsFound : (ℕ → Bool) → (ℕ → Bool) → ℕ → Option ℕ → Type 0
IsFound placed equals k found = MatchOption found
    ((j : ℕ) → j < k → IsTrue (placed j) → IsTrue (equals j) → ⊥)
    (λ j. (j < k) × IsTrue (placed j) × IsTrue (equals j))

-- where the old index is that of the things below k, the new one is that of k too
abbrev pub Adds : List ℕ → List ℕ → List ℕ → List ℕ → ℕ → ℕ → Type 0
Adds heads next heads' next' home k = (hash : ℕ → ℕ) (placed : ℕ → Bool) → IsIndex hash placed heads next k
    → ((j : ℕ) → hash j < length heads) → hash k ≡ home → IsTrue (placed k) →
    IsIndex hash placed heads' next' (k + 1)
