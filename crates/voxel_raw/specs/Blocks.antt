-- Copies of blocks of bytes (this project's): which byte of the target comes from which byte of the source.
use Rattle.std.specs.Prelude.{◌≡◌, ℕ, ◌+◌, ◌*◌, ◌<◌, ◌≤◌, List, [], ◌∷◌, slice_index}
use Rattle.voxel_raw.specs.declared.axes.Axis.{Axis}
use Rattle.voxel_raw.specs.declared.axes.Run.{Run}

-- the byte d of the target comes from the byte s of the source
abbrev pub Moves : Run → List Axis → ℕ → ℕ → Type 0
Moves run [] d s = (k : ℕ) × (k < run.len) × (d ≡ run.to + k) × (s ≡ run.from + k)
Moves run (a ∷ axes) d s = (i q r : ℕ) × (i < a.count) × Moves run axes q r ×
    (d ≡ (a.to + i) * a.to_stride + q) × (s ≡ (a.from + i) * a.from_stride + r)

-- a source of n bytes has all that is read, and a target of n bytes all that is written
abbrev pub FitsFrom : Run → List Axis → ℕ → Type 0
FitsFrom run [] n = run.from + run.len ≤ n
FitsFrom run (a ∷ axes) n = (0 < a.from_stride) × ((a.from + a.count) * a.from_stride ≤ n) ×
    FitsFrom run axes a.from_stride

abbrev pub FitsTo : Run → List Axis → ℕ → Type 0
FitsTo run [] n = run.to + run.len ≤ n
FitsTo run (a ∷ axes) n = (0 < a.to_stride) × ((a.to + a.count) * a.to_stride ≤ n) ×
    FitsTo run axes a.to_stride

-- what a copy leaves: each byte that moves is the source's, every other byte is as before
pub record Copied (run : Run) (axes : List Axis) (from old new : List ℕ) : Type 0 where
  pub moved : (d s : ℕ) → Moves run axes d s → slice_index new d ≡ slice_index from s
  pub kept : (d : ℕ) → ((s : ℕ) → Moves run axes d s → ⊥) → slice_index new d ≡ slice_index old d

-- that much of the outermost axis
abbrev pub first : Axis → ℕ → Axis
first a i = record a { count = i }
