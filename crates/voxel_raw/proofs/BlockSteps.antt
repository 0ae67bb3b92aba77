-- A copy of blocks, one block on.
use Rattle.std.proofs.Common.{◌≡◌, ◌⊎◌, ℕ, ◌+◌, ◌-◌, ◌*◌, ◌<◌, ◌≤◌, List, [], ◌∷◌, length, slice_index, take, drop, arith, refl, ap, ◌∙◌, sym, inl, inr, ⊎_elim, length-take, length-drop}
use Rattle.std.proofs.lemmas.Bool.{cases_lt}
use Rattle.std.proofs.lemmas.Grind.{common_steps}
use Rattle.std.proofs.lemmas.Nat.{row_fits}
use borrow.Rule.Slice.PartMut.{put_mid}
use Rattle.voxel_raw.specs.Blocks.{Moves, FitsFrom, FitsTo, Copied, first}
use Rattle.voxel_raw.specs.declared.axes.Axis.{Axis}
use Rattle.voxel_raw.specs.declared.axes.Run.{Run}

-- an element of a list in which a block was replaced
pub mid_inside : (a k : ℕ) (xs ys : List ℕ) (q : ℕ) → a ≤ length xs → q < length ys → slice_index (put_mid a k xs ys) (a + q) ≡ slice_index ys q
mid_inside a k xs ys q l h = grind (arith, common_steps)

pub mid_below : (a k : ℕ) (xs ys : List ℕ) (i : ℕ) → a ≤ length xs → i < a → slice_index (put_mid a k xs ys) i ≡ slice_index xs i
mid_below a k xs ys i l h = grind (arith, common_steps)

pub mid_above : (a k : ℕ) (xs ys : List ℕ) (i : ℕ) → a + k ≤ length xs → length ys ≡ k → a + k ≤ i → slice_index (put_mid a k xs ys) i ≡ slice_index xs i
mid_above a k xs ys i l e h = grind (arith, common_steps)

pub block_at : (a k : ℕ) (xs : List ℕ) (q : ℕ) → q < k → slice_index (take k (drop a xs)) q ≡ slice_index xs (a + q)
block_at a k xs q h = grind (arith, common_steps)

-- what moves stays within the block
pub Moves-below : (run : Run) (axes : List Axis) (n d s : ℕ) → FitsTo run axes n → Moves run axes d s → d < n
Moves-below run [] n d s fits m = omega arith
Moves-below run (a ∷ axes) n d s fits m =
    let q : m.1 < a.to_stride = Moves-below run axes a.to_stride m.1 m.2 fits.2 m.4 in
    let row = row_fits (a.to + m.0) a.to_stride (a.to + a.count) a.to_stride (omega arith) (omega arith) in
    omega arith

pub Moves-from_below : (run : Run) (axes : List Axis) (n d s : ℕ) → FitsFrom run axes n → Moves run axes d s → s < n
Moves-from_below run [] n d s fits m = omega arith
Moves-from_below run (a ∷ axes) n d s fits m =
    let r : m.2 < a.from_stride = Moves-from_below run axes a.from_stride m.1 m.2 fits.2 m.4 in
    let row = row_fits (a.from + m.0) a.from_stride (a.from + a.count) a.from_stride (omega arith) (omega arith) in
    omega arith

-- one block more
pub Copied-more : (run : Run) (a : Axis) (axes : List Axis) (from part old cur block : List ℕ) (i k : ℕ)
    → FitsFrom run (a ∷ axes) (length from) → FitsTo run (a ∷ axes) (length cur) → i < a.count
    → Copied run (first a i ∷ axes) from old cur
    → part ≡ take a.from_stride (drop ((a.from + i) * a.from_stride) from)
    → Copied run axes part (take k (drop ((a.to + i) * a.to_stride) cur)) block
    → length block ≡ length (take k (drop ((a.to + i) * a.to_stride) cur)) → k ≡ a.to_stride
    → Copied run (first a (i + 1) ∷ axes) from old (put_mid ((a.to + i) * a.to_stride) k cur block)
Copied-more run a axes from part old cur block i k source target more was part_is inner len_block same =
    let t : ℕ = (a.to + i) * a.to_stride in
    let row : (a.to + i) * a.to_stride + a.to_stride ≤ (a.to + a.count) * a.to_stride = row_fits (a.to + i) a.to_stride (a.to + a.count) a.to_stride (omega arith) (omega arith) in
    let len : length block ≡ a.to_stride = omega (arith, length-take k (drop ((a.to + i) * a.to_stride) cur), length-drop ((a.to + i) * a.to_stride) cur) in
    record {
      moved = λ d s m.
          let below_q : m.1 < a.to_stride = Moves-below run axes a.to_stride m.1 m.2 target.2 m.4 in
          let below_r : m.2 < a.from_stride = Moves-from_below run axes a.from_stride m.1 m.2 source.2 m.4 in
          ⊎_elim (λ (lt : m.0 < i).
          let before : (a.to + m.0) * a.to_stride + a.to_stride ≤ (a.to + i) * a.to_stride = row_fits (a.to + m.0) a.to_stride (a.to + i) a.to_stride (omega arith) (omega arith) in
          mid_below ((a.to + i) * a.to_stride) k cur block d (omega arith) (omega arith) ∙ was.moved d s (m.0, m.1, m.2, lt, m.4, m.5, m.6))
          (λ (ge : i ≤ m.0).
          let e : m.0 ≡ i = omega (arith, m.3) in
          let d_is : d ≡ (a.to + i) * a.to_stride + m.1 = m.5 ∙ ap (λ x. (a.to + x) * a.to_stride + m.1) e in
          let s_is : s ≡ (a.from + i) * a.from_stride + m.2 = m.6 ∙ ap (λ x. (a.from + x) * a.from_stride + m.2) e in
          ap (slice_index (put_mid ((a.to + i) * a.to_stride) k cur block)) d_is
          ∙ mid_inside ((a.to + i) * a.to_stride) k cur block m.1 (omega arith) (omega arith)
          ∙ inner.moved m.1 m.2 m.4
          ∙ ap (λ xs. slice_index xs m.2) part_is
          ∙ block_at ((a.from + i) * a.from_stride) a.from_stride from m.2 (omega arith)
          ∙ ap (slice_index from) (sym s_is))
          (cases_lt m.0 i);
      kept = λ d no.
          let old_way : slice_index cur d ≡ slice_index old d = was.kept d (λ s m. no s (m.0, m.1, m.2, omega (arith, m.3), m.4, m.5, m.6)) in
          ⊎_elim (λ (lt : d < (a.to + i) * a.to_stride). mid_below ((a.to + i) * a.to_stride) k cur block d (omega arith) lt ∙ old_way)
          (λ (ge : (a.to + i) * a.to_stride ≤ d). ⊎_elim
          (λ (lt : d < (a.to + i) * a.to_stride + a.to_stride).
          let q : ℕ = d - (a.to + i) * a.to_stride in
          let d_is : d ≡ (a.to + i) * a.to_stride + (d - (a.to + i) * a.to_stride) = omega arith in
          ap (slice_index (put_mid ((a.to + i) * a.to_stride) k cur block)) d_is
          ∙ mid_inside ((a.to + i) * a.to_stride) k cur block (d - (a.to + i) * a.to_stride) (omega arith) (omega arith)
          ∙ inner.kept (d - (a.to + i) * a.to_stride) (λ r m. no ((a.from + i) * a.from_stride + r) (i, d - (a.to + i) * a.to_stride, r, omega arith, m, d_is, refl))
          ∙ block_at ((a.to + i) * a.to_stride) k cur (d - (a.to + i) * a.to_stride) (omega arith)
          ∙ ap (slice_index cur) (sym d_is)
          ∙ old_way)
          (λ (gt : (a.to + i) * a.to_stride + a.to_stride ≤ d). mid_above ((a.to + i) * a.to_stride) k cur block d (omega arith) (omega arith) (omega arith) ∙ old_way)
          (cases_lt d ((a.to + i) * a.to_stride + a.to_stride)))
          (cases_lt d ((a.to + i) * a.to_stride));
    }

-- bytes side by side
pub Copied-run : (run : Run) (from old new : List ℕ)
    → ((k : ℕ) → k < run.len → slice_index new (run.to + k) ≡ slice_index from (run.from + k))
    → ((i : ℕ) → (i < run.to) ⊎ (run.to + run.len ≤ i) → slice_index new i ≡ slice_index old i)
    → Copied run [] from old new
Copied-run run from old new copied kept = record {
  moved = λ d s m. ap (slice_index new) m.2 ∙ copied m.0 m.1 ∙ ap (slice_index from) (sym m.3);
  kept = λ d no. ⊎_elim (λ (lt : d < run.to). kept d (inl lt))
      (λ (ge : run.to ≤ d). ⊎_elim
      (λ (lt : d < run.to + run.len). absurd (no (run.from + (d - run.to)) (d - run.to, omega arith, omega arith, refl)))
      (λ (gt : run.to + run.len ≤ d). kept d (inr gt))
      (cases_lt d (run.to + run.len)))
      (cases_lt d run.to);
}
