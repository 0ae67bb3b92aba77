-- The pairs of writes and the cells that they meet, view by view.
use Rattle.std.proofs.Common.{◌≡◌, ◌∙◌, ℕ, suc, ◌+◌, ◌^◌, ◌<◌, ◌≤◌, List, [], ◌∷◌, Bool, true, false, length, map, sum, take, drop, get_or, Option, Some, None, if◌then◌else◌, nat_lt, refl, ap, sym, arith}
use Rattle.std.specs.Prelude.{All, nat_le}
use Rattle.std.proofs.lemmas.Bool.Decides.{nat_tests}
use Rattle.std.proofs.lemmas.List.{map-append, map_more, take-append-drop, take_all}
use Rattle.std.proofs.lemmas.List.Elements.{All-cons, All-head, All-nil, All-tail}
use Rattle.std.proofs.lemmas.List.FromFn.{get_or-map-range_with_len, length-map-range_with_len}
use Rattle.vol_spec.proofs.Firsts.{first_some-append, first_some-front}
use Rattle.vol_spec.specs.BoxValues.{first_some}
use Rattle.vol_spec.specs.Grid.{cells_in}
use Rattle.vol_spec.specs.Views.{view}
use Rattle.vol_spec.specs.declared.scale.Scale.{Scale}
use Rattle.write_plan.proofs.ListSteps.{sum_last}
use Rattle.write_plan.specs.Plans.{pairs}
use Rattle.write_plan.specs.WriteLists.{BoxWrite}
use Rattle.size_laws.specs.Further.{all_views}
use Rattle.view_writer.specs.Views.{first_over, over}

-- one write more
pub pairs_next : (s : Scale) (ws : List BoxWrite) (i : ℕ) (d : BoxWrite) → i < length ws → pairs s (take (i + 1) ws) ≡ pairs s (take i ws) + length (cells_in s (get_or ws i d).0)
pairs_next s ws i d l =
    ap sum (map_more (λ (w : BoxWrite). length (cells_in s w.0)) ws i d l)
    ∙ sum_last (map (λ (w : BoxWrite). length (cells_in s w.0)) (take i ws)) (length (cells_in s (get_or ws i d).0))

-- a count that is over the limit, or isn't
pub is_over : (n : ℕ) → 2 ^ 22 < n → over n ≡ Some n
is_over n h = by (nat_lt (2 ^ 22) n) refl
  where
    by : (b : Bool) → nat_lt (2 ^ 22) n ≡ b → (if b then Some n else None) ≡ Some n
    by true e = refl
    by false e = let low : n ≤ 2 ^ 22 = grind (arith, nat_tests) in absurd (omega (arith, h, low))

pub is_few : (n : ℕ) → n ≤ 2 ^ 22 → over n ≡ None
is_few n h = by (nat_lt (2 ^ 22) n) refl
  where
    by : (b : Bool) → nat_lt (2 ^ 22) n ≡ b → (if b then Some n else None) ≡ None
    by true e = let high : 2 ^ 22 < n = grind (arith, nat_tests) in absurd (omega (arith, h, high))
    by false e = refl

from_few : (n : ℕ) → over n ≡ None → n ≤ 2 ^ 22
from_few n e = by (nat_lt (2 ^ 22) n) refl
  where
    by : (b : Bool) → nat_lt (2 ^ 22) n ≡ b → n ≤ 2 ^ 22
    by true is = let some : over n ≡ Some n = ap (λ b. if b then Some n else None) is in absurd (cc (some, e))
    by false is = grind (arith, nat_tests)

first_none : {A : Type 0} (o : Option A) (rest : List (Option A)) → first_some (o ∷ rest) ≡ None → (o ≡ None) × (first_some rest ≡ None)
first_none None rest e = (refl, e)
first_none (Some a) rest e = cc e

first_one : {A : Type 0} (o : Option A) → first_some (o ∷ []) ≡ o
first_one None = refl
first_one (Some a) = refl

-- the views of a scale, by their numbers
pub all_length : (s : Scale) → length (all_views s) ≡ length s.more + 1
all_length s = let n = length-map-range_with_len (view s) 1 (length s.more) in omega (arith, n)

pub view_at : (s : Scale) (k j : ℕ) (d : Scale) → k < length s.more → k + 1 ≡ j → get_or (all_views s) j d ≡ view s j
view_at s k j d l e =
    ap (λ n. get_or (all_views s) n d) (let on : j ≡ suc k = omega (arith, e) in on)
    ∙ get_or-map-range_with_len (view s) 1 (length s.more) k j d l (omega (arith, e))

module _ (count : Scale → ℕ) where
  -- no view is over the limit exactly where each keeps it
  pub few_each : (views : List Scale) → first_over count views ≡ None → All (λ v. count v ≤ 2 ^ 22) views
  few_each [] none = All-nil (λ v. count v ≤ 2 ^ 22)
  few_each (v ∷ vs) none =
      let parts = first_none (over (count v)) (map (λ v. over (count v)) vs) none in
      All-cons (λ v. count v ≤ 2 ^ 22) v vs (from_few (count v) parts.0) (few_each vs parts.1)

  pub each_few : (views : List Scale) → All (λ v. count v ≤ 2 ^ 22) views → first_over count views ≡ None
  each_few [] h = refl
  each_few (v ∷ vs) h =
      ap (λ o. first_some (o ∷ map (λ v. over (count v)) vs)) (is_few (count v) (All-head (λ v. count v ≤ 2 ^ 22) v vs h))
      ∙ each_few vs (All-tail (λ v. count v ≤ 2 ^ 22) v vs h)

  -- one view more, and those behind
  over_more : (views : List Scale) (k : ℕ) (d : Scale) → k < length views → first_over count (take k views) ≡ None → first_over count (take (k + 1) views) ≡ over (count (get_or views k d))
  over_more views k d l none =
      ap first_some (map_more (λ v. over (count v)) views k d l)
      ∙ first_some-append (map (λ v. over (count v)) (take k views)) (over (count (get_or views k d)) ∷ []) none
      ∙ first_one (over (count (get_or views k d)))

  over_front : (views : List Scale) (k n : ℕ) → first_over count (take k views) ≡ Some n → first_over count views ≡ Some n
  over_front views k n some =
      ap (first_over count) (sym (take-append-drop k views))
      ∙ ap first_some (map-append (λ v. over (count v)) (take k views) (drop k views))
      ∙ first_some-front (map (λ v. over (count v)) (take k views)) (map (λ v. over (count v)) (drop k views)) n some

  -- the first view of a scale
  pub first_kept : (s : Scale) → count s ≤ 2 ^ 22 → first_over count (take 1 (all_views s)) ≡ None
  first_kept s few = first_one (over (count s)) ∙ is_few (count s) few

  pub first_passed : (s : Scale) → 2 ^ 22 < count s → first_over count (all_views s) ≡ Some (count s)
  first_passed s many = over_front (all_views s) 1 (count s) (first_one (over (count s)) ∙ is_over (count s) many)

  -- and the next one
  at_next : (s : Scale) (k j : ℕ) → k < length s.more → k + 1 ≡ j → first_over count (take j (all_views s)) ≡ None → first_over count (take (j + 1) (all_views s)) ≡ over (count (view s j))
  at_next s k j l e none =
      over_more (all_views s) j s (let n = all_length s in omega (arith, n, l, e)) none ∙ ap (λ v. over (count v)) (view_at s k j s l e)

  pub next_kept : (s : Scale) (k j : ℕ) → k < length s.more → k + 1 ≡ j → first_over count (take j (all_views s)) ≡ None → count (view s j) ≤ 2 ^ 22 → first_over count (take (j + 1) (all_views s)) ≡ None
  next_kept s k j l e none few = at_next s k j l e none ∙ is_few (count (view s j)) few

  pub next_passed : (s : Scale) (k j : ℕ) → k < length s.more → k + 1 ≡ j → first_over count (take j (all_views s)) ≡ None → 2 ^ 22 < count (view s j) → first_over count (all_views s) ≡ Some (count (view s j))
  next_passed s k j l e none many = over_front (all_views s) (j + 1) (count (view s j)) (at_next s k j l e none ∙ is_over (count (view s j)) many)

  -- behind the last one
  pub all_kept : (s : Scale) (j : ℕ) → length s.more < j → first_over count (take j (all_views s)) ≡ None → first_over count (all_views s) ≡ None
  all_kept s j l none = ap (first_over count) (sym (take_all j (all_views s) (let n = all_length s in omega (arith, n, l)))) ∙ none

-- what the test of the writing limit tells
pub view_passed : (n : ℕ) (b : Bool) → b ≡ nat_le n (2 ^ 22) → b ≡ false → 2 ^ 22 < n
view_passed n b is e = let no : nat_le n (2 ^ 22) ≡ false = sym is ∙ e in grind (arith, nat_tests)

pub view_kept : (n : ℕ) (b : Bool) → b ≡ nat_le n (2 ^ 22) → b ≡ true → n ≤ 2 ^ 22
view_kept n b is e = let yes : nat_le n (2 ^ 22) ≡ true = sym is ∙ e in grind (arith, nat_tests)
