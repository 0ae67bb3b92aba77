-- How many voxels and bytes there are at least and at most.
use Rattle.std.proofs.Common.{◌≡◌, ℕ, zero, suc, ◌+◌, ◌*◌, ◌^◌, ◌<◌, ◌≤◌, ◌++◌, List, [], ◌∷◌, length, map, sum, take, drop, get_or, sym, ap, ◌∙◌, subst, arith, lit<}
use Rattle.std.specs.List.{All}
use Rattle.std.proofs.lemmas.Grind.{common_steps}
use Rattle.std.proofs.lemmas.List.{get_or-map, length-map, map-append, map_more, take-append-drop}
use Rattle.std.proofs.lemmas.List.Elements.{All-head, All-tail, All-take}
use Rattle.std.proofs.Math.Nat.{le-mul_of_pos_right}
use Rattle.vol_base.specs.Boxes.{voxels}
use Rattle.vol_spec.specs.Grid.{cells_in}
use Rattle.vol_spec.specs.Limits.{first_bytes, first_size}
use Rattle.vol_spec.specs.declared.scale.Scale.{Scale}
use Rattle.chunk_grid.proofs.CountSteps.{cells_in-voxels}
use Rattle.write_plan.specs.Plans.{pairs}
use Rattle.write_plan.specs.WriteLists.{BoxWrite, IsWriteOf, write_in, writes_in, total as total_bytes}
use Rattle.write_plan.specs.declared.writes.Write.{Write}
use Rattle.write_plan.proofs.ListSteps.{sum_last}
use Rattle.write_plan.proofs.WholeSteps.{some_width}

sum_append : (xs ys : List ℕ) → sum (xs ++ ys) ≡ sum xs + sum ys
sum_append xs ys = grind (arith, common_steps)

sum_first : (x : ℕ) (xs : List ℕ) → sum (x ∷ xs) ≡ x + sum xs
sum_first x xs = let z : 0 + x ≡ x = omega arith in sum_append (x ∷ []) xs ∙ ap (λ n. n + sum xs) z

pub positive : (a b : ℕ) → 0 < a → 0 < b → 0 < a * b
positive a b p q = omega (arith, le-mul_of_pos_right a q)

some_size : (s : Scale) (axis : ℕ) → axis < 3 → 0 < first_size s.size s.chunk axis
some_size s axis l =
    let a = (s.size_ok axis l).0 in
    let b = (s.chunk_ok axis l).0 in
    omega arith

pub some_bytes : (s : Scale) → 0 < first_bytes s.width s.channels s.size s.chunk
some_bytes s =
    positive _ _ (positive _ _ (positive _ _ (positive _ _ (some_size s 0 (lit< tt)) (some_size s 1 (lit< tt))) (some_size s 2 (lit< tt))) s.some_channels) (some_width s.width s.width_ok)

-- a write meets at most as many cells as it has bytes
pub cells_in-small : (s : Scale) (w : BoxWrite) → IsWriteOf s w → length (cells_in s w.0) ≤ length w.1
cells_in-small s w h =
    let a = cells_in-voxels s w.0 h.inside in
    let b : voxels w.0 ≤ voxels w.0 * s.channels = le-mul_of_pos_right (voxels w.0) s.some_channels in
    let c : voxels w.0 * s.channels ≤ voxels w.0 * s.channels * s.width = le-mul_of_pos_right (voxels w.0 * s.channels) (some_width s.width s.width_ok) in
    let e = h.bytes in
    omega arith

pub pairs-small : (s : Scale) (ws : List BoxWrite) → All (IsWriteOf s) ws → pairs s ws ≤ total_bytes ws
pairs-small s [] h = omega arith
pairs-small s (w ∷ ws) h =
    let one = cells_in-small s w (All-head (IsWriteOf s) w ws h) in
    let rest = pairs-small s ws (All-tail (IsWriteOf s) w ws h) in
    let a = sum_first (length (cells_in s w.0)) (map (λ (v : BoxWrite). length (cells_in s v.0)) ws) in
    let b = sum_first (length w.1) (map (λ (v : BoxWrite). length v.1) ws) in
    omega arith

pub one_of_total : (ws : List BoxWrite) (k : ℕ) (d : BoxWrite) → k < length ws → length (get_or ws k d).1 ≤ total_bytes ws
one_of_total [] k d l = absurd (omega arith)
one_of_total (w ∷ ws) zero d l = let e = sum_first (length w.1) (map (λ (v : BoxWrite). length v.1) ws) in omega arith
one_of_total (w ∷ ws) (suc k) d l =
    let e = sum_first (length w.1) (map (λ (v : BoxWrite). length v.1) ws) in
    let rest = one_of_total ws k d (omega arith) in
    omega arith

-- one write more
pub pairs_more : (s : Scale) (ws : List Write) (i : ℕ) (w : Write) (n : ℕ) → i < length ws → w ≡ get_or ws i w → n ≡ length (cells_in s w.part)
    → pairs s (take (i + 1) (writes_in ws)) ≡ pairs s (take i (writes_in ws)) + n
pairs_more s ws i w n l is e =
    let long : i < length (writes_in ws) = omega (arith, l, length-map ws write_in) in
    let at_i : get_or (writes_in ws) i (write_in w) ≡ write_in w = get_or-map write_in ws i w (write_in w) l ∙ ap write_in (sym is) in
    ap sum (map_more (λ (v : BoxWrite). length (cells_in s v.0)) (writes_in ws) i (write_in w) long)
    ∙ ap (λ (v : BoxWrite). sum (map (λ (v : BoxWrite). length (cells_in s v.0)) (take i (writes_in ws)) ++ length (cells_in s v.0) ∷ [])) at_i
    ∙ sum_last (map (λ (v : BoxWrite). length (cells_in s v.0)) (take i (writes_in ws))) (length (cells_in s w.part))
    ∙ ap (λ k. pairs s (take i (writes_in ws)) + k) (sym e)

pub pairs_so_far : (s : Scale) (ws : List BoxWrite) (i : ℕ) → All (IsWriteOf s) ws → total_bytes ws ≤ 2 ^ 30 → pairs s (take i ws) ≤ 2 ^ 30
pairs_so_far s ws i h small =
    let some = pairs-small s (take i ws) (All-take (IsWriteOf s) i ws h) in
    let part : total_bytes (take i ws) + total_bytes (drop i ws) ≡ total_bytes ws = sym (sum_append (map (λ (v : BoxWrite). length v.1) (take i ws)) (map (λ (v : BoxWrite). length v.1) (drop i ws)))
    ∙ ap sum (sym (map-append (λ (v : BoxWrite). length v.1) (take i ws) (drop i ws))) ∙ ap total_bytes (take-append-drop i ws) in
    omega arith

pub write_of : (s : Scale) (ws : List Write) (i : ℕ) (w : Write) → All (IsWriteOf s) (writes_in ws) → i < length ws → w ≡ get_or ws i w → IsWriteOf s (write_in w)
write_of s ws i w h l is =
    let long : i < length (writes_in ws) = omega (arith, l, length-map ws write_in) in
    subst (IsWriteOf s) (get_or-map write_in ws i w (write_in w) l ∙ ap write_in (sym is)) (h i (write_in w) long)
