-- What reading cells costs, one cell on.
use Rattle.std.proofs.Common.{◌≡◌, ◌≤◌, ◌+◌, ℕ, List, [], ◌∷◌, ◌++◌, map, sum, arith, refl, ap, ◌∙◌, sym}
use Rattle.std.proofs.lemmas.Grind.{common_steps}
use Rattle.std.proofs.lemmas.List.{map-append}
use Rattle.std.proofs.lemmas.List.Sums.{sum_by-cons}
use Rattle.vol_base.specs.declared.boxes.Box3.{Box3}
use Rattle.vol_base.specs.Outside.{Objects}
use Rattle.vol_spec.specs.Costs.{cost}
use Rattle.vol_spec.specs.Grid.{cells_in}
use Rattle.vol_spec.specs.Types.{Cell, Name}
use Rattle.vol_spec.specs.declared.scale.Scale.{Scale}
use Rattle.cutout.specs.Keeping.{cell_cost}

-- what some cells cost
abbrev pub costs : Objects → Name → Scale → List Cell → ℕ
costs m dataset s cells = sum (map (cell_cost m dataset s) cells)

sum_append : (xs ys : List ℕ) → sum (xs ++ ys) ≡ sum xs + sum ys
sum_append xs ys = grind (arith, common_steps)

pub costs-append : (m : Objects) (dataset : Name) (s : Scale) (xs ys : List Cell) → costs m dataset s (xs ++ ys) ≡ costs m dataset s xs + costs m dataset s ys
costs-append m dataset s xs ys = ap sum (map-append (cell_cost m dataset s) xs ys) ∙ sum_append (map (cell_cost m dataset s) xs) (map (cell_cost m dataset s) ys)

pub costs-one : (m : Objects) (dataset : Name) (s : Scale) (cells : List Cell) (cell : Cell) → costs m dataset s (cells ++ cell ∷ []) ≡ costs m dataset s cells + cell_cost m dataset s cell
costs-one m dataset s cells cell =
    let h = costs-append m dataset s cells (cell ∷ []) in
    let one : costs m dataset s (cell ∷ []) ≡ cell_cost m dataset s cell + costs m dataset s [] = sum_by-cons (λ n. n) (cell_cost m dataset s cell) [] in
    let none : costs m dataset s [] ≡ 0 = refl in
    omega (arith, h, one, none)

pub cost-is : (m : Objects) (dataset : Name) (s : Scale) (part : Box3) → cost m dataset s part ≡ costs m dataset s (cells_in s part)
unfolding cost
cost-is m dataset s part = refl

-- some of the cells cost no more than all,
pub costs-front : (m : Objects) (dataset : Name) (s : Scale) (part : Box3) (cells rest : List Cell) → cells ++ rest ≡ cells_in s part → costs m dataset s cells ≤ cost m dataset s part
costs-front m dataset s part cells rest is =
    let all = cost-is m dataset s part in
    let parts : costs m dataset s (cells_in s part) ≡ costs m dataset s cells + costs m dataset s rest = ap (costs m dataset s) (sym is) ∙ costs-append m dataset s cells rest in
    omega (arith, all, parts)

-- with the next one too
pub costs-next : (m : Objects) (dataset : Name) (s : Scale) (part : Box3) (cells left rest : List Cell) (cell : Cell) → left ≡ cell ∷ rest → cells ++ left ≡ cells_in s part
    → costs m dataset s cells + cell_cost m dataset s cell ≤ cost m dataset s part
costs-next m dataset s part cells left rest cell e is =
    let all = cost-is m dataset s part in
    let parts : costs m dataset s (cells_in s part) ≡ costs m dataset s cells + costs m dataset s (cell ∷ rest) =
    ap (costs m dataset s) (sym is ∙ ap (λ r. cells ++ r) e) ∙ costs-append m dataset s cells (cell ∷ rest) in
    let next : costs m dataset s (cell ∷ rest) ≡ cell_cost m dataset s cell + costs m dataset s rest = sum_by-cons (λ n. n) (cell_cost m dataset s cell) (map (cell_cost m dataset s) rest) in
    omega (arith, all, parts, next)
