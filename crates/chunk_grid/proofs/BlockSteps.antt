-- The cells of a grid that pass a test on each axis are a block, and the numbers of a block's cells.
use Rattle.std.proofs.Common.{◌≡◌, ℕ, ◌+◌, ◌*◌, ◌/◌, ◌%◌, List, [], ◌∷◌, Bool, true, false, cond, map, refl, ap, ◌∙◌, sym, arith}
use Rattle.std.specs.Prelude.{filter, flat_map, ◌&&◌}
use Rattle.std.specs.List.{range_with_len}
use Rattle.std.proofs.lemmas.List.Concat.{flat_map_single}
use Rattle.std.proofs.lemmas.List.Elements.{filter_agree}
use Rattle.chunk_grid.specs.Walks.{cell_by_number}
use Rattle.chunk_grid.proofs.ListSteps.{flat_map-shift, rows, flat_map-agree, filter-flat_map, flat_map-filter, filter-map}

-- x fastest, then y, then z
abbrev pub product : List ℕ → List ℕ → List ℕ → List (List ℕ)
product xs ys zs = flat_map (λ z. flat_map (λ y. map (λ x. x ∷ y ∷ z ∷ []) xs) ys) zs

filter_and : (b : Bool) (p : ℕ → Bool) (xs : List ℕ) → filter (λ x. b && p x) xs ≡ cond b (filter p xs) []
filter_and true p xs = refl
filter_and false p [] = refl
filter_and false p (x ∷ xs) = filter_and false p xs

map_cond : {A : Type 0} (b : Bool) (f : ℕ → A) (xs : List ℕ) → map f (cond b xs []) ≡ cond b (map f xs) []
map_cond true f xs = refl
map_cond false f xs = refl

flat_map_cond : {A : Type 0} (b : Bool) (F : ℕ → List A) (xs : List ℕ) → flat_map (λ x. cond b (F x) []) xs ≡ cond b (flat_map F xs) []
flat_map_cond true F xs = refl
flat_map_cond false F [] = refl
flat_map_cond false F (x ∷ xs) = flat_map_cond false F xs

turned : (a b c : Bool) → (a && (b && (c && true))) ≡ (c && (b && a))
turned true true true = refl
turned true true false = refl
turned true false true = refl
turned true false false = refl
turned false true true = refl
turned false true false = refl
turned false false true = refl
turned false false false = refl

-- one row
filter_row : (m : List ℕ → Bool) (p : ℕ → Bool) (t : Bool) (xs : List ℕ) (y z : ℕ) → ((x : ℕ) → m (x ∷ y ∷ z ∷ []) ≡ (t && p x))
    → filter m (map (λ x. x ∷ y ∷ z ∷ []) xs) ≡ cond t (map (λ x. x ∷ y ∷ z ∷ []) (filter p xs)) []
filter_row m p t xs y z same =
    filter-map m (λ x. x ∷ y ∷ z ∷ []) xs
    ∙ ap (map (λ x. x ∷ y ∷ z ∷ [])) (filter_agree (λ x. m (x ∷ y ∷ z ∷ [])) (λ x. t && p x) same xs ∙ filter_and t p xs)
    ∙ map_cond t (λ x. x ∷ y ∷ z ∷ []) (filter p xs)

filter_plane : (m : List ℕ → Bool) (p q : ℕ → Bool) (t : Bool) (xs ys : List ℕ) (z : ℕ) → ((x y : ℕ) → m (x ∷ y ∷ z ∷ []) ≡ (t && (q y && p x)))
    → filter m (flat_map (λ y. map (λ x. x ∷ y ∷ z ∷ []) xs) ys) ≡ cond t (flat_map (λ y. map (λ x. x ∷ y ∷ z ∷ []) (filter p xs)) (filter q ys)) []
filter_plane m p q t xs ys z same =
    filter-flat_map m (λ y. map (λ x. x ∷ y ∷ z ∷ []) xs) ys
    ∙ flat_map-agree (λ y. filter m (map (λ x. x ∷ y ∷ z ∷ []) xs)) (λ y. cond t (cond (q y) (map (λ x. x ∷ y ∷ z ∷ []) (filter p xs)) []) []) ys
    (λ y. filter_row m p (t && q y) xs y z (λ x. same x y ∙ together t (q y) (p x)) ∙ apart t (q y) (map (λ x. x ∷ y ∷ z ∷ []) (filter p xs)))
    ∙ flat_map_cond t (λ y. cond (q y) (map (λ x. x ∷ y ∷ z ∷ []) (filter p xs)) []) ys
    ∙ ap (λ cs. cond t cs []) (flat_map-filter q (λ y. map (λ x. x ∷ y ∷ z ∷ []) (filter p xs)) ys)
  where
    together : (a b c : Bool) → (a && (b && c)) ≡ ((a && b) && c)
    together true b c = refl
    together false b c = refl

    apart : (a b : Bool) (cs : List (List ℕ)) → cond (a && b) cs [] ≡ cond a (cond b cs []) []
    apart true b cs = refl
    apart false b cs = refl

-- a test on each axis
pub filter_product : (m : List ℕ → Bool) (p q r : ℕ → Bool) (xs ys zs : List ℕ) → ((x y z : ℕ) → m (x ∷ y ∷ z ∷ []) ≡ (p x && (q y && (r z && true))))
    → filter m (product xs ys zs) ≡ product (filter p xs) (filter q ys) (filter r zs)
filter_product m p q r xs ys zs same =
    filter-flat_map m (λ z. flat_map (λ y. map (λ x. x ∷ y ∷ z ∷ []) xs) ys) zs
    ∙ flat_map-agree (λ z. filter m (flat_map (λ y. map (λ x. x ∷ y ∷ z ∷ []) xs) ys)) (λ z. cond (r z) (flat_map (λ y. map (λ x. x ∷ y ∷ z ∷ []) (filter p xs)) (filter q ys)) []) zs
    (λ z. filter_plane m p q (r z) xs ys z (λ x y. same x y z ∙ turned (p x) (q y) (r z)))
    ∙ flat_map-filter r (λ z. flat_map (λ y. map (λ x. x ∷ y ∷ z ∷ []) (filter p xs)) (filter q ys)) zs

from_zero : {A : Type 0} (F : ℕ → List A) (a n : ℕ) → flat_map F (range_with_len a n) ≡ flat_map (λ i. F (a + i)) (range_with_len 0 n)
from_zero F a n =
    flat_map-shift F (λ i. F (a + i)) a 0 n (λ i h. let e : a + i ≡ a + (0 + i) = omega arith in ap F e)

-- the cells of a block by their numbers
pub product_numbers : (a b c : ℕ) (m n o : ℕ)
    → product (range_with_len a m) (range_with_len b n) (range_with_len c o) ≡ map (cell_by_number (a ∷ b ∷ c ∷ []) (m ∷ n ∷ o ∷ [])) (range_with_len 0 (m * n * o))
product_numbers a b c m n o =
    let cell : ℕ → ℕ → ℕ → List ℕ = λ x y z. x ∷ y ∷ z ∷ [] in
    let row : ℕ → ℕ → List (List ℕ) = λ y z. map (λ x. cell x y z) (range_with_len a m) in
    let places : ℕ → ℕ → List (List ℕ) = λ k i. cell (a + i) (b + k % n) (c + k / n) ∷ [] in
    let size : o * n * m ≡ m * n * o = omega arith in
    let in_row : (y z : ℕ) → row y z ≡ flat_map (λ i. cell (a + i) y z ∷ []) (range_with_len 0 m) =
    λ y z. sym (flat_map_single (λ x. cell x y z) (range_with_len a m)) ∙ from_zero (λ x. cell x y z ∷ []) a m in
    flat_map-agree (λ z. flat_map (λ y. row y z) (range_with_len b n)) (λ z. flat_map (λ j. row (b + j) z) (range_with_len 0 n)) (range_with_len c o) (λ z. from_zero (λ y. row y z) b n)
    ∙ from_zero (λ z. flat_map (λ j. row (b + j) z) (range_with_len 0 n)) c o
    ∙ rows (λ i j. row (b + j) (c + i)) n o
    ∙ flat_map-agree (λ k. row (b + k % n) (c + k / n)) (λ k. flat_map (places k) (range_with_len 0 m)) (range_with_len 0 (o * n)) (λ k. in_row (b + k % n) (c + k / n))
    ∙ rows places m (o * n)
    ∙ flat_map_single (cell_by_number (a ∷ b ∷ c ∷ []) (m ∷ n ∷ o ∷ [])) (range_with_len 0 (o * n * m))
    ∙ ap (λ k. map (cell_by_number (a ∷ b ∷ c ∷ []) (m ∷ n ∷ o ∷ [])) (range_with_len 0 k)) size
