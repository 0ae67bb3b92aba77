-- Lists over ranges of numbers.
use Rattle.std.proofs.Common.{◌≡◌, ℕ, zero, suc, ◌+◌, ◌-◌, ◌*◌, ◌/◌, ◌%◌, ◌<◌, ◌≤◌, List, [], ◌∷◌, ◌++◌, Bool, true, false, cond, map, refl, ap, ◌∙◌, sym, arith}
use Rattle.std.specs.Prelude.{filter, flat_map}
use Rattle.std.specs.List.{range_with_len}
use Rattle.std.proofs.lemmas.List.{append-nil}
use Rattle.std.proofs.lemmas.Grind.{flat_map-append}
use Rattle.std.proofs.lemmas.List.Elements.{filter-append}
use Rattle.std.proofs.lemmas.Nat.{div-mul-add, mod-mul-add}

-- a range in two parts
pub range-add : (a m n : ℕ) → range_with_len a (m + n) ≡ range_with_len a m ++ range_with_len (a + m) n
range-add a zero n =
    let e : zero + n ≡ n = omega arith in
    let f : a ≡ a + zero = omega arith in
    ap (range_with_len a) e ∙ ap (λ b. range_with_len b n) f
range-add a (suc m) n =
    let e : suc m + n ≡ suc (m + n) = omega arith in
    let f : a + 1 + m ≡ a + suc m = omega arith in
    ap (range_with_len a) e ∙ ap (λ xs. a ∷ xs) (range-add (a + 1) m n ∙ ap (λ b. range_with_len (a + 1) m ++ range_with_len b n) f)

-- the same over numbers further on
pub flat_map-shift : {A : Type 0} (F G : ℕ → List A) (a b n : ℕ) → ((i : ℕ) → i < n → F (a + i) ≡ G (b + i)) → flat_map F (range_with_len a n) ≡ flat_map G (range_with_len b n)
flat_map-shift F G a b zero same = refl
flat_map-shift {A} F G a b (suc n) same =
    let ea : a + 0 ≡ a = omega arith in
    let eb : b + 0 ≡ b = omega arith in
    let first : F a ≡ G b = sym (ap F ea) ∙ same 0 (omega arith) ∙ ap G eb in
    let rest : flat_map F (range_with_len (a + 1) n) ≡ flat_map G (range_with_len (b + 1) n) =
    flat_map-shift F G (a + 1) (b + 1) n (λ i h.
    let fa : (a + 1) + i ≡ a + (i + 1) = omega arith in
    let fb : b + (i + 1) ≡ (b + 1) + i = omega arith in
    ap F fa ∙ same (i + 1) (omega arith) ∙ ap G fb) in
    ap (λ xs. xs ++ flat_map F (range_with_len (a + 1) n)) first ∙ ap (λ xs. G b ++ xs) rest

-- rows of m, each number of which is a row and a place in it
pub rows_from : {A : Type 0} (F : ℕ → ℕ → List A) (m a n : ℕ)
    → flat_map (λ i. flat_map (F i) (range_with_len 0 m)) (range_with_len a n) ≡ flat_map (λ k. F (k / m) (k % m)) (range_with_len (a * m) (n * m))
rows_from F m a zero =
    let e : 0 * m ≡ 0 = omega arith in
    ap (λ n. flat_map (λ k. F (k / m) (k % m)) (range_with_len (a * m) n)) (sym e)
rows_from {A} F m a (suc n) =
    let H : ℕ → List A = λ k. F (k / m) (k % m) in
    let e : suc n * m ≡ m + n * m = omega arith in
    let f : a * m + m ≡ (a + 1) * m = omega arith in
    let row : flat_map (F a) (range_with_len 0 m) ≡ flat_map H (range_with_len (a * m) m) =
    flat_map-shift (F a) H 0 (a * m) m (λ i h.
    let z : 0 + i ≡ i = omega arith in
    ap (F a) z ∙ sym (ap (λ q. F q ((a * m + i) % m)) (div-mul-add a m i h) ∙ ap (F a) (mod-mul-add a m i h))) in
    ap (λ xs. xs ++ flat_map (λ i. flat_map (F i) (range_with_len 0 m)) (range_with_len (a + 1) n)) row
    ∙ ap (λ xs. flat_map H (range_with_len (a * m) m) ++ xs) (rows_from F m (a + 1) n)
    ∙ ap (λ b. flat_map H (range_with_len (a * m) m) ++ flat_map H (range_with_len b (n * m))) (sym f)
    ∙ sym (flat_map-append H (range_with_len (a * m) m) (range_with_len (a * m + m) (n * m)))
    ∙ ap (flat_map H) (sym (range-add (a * m) m (n * m)))
    ∙ ap (λ c. flat_map H (range_with_len (a * m) c)) (sym e)

pub rows : {A : Type 0} (F : ℕ → ℕ → List A) (m n : ℕ)
    → flat_map (λ i. flat_map (F i) (range_with_len 0 m)) (range_with_len 0 n) ≡ flat_map (λ k. F (k / m) (k % m)) (range_with_len 0 (n * m))
rows F m n =
    let e : 0 * m ≡ 0 = omega arith in
    rows_from F m 0 n ∙ ap (λ a. flat_map (λ k. F (k / m) (k % m)) (range_with_len a (n * m))) e

-- lists that agree at each element
pub flat_map-agree : {X A : Type 0} (F G : X → List A) (xs : List X) → ((x : X) → F x ≡ G x) → flat_map F xs ≡ flat_map G xs
flat_map-agree F G [] same = refl
flat_map-agree F G (x ∷ xs) same = ap (λ ys. ys ++ flat_map F xs) (same x) ∙ ap (λ ys. G x ++ ys) (flat_map-agree F G xs same)

-- a filter goes into the pieces,
pub filter-flat_map : {X A : Type 0} (p : A → Bool) (F : X → List A) (xs : List X) → filter p (flat_map F xs) ≡ flat_map (λ x. filter p (F x)) xs
filter-flat_map p F [] = refl
filter-flat_map p F (x ∷ xs) = filter-append p (F x) (flat_map F xs) ∙ ap (λ ys. filter p (F x) ++ ys) (filter-flat_map p F xs)

-- and pieces that a test empties fall away
on_cond : {X A : Type 0} (b : Bool) (F : X → List A) (x : X) (xs : List X) → flat_map F (cond b (x ∷ xs) xs) ≡ cond b (F x) [] ++ flat_map F xs
on_cond true F x xs = refl
on_cond false F x xs = refl

pub flat_map-filter : {X A : Type 0} (t : X → Bool) (F : X → List A) (xs : List X) → flat_map (λ x. cond (t x) (F x) []) xs ≡ flat_map F (filter t xs)
flat_map-filter t F [] = refl
flat_map-filter t F (x ∷ xs) = ap (λ ys. cond (t x) (F x) [] ++ ys) (flat_map-filter t F xs) ∙ sym (on_cond (t x) F x (filter t xs))

pub filter-map : {X A : Type 0} (p : A → Bool) (f : X → A) (xs : List X) → filter p (map f xs) ≡ map f (filter (λ x. p (f x)) xs)
filter-map p f [] = refl
filter-map {X} {A} p f (x ∷ xs) =
    elim (p (f x)) as (λ b. cond b (f x ∷ filter p (map f xs)) (filter p (map f xs)) ≡ map f (cond b (x ∷ filter (λ x. p (f x)) xs) (filter (λ x. p (f x)) xs))) [
      | true ↦ ap (λ ys. f x ∷ ys) (filter-map p f xs)
      | false ↦ filter-map p f xs
    ]

-- a test that fails at all of a range, and one that holds at all of it
pub filter-none : (p : ℕ → Bool) (a n : ℕ) → ((i : ℕ) → a ≤ i → i < a + n → p i ≡ false) → filter p (range_with_len a n) ≡ []
filter-none p a zero fails = refl
filter-none p a (suc n) fails = rw (fails a (omega arith) (omega arith)) (filter-none p (a + 1) n (λ i low high. fails i (omega arith) (omega arith)))

pub filter-all : (p : ℕ → Bool) (a n : ℕ) → ((i : ℕ) → a ≤ i → i < a + n → p i ≡ true) → filter p (range_with_len a n) ≡ range_with_len a n
filter-all p a zero holds = refl
filter-all p a (suc n) holds = rw (holds a (omega arith) (omega arith)) (ap (λ xs. a ∷ xs) (filter-all p (a + 1) n (λ i low high. holds i (omega arith) (omega arith))))

-- a test that holds from a first number on, so many times
pub filter-between : (p : ℕ → Bool) (first count n : ℕ) → first + count ≤ n
    → ((i : ℕ) → i < first → p i ≡ false) → ((i : ℕ) → first ≤ i → i < first + count → p i ≡ true) → ((i : ℕ) → first + count ≤ i → p i ≡ false)
    → filter p (range_with_len 0 n) ≡ range_with_len first count
filter-between p first count n h before between behind =
    let e : n ≡ first + (count + (n - (first + count))) = omega arith in
    let z : 0 + first ≡ first = omega arith in
    let low : filter p (range_with_len 0 first) ≡ [] = filter-none p 0 first (λ i l h. before i (omega arith)) in
    let mid : filter p (range_with_len first count) ≡ range_with_len first count = filter-all p first count between in
    let high : filter p (range_with_len (first + count) (n - (first + count))) ≡ [] = filter-none p (first + count) (n - (first + count)) (λ i l h. behind i l) in
    let parts : range_with_len first (count + (n - (first + count))) ≡ range_with_len first count ++ range_with_len (first + count) (n - (first + count)) = range-add first count (n - (first + count)) in
    ap (λ k. filter p (range_with_len 0 k)) e
    ∙ ap (filter p) (range-add 0 first (count + (n - (first + count))) ∙ ap (λ b. range_with_len 0 first ++ range_with_len b (count + (n - (first + count)))) z ∙ ap (λ xs. range_with_len 0 first ++ xs) parts)
    ∙ filter-append p (range_with_len 0 first) (range_with_len first count ++ range_with_len (first + count) (n - (first + count)))
    ∙ ap (λ xs. xs ++ filter p (range_with_len first count ++ range_with_len (first + count) (n - (first + count)))) low
    ∙ filter-append p (range_with_len first count) (range_with_len (first + count) (n - (first + count)))
    ∙ ap (λ xs. xs ++ filter p (range_with_len (first + count) (n - (first + count)))) mid
    ∙ ap (λ xs. range_with_len first count ++ xs) high
    ∙ append-nil (range_with_len first count)
