-- Runs of digits and their numbers.
use Rattle.std.proofs.Common.{◌≡◌, ◌≢◌, ◌∙◌, ℕ, ◌+◌, ◌*◌, ◌^◌, ◌<◌, ◌≤◌, Bool, true, false, ◌&&◌, ◌==◌, nat_lt, List, [], ◌∷◌, length, pow-suc, mul-le-mul_right, inl, inr, ap, sym, refl, arith}
use native.Mathlib.Nat.{pow-le-pow_right}
use Rattle.std.specs.List.{list_all}
use Rattle.std.specs.Char.{is_ascii_digit, digit_value}
use Rattle.std.specs.Str.Parse.{digits_value, digits_value_after}
use Rattle.std.proofs.lemmas.Bool.{cases_Bool, cases_eq, cases_lt, cases_order}
use Rattle.std.proofs.lemmas.Bool.Decides.{nat_tests}
use Rattle.vol_base.proofs.Numbers.{digit_is}
use Rattle.range_server.specs.Digits.{digits_less, skip_zeros}

-- the number of the first digits counts by the power of those behind them
pub value_after : (n : ℕ) (ds : List ℕ) → digits_value_after 10 n ds ≡ n * 10 ^ length ds + digits_value 10 ds
value_after n [] = omega arith
value_after n (c ∷ cs) =
    let a = value_after (n * 10 + digit_value c) cs in
    let b = value_after (0 * 10 + digit_value c) cs in
    omega (arith, a, b, ap (λ x. n * x) (pow-suc 10 (length cs)))

pub value_first : (d : ℕ) (ds : List ℕ) → digits_value 10 (d ∷ ds) ≡ digit_value d * 10 ^ length ds + digits_value 10 ds
value_first d ds = omega (arith, value_after (0 * 10 + digit_value d) ds)

all_first : (d : ℕ) (ds : List ℕ) → list_all is_ascii_digit (d ∷ ds) ≡ true → (is_ascii_digit d ≡ true) × (list_all is_ascii_digit ds ≡ true)
all_first d ds h = elim (cases_Bool (is_ascii_digit d)) [
  | inl t ↦ (t, (λ i. sym t i && list_all is_ascii_digit ds) ∙ h)
  | inr f ↦ let bad : false ≡ true = sym f ∙ (λ i. f i) ∙ ((λ i. sym f i && list_all is_ascii_digit ds) ∙ h) in absurd (cc)
]

digit_small : (d : ℕ) → is_ascii_digit d ≡ true → (48 ≤ d) × (d ≤ 57)
digit_small d h = grind (arith, nat_tests)

pub value_below : (ds : List ℕ) → list_all is_ascii_digit ds ≡ true → digits_value 10 ds < 10 ^ length ds
value_below [] h = omega arith
value_below (d ∷ ds) h =
    let one = all_first d ds h in
    let rest = value_below ds one.1 in
    let small = digit_small d one.0 in
    let nine : digit_value d ≤ 9 = omega (arith, digit_is d one.0, small.1) in
    omega (arith, rest, value_first d ds, mul-le-mul_right (10 ^ length ds) nine, pow-suc 10 (length ds))

-- zeros in front
pub skipped_value : (ds : List ℕ) → digits_value 10 (skip_zeros ds) ≡ digits_value 10 ds
skipped_value [] = refl
skipped_value (d ∷ ds) = elim (cases_Bool (d == 48)) [
  | inl t ↦
      let e : d ≡ 48 = grind (arith, nat_tests) in
      rw t (skipped_value ds ∙ ap (λ k. digits_value_after 10 (0 * 10 + digit_value k) ds) (sym e))
  | inr f ↦ rw f refl
]

pub skipped_digits : (ds : List ℕ) → list_all is_ascii_digit ds ≡ true → list_all is_ascii_digit (skip_zeros ds) ≡ true
skipped_digits [] h = h
skipped_digits (d ∷ ds) h = elim (cases_Bool (d == 48)) [ inl t ↦ rw t (skipped_digits ds (all_first d ds h).1) | inr f ↦ rw f h ]

-- digits whose first isn't 0, or none
abbrev IsPlain : List ℕ → Type 0
IsPlain [] = Unit {0}
IsPlain (d ∷ ds) = d ≢ 48

skipped_plain : (ds : List ℕ) → IsPlain (skip_zeros ds)
skipped_plain [] = tt
skipped_plain (d ∷ ds) = elim (cases_Bool (d == 48)) [ inl t ↦ rw t (skipped_plain ds) | inr f ↦ rw f (λ e. grind (arith, nat_tests)) ]

-- fewer digits are less
shorter_less : (xs ys : List ℕ) → list_all is_ascii_digit xs ≡ true → list_all is_ascii_digit ys ≡ true → IsPlain ys → length xs < length ys → digits_value 10 xs < digits_value 10 ys
shorter_less xs [] hx hy p lt = absurd (omega (arith, lt))
shorter_less xs (d ∷ ds) hx hy p lt =
    let one = all_first d ds hy in
    let small = digit_small d one.0 in
    let some : 1 ≤ digit_value d = above p small.0 in
    omega (arith, value_below xs hx, value_first d ds, mul-le-mul_right (10 ^ length ds) some, power)
  where
    power : 10 ^ length xs ≤ 10 ^ length ds
    power = pow-le-pow_right (omega arith) (omega (arith, lt))

    above : d ≢ 48 → 48 ≤ d → 1 ≤ digit_value d
    above p le = elim (cases_eq d 48) [ inl e ↦ absurd (p e) | inr n ↦ omega (arith, digit_is d (all_first d ds hy).0, more le n) ]
      where
        more : 48 ≤ d → (d ≡ 48 → ⊥) → 48 < d
        more le n = elim (cases_lt 48 d) [ inl lt ↦ lt | inr ge ↦ absurd (n (omega (arith, le, ge))) ]

-- a test tells which number is less
abbrev Tells : Bool → ℕ → ℕ → Type 0
Tells true m n = m < n
Tells false m n = n ≤ m

told : (b : Bool) (m n : ℕ) → Tells b m n → b ≡ nat_lt m n
told true m n lt = grind (arith, nat_tests)
told false m n le = grind (arith, nat_tests)

tells_less : (m n : ℕ) → Tells (nat_lt m n) m n
tells_less m n = elim (cases_lt m n) [ inl lt ↦ let t : nat_lt m n ≡ true = grind (arith, nat_tests) in rw t lt | inr le ↦ let f : nat_lt m n ≡ false = grind (arith, nat_tests) in rw f le ]

tells_more : (b : Bool) (d p v w : ℕ) → Tells b v w → Tells b (d * p + v) (d * p + w)
tells_more true d p v w h = omega (arith, h)
tells_more false d p v w h = omega (arith, h)

-- the first digits that differ decide
first_decides : (d e p v w : ℕ) → v < p → d < e → d * p + v < e * p + w
first_decides d e p v w small lt = omega (arith, small, mul-le-mul_right p lt)

there_tells : (xs ys : List ℕ) → length xs ≡ length ys → list_all is_ascii_digit xs ≡ true → list_all is_ascii_digit ys ≡ true → Tells (digits_less xs ys) (digits_value 10 xs) (digits_value 10 ys)
there_tells [] [] e hx hy = omega arith
there_tells [] (y ∷ ys) e hx hy = absurd (omega (arith, e))
there_tells (x ∷ xs) [] e hx hy = absurd (omega (arith, e))
there_tells (x ∷ xs) (y ∷ ys) e hx hy =
    let one = all_first x xs hx in
    let two = all_first y ys hy in
    let same : length xs ≡ length ys = omega (arith, e) in
    let p = 10 ^ length ys in
    let vx : digits_value 10 (x ∷ xs) ≡ digit_value x * p + digits_value 10 xs = value_first x xs ∙ ap (λ n. digit_value x * 10 ^ n + digits_value 10 xs) same in
    let small : digits_value 10 xs < p = omega (arith, value_below xs one.1, ap (λ n. 10 ^ n) same) in
    rw (vx, value_first y ys) (elim (cases_order x y) [
      | inl eq ↦
          let t : (x == y) ≡ true = grind (arith, nat_tests) in
          rw (t, ap digit_value eq) (tells_more (digits_less xs ys) (digit_value y) p (digits_value 10 xs) (digits_value 10 ys) (there_tells xs ys same one.1 two.1))
      | inr (inl lt) ↦
          let f : (x == y) ≡ false = grind (arith, nat_tests) in
          let t : nat_lt x y ≡ true = grind (arith, nat_tests) in
          rw (f, t) (first_decides (digit_value x) (digit_value y) p (digits_value 10 xs) (digits_value 10 ys) small (omega (arith, digit_is x one.0, digit_is y two.0, (digit_small x one.0).0, lt)))
      | inr (inr lt) ↦
          let f : (x == y) ≡ false = grind (arith, nat_tests) in
          let t : nat_lt x y ≡ false = grind (arith, nat_tests) in
          rw (f, t) (le_from (first_decides (digit_value y) (digit_value x) p (digits_value 10 ys) (digits_value 10 xs) (value_below ys two.1) (omega (arith, digit_is x one.0, digit_is y two.0, (digit_small y two.0).0, lt))))
    ])
  where
    le_from : {m n : ℕ} → m < n → m ≤ n
    le_from lt = omega (arith, lt)

-- with the zeros in front left out, runs of one length are compared digit by digit, and else by their lengths
pub less_same : (xs ys : List ℕ) → list_all is_ascii_digit xs ≡ true → list_all is_ascii_digit ys ≡ true → length (skip_zeros xs) ≡ length (skip_zeros ys)
    → digits_less (skip_zeros xs) (skip_zeros ys) ≡ nat_lt (digits_value 10 xs) (digits_value 10 ys)
less_same xs ys hx hy e =
    told (digits_less (skip_zeros xs) (skip_zeros ys)) _ _ (there_tells (skip_zeros xs) (skip_zeros ys) e (skipped_digits xs hx) (skipped_digits ys hy))
    ∙ (λ i. nat_lt (skipped_value xs i) (skipped_value ys i))

by_length : (xs ys : List ℕ) → list_all is_ascii_digit xs ≡ true → list_all is_ascii_digit ys ≡ true → IsPlain xs → IsPlain ys → length xs ≢ length ys
    → nat_lt (length xs) (length ys) ≡ nat_lt (digits_value 10 xs) (digits_value 10 ys)
by_length xs ys hx hy px py apart = elim (cases_order (length xs) (length ys)) [
  | inl e ↦ absurd (apart e)
  | inr (inl lt) ↦ let less = shorter_less xs ys hx hy py lt in grind (arith, nat_tests)
  | inr (inr lt) ↦ let less = shorter_less ys xs hy hx px lt in grind (arith, nat_tests)
]

pub less_apart : (xs ys : List ℕ) → list_all is_ascii_digit xs ≡ true → list_all is_ascii_digit ys ≡ true → length (skip_zeros xs) ≢ length (skip_zeros ys)
    → nat_lt (length (skip_zeros xs)) (length (skip_zeros ys)) ≡ nat_lt (digits_value 10 xs) (digits_value 10 ys)
less_apart xs ys hx hy apart =
    by_length (skip_zeros xs) (skip_zeros ys) (skipped_digits xs hx) (skipped_digits ys hy) (skipped_plain xs) (skipped_plain ys) apart
    ∙ (λ i. nat_lt (skipped_value xs i) (skipped_value ys i))
