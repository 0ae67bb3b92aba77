-- When the cells of an axis meet a part.
use Rattle.std.proofs.Common.{◌≡◌, ℕ, ◌+◌, ◌-◌, ◌*◌, ◌/◌, ◌<◌, ◌≤◌, min, refl, sym, arith, rules}
use Rattle.std.specs.Prelude.{◌&&◌, Bool, true, false, nat_le, ℤ, pos, ◌+ℤ◌, ◌≤ℤ◌, ◌<ℤ◌, int_le, int_lt, IsTrue}
use Rattle.std.specs.Int.{int_max, int_min}
use Rattle.std.proofs.lemmas.Int.{ints, clamps}
use Rattle.std.proofs.lemmas.Bool.{and_from, and_parts}
use Rattle.std.proofs.lemmas.Bool.Decides.{nat_tests}
use Rattle.std.proofs.lemmas.Nat.{div_below, mod_below, le-div}
use Rattle.std.proofs.Math.Nat.{mod-add-div, div-mul-le_self, mul-le-mul_right}

-- comparisons of integers, as tests and as facts
pub int_le-true : (a b : ℤ) → a ≤ℤ b → int_le a b ≡ true
int_le-true a b h = grind (arith, ints)

pub int_le-from : (a b : ℤ) → int_le a b ≡ true → a ≤ℤ b
int_le-from a b h = grind (arith, ints)

pub int_lt-true : (a b : ℤ) → a <ℤ b → int_lt a b ≡ true
int_lt-true a b h = grind (arith, ints)

pub int_lt-from : (a b : ℤ) → int_lt a b ≡ true → a <ℤ b
int_lt-from a b h = grind (arith, ints)

-- both begins are before both ends
pub overlaps : (a b c d : ℤ) → a <ℤ c → a <ℤ d → b <ℤ c → b <ℤ d → int_lt (int_max a b) (int_min c d) ≡ true
overlaps a b c d ac ad bc bd = int_lt-true (int_max a b) (int_min c d) (omega (arith, ints, clamps))

pub overlap_from : (a b c d : ℤ) → int_lt (int_max a b) (int_min c d) ≡ true → (a <ℤ c) × (a <ℤ d) × (b <ℤ c) × (b <ℤ d)
overlap_from a b c d e =
    let h : int_max a b <ℤ int_min c d = int_lt-from (int_max a b) (int_min c d) e in
    (omega (arith, ints, clamps), omega (arith, ints, clamps), omega (arith, ints, clamps), omega (arith, ints, clamps))

-- a block and a part of one axis, from the same begin
pub overlap_numbers : (o : ℤ) (kc c f n : ℕ) → int_lt (int_max (o +ℤ pos kc) (o +ℤ pos f)) (int_min ((o +ℤ pos kc) +ℤ pos c) ((o +ℤ pos f) +ℤ pos n)) ≡ true
    → (0 < c) × (kc < f + n) × (f < kc + c) × (0 < n)
overlap_numbers o kc c f n e =
    let h = overlap_from (o +ℤ pos kc) (o +ℤ pos f) ((o +ℤ pos kc) +ℤ pos c) ((o +ℤ pos f) +ℤ pos n) e in
    (omega (arith, ints), omega (arith, ints), omega (arith, ints), omega (arith, ints))

pub numbers_overlap : (o : ℤ) (kc c f n : ℕ) → 0 < c → kc < f + n → f < kc + c → 0 < n
    → int_lt (int_max (o +ℤ pos kc) (o +ℤ pos f)) (int_min ((o +ℤ pos kc) +ℤ pos c) ((o +ℤ pos f) +ℤ pos n)) ≡ true
numbers_overlap o kc c f n c0 kf fk n0 =
    overlaps (o +ℤ pos kc) (o +ℤ pos f) ((o +ℤ pos kc) +ℤ pos c) ((o +ℤ pos f) +ℤ pos n) (omega (arith, ints)) (omega (arith, ints)) (omega (arith, ints)) (omega (arith, ints))

pub same_bools : (a b : Bool) → (a ≡ true → b ≡ true) → (b ≡ true → a ≡ true) → a ≡ b
same_bools true b f g = sym (f refl)
same_bools false true f g = g refl
same_bools false false f g = refl

le_from : (m n : ℕ) → nat_le m n ≡ true → m ≤ n
le_from m n e = grind (arith, nat_tests)

le_true : (m n : ℕ) → m ≤ n → nat_le m n ≡ true
le_true m n e = grind (arith, nat_tests)

-- the cells that meet a part from place f on, n places long, are those from its first place's to its last place's
numbers_from : (size chunk n f k : ℕ) → 1 ≤ chunk → f < k * chunk + min chunk (size - k * chunk) → k * chunk < f + n → (f / chunk ≤ k) × (k ≤ (f + n - 1) / chunk)
numbers_from size chunk n f k c high low =
    let next : (k + 1) * chunk ≡ k * chunk + chunk = omega arith in
    let first : f / chunk < k + 1 = div_below f chunk (k + 1) c (omega arith) in
    (omega arith, le-div k (f + n - 1) chunk c (omega arith))

numbers_to : (size chunk n f k : ℕ) → 1 ≤ chunk → 0 < n → f + n ≤ size → f / chunk ≤ k → k ≤ (f + n - 1) / chunk
    → (0 < min chunk (size - k * chunk)) × (k * chunk < f + n) × (f < k * chunk + min chunk (size - k * chunk))
numbers_to size chunk n f k c n0 within first last =
    let parts = mod-add-div f chunk in
    let less = mod_below f chunk c in
    let down : f / chunk * chunk ≤ k * chunk = mul-le-mul_right chunk first in
    let up : k * chunk ≤ (f + n - 1) / chunk * chunk = mul-le-mul_right chunk last in
    let low = div-mul-le_self (f + n - 1) chunk in
    let end : k * chunk < f + n = omega arith in
    let begin : f < k * chunk + chunk = omega arith in
    (omega arith, end, omega arith)

pub meets_by_number : (o : ℤ) (size chunk n f k : ℕ) → 1 ≤ chunk → 0 < n → f + n ≤ size
    → int_lt (int_max (o +ℤ pos (k * chunk)) (o +ℤ pos f)) (int_min ((o +ℤ pos (k * chunk)) +ℤ pos (min chunk (size - k * chunk))) ((o +ℤ pos f) +ℤ pos n))
    ≡ (nat_le (f / chunk) k && nat_le k ((f + n - 1) / chunk))
meets_by_number o size chunk n f k c n0 within =
    same_bools _ _
    (λ e.
    let h = overlap_numbers o (k * chunk) (min chunk (size - k * chunk)) f n e in
    let g = numbers_from size chunk n f k c h.2 h.1 in
    and_from _ _ (le_true _ _ g.0) (le_true _ _ g.1))
    (λ e.
    let h = and_parts _ _ e in
    let g = numbers_to size chunk n f k c n0 within (le_from _ _ h.0) (le_from _ _ h.1) in
    numbers_overlap o (k * chunk) (min chunk (size - k * chunk)) f n g.0 g.1 g.2 n0)

-- the numbers from a first to a last one, as a test
pub before_none : (first last k : ℕ) → k < first → (nat_le first k && nat_le k last) ≡ false
before_none first last k h = grind (arith, nat_tests)

pub between_all : (first last k : ℕ) → first ≤ k → k ≤ last → (nat_le first k && nat_le k last) ≡ true
between_all first last k low high = and_from _ _ (le_true first k low) (le_true k last high)

pub behind_none : (first last k : ℕ) → last < k → (nat_le first k && nat_le k last) ≡ false
behind_none first last k h = grind (arith, nat_tests)

pub is_true : (b : Bool) → b ≡ true → IsTrue b
is_true b e = rw e (search rules)

pub true_from : (b : Bool) → IsTrue b → b ≡ true
true_from true t = refl
true_from false t = absurd (search rules)

pub not_true : (b : Bool) → IsTrue b → b ≡ false → ⊥
not_true b t e = cc (true_from b t, e)
