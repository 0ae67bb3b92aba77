-- How long a chunk that this writer stores can be.
use Rattle.std.proofs.Common.{◌≡◌, ℕ, zero, suc, ◌+◌, ◌*◌, ◌/◌, ◌^◌, ◌<◌, ◌≤◌, List, [], ◌∷◌, arith, refl, ap, ◌∙◌, ⊎_elim, Bool, true, false, IsTrue, Option, Some, None, cond}
use Rattle.std.specs.Prelude.{unwrap_or, nat_le}
use Rattle.std.proofs.lemmas.Bool.{cases_lt}
use Rattle.std.proofs.lemmas.Bool.Decides.{nat_tests}
use Rattle.std.proofs.Math.Nat.{mul-le-mul_right}
use Rattle.std.specs.Prelude.{find, sum_by}
use Rattle.std.proofs.lemmas.List.Sums.{sum_by-cons}
use Rattle.std.specs.List.{range_with_len}
use Rattle.vol_spec.specs.SegBlocks.{packed_words}
use Rattle.vol_spec.specs.SegFaults.{is_allowed}
use Rattle.vol_spec.specs.SegWritten.{bits_for}

-- an index never needs more bits than these
pub bits_1 : (len : ℕ) → len ≤ 1 → bits_for len ≡ 0
bits_1 len h = grind (arith, nat_tests)

step : (t : Bool) (a bound : ℕ) (rest : Option ℕ) → a ≤ bound → unwrap_or rest 32 ≤ bound → unwrap_or (cond t (Some a) rest) 32 ≤ bound
step true a bound rest here more = here
step false a bound rest here more = more

last : (t : Bool) (a bound : ℕ) (rest : Option ℕ) → a ≤ bound → IsTrue t → unwrap_or (cond t (Some a) rest) 32 ≤ bound
last true a bound rest here h = here
last false a bound rest here h = absurd (cc)

le_test : (a b : ℕ) → a ≤ b → IsTrue (nat_le a b)
le_test a b h = grind (arith, nat_tests)

abbrev rest_of : ℕ → List ℕ → Option ℕ
rest_of len bs = find (λ b. nat_le len (2 ^ b)) bs

pub bits_16 : (len : ℕ) → len ≤ 65536 → bits_for len ≤ 16
bits_16 len h = step (nat_le len (2 ^ 0)) 0 16 (rest_of len (1 ∷ 2 ∷ 4 ∷ 8 ∷ 16 ∷ [])) (omega arith) (step (nat_le len (2 ^ 1)) 1 16 (rest_of len (2 ∷ 4 ∷ 8 ∷ 16 ∷ [])) (omega arith) (step (nat_le len (2 ^ 2)) 2 16 (rest_of len (4 ∷ 8 ∷ 16 ∷ [])) (omega arith) (step (nat_le len (2 ^ 4)) 4 16 (rest_of len (8 ∷ 16 ∷ [])) (omega arith) (step (nat_le len (2 ^ 8)) 8 16 (rest_of len (16 ∷ [])) (omega arith) (last (nat_le len (2 ^ 16)) 16 16 None (omega arith) (le_test len 65536 h))))))

pub bits_32 : (len : ℕ) → bits_for len ≤ 32
bits_32 len = step (nat_le len (2 ^ 0)) 0 32 (rest_of len (1 ∷ 2 ∷ 4 ∷ 8 ∷ 16 ∷ [])) (omega arith) (step (nat_le len (2 ^ 1)) 1 32 (rest_of len (2 ∷ 4 ∷ 8 ∷ 16 ∷ [])) (omega arith) (step (nat_le len (2 ^ 2)) 2 32 (rest_of len (4 ∷ 8 ∷ 16 ∷ [])) (omega arith) (step (nat_le len (2 ^ 4)) 4 32 (rest_of len (8 ∷ 16 ∷ [])) (omega arith) (step (nat_le len (2 ^ 8)) 8 32 (rest_of len (16 ∷ [])) (omega arith) (step (nat_le len (2 ^ 16)) 16 32 (rest_of len []) (omega arith) (omega arith))))))

-- a block takes at most four words for each of its voxels: its header, its indices, its table
pub block_bound : (n len e : ℕ) → 0 < len → len ≤ n → e ≤ 2 → 2 + packed_words (bits_for len) n + e * len ≤ 4 * n
block_bound n len e some fits le =
    let table : e * len ≤ 2 * len = mul-le-mul_right len le in
    ⊎_elim
    (λ (one : len < 2).
    let none : bits_for len ≡ 0 = bits_1 len (omega arith) in
    let no_words : (bits_for len * n + 31) / 32 ≡ 0 = ap (λ b. (b * n + 31) / 32) none ∙ omega arith in
    omega arith)
    (λ (more : 2 ≤ len). ⊎_elim
    (λ (few : len < 65537).
    let b : bits_for len * n ≤ 16 * n = mul-le-mul_right n (bits_16 len (omega arith)) in
    omega arith)
    (λ (many : 65537 ≤ len).
    let b : bits_for len * n ≤ 32 * n = mul-le-mul_right n (bits_32 len) in
    omega arith)
    (cases_lt len 65537))
    (cases_lt len 2)

-- the words of the first k blocks of a channel, behind its headers
pub sum_bound : (f : ℕ → ℕ) (a k m : ℕ) → ((j : ℕ) → a ≤ j → j < a + k → 2 + f j ≤ m) → 2 * k + sum_by f (range_with_len a k) ≤ k * m
sum_bound f a zero m each = omega arith
sum_bound f a (suc k) m each =
    let rest : 2 * k + sum_by f (range_with_len (a + 1) k) ≤ k * m = sum_bound f (a + 1) k m (λ j l h. each j (omega arith) (omega arith)) in
    let here : 2 + f a ≤ m = each a (omega arith) (omega arith) in
    omega (arith, sum_by-cons f a (range_with_len (a + 1) k))

-- so many bits tell the entries apart
enough_step : (t : Bool) (len a : ℕ) (rest : Option ℕ) → (IsTrue t → len ≤ 2 ^ a) → len ≤ 2 ^ unwrap_or rest 32 → len ≤ 2 ^ unwrap_or (cond t (Some a) rest) 32
enough_step true len a rest here more = here refl
enough_step false len a rest here more = more

le_is : (a b : ℕ) → IsTrue (nat_le a b) → a ≤ b
le_is a b h = grind (arith, nat_tests)

pub bits_enough : (len : ℕ) → len ≤ 2 ^ 32 → len ≤ 2 ^ bits_for len
bits_enough len h = enough_step (nat_le len (2 ^ 0)) len 0 (rest_of len (1 ∷ 2 ∷ 4 ∷ 8 ∷ 16 ∷ [])) (le_is len 1) (enough_step (nat_le len (2 ^ 1)) len 1 (rest_of len (2 ∷ 4 ∷ 8 ∷ 16 ∷ [])) (le_is len 2) (enough_step (nat_le len (2 ^ 2)) len 2 (rest_of len (4 ∷ 8 ∷ 16 ∷ [])) (le_is len 4) (enough_step (nat_le len (2 ^ 4)) len 4 (rest_of len (8 ∷ 16 ∷ [])) (le_is len 16) (enough_step (nat_le len (2 ^ 8)) len 8 (rest_of len (16 ∷ [])) (le_is len 256) (enough_step (nat_le len (2 ^ 16)) len 16 (rest_of len []) (le_is len 65536) (omega arith))))))

allowed_step : (t : Bool) (a : ℕ) (rest : Option ℕ) → IsTrue (is_allowed a) → IsTrue (is_allowed (unwrap_or rest 32)) → IsTrue (is_allowed (unwrap_or (cond t (Some a) rest) 32))
allowed_step true a rest here more = here
allowed_step false a rest here more = more

pub bits_allowed : (len : ℕ) → IsTrue (is_allowed (bits_for len))
bits_allowed len = allowed_step (nat_le len (2 ^ 0)) 0 (rest_of len (1 ∷ 2 ∷ 4 ∷ 8 ∷ 16 ∷ [])) refl (allowed_step (nat_le len (2 ^ 1)) 1 (rest_of len (2 ∷ 4 ∷ 8 ∷ 16 ∷ [])) refl (allowed_step (nat_le len (2 ^ 2)) 2 (rest_of len (4 ∷ 8 ∷ 16 ∷ [])) refl (allowed_step (nat_le len (2 ^ 4)) 4 (rest_of len (8 ∷ 16 ∷ [])) refl (allowed_step (nat_le len (2 ^ 8)) 8 (rest_of len (16 ∷ [])) refl (allowed_step (nat_le len (2 ^ 16)) 16 (rest_of len []) refl refl)))))
