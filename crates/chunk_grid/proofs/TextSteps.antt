-- The text of a cell's name.
use Rattle.std.proofs.Common.{◌≡◌, ℕ, suc, ◌+◌, ◌/◌, ◌%◌, ◌^◌, ◌<◌, ◌≤◌, List, [], ◌∷◌, ◌++◌, true, IsTrue, length, refl, ap, ◌∙◌, sym, subst, arith, lit<, append_assoc, length-append, Some, None}
use Rattle.std.specs.Prelude.{ℤ, pos, negsuc, neg_ℤ, ◌≤ℤ◌, ◌+ℤ◌, nat_abs, if◌then◌else◌}
use Rattle.std.specs.Int.Signed.{mag}
use Rattle.std.specs.Fmt.{decimal, signed_decimal}
use Rattle.std.proofs.lemmas.Fmt.{decimal_digit, decimal_step, decimal_by_steps, length_signed_le, length-decimal-le}
use Rattle.std.proofs.lemmas.Int.{ints}
use Rattle.std.proofs.lemmas.Bool.{and_from}
use Rattle.std.proofs.lemmas.Bool.Decides.{nat_tests}
use Rattle.vol_base.specs.declared.boxes.Box3.{Box3}
use Rattle.vol_base.specs.Boxes.{at, end, size}
use Rattle.vol_base.specs.Names.{is_name, is_name_byte}
use Rattle.vol_base.proofs.Joined.{is_name-joined}
use Rattle.vol_base.proofs.NameBytes.{HasNameBytes, bytes-append, chosen, is_name-bytes}
use Rattle.vol_spec.specs.CellNames.{joined, span_text, box_name}
use Rattle.chunk_grid.specs.Axes.{IsSmallOn}

-- the digits of a number
pub one_digit : (n : ℕ) → n < 10 → length (decimal n) ≡ 1
one_digit n h = ap length (decimal_digit n h)

pub more_digits : (n : ℕ) → 10 ≤ n → n < 2 ^ 64 → length (decimal n) ≡ length (decimal (n / 10)) + 1
more_digits n h f = ap length (decimal_step n h f) ∙ length-append (decimal (n / 10)) ((48 + n % 10) ∷ [])

-- a small number has at most 13 digits and a sign
mag_small : (z : ℤ) → neg_ℤ (pos (2 ^ 42)) ≤ℤ z → z ≤ℤ pos (2 ^ 42) → mag z + 1 < 10 ^ 13
mag_small (pos n) low high = omega (arith, ints)
mag_small (negsuc n) low high = omega (arith, ints)

pub signed_short : (z : ℤ) → neg_ℤ (pos (2 ^ 42)) ≤ℤ z → z ≤ℤ pos (2 ^ 42) → length (signed_decimal z) ≤ 14
signed_short z low high = let small = mag_small z low high in length_signed_le 13 z small (omega (arith, small))

pub digits_short : (z : ℤ) → neg_ℤ (pos (2 ^ 42)) ≤ℤ z → z ≤ℤ pos (2 ^ 42) → length (decimal (nat_abs z)) ≤ 13
digits_short (pos n) low high = length-decimal-le 13 n (lit< tt) (omega (arith, ints)) (omega (arith, ints))
digits_short (negsuc n) low high = length-decimal-le 13 (suc n) (lit< tt) (omega (arith, ints)) (omega (arith, ints))

pub digits_fit : (at len m : ℕ) (z : ℤ) → m ≡ nat_abs z → neg_ℤ (pos (2 ^ 42)) ≤ℤ z → z ≤ℤ pos (2 ^ 42) → at + 13 ≤ len → at + length (decimal m) ≤ len
digits_fit at len m z e low high room =
    let short = digits_short z low high in
    let same : length (decimal m) ≡ length (decimal (nat_abs z)) = ap (λ k. length (decimal k)) e in
    omega (arith, short, same)

-- the last digit behind the others
pub more_text : (front t u : List ℕ) (n : ℕ) → t ≡ front ++ decimal (n / 10) → u ≡ t ++ (48 + n % 10) ∷ [] → 10 ≤ n → n < 2 ^ 64 → u ≡ front ++ decimal n
more_text front t u n e f h l =
    f ∙ ap (λ ds. ds ++ (48 + n % 10) ∷ []) e ∙ append_assoc front (decimal (n / 10)) ((48 + n % 10) ∷ []) ∙ ap (λ ds. front ++ ds) (sym (decimal_step n h l))

-- each byte is one of a name
bytes-cons : (x : ℕ) (xs : List ℕ) → is_name_byte x ≡ true → HasNameBytes xs → HasNameBytes (x ∷ xs)
bytes-cons x xs h k = and_from _ _ h k

digit_byte : (d : ℕ) → d < 10 → is_name_byte (48 + d) ≡ true
digit_byte d h = grind (arith, nat_tests)

decimal_bytes : (n : ℕ) → n < 2 ^ 64 → HasNameBytes (decimal n)
decimal_bytes n h =
    decimal_by_steps (λ n ds. HasNameBytes ds)
    (λ n l. bytes-cons (48 + n) [] (digit_byte n l) refl)
    (λ n ds l k. bytes-append ds ((48 + n % 10) ∷ []) k (bytes-cons (48 + n % 10) [] (digit_byte (n % 10) (omega arith)) refl))
    n h

signed_bytes : (z : ℤ) → mag z + 1 < 10 ^ 13 → HasNameBytes (signed_decimal z)
signed_bytes (pos n) h = decimal_bytes n (omega arith)
signed_bytes (negsuc n) h = bytes-cons 45 (decimal (suc n)) refl (decimal_bytes (suc n) (omega arith))

-- the name of a small box
record IsShortSpan (text : List ℕ) : Type 0 where
  pub bytes : HasNameBytes text
  pub some : 1 ≤ length text
  pub short : length text ≤ 29

ends_small : (b : ℤ) (n : ℕ) → n ≤ 2 ^ 40 → neg_ℤ (pos (2 ^ 40)) ≤ℤ b → b ≤ℤ pos (2 ^ 41) → (neg_ℤ (pos (2 ^ 42)) ≤ℤ b) × (b ≤ℤ pos (2 ^ 42)) × (neg_ℤ (pos (2 ^ 42)) ≤ℤ (b +ℤ pos n)) × ((b +ℤ pos n) ≤ℤ pos (2 ^ 42))
ends_small b n s low high = (omega (arith, ints), omega (arith, ints), omega (arith, ints), omega (arith, ints))

span_short : (b : Box3) (axis : ℕ) → IsSmallOn b axis → IsShortSpan (span_text b axis)
span_short b axis h =
    let s = ends_small (at b.begin axis) (size b axis) h.sized h.low h.high in
    let begin : List ℕ = signed_decimal (at b.begin axis) in
    let end : List ℕ = signed_decimal (end b axis) in
    let first = signed_short (at b.begin axis) s.0 s.1 in
    let last = signed_short (at b.begin axis +ℤ pos (size b axis)) s.2 s.3 in
    let long = length-append begin (45 ∷ end) in
    record {
      bytes = bytes-append begin (45 ∷ end) (signed_bytes (at b.begin axis) (mag_small _ s.0 s.1)) (bytes-cons 45 end refl (signed_bytes (at b.begin axis +ℤ pos (size b axis)) (mag_small _ s.2 s.3)));
      some = omega (arith, long);
      short = omega (arith, long, first, last);
    }

pub record IsBoxName (text : List ℕ) : Type 0 where
  pub is : IsTrue (is_name text)
  pub short : length text ≤ 89

pub box_name-short : (b : Box3) → ((axis : ℕ) → axis < 3 → IsSmallOn b axis) → IsBoxName (box_name b)
box_name-short b h =
    let x = span_short b 0 (h 0 (lit< tt)) in
    let y = span_short b 1 (h 1 (lit< tt)) in
    let z = span_short b 2 (h 2 (lit< tt)) in
    let rest : List ℕ = span_text b 1 ++ 95 ∷ span_text b 2 in
    let inner : length rest ≡ length (span_text b 1) + (length (span_text b 2) + 1) = length-append (span_text b 1) (95 ∷ span_text b 2) ∙ omega arith in
    let outer : length (box_name b) ≡ length (span_text b 0) + (length rest + 1) = length-append (span_text b 0) (95 ∷ rest) ∙ omega arith in
    let bytes : HasNameBytes (box_name b) = bytes-append (span_text b 0) (95 ∷ rest) x.bytes (bytes-cons 95 rest refl (bytes-append (span_text b 1) (95 ∷ span_text b 2) y.bytes (bytes-cons 95 (span_text b 2) refl z.bytes))) in
    let xs = x.short in
    let ys = y.short in
    let zs = z.short in
    let xn = x.some in
    let yn = y.some in
    record { is = is_name-bytes (box_name b) bytes (omega arith) (omega arith); short = omega arith }

-- the whole name
pub full_name : (d k b : List ℕ) → IsTrue (is_name d) → IsTrue (is_name k) → IsBoxName b → length d ≤ 200 → length k ≤ 200 → IsTrue (is_name (joined (joined d k) b))
full_name d k b hd hk hb ld lk =
    let folder = is_name-joined d k hd hk (omega arith) in
    let long : length (joined d k) ≡ length d + (length k + 1) = length-append d (47 ∷ k) ∙ omega arith in
    let short = hb.short in
    is_name-joined (joined d k) b folder hb.is (omega arith)

pub put_together : (d k b t u : List ℕ) → t ≡ joined d k ++ 47 ∷ [] → u ≡ t ++ b → u ≡ joined (joined d k) b
put_together d k b t u e f = f ∙ ap (λ x. x ++ b) e ∙ append_assoc (joined d k) (47 ∷ []) b

-- what `Name::new` answers at a name
pub record IsToldName (d k b u : List ℕ) : Type 0 where
  pub text : u ≡ joined (joined d k) b
  pub answer : (if is_name u then Some u else None) ≡ Some u

-- the text of a buffer is the name of a box
pub told_name : (d k dn kn : List ℕ) (part : Box3) (t u : List ℕ) → dn ≡ d → kn ≡ k → IsTrue (is_name d) → IsTrue (is_name k) → length d ≤ 200 → length k ≤ 200
    → ((axis : ℕ) → axis < 3 → IsSmallOn part axis) → t ≡ joined dn kn ++ 47 ∷ [] → u ≡ t ++ box_name part → IsToldName d k (box_name part) u
told_name d k dn kn part t u ed ek hd hk ld lk small et eu =
    let front : joined dn kn ≡ joined d k = ap (λ x. joined x kn) ed ∙ ap (joined d) ek in
    let text : u ≡ joined (joined d k) (box_name part) = put_together d k (box_name part) t u (et ∙ ap (λ x. x ++ 47 ∷ []) front) eu in
    let is : IsTrue (is_name u) = subst (λ x. IsTrue (is_name x)) (sym text) (full_name d k (box_name part) hd hk (box_name-short part small) ld lk) in
    record { text = text; answer = chosen u (is_name u) is }
