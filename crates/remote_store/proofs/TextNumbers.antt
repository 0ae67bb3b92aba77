-- Numbers that were printed, read back.
use Rattle.std.proofs.Common.{◌≡◌, ◌∙◌, ℕ, suc, ◌+◌, ◌<◌, ◌≤◌, ◌^◌, Bool, true, false, ◌&&◌, not, ◌==◌, nat_lt, leb, List, [], ◌∷◌, ◌++◌, length, length-append, take, drop, Some, None, if◌then◌else◌, position, ap, refl, arith}
use Rattle.std.specs.List.{list_all, prefix_len}
use Rattle.std.specs.Char.{is_ascii_digit}
use Rattle.std.specs.Fmt.{decimal}
use Rattle.std.specs.Str.Parse.{digits_value}
use Rattle.std.proofs.lemmas.Bool.{leb-true, le-leb, ne_eqb, eq-eqb}
use Rattle.std.proofs.lemmas.Fmt.{decimal_nonempty, digits_decimal, digits_value-decimal, length-decimal-le}
use Rattle.std.proofs.lemmas.Str.Parse.{IsDigitsTest, IsNumeralModel, numerals_by_value}
use Rattle.std.proofs.Math.Seq.{take-append_seam, drop-append-add}
use Rattle.range_server.specs.Ranges.{number}
use Rattle.httparse.specs.Grammar.{is_ows, skip_ows}
use Rattle.remote_store.specs.Fits.{number_before, number_to}

pub both : (x y : Bool) → (x && y) ≡ true → (x ≡ true) × (y ≡ true)
both true true e = (refl, refl)
both true false e = absurd (cc e)
both false y e = absurd (cc e)

tells_all : IsDigitsTest (λ ds. list_all is_ascii_digit ds ≡ true)
tells_all = record {
  empty = refl;
  parts = λ c cs e. let k = both (is_ascii_digit c) (list_all is_ascii_digit cs) e in let m = both (leb 48 c) (leb c 57) k.0 in ((leb-true 48 c m.0, leb-true c 57 m.1), k.1);
  more = λ c cs k e i. (le-leb 48 c k.0 i && le-leb c 57 k.1 i) && e i;
}

own : IsNumeralModel (λ ds. list_all is_ascii_digit ds ≡ true) (digits_value 10)
own = numerals_by_value (λ ds. list_all is_ascii_digit ds ≡ true) tells_all

pub all_digits : (n : ℕ) → n < 2 ^ 64 → list_all is_ascii_digit (decimal n) ≡ true
all_digits n h = digits_decimal own n h

pub number_short : (n : ℕ) → n < 2 ^ 64 → length (decimal n) ≤ 20
number_short n h = length-decimal-le 20 n (omega arith) (omega (arith, h)) h

read_all : (some all : Bool) (value n : ℕ) → some ≡ true → all ≡ true → value ≡ n → (if some && all then Some value else None) ≡ Some n
read_all some all value n a b e = rw (a, b, e) refl

pub number_decimal : (n : ℕ) → n < 2 ^ 64 → number (decimal n) ≡ Some n
unfolding number
number_decimal n h =
    read_all (nat_lt 0 (length (decimal n))) (list_all is_ascii_digit (decimal n)) _ n (le-leb 1 (length (decimal n)) (decimal_nonempty n h)) (all_digits n h)
    (digits_value-decimal own n h)

-- the mark behind digits is the first
digit_is_no : (c mark : ℕ) → is_ascii_digit c ≡ true → mark < 48 → (c == mark) ≡ false
digit_is_no c mark d m =
    let k = both (leb 48 c) (leb c 57) d in
    let low : 48 ≤ c = leb-true 48 c k.0 in
    ne_eqb c mark (omega arith)

run_len : (mark : ℕ) (ds rest : List ℕ) → mark < 48 → list_all is_ascii_digit ds ≡ true → (mark == mark) ≡ true
    → prefix_len (λ x. not (x == mark)) (ds ++ mark ∷ rest) ≡ length ds
run_len mark [] rest m all same = rw same refl
run_len mark (c ∷ ds) rest m all same =
    let k = both (is_ascii_digit c) (list_all is_ascii_digit ds) all in
    let no = digit_is_no c mark k.0 m in
    rw (no, run_len mark ds rest m k.1 same) omega arith

pub mark_behind : (mark : ℕ) (ds rest : List ℕ) → mark < 48 → list_all is_ascii_digit ds ≡ true
    → position (λ b. b == mark) (ds ++ mark ∷ rest) ≡ Some (length ds)
mark_behind mark ds rest m all =
    let len = run_len mark ds rest m all (eq-eqb mark mark refl) in
    let within : nat_lt (length ds) (length (ds ++ mark ∷ rest)) ≡ true = le-leb (suc (length ds)) (length (ds ++ mark ∷ rest)) (omega (arith, length-append ds (mark ∷ rest))) in
    rw (len, within) refl

-- a number up to a mark
pub number_up_to : (mark n : ℕ) (rest : List ℕ) → mark < 48 → n < 2 ^ 64 → number_before mark (decimal n ++ mark ∷ rest) ≡ Some (n, rest)
unfolding number_before
number_up_to mark n rest m h =
    let text = decimal n ++ mark ∷ rest in
    let front : take (length (decimal n)) text ≡ decimal n = take-append_seam (decimal n) (mark ∷ rest) in
    let behind : drop (length (decimal n) + 1) text ≡ rest = drop-append-add (decimal n) (mark ∷ rest) 1 in
    ap (number_to text) (mark_behind mark (decimal n) rest m (all_digits n h)) ∙ found text (length (decimal n)) front behind
  where
    found : (text : List ℕ) (at : ℕ) → take at text ≡ decimal n → drop (at + 1) text ≡ rest → number_to text (Some at) ≡ Some (n, rest)
    found text at front behind = rw (front, behind, number_decimal n h) refl

-- no blank stands at an end of what begins or ends with a digit
digit_is_no_blank : (c : ℕ) → is_ascii_digit c ≡ true → is_ows c ≡ false
digit_is_no_blank c d =
    let k = both (leb 48 c) (leb c 57) d in
    let low : 48 ≤ c = leb-true 48 c k.0 in
    rw (ne_eqb c 32 (omega arith), ne_eqb c 9 (omega arith)) refl

pub skip_at_digit : (c : ℕ) (rest : List ℕ) → is_ascii_digit c ≡ true → skip_ows (c ∷ rest) ≡ c ∷ rest
skip_at_digit c rest d = rw (digit_is_no_blank c d) refl

pub skip_at_digits : (ds rest : List ℕ) → 0 < length ds → list_all is_ascii_digit ds ≡ true → skip_ows (ds ++ rest) ≡ ds ++ rest
skip_at_digits [] rest some all = absurd (omega arith)
skip_at_digits (c ∷ ds) rest some all = skip_at_digit c (ds ++ rest) (both (is_ascii_digit c) (list_all is_ascii_digit ds) all).0
