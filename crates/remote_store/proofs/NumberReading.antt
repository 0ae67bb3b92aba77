-- The numbers of a head, digit by digit.
use Rattle.std.proofs.Common.{◌≡◌, ◌∙◌, ℕ, suc, ◌+◌, ◌-◌, ◌*◌, ◌^◌, ◌<◌, ◌≤◌, Bool, true, false, ◌&&◌, nat_lt, List, [], ◌∷◌, ◌++◌, length, take, drop, get_or, position, ◌==◌, bytes_eq, codes, Option, Some, None, option_map, if◌then◌else◌, refl, ap, sym, arith}
use Rattle.std.specs.List.{list_all}
use Rattle.std.specs.Char.{digit_value, is_ascii_digit}
use Rattle.std.specs.Str.Parse.{digits_value, digits_value_after}
use Rattle.std.proofs.lemmas.Bool.{leb-true, leb-false}
use Rattle.std.proofs.lemmas.List.{take_more}
use Rattle.vol_base.proofs.Numbers.{digit_is}
use Rattle.range_server.specs.Ranges.{number}
use Rattle.remote_store.specs.Fits.{Place, below, number_before, number_to, place_told, with_last, with_total}
use Rattle.remote_store.specs.Reading.{cap_place, capped, capped_before, capped_last, capped_number, capped_place, capped_to, capped_total}

after_append : (r n : ℕ) (xs ys : List ℕ) → digits_value_after r n (xs ++ ys) ≡ digits_value_after r (digits_value_after r n xs) ys
after_append r n [] ys = refl
after_append r n (x ∷ xs) ys = after_append r (n * r + digit_value x) xs ys

pub count_more : (text : List ℕ) (i b count up next : ℕ) → i < length text → get_or text i 0 ≡ b → is_ascii_digit b ≡ true → count ≡ capped (digits_value 10 (take i text))
    → up ≡ capped (count * 10) → next ≡ capped (up + (b - 48)) → next ≡ capped (digits_value 10 (take (i + 1) text))
count_more text i b count up next lt e one ec eu en =
    let whole : digits_value 10 (take (i + 1) text) ≡ digits_value 10 (take i text) * 10 + digit_value (get_or text i 0) = ap (digits_value 10) (take_more text i 0 lt) ∙ after_append 10 0 (take i text) (get_or text i 0 ∷ []) in
    let digit : digit_value (get_or text i 0) ≡ b - 48 = ap digit_value e ∙ digit_is b one in
    omega (arith, whole, digit, ec, eu, en)

by_tests : (some all : Bool) (value : ℕ) → (if some && all then Some (capped value) else None) ≡ option_map capped (if some && all then Some value else None)
by_tests true true value = refl
by_tests true false value = refl
by_tests false all value = refl

pub capped_is : (text : List ℕ) → capped_number text ≡ option_map capped (number text)
unfolding number
capped_is text = by_tests (nat_lt 0 (length text)) (list_all is_ascii_digit text) (digits_value 10 text)

none_capped : (o : Option ℕ) → None ≡ option_map capped o → None ≡ below (2 ^ 64) o
none_capped None e = refl
none_capped (Some n) e = absurd (cc e)

some_capped : (o : Option ℕ) (n : ℕ) → Some n ≡ option_map capped o → (r : Option ℕ) → (n < 2 ^ 64 → r ≡ Some n) → (2 ^ 64 ≤ n → r ≡ None) → r ≡ below (2 ^ 64) o
some_capped None n e r low high = absurd (cc e)
some_capped (Some m) n e r low high =
    let is : n ≡ capped m = cc in
    by_size (nat_lt m (2 ^ 64)) refl is
  where
    by_size : (t : Bool) → nat_lt m (2 ^ 64) ≡ t → n ≡ capped m → r ≡ (if nat_lt m (2 ^ 64) then Some m else None)
    by_size true t is =
        let small : m < 2 ^ 64 = leb-true (suc m) (2 ^ 64) t in
        let same : n ≡ m = omega (arith, is, small) in
        low (omega (arith, same, small)) ∙ ap Some same ∙ (λ i. if sym t i then Some m else None)
    by_size false t is =
        let great : 2 ^ 64 < suc m = leb-false (suc m) (2 ^ 64) t in
        high (omega (arith, is, great)) ∙ (λ i. if sym t i then Some m else None)

pub length_none : (text : List ℕ) → capped_number text ≡ None → None ≡ below (2 ^ 64) (number text)
length_none text e = none_capped (number text) (sym e ∙ capped_is text)

pub length_some : (text : List ℕ) (n : ℕ) (r : Option ℕ) → capped_number text ≡ Some n → (n < 2 ^ 64 → r ≡ Some n) → (2 ^ 64 ≤ n → r ≡ None) → r ≡ below (2 ^ 64) (number text)
length_some text n r e low high = some_capped (number text) n (sym e ∙ capped_is text) r low high

pub length_small : (text : List ℕ) (n : ℕ) → capped_number text ≡ Some n → n < 2 ^ 64 → Some n ≡ below (2 ^ 64) (number text)
length_small text n e small = length_some text n (Some n) e (λ _. refl) (λ great. absurd (omega (arith, small, great)))

pub length_great : (text : List ℕ) (n : ℕ) → capped_number text ≡ Some n → 2 ^ 64 ≤ n → None ≡ below (2 ^ 64) (number text)
length_great text n e great = length_some text n None e (λ small. absurd (omega (arith, small, great))) (λ _. refl)

-- the part that is read is the one that the value says
abbrev cap_before : ℕ × List ℕ → ℕ × List ℕ
cap_before (n, rest) = (capped n, rest)

by_number : (o : Option ℕ) (rest : List ℕ) → option_map {U = ℕ × List ℕ} (λ n. (n, rest)) (option_map capped o) ≡ option_map cap_before (option_map {U = ℕ × List ℕ} (λ n. (n, rest)) o)
by_number None rest = refl
by_number (Some n) rest = refl

by_mark : (text : List ℕ) (o : Option ℕ) → capped_to text o ≡ option_map cap_before (number_to text o)
by_mark text None = refl
by_mark text (Some at) = ap (option_map {U = ℕ × List ℕ} (λ n. (n, drop (at + 1) text))) (capped_is (take at text)) ∙ by_number (number (take at text)) (drop (at + 1) text)

before_is : (mark : ℕ) (text : List ℕ) → capped_before mark text ≡ option_map cap_before (number_before mark text)
unfolding capped_before number_before
before_is mark text = by_mark text (position (λ b. b == mark) text)

by_total : (first last : ℕ) (o : Option ℕ) → option_map {U = Place} (λ total. (capped first, capped last, total)) (option_map capped o) ≡ option_map cap_place (option_map {U = Place} (λ total. (first, last, total)) o)
by_total first last None = refl
by_total first last (Some total) = refl

total_is : (first : ℕ) (o : Option (ℕ × List ℕ)) → capped_total (capped first) (option_map cap_before o) ≡ option_map cap_place (with_total first o)
total_is first None = refl
total_is first (Some (last, text)) = ap (option_map {U = Place} (λ total. (capped first, capped last, total))) (capped_is text) ∙ by_total first last (number text)

last_is : (o : Option (ℕ × List ℕ)) → capped_last (option_map cap_before o) ≡ option_map cap_place (with_last o)
last_is None = refl
last_is (Some (first, text)) = ap (capped_total (capped first)) (before_is 47 text) ∙ total_is first (number_before 47 text)

by_unit : (t : Bool) (a b : Option Place) → a ≡ option_map cap_place b → (if t then a else None) ≡ option_map cap_place (if t then b else None)
by_unit true a b e = e
by_unit false a b e = refl

pub place_is : (value : List ℕ) → capped_place value ≡ option_map cap_place (place_told value)
unfolding capped_place place_told
place_is value =
    by_unit (bytes_eq (take 6 value) (codes "bytes ")) (capped_last (capped_before 45 (drop 6 value))) (with_last (number_before 45 (drop 6 value)))
    (ap capped_last (before_is 45 (drop 6 value)) ∙ last_is (number_before 45 (drop 6 value)))
