-- The words of a line.
use Rattle.std.proofs.Common.{◌≡◌, ◌≢◌, ◌<◌, ◌≤◌, ◌^◌, ◌&&◌, ℕ, true, List, [], ◌∷◌, length, nat_le, Option, None, Result, Ok, refl, arith, rules}
use Rattle.std.specs.Char.{is_ascii_digit}
use Rattle.std.specs.List.{list_all}
use Rattle.std.specs.Result.{result_ok}
use Rattle.std.specs.Str.Parse.{ParsesUnsigned, digits_value}
use Rattle.std.proofs.lemmas.Bool.{and_parts, leb-true}
use Rattle.std.proofs.lemmas.Str.Parse.{IsNumeralModel, digits_value_short, numerals_by_value, parse_gives}
use Rattle.vol_fetch.specs.Words.{digits_of, fetch_line, is_port_word, scale_line}

own : IsNumeralModel (λ ds. list_all is_ascii_digit ds ≡ true) (digits_value 10)
own = numerals_by_value _ (search rules)

-- a word of at most five digits is read as their number
pub digits_are_read : {E : Type 0} (word : List ℕ) (r : Result ℕ E) → ParsesUnsigned 64 10 word r → is_port_word word ≡ true → result_ok r ≡ digits_of word
digits_are_read word r parses e =
    let digits = list_all is_ascii_digit word in
    let few = nat_le 1 (length word) && nat_le (length word) 5 in
    let front = (and_parts (digits && few) _ e).0 in
    let all : list_all is_ascii_digit word ≡ true = (and_parts digits few front).0 in
    let bounds = and_parts (nat_le 1 (length word)) _ (and_parts digits few front).1 in
    let low : 1 ≤ length word = leb-true _ _ bounds.0 in
    let high : length word ≤ 5 = leb-true _ _ bounds.1 in
    let small : digits_value 10 word < 10 ^ 5 = digits_value_short own word 5 all high in
    let read : r ≡ Ok (digits_value 10 word) = parse_gives own 64 word r parses all (omega arith) (omega arith) in
    rw (read, e) refl

-- a line of other than three words behind the port, or of fewer than two words, is none
pub no_scale : (port : Option ℕ) (words : List (List ℕ)) → (length words ≢ 3) → None ≡ scale_line port words
no_scale port [] x = refl
no_scale port (a ∷ []) x = refl
no_scale port (a ∷ b ∷ []) x = refl
no_scale port (a ∷ b ∷ c ∷ []) x = absurd (x (omega arith))
no_scale port (a ∷ b ∷ c ∷ d ∷ words) x = refl

pub no_fetch : (words : List (List ℕ)) → length words < 2 → None ≡ fetch_line words
no_fetch [] x = refl
no_fetch (a ∷ []) x = refl
no_fetch (a ∷ b ∷ words) x = absurd (omega (arith, x))
