-- The number that a word spells.
use Rattle.std.proofs.Common.{◌≡◌, ◌<◌, ◌≤◌, ◌^◌, ◌&&◌, ℕ, List, true, Result, Ok, length, nat_le, arith, refl, rules}
use Rattle.std.specs.Char.{is_ascii_digit}
use Rattle.std.specs.List.{list_all}
use Rattle.std.specs.Result.{result_ok}
use Rattle.std.specs.Str.Parse.{ParsesUnsigned, digits_value}
use Rattle.std.proofs.lemmas.Bool.{and_parts, leb-true}
use Rattle.std.proofs.lemmas.Str.Parse.{IsNumeralModel, digits_value_short, numerals_by_value, parse_gives}
use Rattle.line_words.specs.Words.{is_number, number}

own : IsNumeralModel (λ ds. list_all is_ascii_digit ds ≡ true) (digits_value 10)
own = numerals_by_value _ (search rules)

-- a word of at most ten digits is read as their number
pub number_is_read : {E : Type 0} (word : List ℕ) (r : Result ℕ E) → ParsesUnsigned 64 10 word r → is_number word ≡ true → result_ok r ≡ number word
number_is_read word r parses e =
    let digits = list_all is_ascii_digit word in
    let few = nat_le 1 (length word) && nat_le (length word) 10 in
    let front = (and_parts (digits && few) _ e).0 in
    let all : list_all is_ascii_digit word ≡ true = (and_parts digits few front).0 in
    let bounds = and_parts (nat_le 1 (length word)) _ (and_parts digits few front).1 in
    let low : 1 ≤ length word = leb-true _ _ bounds.0 in
    let high : length word ≤ 10 = leb-true _ _ bounds.1 in
    let small : digits_value 10 word < 10 ^ 10 = digits_value_short own word 10 all high in
    let read : r ≡ Ok (digits_value 10 word) = parse_gives own 64 word r parses all (omega arith) (omega arith) in
    rw (read, e) refl
