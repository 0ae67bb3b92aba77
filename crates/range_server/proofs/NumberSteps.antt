-- Numbers that were read up to the greatest count.
use Rattle.std.proofs.Common.{◌≡◌, ◌∙◌, ℕ, Bool, true, false, ◌&&◌, ◌==◌, nat_lt, List, length, Some, None, if◌then◌else◌, sym, refl}
use Rattle.std.specs.List.{list_all}
use Rattle.std.specs.Char.{is_ascii_digit}
use Rattle.std.specs.Str.Parse.{digits_value}
use Rattle.vol_base.specs.Causes.{counted}
use Rattle.request_heads.specs.Words.{count_of}
use Rattle.range_server.specs.Ranges.{number, at_end, between, by_ends, by_numbers, onward}
use Rattle.range_server.specs.declared.range.RangeAnswer.{RangeAnswer}
use Rattle.range_server.specs.declared.range.RangeAnswer.TheVariants.{Whole}

read_some : (some all : Bool) (value n : ℕ) → (if some && all then Some (counted value) else None) ≡ Some n
    → ((if some && all then Some value else None) ≡ Some value) × (n ≡ counted value) × (all ≡ true)
read_some true true value n e = (refl, cc, refl)
read_some true false value n e = absurd (cc e)
read_some false all value n e = absurd (cc e)

read_none : (some all : Bool) (value : ℕ) → (if some && all then Some (counted value) else None) ≡ None → (if some && all then Some value else None) ≡ None
read_none true true value e = absurd (cc e)
read_none true false value e = refl
read_none false all value e = refl

pub number_some : (text : List ℕ) (n : ℕ) → count_of text ≡ Some n → (number text ≡ Some (digits_value 10 text)) × (n ≡ counted (digits_value 10 text)) × (list_all is_ascii_digit text ≡ true)
unfolding number
number_some text n e = read_some (nat_lt 0 (length text)) (list_all is_ascii_digit text) (digits_value 10 text) n e

pub number_none : (text : List ℕ) → count_of text ≡ None → number text ≡ None
unfolding number
number_none text e = read_none (nat_lt 0 (length text)) (list_all is_ascii_digit text) (digits_value 10 text) e

-- the answers by the numbers that were read
module _ (len : ℕ) (first last : List ℕ) (r : RangeAnswer) where
  pub both_ends : (a b : ℕ) (turned : Bool) → count_of first ≡ Some a → count_of last ≡ Some b → turned ≡ nat_lt (digits_value 10 last) (digits_value 10 first)
      → ((x y : ℕ) → a ≡ counted x → b ≡ counted y → turned ≡ nat_lt y x → r ≡ between len x y) → r ≡ by_ends len first last
  both_ends a b turned ea eb et h =
      let one = number_some first a ea in
      let two = number_some last b eb in
      h (digits_value 10 first) (digits_value 10 last) one.1 two.1 et ∙ (λ i. by_numbers len (length first == 0) (length last == 0) (sym one.0 i) (sym two.0 i))

  pub first_alone : (a : ℕ) (alone : Bool) → count_of first ≡ Some a → count_of last ≡ None → alone ≡ (length last == 0)
      → ((x : ℕ) → a ≡ counted x → r ≡ (if alone then onward len x else Whole)) → r ≡ by_ends len first last
  first_alone a alone ea eb e h =
      let one = number_some first a ea in
      h (digits_value 10 first) one.1 ∙ (λ i. by_numbers len (length first == 0) (e i) (sym one.0 i) (sym (number_none last eb) i))

  pub last_alone : (n : ℕ) (alone : Bool) → count_of first ≡ None → count_of last ≡ Some n → alone ≡ (length first == 0)
      → ((x : ℕ) → n ≡ counted x → r ≡ (if alone then at_end len x else Whole)) → r ≡ by_ends len first last
  last_alone n alone ea eb e h =
      let two = number_some last n eb in
      h (digits_value 10 last) two.1 ∙ (λ i. by_numbers len (e i) (length last == 0) (sym (number_none first ea) i) (sym two.0 i))

pub neither : (len : ℕ) (first last : List ℕ) → count_of first ≡ None → count_of last ≡ None → Whole ≡ by_ends len first last
neither len first last ea eb = λ i. by_numbers len (length first == 0) (length last == 0) (sym (number_none first ea) i) (sym (number_none last eb) i)
