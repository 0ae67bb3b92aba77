-- The part that a reply says, by numbers that are capped.
use Rattle.std.proofs.Common.{◌≡◌, ◌∙◌, ℕ, suc, ◌+◌, ◌^◌, ◌<◌, ◌≤◌, min, Bool, true, false, ◌&&◌, ◌==◌, nat_le, nat_lt, List, [], ◌∷◌, Option, Some, None, option_map, if◌then◌else◌, refl, ap, sym, arith}
use Rattle.std.specs.List.{list_all}
use Rattle.std.proofs.lemmas.Bool.{eq-eqb, eqb-true, leb-true, leb-false, ne_eqb}
use Rattle.range_server.specs.Ranges.{number}
use Rattle.remote_store.specs.Fits.{Place, below, is_identity, is_place, is_right, length_in, length_of, one_length, only, place_in, promised}
use Rattle.remote_store.specs.Reading.{cap_place, capped, capped_in}
use Rattle.remote_store.specs.declared.wanted.Kind.{Kind}
use Rattle.remote_store.specs.declared.wanted.Kind.TheVariants as kind
use Rattle.remote_store.specs.Answers.{IsAsked}
use Rattle.remote_store.specs.declared.wanted.Wanted.{Wanted}
use Rattle.remote_store.specs.declared.wanted.Wanted.TheVariants.{Length, Part}
use Rattle.remote_store.proofs.NumberReading.{place_is}

false_and : (a b c : Bool) → c ≡ false → false ≡ (a && b && c)
false_and true true c e = sym e
false_and true false c e = refl
false_and false b c e = refl

false_front : (a b : Bool) → a ≡ false → false ≡ (a && b)
false_front true b e = absurd (cc e)
false_front false b e = refl

-- a part that reaches too far
pub past_place : (from count len first last total : ℕ) → min (from + count) total ≤ last → false ≡ is_place from count len (Some (first, last, total))
past_place from count len first last total past =
    let no : (last + 1 == min (from + count) total) ≡ false = ne_eqb (last + 1) (min (from + count) total) (λ e. omega (arith, e, past)) in
    rest (first == from) (nat_le from last) (last + 1 == min (from + count) total) (len + from == last + 1) no
  where
    rest : (a b c d : Bool) → c ≡ false → false ≡ (a && b && c && d)
    rest true true true d e = absurd (cc e)
    rest true true false d e = refl
    rest true false c d e = refl
    rest false b c d e = refl

pub same_eq : (a b x y : ℕ) → (a ≡ b → x ≡ y) → (x ≡ y → a ≡ b) → (a == b) ≡ (x == y)
same_eq a b x y to back = by_tests (a == b) (x == y) refl refl
  where
    by_tests : (s t : Bool) → (a == b) ≡ s → (x == y) ≡ t → s ≡ t
    by_tests true true es et = refl
    by_tests false false es et = refl
    by_tests true false es et =
        let is : x ≡ y = to (eqb-true a b es) in
        sym (eq-eqb x y is) ∙ et
    by_tests false true es et =
        let is : a ≡ b = back (eqb-true x y et) in
        sym es ∙ eq-eqb a b is

pub same_le : (a x y : ℕ) → (a ≤ x → a ≤ y) → (a ≤ y → a ≤ x) → nat_le a x ≡ nat_le a y
same_le a x y to back = by_tests (nat_le a x) (nat_le a y) refl refl
  where
    by_tests : (s t : Bool) → nat_le a x ≡ s → nat_le a y ≡ t → s ≡ t
    by_tests true true es et = refl
    by_tests false false es et = refl
    by_tests true false es et =
        let one : a ≤ y = to (leb-true a x es) in
        let two : y < a = leb-false a y et in
        absurd (omega (arith, one, two))
    by_tests false true es et =
        let one : a ≤ x = back (leb-true a y et) in
        let two : x < a = leb-false a x es in
        absurd (omega (arith, one, two))

-- great numbers fit as little as they do when they are capped
pub same_place : (from count len : ℕ) → from + count < 2 ^ 64 → len < 2 ^ 64 → (p : Option Place) → is_place from count len (option_map cap_place p) ≡ is_place from count len p
same_place from count len small short None = refl
same_place from count len small short (Some (first, last, total)) =
    let e1 : (capped first == from) ≡ (first == from) = same_eq (capped first) from first from (λ e. omega (arith, e, small)) (λ e. omega (arith, e, small)) in
    let e2 : nat_le from (capped last) ≡ nat_le from last = same_le from (capped last) last (λ e. omega (arith, e, small)) (λ e. omega (arith, e, small)) in
    let e3 : (capped last + 1 == min (from + count) (capped total)) ≡ (last + 1 == min (from + count) total) =
    same_eq (capped last + 1) (min (from + count) (capped total)) (last + 1) (min (from + count) total) (λ e. omega (arith, e, small)) (λ e. omega (arith, e, small)) in
    let e4 : (len + from == capped last + 1) ≡ (len + from == last + 1) =
    same_eq (len + from) (capped last + 1) (len + from) (last + 1) (λ e. omega (arith, e, small, short)) (λ e. omega (arith, e, small, short)) in
    λ i. e1 i && e2 i && e3 i && e4 i

pub in_is : (o : Option (List ℕ)) → capped_in o ≡ option_map cap_place (place_in o)
in_is None = refl
in_is (Some value) = place_is value

right_is : (wanted : Wanted) → IsAsked wanted → (len : ℕ) → len < 2 ^ 64 → (k : Kind) (o : Option (List ℕ)) → is_right wanted k len (capped_in o) ≡ is_right wanted k len (place_in o)
right_is Length some len short k o = refl
right_is (Part from count) some len short kind.Part o = ap (is_place from count len) (in_is o) ∙ same_place from count len some.1 short (place_in o)
right_is (Part from count) some len short kind.Missing o = refl
right_is (Part from count) some len short kind.Beyond o = refl
right_is (Part from count) some len short kind.Whole o = refl

-- a length that is told has room in 64 bits
is_short : (o : Option ℕ) (len : ℕ) → below (2 ^ 64) o ≡ Some len → len < 2 ^ 64
is_short None len e = absurd (cc e)
is_short (Some n) len e = by_test (nat_lt n (2 ^ 64)) refl e
  where
    by_test : (t : Bool) → nat_lt n (2 ^ 64) ≡ t → (if t then Some n else None) ≡ Some len → len < 2 ^ 64
    by_test true t e =
        let is : n ≡ len = cc e in
        let small : n < 2 ^ 64 = leb-true (suc n) (2 ^ 64) t in
        omega (arith, is, small)
    by_test false t e = absurd (cc e)

in_short : (o : Option (List ℕ)) (len : ℕ) → length_in o ≡ Some len → len < 2 ^ 64
in_short None len e = absurd (cc e)
in_short (Some text) len e = is_short (number text) len e

one_short : (codings lengths : List (List ℕ)) (len : ℕ) → one_length codings lengths ≡ Some len → len < 2 ^ 64
one_short [] lengths len e = in_short (only lengths) len e
one_short (coding ∷ codings) lengths len e = absurd (cc e)

pub told_short : (objects codings lengths : List (List ℕ)) (len : ℕ) → length_of objects codings lengths ≡ Some len → len < 2 ^ 64
told_short objects codings lengths len e = by_test (list_all is_identity objects) e
  where
    by_test : (t : Bool) → (if t then one_length codings lengths else None) ≡ Some len → len < 2 ^ 64
    by_test true e = one_short codings lengths len e
    by_test false e = absurd (cc e)

pub same_promise : (wanted : Wanted) → IsAsked wanted → (k : Option Kind) (objects codings lengths : List (List ℕ)) (o : Option (List ℕ))
    → promised wanted k (length_of objects codings lengths) (capped_in o) ≡ promised wanted k (length_of objects codings lengths) (place_in o)
same_promise wanted some None objects codings lengths o = refl
same_promise wanted some (Some k) objects codings lengths o = by_length (length_of objects codings lengths) refl
  where
    by_length : (len : Option ℕ) → length_of objects codings lengths ≡ len → promised wanted (Some k) len (capped_in o) ≡ promised wanted (Some k) len (place_in o)
    by_length None e = refl
    by_length (Some len) e =
        let same = right_is wanted some len (told_short objects codings lengths len e) k o in
        λ i. if same i then Some (record { kind = k; len = len }) else None
