-- Texts of the bytes that a name may have.
use Rattle.std.proofs.Common.{◌≡◌, ℕ, ◌≤◌, List, [], ◌∷◌, ◌++◌, Bool, true, false, ◌==◌, IsTrue, length, refl, ap, ◌∙◌, arith, rules, Some, None}
use Rattle.std.specs.Prelude.{nat_le, if◌then◌else◌}
use Rattle.std.specs.List.{list_all, slice_split, onto_first}
use Rattle.std.proofs.lemmas.Bool.{and_from, and_parts}
use Rattle.std.proofs.lemmas.Bool.Decides.{nat_tests}
use Rattle.std.proofs.lemmas.List.Folds.{list_all-append}
use Rattle.vol_base.specs.Names.{is_name, is_name_byte}

-- each byte is one of a name
abbrev pub HasNameBytes : List ℕ → Type 0
HasNameBytes xs = list_all is_name_byte xs ≡ true

pub bytes-append : (xs ys : List ℕ) → HasNameBytes xs → HasNameBytes ys → HasNameBytes (xs ++ ys)
bytes-append xs ys h k = list_all-append is_name_byte xs ys ∙ and_from _ _ h k

-- such bytes are one part between slashes
no_slash : (x : ℕ) → is_name_byte x ≡ true → (x == 47) ≡ false
no_slash x h = grind (arith, nat_tests)

one_part : (xs : List ℕ) → HasNameBytes xs → slice_split (λ b. b == 47) xs ≡ xs ∷ []
one_part [] h = refl
one_part (x ∷ xs) h =
    let parts = and_parts _ _ h in
    rw (no_slash x parts.0) (ap (onto_first x) (one_part xs parts.1))

is_true : (b : Bool) → b ≡ true → IsTrue b
is_true b e = rw e (search rules)

-- and a name, where they are neither too few nor too many
pub is_name-bytes : (xs : List ℕ) → HasNameBytes xs → 3 ≤ length xs → length xs ≤ 512 → IsTrue (is_name xs)
is_name-bytes xs h some short =
    let long : nat_le (length xs) 2 ≡ false = grind (arith, nat_tests) in
    let fits : nat_le (length xs) 512 ≡ true = grind (arith, nat_tests) in
    is_true _ (rw (fits, one_part xs h, long, h) refl)

-- what `Name::new` answers at a name
pub chosen : (text : List ℕ) (b : Bool) → IsTrue b → (if b then Some text else None) ≡ Some text
chosen text true t = refl
chosen text false t = absurd (search rules)
