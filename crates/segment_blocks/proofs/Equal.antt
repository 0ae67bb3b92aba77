-- Tables are equal where their bytes are.
use Rattle.std.proofs.Common.{◌≡◌, ℕ, suc, ◌^◌, ◌<◌, List, [], ◌∷◌, length, get_or, take, drop, arith, refl, ap, ◌∙◌, sym, Bool, true, false, IsTrue}
use Rattle.std.specs.Prelude.{flat_map, ◌==◌, ◌&&◌}
use Rattle.std.proofs.lemmas.Bool.Decides.{nat_tests}
use Rattle.std.proofs.lemmas.List.{drop_at, take_at}
use Rattle.vol_spec.specs.BoxValues.{bytes_of}
use Rattle.vol_spec.specs.Raw.{number}
use Rattle.vol_spec.specs.SegWritten.{same}
use Rattle.segment_blocks.proofs.Again.{length_bytes, number_of_bytes}

abbrev pub AreNarrow : ℕ → List ℕ → Type 0
AreNarrow w xs = (i : ℕ) → i < length xs → get_or xs i 0 < 256 ^ w

pub equal_bytes : (w : ℕ) (xs ys : List ℕ) → AreNarrow w xs → AreNarrow w ys → length xs ≡ length ys → flat_map (bytes_of w) xs ≡ flat_map (bytes_of w) ys → xs ≡ ys
equal_bytes w [] [] nx ny len e = refl
equal_bytes w [] (y ∷ ys) nx ny len e = absurd (omega arith)
equal_bytes w (x ∷ xs) [] nx ny len e = absurd (omega arith)
equal_bytes w (x ∷ xs) (y ∷ ys) nx ny len e =
    let lx = length_bytes w x in
    let ly = length_bytes w y in
    let first : bytes_of w x ≡ bytes_of w y = sym (take_at (bytes_of w x) (flat_map (bytes_of w) xs) w lx) ∙ ap (take w) e ∙ take_at (bytes_of w y) (flat_map (bytes_of w) ys) w ly in
    let rest : flat_map (bytes_of w) xs ≡ flat_map (bytes_of w) ys = sym (drop_at (bytes_of w x) (flat_map (bytes_of w) xs) w lx) ∙ ap (drop w) e ∙ drop_at (bytes_of w y) (flat_map (bytes_of w) ys) w ly in
    let here : x ≡ y = sym (number_of_bytes w x (nx 0 (omega arith))) ∙ ap number first ∙ number_of_bytes w y (ny 0 (omega arith)) in
    let more : xs ≡ ys = equal_bytes w xs ys (λ i l. nx (suc i) (omega arith)) (λ i l. ny (suc i) (omega arith)) (omega arith) rest in
    ap (λ q. q ∷ xs) here ∙ ap (λ q. y ∷ q) more

both : (a b : Bool) → IsTrue (a && b) → IsTrue a × IsTrue b
both true true h = (refl, refl)
both true false h = absurd (cc)
both false b h = absurd (cc)

eq_is : (a b : ℕ) → IsTrue (a == b) → a ≡ b
eq_is a b h = grind (arith, nat_tests)

is_eq : (a : ℕ) → IsTrue (a == a)
is_eq a = grind (arith, nat_tests)

pub same_is : (xs ys : List ℕ) → IsTrue (same xs ys) → xs ≡ ys
same_is [] [] h = refl
same_is [] (y ∷ ys) h = absurd (cc)
same_is (x ∷ xs) [] h = absurd (cc)
same_is (x ∷ xs) (y ∷ ys) h = let t = both (x == y) (same xs ys) h in ap (λ q. q ∷ xs) (eq_is x y t.0) ∙ ap (λ q. y ∷ q) (same_is xs ys t.1)

pub same_self : (xs : List ℕ) → IsTrue (same xs xs)
same_self [] = refl
same_self (x ∷ xs) = rw (is_eq x) (same_self xs)
