-- The places of values in a table, side by side.
use Rattle.std.proofs.Common.{◌≡◌, ◌≢◌, ℕ, zero, suc, ◌+◌, ◌*◌, ◌^◌, ◌<◌, ◌≤◌, List, [], ◌∷◌, ◌++◌, length, slice_index, take, arith, ap, ◌∙◌, sym, subst, ⊎_elim, true, false, Some, None, length-take}
use Rattle.std.specs.Prelude.{cond, map, nat_lt, unwrap_or, ◌==◌}
use Rattle.std.specs.List.{position_or_len}
use Rattle.std.proofs.lemmas.Bool.{cases_lt}
use Rattle.std.proofs.lemmas.Bool.Decides.{nat_tests}
use Rattle.std.proofs.lemmas.List.{length-map, map-append}
use Rattle.std.proofs.lemmas.List.Sums.{position_or_len_is}
use Rattle.std.proofs.lemmas.Nat.{pow_pos}
use Rattle.vol_spec.specs.SegWritten.{packed}
use Rattle.segment_blocks.specs.Voxels.{place_in}
use Rattle.segment_blocks.proofs.Distincts.{next}
use Rattle.segment_blocks.proofs.Packs.{AreBelow, packed_below, packed_more}

abbrev pub IsRising : List ℕ → Type 0
IsRising xs = (i j : ℕ) → i < j → j < length xs → slice_index xs i < slice_index xs j

eq_not : (a b : ℕ) → a ≢ b → (a == b) ≡ false
eq_not a b h = grind (arith, nat_tests)

eq_here : (a b : ℕ) → a ≡ b → (a == b) ≡ true
eq_here a b h = grind (arith, nat_tests)

abbrev found : ℕ → ℕ → ℕ
found at len = unwrap_or (cond (nat_lt at len) (Some at) None) 0

found_in : (at len : ℕ) → at < len → found at len ≡ at
found_in at len h = grind (arith, nat_tests)

found_out : (at len : ℕ) → len ≤ at → found at len ≡ 0
found_out at len h = grind (arith, nat_tests)

-- a place that has the value is the first such place
pub place_is : (xs : List ℕ) (x i : ℕ) → IsRising xs → i < length xs → slice_index xs i ≡ x → place_in xs x ≡ i
place_is xs x i up li e =
    let at : position_or_len (λ v. v == x) xs ≡ i = position_or_len_is (λ v. v == x) xs i 0 (omega arith) (λ k lk. eq_not (slice_index xs k) x (λ s. let a = up k i lk li in omega arith)) (λ l. eq_here (slice_index xs i) x e) in
    ap (λ q. found q (length xs)) at ∙ found_in i (length xs) li

-- a place fits its bits
pub place_below : (table : List ℕ) (x m : ℕ) → 0 < m → length table ≤ m → place_in table x < m
place_below table x m pm h =
    let at : ℕ = position_or_len (λ v. v == x) table in
    ⊎_elim
    (λ (l : at < length table). let e : place_in table x ≡ at = found_in at (length table) l in omega (arith, e))
    (λ (g : length table ≤ at). let e : place_in table x ≡ 0 = found_out at (length table) g in omega (arith, e))
    (cases_lt at (length table))

pub places_below : (table voxels : List ℕ) (bits : ℕ) → length table ≤ 2 ^ bits → AreBelow bits (map (place_in table) voxels)
places_below table [] bits h i = pow_pos bits
places_below table (x ∷ xs) bits h zero = place_below table x (2 ^ bits) (pow_pos bits) h
places_below table (x ∷ xs) bits h (suc i) = places_below table xs bits h i

-- what is packed so far
pub places_front : (table voxels : List ℕ) (bits n m : ℕ) → length table ≤ 2 ^ bits → n ≤ length voxels → m ≡ packed bits (map (place_in table) (take n voxels)) → m < 2 ^ (n * bits)
places_front table voxels bits n m h ln e =
    let len : length (map (place_in table) (take n voxels)) ≡ n = length-map (take n voxels) (place_in table) ∙ omega (arith, length-take n voxels) in
    let b : packed bits (map (place_in table) (take n voxels)) < 2 ^ (n * bits) = subst (λ q. packed bits (map (place_in table) (take n voxels)) < 2 ^ (q * bits)) len (packed_below bits (map (place_in table) (take n voxels)) (places_below table (take n voxels) bits h)) in
    omega (arith, b, e)

-- one place more
pub places_more : (table voxels : List ℕ) (bits n place old new : ℕ) → n < length voxels → place ≡ place_in table (slice_index voxels n)
    → old ≡ packed bits (map (place_in table) (take n voxels)) → new ≡ old + place * 2 ^ (n * bits) → new ≡ packed bits (map (place_in table) (take (n + 1) voxels))
places_more table voxels bits n place old new ln ep was put =
    let x : ℕ = slice_index voxels n in
    let done : List ℕ = map (place_in table) (take n voxels) in
    let len : length done ≡ n = length-map (take n voxels) (place_in table) ∙ omega (arith, length-take n voxels) in
    let more : map (place_in table) (take (n + 1) voxels) ≡ done ++ place_in table x ∷ [] = ap (map (place_in table)) (next voxels n ln) ∙ map-append (place_in table) (take n voxels) (x ∷ []) in
    let here : packed bits (done ++ place_in table x ∷ []) ≡ packed bits done + place_in table x * 2 ^ (n * bits) = packed_more bits done (place_in table x) ∙ ap (λ q. packed bits done + place_in table x * 2 ^ (q * bits)) len in
    put ∙ ap (λ q. q + place * 2 ^ (n * bits)) was ∙ ap (λ q. packed bits done + q * 2 ^ (n * bits)) ep ∙ sym (ap (packed bits) more ∙ here)
