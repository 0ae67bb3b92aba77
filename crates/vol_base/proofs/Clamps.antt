-- A number of a box's text that is kept as one more than the limit is judged as the number itself.
use Rattle.std.proofs.Common.{◌≡◌, ℕ, zero, suc, ◌+◌, ◌^◌, ◌≤◌, min, ℤ, pos, negsuc, neg_ℤ, nat_abs, nat_le, List, length, take, drop, slice_index, position, ◌==◌, ◌&&◌, [], ◌∷◌, Bool, true, false, Option, Some, None, Result, Err, if◌then◌else◌, arith, refl, ap, ◌∙◌}
use Rattle.std.proofs.lemmas.Bool.Decides.{nat_tests}
use Rattle.std.specs.Option.{option_map}
use Rattle.vol_base.specs.BoxText.{◌>>=◌, is_natural, natural, number, field, opened, box_numbers, extent, in_range, judged, parsed, sized}
use Rattle.vol_base.specs.BoxKept.{kept_natural, kept_number, kept_field, kept_numbers}
use Rattle.vol_base.specs.declared.boxes.Box3.{Box3}
use Rattle.vol_base.specs.declared.boxes.BoxFault.{BoxFault}
use Rattle.vol_base.specs.declared.boxes.BoxFault.TheVariants.{Range}
use Rattle.vol_base.specs.declared.boxes.Ends.{Ends}

abbrev clamp : ℤ → ℤ
clamp (pos n) = pos (min n (2 ^ 41 + 1))
clamp (negsuc n) = neg_ℤ (pos (min (suc n) (2 ^ 41 + 1)))

clamp_neg : (n : ℕ) → neg_ℤ (pos (min n (2 ^ 41 + 1))) ≡ clamp (neg_ℤ (pos n))
clamp_neg zero = refl
clamp_neg (suc n) = refl

negated : (o : Option ℕ) → option_map (λ n. neg_ℤ (pos n)) (option_map (λ n. min n (2 ^ 41 + 1)) o) ≡ option_map clamp (option_map (λ n. neg_ℤ (pos n)) o)
negated None = refl
negated (Some n) = ap Some (clamp_neg n)

positive : (o : Option ℕ) → option_map pos (option_map (λ n. min n (2 ^ 41 + 1)) o) ≡ option_map clamp (option_map pos o)
positive None = refl
positive (Some n) = refl

some_if : (b : Bool) (n : ℕ) → (if b then Some (min n (2 ^ 41 + 1)) else None) ≡ option_map (λ n. min n (2 ^ 41 + 1)) (if b then Some n else None)
some_if true n = refl
some_if false n = refl

natural_as : (digits : List ℕ) → kept_natural digits ≡ option_map (λ n. min n (2 ^ 41 + 1)) (natural digits)
natural_as digits = some_if (is_natural digits) _

chosen : (zero_alone minus : Bool) (a b c d : Option ℤ) → a ≡ option_map clamp b → c ≡ option_map clamp d
    → (if zero_alone then Some (pos 0) else (if minus then a else c)) ≡ option_map clamp (if zero_alone then Some (pos 0) else (if minus then b else d))
chosen true minus a b c d e f = refl
chosen false true a b c d e f = e
chosen false false a b c d e f = f

number_as : (text : List ℕ) → kept_number text ≡ option_map clamp (number text)
unfolding number kept_number
number_as text =
    chosen (length text == 1 && (slice_index text 0 == 48)) (slice_index text 0 == 45) _ _ _ _
    (ap (option_map (λ n. neg_ℤ (pos n))) (natural_as (drop 1 text)) ∙ negated (natural (drop 1 text)))
    (ap (option_map pos) (natural_as text) ∙ positive (natural text))

-- a value that is mapped, and then a step from it
then_mapped : {A B : Type 0} (f : A → A) (g : B → B) (o : Option A) (kept exact : A → Option B) → ((a : A) → kept (f a) ≡ option_map g (exact a)) → (option_map f o >>= kept) ≡ option_map g (o >>= exact)
then_mapped f g None kept exact step = refl
then_mapped f g (Some a) kept exact step = step a

abbrev clamped_field : ℤ × List ℕ → ℤ × List ℕ
clamped_field r = (clamp r.0, r.1)

same : {A B : Type 0} (g : B → B) (o : Option A) (kept exact : A → Option B) → ((a : A) → kept a ≡ option_map g (exact a)) → (o >>= kept) ≡ option_map g (o >>= exact)
same g None kept exact step = refl
same g (Some a) kept exact step = step a

field_as : (stop : ℕ) (text : List ℕ) → kept_field stop text ≡ option_map clamped_field (field stop text)
unfolding field kept_field
field_as stop text =
    same clamped_field (position (λ b. b == stop) text) _ _ (λ at.
    ap (λ o. o >>= (λ n. Some (n, drop (at + 1) text))) (number_as (take at text))
    ∙ then_mapped clamp clamped_field (number (take at text)) (λ n. Some (n, drop (at + 1) text)) (λ n. Some (n, drop (at + 1) text)) (λ n. refl))

-- a field, and then a step from it
next : {B : Type 0} (g : B → B) (stop : ℕ) (text : List ℕ) (kept exact : ℤ × List ℕ → Option B) → ((r : ℤ × List ℕ) → kept (clamped_field r) ≡ option_map g (exact r)) → (kept_field stop text >>= kept) ≡ option_map g (field stop text >>= exact)
next g stop text kept exact step = ap (λ o. o >>= kept) (field_as stop text) ∙ then_mapped clamped_field g (field stop text) kept exact step

abbrev clamped_ends : Ends → Ends
clamped_ends e = record { x = record { 0 = clamp e.x.0; 1 = clamp e.x.1 }; y = record { 0 = clamp e.y.0; 1 = clamp e.y.1 }; z = record { 0 = clamp e.z.0; 1 = clamp e.z.1 } }

at_end : (b : Bool) (e : Ends) → (if b then Some (clamped_ends e) else None) ≡ option_map clamped_ends (if b then Some e else None)
at_end true e = refl
at_end false e = refl

numbers_as : (text : List ℕ) → kept_numbers text ≡ option_map clamped_ends (box_numbers text)
unfolding box_numbers kept_numbers
numbers_as text =
    same clamped_ends (opened text) _ _ (λ inside.
    next clamped_ends 58 inside _ _ (λ x0. next clamped_ends 44 x0.1 _ _ (λ x1.
    next clamped_ends 58 x1.1 _ _ (λ y0. next clamped_ends 44 y0.1 _ _ (λ y1.
    next clamped_ends 58 y1.1 _ _ (λ z0. next clamped_ends 93 z0.1 _ _ (λ z1. at_end (length z1.1 == 0) _)))))))

abs_neg : (n : ℕ) → nat_abs (neg_ℤ (pos n)) ≡ n
abs_neg zero = refl
abs_neg (suc n) = refl

clamped_in : (n : ℕ) → nat_le (min n (2 ^ 41 + 1)) (2 ^ 41) ≡ nat_le n (2 ^ 41)
clamped_in n = grind (arith, nat_tests)

range_as : (z : ℤ) → in_range (clamp z) ≡ in_range z
range_as (pos n) = clamped_in n
range_as (negsuc n) = ap (λ m. nat_le m (2 ^ 41)) (abs_neg (min (suc n) (2 ^ 41 + 1))) ∙ clamped_in (suc n)

within : (n : ℕ) → nat_le n (2 ^ 41) ≡ true → min n (2 ^ 41 + 1) ≡ n
within n h = let le : n ≤ 2 ^ 41 = grind (arith, nat_tests) in omega arith

kept_within : (z : ℤ) → in_range z ≡ true → clamp z ≡ z
kept_within (pos n) h = ap pos (within n h)
kept_within (negsuc n) h = ap (λ m. neg_ℤ (pos m)) (within (suc n) h)

both : (a b : Bool) → (a && b) ≡ true → (a ≡ true) × (b ≡ true)
both true true h = (refl, refl)
both true false h = (refl, h)
both false b h = cc

abbrev are_in_range : Ends → Bool
are_in_range e = (in_range e.x.0 && in_range e.x.1) && (in_range e.y.0 && in_range e.y.1) && (in_range e.z.0 && in_range e.z.1)

ranges_as : (e : Ends) → are_in_range (clamped_ends e) ≡ are_in_range e
ranges_as e = cc (range_as e.x.0, range_as e.x.1, range_as e.y.0, range_as e.y.1, range_as e.z.0, range_as e.z.1)

kept_ends : (e : Ends) → are_in_range e ≡ true → clamped_ends e ≡ e
kept_ends e h =
    let xy_z = both ((in_range e.x.0 && in_range e.x.1) && (in_range e.y.0 && in_range e.y.1)) (in_range e.z.0 && in_range e.z.1) h in
    let x_y = both (in_range e.x.0 && in_range e.x.1) (in_range e.y.0 && in_range e.y.1) xy_z.0 in
    let x = both (in_range e.x.0) (in_range e.x.1) x_y.0 in
    let y = both (in_range e.y.0) (in_range e.y.1) x_y.1 in
    let z = both (in_range e.z.0) (in_range e.z.1) xy_z.1 in
    rw (kept_within e.x.0 x.0) (rw (kept_within e.x.1 x.1) (rw (kept_within e.y.0 y.0) (rw (kept_within e.y.1 y.1) (rw (kept_within e.z.0 z.0) (rw (kept_within e.z.1 z.1) refl)))))

-- where the numbers are in range they are kept as they are, and elsewhere the fault is the same
judged_either : (b c : Bool) (f : Ends → Result Box3 BoxFault) (kept exact : Ends) → b ≡ c → (c ≡ true → kept ≡ exact) → (if b then f kept else Err Range) ≡ (if c then f exact else Err Range)
judged_either true true f kept exact e same = ap f (same refl)
judged_either false false f kept exact e same = refl
judged_either true false f kept exact e same = cc
judged_either false true f kept exact e same = cc

abbrev box_of : Ends → Result Box3 BoxFault
box_of e = sized (e.x.0 ∷ e.y.0 ∷ e.z.0 ∷ []) (extent e.x.0 e.x.1) (extent e.y.0 e.y.1) (extent e.z.0 e.z.1)

judged_as : (e : Ends) → judged (clamped_ends e) ≡ judged e
judged_as e = judged_either (are_in_range (clamped_ends e)) (are_in_range e) box_of (clamped_ends e) e (ranges_as e) (kept_ends e)

parsed_each : (o : Option Ends) → parsed (option_map clamped_ends o) ≡ parsed o
parsed_each None = refl
parsed_each (Some e) = judged_as e

pub parsed_as : (text : List ℕ) → parsed (kept_numbers text) ≡ parsed (box_numbers text)
parsed_as text = ap parsed (numbers_as text) ∙ parsed_each (box_numbers text)
