-- Bytes that are read ahead and handed on.
use Rattle.std.proofs.Common.{◌≡◌, ◌≢◌, ◌<◌, ◌≤◌, ◌+◌, ℕ, List, [], ◌∷◌, ◌++◌, min, length, take, drop, Option, Some, None, IfSome, refl, ap, sym, ◌∙◌, rules, arith}
use Rattle.std.specs.Option.{option_map}
use Rattle.std.proofs.lemmas.Grind.{common_steps}
use Rattle.std.proofs.lemmas.List.{take-append-drop, take-append-le, take_all, drop-append-le, places, length-append}
use Rattle.vol_base.specs.Outside.{Gives}
use Rattle.pipes.specs.Left.{left_of}

-- a write that took no byte
pub nothing_more : (o : Option (List ℕ)) (piece : List ℕ) → option_map (λ w. w ++ take 0 piece) o ≡ o
nothing_more None piece = refl
nothing_more (Some xs) piece = grind (arith, common_steps)

-- a slice over a whole vector was written
pub written_whole : (n : ℕ) (new old : List ℕ) → length new ≡ n → take n (new ++ drop (length new) old) ≡ new
written_whole n new old h = take-append-le n new (drop (length new) old) (omega (arith, h)) ∙ take_all n new (omega (arith, h))

-- nothing was read ahead
pub left_alone : (coming : Option (List ℕ)) → left_of [] coming ≡ coming
left_alone None = refl
left_alone (Some c) = refl

some_there : (xs : List ℕ) → xs ≢ [] → 0 < length xs
some_there [] h = absurd (h refl)
some_there (x ∷ xs) h = grind arith

-- the front of what was read ahead
pub given_ahead : (coming : Option (List ℕ)) (ahead old out : List ℕ) (n : ℕ) → ahead ≢ [] → 0 < length old →
    n ≡ min (length ahead) (length old) → take n out ≡ take n ahead → IfSome (left_of ahead coming) (Gives n out)
given_ahead None ahead old out n h s e f = tt
given_ahead (Some c) ahead old out n h s e f =
    let some : 0 < length ahead = some_there ahead h in
    let few : n ≤ length ahead = omega (arith, e) in
    record {
      front = f ∙ sym (take-append-le n ahead c few);
      within = (let l : length (ahead ++ c) ≡ length ahead + length c = length-append ahead c in omega (arith, l, few));
      some = λ _. omega (arith, e, s, some);
    }

pub left_ahead : (coming : Option (List ℕ)) (ahead : List ℕ) (n : ℕ) → n ≤ length ahead →
    left_of (drop n ahead) coming ≡ option_map (drop n) (left_of ahead coming)
left_ahead None ahead n h = refl
left_ahead (Some c) ahead n h = ap Some (sym (drop-append-le n ahead c h))

-- some bytes came into a buffer, and the front of these was handed on
pub given_on : (coming : Option (List ℕ)) (buffer old out : List ℕ) (m n : ℕ) → IfSome coming (Gives m buffer) → m ≤ length buffer →
    0 < length old → n ≡ min (length (take m buffer)) (length old) → take n out ≡ take n (take m buffer) → IfSome coming (Gives n out)
given_on None buffer old out m n g l s e f = tt
given_on (Some c) buffer old out m n g l s e f =
    let long : length (take m buffer) ≡ m = search (rules, places) in
    let few : n ≤ m = omega (arith, e, long) in
    let within : m ≤ length c = g.within in
    let front : take m buffer ≡ take m c = g.front in
    let cut : take n (take m c) ≡ take n c = grind (arith, common_steps) in
    record {
      front = f ∙ ap (take n) front ∙ cut;
      within = omega (arith, few, within);
      some = λ h. (let some : 0 < m = g.some h in omega (arith, e, s, some, long));
    }

pub left_on : (coming : Option (List ℕ)) (buffer : List ℕ) (m n : ℕ) → IfSome coming (Gives m buffer) → n ≤ length (take m buffer) →
    left_of (drop n (take m buffer)) (option_map (drop m) coming) ≡ option_map (drop n) coming
left_on None buffer m n g l = refl
left_on (Some c) buffer m n g l =
    let front : take m buffer ≡ take m c = g.front in
    ap Some (sym (drop-append-le n (take m buffer) (drop m c) l) ∙ ap (λ b. drop n (b ++ drop m c)) front ∙ ap (drop n) (take-append-drop m c))
