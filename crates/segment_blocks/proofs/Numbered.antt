-- A voxel by its number among a chunk's values, and the value of an entry from its words.
use Rattle.std.proofs.Common.{◌≡◌, ℕ, ◌+◌, ◌*◌, ◌/◌, ◌%◌, ◌^◌, ◌<◌, ◌≤◌, List, [], ◌∷◌, take, drop, arith, refl, ap, ◌∙◌, sym}
use Rattle.std.proofs.lemmas.Nat.{div-mul-add, div_below, mod-mul-add}
use Rattle.std.proofs.Math.Nat.{le-mul_of_pos_right}
use Rattle.std.proofs.Math.Seq.{drop-drop}
use Rattle.vol_spec.specs.Raw.{number}
use Rattle.vol_spec.specs.SegBlocks.{width}
use Rattle.vol_spec.specs.SegChunks.{entry, entry_at, index, word}
use Rattle.vol_spec.specs.SegSizes.{SegSizes}

-- no part of a number is above the whole
pub parts_le : (x y z a b m : ℕ) → 0 < a → x + a * (y + b * z) ≤ m → (b * z ≤ m) × (y + b * z ≤ m) × (a * (y + b * z) ≤ m)
parts_le x y z a b m some h =
    let l : y + b * z ≤ (y + b * z) * a = le-mul_of_pos_right (y + b * z) some in
    let e : (y + b * z) * a ≡ a * (y + b * z) = omega arith in
    (omega (arith, l, e), omega (arith, l, e), omega arith)

-- what a number says of each axis
pub on_axes : (x y z c a b d n : ℕ) → x < a → y < b → z < d → x + a * (y + b * (z + d * c)) ≡ n → (n % a ≡ x) × (n / a % b ≡ y) × (n / a / b % d ≡ z) × (n / a / b / d ≡ c)
on_axes x y z c a b d n lx ly lz h =
    let ex : n ≡ (y + b * (z + d * c)) * a + x = sym h ∙ omega arith in
    let dx : n / a ≡ y + b * (z + d * c) = ap (λ q. q / a) ex ∙ div-mul-add (y + b * (z + d * c)) a x lx in
    let ey : n / a ≡ (z + d * c) * b + y = dx ∙ omega arith in
    let dy : n / a / b ≡ z + d * c = ap (λ q. q / b) ey ∙ div-mul-add (z + d * c) b y ly in
    let ez : n / a / b ≡ c * d + z = dy ∙ omega arith in
    (ap (λ q. q % a) ex ∙ mod-mul-add (y + b * (z + d * c)) a x lx, ap (λ q. q % b) ey ∙ mod-mul-add (z + d * c) b y ly, ap (λ q. q % d) ez ∙ mod-mul-add c d z lz, ap (λ q. q / d) ez ∙ div-mul-add c d z lz)

pub channel_below : (n a b d m : ℕ) → 0 < a → 0 < b → 0 < d → n < a * b * d * m → n / a / b / d < m
channel_below n a b d m pa pb pd h =
    let x : n / a < (m * d) * b = div_below n a ((m * d) * b) pa (omega arith) in
    let y : n / a / b < m * d = div_below (n / a) b (m * d) pb x in
    div_below (n / a / b) d m pd y

eight_bytes : (xs : List ℕ) → number (take 8 xs) ≡ number (take 4 xs) + 2 ^ 32 * number (take 4 (drop 4 xs))
eight_bytes [] = refl
eight_bytes (a ∷ []) = omega arith
eight_bytes (a ∷ b ∷ []) = omega arith
eight_bytes (a ∷ b ∷ c ∷ []) = omega arith
eight_bytes (a ∷ b ∷ c ∷ d ∷ []) = omega arith
eight_bytes (a ∷ b ∷ c ∷ d ∷ e ∷ []) = omega arith
eight_bytes (a ∷ b ∷ c ∷ d ∷ e ∷ f ∷ []) = omega arith
eight_bytes (a ∷ b ∷ c ∷ d ∷ e ∷ f ∷ g ∷ []) = omega arith
eight_bytes (a ∷ b ∷ c ∷ d ∷ e ∷ f ∷ g ∷ h ∷ rest) = omega arith

-- an entry of one word, and one of two
pub one_word : (bytes : List ℕ) (i : ℕ) → word bytes i ≡ number (take 4 (drop (4 * i) bytes))
unfolding word
one_word bytes i = refl

pub two_words : (bytes : List ℕ) (i : ℕ) → word bytes i + 2 ^ 32 * word bytes (i + 1) ≡ number (take 8 (drop (4 * i) bytes))
unfolding word
two_words bytes i =
    let e : 4 * i + 4 ≡ 4 * (i + 1) = omega arith in
    let d : drop 4 (drop (4 * i) bytes) ≡ drop (4 * (i + 1)) bytes = drop-drop 4 (4 * i) bytes ∙ ap (λ q. drop q bytes) e in
    sym (eight_bytes (drop (4 * i) bytes) ∙ ap (λ q. number (take 4 (drop (4 * i) bytes)) + 2 ^ 32 * number (take 4 q)) d)

-- an entry's number, by the entry's place
pub entry_number : (bytes : List ℕ) (s : SegSizes) (c k n : ℕ) → number (take (width s) (drop (4 * entry_at bytes s c k (index bytes c k n)) bytes)) ≡ number (entry bytes s c k n)
unfolding entry
entry_number bytes s c k n = refl

pub same_voxel : (f : ℕ → ℕ → ℕ → ℕ → ℕ) {a b c d p q r t : ℕ} → a ≡ p → b ≡ q → c ≡ r → d ≡ t → f a b c d ≡ f p q r t
same_voxel f {a = a} {b = b} {c = c} {p = p} {q = q} {r = r} {t = t} ea eb ec ed = ap (λ v. f a b c v) ed ∙ ap (λ v. f a b v t) ec ∙ ap (λ v. f a v r t) eb ∙ ap (λ v. f v q r t) ea
