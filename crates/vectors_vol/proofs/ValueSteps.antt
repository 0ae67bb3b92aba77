-- Values that count up, byte by byte.
use Rattle.std.proofs.Common.{◌≡◌, ◌≢◌, ℕ, zero, suc, ◌^◌, take, drop, lit≤, lit<, ◌+◌, ◌*◌, ◌/◌, ◌%◌, ◌-◌, ◌<◌, ◌≤◌, cond, eqb, List, length, set, get_or, sym, ap, ◌∙◌, refl, arith, ⊎_elim}
use Rattle.std.proofs.lemmas.Nat.{div-add-mod', div-mul-add, mod-mul-add, mod_below}
use Rattle.std.proofs.Math.Nat.{mul-le-mul_left}
use Rattle.std.proofs.lemmas.Bool.{cases_lt}
use Rattle.std.proofs.lemmas.List.{ext_get_or, length-append, length-drop, length-set, length-take-le, get_or-append_right, get_or-drop, get_or-set_other, get_or-set_same, get_or-take, get_or_append_left}
use Rattle.std.specs.Int.{byte_at, bytes_low_first}
use Rattle.std.specs.List.{flat_map, range_with_len}
use Rattle.byteorder.specs.Endian.{little_bytes}
use Rattle.vectors_vol.specs.Generated.{counting_bytes}
use Rattle.vectors_vol.specs.ValueBytes.{counting_byte}

-- the first byte of value n
pub counting_byte-first : (w first n k : ℕ) → 0 < w → k ≡ n * w → counting_byte w first k ≡ (first + n) % 256
counting_byte-first w first n k some e =
    let whole : n * w + 0 ≡ k = omega arith in
    let remainder : k % w ≡ 0 = ap (λ x. x % w) (sym whole) ∙ mod-mul-add n w 0 some in
    let quotient : k / w ≡ n = ap (λ x. x / w) (sym whole) ∙ div-mul-add n w 0 some in
    rw (remainder, quotient) refl

past_first : (r v : ℕ) → 0 < r → cond (eqb r 0) v 0 ≡ 0
past_first r v some = grind arith

-- the other bytes of a value are zero
pub counting_byte-rest : (w first n k : ℕ) → n * w < k → k < n * w + w → counting_byte w first k ≡ 0
counting_byte-rest w first n k after before =
    let inside : k - n * w < w = omega arith in
    let whole : n * w + (k - n * w) ≡ k = omega arith in
    let remainder : k % w ≡ k - n * w = ap (λ x. x % w) (sym whole) ∙ mod-mul-add n w (k - n * w) inside in
    past_first (k % w) _ (omega (arith, remainder))

-- a piece that is filled up to the first byte of value n, and then up to that of the next
pub filled_more : (w first at n place : ℕ) (out : List ℕ) (new : ℕ) → 0 < w → at + place ≡ n * w → new ≡ (first + n) % 256
    → ((k : ℕ) → k < place → k < length out → get_or out k 0 ≡ counting_byte w first (at + k))
    → ((k : ℕ) → place ≤ k → get_or out k 0 ≡ 0)
    → (k : ℕ) → k < place + w → k < length (set out place new) → get_or (set out place new) k 0 ≡ counting_byte w first (at + k)
filled_more w first at n place out new some here is filled zeros k near within =
    let inside : k < length out = omega (arith, length-set out place new) in
    ⊎_elim (λ below.
    let other : k ≢ place = omega arith in
    get_or-set_other out place k new 0 other ∙ filled k below inside)
    (λ above. ⊎_elim (λ beyond.
    let other : k ≢ place = omega arith in
    get_or-set_other out place k new 0 other ∙ zeros k above
    ∙ sym (counting_byte-rest w first n (at + k) (omega arith) (omega arith)))
    (λ early.
    let same : k ≡ place = omega arith in
    let room : place < length out = omega arith in
    ap (λ j. get_or (set out place new) j 0) same ∙ get_or-set_same out place new 0 room ∙ is
    ∙ sym (counting_byte-first w first n (at + k) some (omega arith)))
    (cases_lt place k))
    (cases_lt k place)

pub zero_more : (out : List ℕ) (place w new : ℕ) → 0 < w → ((k : ℕ) → place ≤ k → get_or out k 0 ≡ 0) → (k : ℕ) → place + w ≤ k → get_or (set out place new) k 0 ≡ 0
zero_more out place w new some zeros k after =
    let other : k ≢ place = omega arith in
    get_or-set_other out place k new 0 other ∙ zeros k (omega arith)

-- the bytes of a number below 256: itself, and zeros
bytes_from : (i w v k : ℕ) → k < w → get_or (bytes_low_first i w v) k 0 ≡ byte_at (i + k) v
bytes_from i zero v k h = absurd (omega arith)
bytes_from i (suc w) v zero h = ap (λ j. byte_at j v) (omega arith)
bytes_from i (suc w) v (suc k) h =
    let later : get_or (bytes_low_first (suc i) w v) k 0 ≡ byte_at (suc i + k) v = bytes_from (suc i) w v k (omega arith) in
    let same : suc i + k ≡ i + suc k = omega arith in
    later ∙ ap (λ j. byte_at j v) same

high_byte : (i v : ℕ) → v < 256 → byte_at (suc i) v ≡ 0
high_byte i v h =
    let large : 256 ≤ 256 ^ suc i = power i in
    let none : v / 256 ^ suc i ≡ 0 = below_one v (256 ^ suc i) (omega (arith, large)) in
    ap (λ q. q % 256) none
  where
    power : (i : ℕ) → 256 ≤ 256 ^ suc i
    power zero = omega arith
    power (suc i) =
        let before : 256 ≤ 256 ^ suc i = power i in
        let more : 256 ^ suc i * 1 ≤ 256 ^ suc i * 256 = mul-le-mul_left (256 ^ suc i) (lit≤ tt) in
        omega (arith, before, more)

    below_one : (a b : ℕ) → a < b → a / b ≡ 0
    below_one a b h =
        let e : 0 * b + a ≡ a = omega arith in
        ap (λ x. x / b) (sym e) ∙ div-mul-add 0 b a h

small_byte : (w v k : ℕ) → v < 256 → k < w → get_or (little_bytes w v) k 0 ≡ cond (eqb k 0) v 0
small_byte w v zero small h = bytes_from 0 w v 0 h ∙ mod_small v small
  where
    mod_small : (v : ℕ) → v < 256 → v % 256 ≡ v
    mod_small v h =
        let e : 0 * 256 + v ≡ v = omega arith in
        ap (λ x. x % 256) (sym e) ∙ mod-mul-add 0 256 v h
small_byte w v (suc k) small h =
    let e : 0 + suc k ≡ suc k = omega arith in
    bytes_from 0 w v (suc k) h ∙ ap (λ j. byte_at j v) e ∙ high_byte k v small ∙ sym (past_first (suc k) v (omega arith))

pub length_little : (w v : ℕ) → length (little_bytes w v) ≡ w
length_little w v = len 0 w v
  where
    len : (i w v : ℕ) → length (bytes_low_first i w v) ≡ w
    len i zero v = refl
    len i (suc w) v = ap suc (len (suc i) w v)

-- a value later
counting_byte-next : (w first k : ℕ) → 0 < w → w ≤ k → counting_byte w (first + 1) (k - w) ≡ counting_byte w first k
counting_byte-next w first k some h =
    let n : ℕ = (k - w) / w in
    let r : ℕ = (k - w) % w in
    let whole : n * w + r ≡ k - w = div-add-mod' (k - w) w in
    let small : r < w = mod_below (k - w) w some in
    let next : (n + 1) * w + r ≡ k = omega (arith, whole) in
    let remainder : k % w ≡ r = ap (λ x. x % w) (sym next) ∙ mod-mul-add (n + 1) w r small in
    let quotient : k / w ≡ n + 1 = ap (λ x. x / w) (sym next) ∙ div-mul-add (n + 1) w r small in
    let sums : first + 1 + n ≡ first + k / w = omega (arith, quotient) in
    ap (λ x. cond (eqb r 0) (x % 256) 0) sums ∙ ap (λ x. cond (eqb x 0) ((first + k / w) % 256) 0) (sym remainder)

-- each byte of values that count up
values_byte : (w first a count k : ℕ) → 0 < w → k < w * count
    → get_or (flat_map (λ n. little_bytes w ((first + n) % 256)) (range_with_len a count)) k 0 ≡ counting_byte w (first + a) k
values_byte w first a zero k some h = absurd (omega arith)
values_byte w first a (suc count) k some h =
    let one : List ℕ = little_bytes w ((first + a) % 256) in
    let more : List ℕ = flat_map (λ n. little_bytes w ((first + n) % 256)) (range_with_len (a + 1) count) in
    let len : length one ≡ w = length_little w ((first + a) % 256) in
    ⊎_elim (λ below.
    let near : k < length one = omega (arith, len) in
    get_or_append_left one more 0 k near ∙ small_byte w ((first + a) % 256) k (mod_below (first + a) 256 (lit< tt)) below
    ∙ in_first w (first + a) k some below)
    (λ above.
    let rest : k - w < w * count = omega (arith, h) in
    let sums : first + (a + 1) ≡ first + a + 1 = omega arith in
    get_or-append_right one more w k 0 len above ∙ values_byte w first (a + 1) count (k - w) some rest
    ∙ ap (λ f. counting_byte w f (k - w)) sums ∙ counting_byte-next w (first + a) k some above)
    (cases_lt k w)
  where
    in_first : (w first k : ℕ) → 0 < w → k < w → cond (eqb k 0) (first % 256) 0 ≡ counting_byte w first k
    in_first w first zero some h = ap (λ x. x % 256) (omega arith) ∙ sym (counting_byte-first w first 0 0 some (omega arith))
    in_first w first (suc k) some h = past_first (suc k) (first % 256) (omega arith) ∙ sym (counting_byte-rest w first 0 (suc k) (omega arith) (omega arith))

pub length_values : (w first a count : ℕ) → length (flat_map (λ n. little_bytes w ((first + n) % 256)) (range_with_len a count)) ≡ w * count
length_values w first a zero = omega arith
length_values w first a (suc count) =
    let one : List ℕ = little_bytes w ((first + a) % 256) in
    let more : List ℕ = flat_map (λ n. little_bytes w ((first + n) % 256)) (range_with_len (a + 1) count) in
    omega (arith, length-append one more, length_little w ((first + a) % 256), length_values w first (a + 1) count)

-- a piece that has the bytes of values from a place on
pub given_values : (w first count at n : ℕ) (out : List ℕ) → 0 < w → at + n ≤ w * count → n ≤ length out
    → ((k : ℕ) → k < n → get_or out k 0 ≡ counting_byte w first (at + k)) → take n out ≡ take n (drop at (counting_bytes w first count))
given_values w first count at n out some within room bytes =
    let all : List ℕ = counting_bytes w first count in
    let whole : length all ≡ w * count = length_values w first 0 count in
    let left_len : length (take n out) ≡ n = length-take-le n out room in
    let rest_len : n ≤ length (drop at all) = omega (arith, length-drop at all, whole) in
    let right_len : length (take n (drop at all)) ≡ n = length-take-le n (drop at all) rest_len in
    ext_get_or 0 (take n out) (take n (drop at all)) (left_len ∙ sym right_len)
    (λ k h.
    let near : k < n = omega (arith, left_len) in
    let zero_sum : first + 0 ≡ first = omega arith in
    get_or-take n out k 0 near ∙ bytes k near
    ∙ sym (get_or-take n (drop at all) k 0 near ∙ get_or-drop at all k 0
    ∙ values_byte w first 0 count (at + k) some (omega arith) ∙ ap (λ f. counting_byte w f (at + k)) zero_sum))
