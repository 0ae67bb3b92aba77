-- The sum of bytes, piece by piece.
use Rattle.std.proofs.Common.{◌≡◌, ◌∙◌, ◌<◌, ◌≤◌, ◌+◌, ◌-◌, ◌*◌, ◌/◌, ◌%◌, ◌^◌, ℕ, zero, suc, [], ◌∷◌, ◌++◌, length, map, sum, take, drop, ap, sym, subst, refl, arith}
use Rattle.std.specs.Prelude.{slice_index}
use Rattle.std.specs.List.{range_with_len}
use Rattle.std.proofs.Math.Nat.{add-mul-mod_self_right, mod-add-mod, mod-eq_of_lt, mul-mod_left}
use Rattle.std.proofs.Math.Seq.{take-add}
use Rattle.std.proofs.lemmas.List.{length-append, length-take, length-take-le, take_all}
use Rattle.std.proofs.lemmas.List.FromFn.{sum_by-map-range_with_len_more}
use Rattle.std.proofs.lemmas.Nat.{div-add-mod', mod_below, pow-add}
use Rattle.vol_spec.specs.Raw.{digit, number}
use Rattle.vol_spec.specs.Types.{Bytes}
use Rattle.value_sums.specs.Sums.{sum_in}
use Rattle.value_sums.specs.Weights.{IsSum, weigh}
use Rattle.value_sums.proofs.SumSteps.{values_in}

-- the weight of a place
pub weight : (place : ℕ) → 2 ^ (8 * place) ≡ 256 ^ place
weight zero = refl
weight (suc place) =
    let more : 256 ^ suc place ≡ 256 ^ place * 256 = omega arith in
    let turn : 8 * suc place ≡ 8 * place + 8 = omega arith in
    ap (λ k. 2 ^ k) turn ∙ pow-add 2 (8 * place) 8 ∙ ap (λ k. k * 256) (weight place) ∙ sym more

-- bytes behind others
pub weigh-append : (w place : ℕ) (xs ys : Bytes) → place < w → weigh w place (xs ++ ys) ≡ weigh w place xs + weigh w ((place + length xs) % w) ys
weigh-append w place [] ys h =
    let none : place + 0 ≡ place = omega arith in
    let same : weigh w ((place + 0) % w) ys ≡ weigh w place ys = ap (λ k. weigh w k ys) (ap (λ k. k % w) none ∙ mod-eq_of_lt h) in
    omega (arith, same)
weigh-append w place (x ∷ xs) ys h =
    let next : (place + 1) % w < w = mod_below (place + 1) w (omega arith) in
    let turn : place + 1 + length xs ≡ place + suc (length xs) = omega arith in
    let same : ((place + 1) % w + length xs) % w ≡ (place + suc (length xs)) % w = mod-add-mod (place + 1) w (length xs) ∙ ap (λ k. k % w) turn in
    let rest : weigh w ((place + 1) % w) (xs ++ ys) ≡ weigh w ((place + 1) % w) xs + weigh w ((place + suc (length xs)) % w) ys =
    weigh-append w ((place + 1) % w) xs ys next ∙ ap (λ k. weigh w ((place + 1) % w) xs + weigh w k ys) same in
    omega (arith, rest)

-- the bytes of one value
weigh_number : (w place : ℕ) (xs : Bytes) → place + length xs ≤ w → weigh w (place % w) xs ≡ 256 ^ place * number xs
weigh_number w place [] h = omega arith
weigh_number w place (x ∷ xs) h =
    let here : x * 256 ^ (place % w) ≡ x * 256 ^ place = ap (λ k. x * 256 ^ k) (mod-eq_of_lt (omega arith)) in
    let rest : weigh w ((place % w + 1) % w) xs ≡ 256 ^ (place + 1) * number xs = ap (λ k. weigh w k xs) (mod-add-mod place w 1) ∙ weigh_number w (place + 1) xs (omega arith) in
    let more : 256 ^ (place + 1) * number xs ≡ 256 ^ place * 256 * number xs = ap (λ k. k * number xs) (pow-add 256 place 1) in
    omega (arith, here, rest, more)

-- the bytes of whole values
weigh_whole : (w n : ℕ) (bytes : Bytes) → 1 ≤ w → n * w ≤ length bytes → weigh w 0 (take (n * w) bytes) ≡ sum (map (digit bytes w) (range_with_len 0 n))
weigh_whole w zero bytes some h = ap (λ k. weigh w 0 (take k bytes)) (let none : 0 * w ≡ 0 = omega arith in none)
weigh_whole w (suc n) bytes some h =
    let front : Bytes = take (n * w) bytes in
    let one : Bytes = take w (drop (n * w) bytes) in
    let split : take (suc n * w) bytes ≡ front ++ one = ap (λ k. take k bytes) (let e : suc n * w ≡ n * w + w = omega arith in e) ∙ take-add (n * w) w bytes in
    let len : length front ≡ n * w = length-take-le (n * w) bytes (omega arith) in
    let place : (0 + length front) % w ≡ 0 = ap (λ k. k % w) (let e : 0 + length front ≡ n * w = omega arith in e) ∙ mul-mod_left n w in
    let turn : n * w ≡ w * n = omega arith in
    let last : weigh w ((0 + length front) % w) one ≡ digit bytes w n =
    ap (λ k. weigh w k one) (place ∙ sym (mod-eq_of_lt some)) ∙ weigh_number w 0 one (omega (arith, length-take w (drop (n * w) bytes))) ∙ (let all : 256 ^ 0 * number one ≡ number one = omega arith in all) ∙ ap (λ k. number (take w (drop k bytes))) turn in
    let before : weigh w 0 front ≡ sum (map (digit bytes w) (range_with_len 0 n)) = weigh_whole w n bytes some (omega arith) in
    let more : sum (map (digit bytes w) (range_with_len 0 (n + 1))) ≡ sum (map (digit bytes w) (range_with_len 0 n)) + digit bytes w n = sum_by-map-range_with_len_more (λ x. x) (digit bytes w) 0 n n (omega arith) in
    let suc_n : n + 1 ≡ suc n = omega arith in
    let whole : weigh w 0 front + weigh w ((0 + length front) % w) one ≡ sum (map (digit bytes w) (range_with_len 0 (n + 1))) = omega (arith, last, before, more) in
    ap (weigh w 0) split ∙ weigh-append w 0 front one (omega arith) ∙ whole ∙ ap (λ k. sum (map (digit bytes w) (range_with_len 0 k))) suc_n

weigh_values : (w n : ℕ) (bytes : Bytes) → 1 ≤ w → length bytes ≡ n * w → weigh w 0 bytes ≡ sum (map (digit bytes w) (range_with_len 0 n))
weigh_values w n bytes some h =
    let all : take (n * w) bytes ≡ bytes = take_all (n * w) bytes (omega arith) in
    ap (weigh w 0) (sym all) ∙ weigh_whole w n bytes some (omega arith)

-- the sum of the bytes of whole values is theirs
pub sum_is : (w place total count : ℕ) (bytes : Bytes) → IsSum w place total bytes → length bytes ≡ count * w → total ≡ sum_in w count bytes
sum_is w place total count bytes sums h = sums.is ∙ ap (λ k. k % 2 ^ 64) (weigh_values w count bytes sums.some h)

-- one byte more
pub first_added : (w place total : ℕ) (bytes piece : Bytes) → IsSum w place total bytes → 0 < length piece
    → IsSum w ((place + 1) % w) ((total + slice_index piece 0 * 256 ^ place) % 2 ^ 64) (bytes ++ take 1 piece)
first_added w place total bytes [] sums h = absurd (omega arith)
first_added w place total bytes (b ∷ piece) sums h =
    let same : (0 + length bytes) % w ≡ place = ap (λ k. k % w) (let e : 0 + length bytes ≡ length bytes = omega arith in e) ∙ sym sums.next in
    let more : weigh w 0 (bytes ++ b ∷ []) ≡ weigh w 0 bytes + weigh w ((0 + length bytes) % w) (b ∷ []) = weigh-append w 0 bytes (b ∷ []) sums.some in
    let one : weigh w ((0 + length bytes) % w) (b ∷ []) ≡ b * 256 ^ place = ap (λ k. weigh w k (b ∷ [])) same ∙ omega arith in
    let is = sums.is in
    record {
      some = sums.some;
      width = sums.width;
      next = ap (λ k. (k + 1) % w) sums.next ∙ mod-add-mod (length bytes) w 1 ∙ ap (λ k. k % w) (sym (length-append bytes (b ∷ [])));
      is = omega (arith, is, more, one);
    }

-- whole values more
values_added : (w total n : ℕ) (bytes values : Bytes) → IsSum w 0 total bytes → length values ≡ n * w
    → IsSum w 0 ((total + sum_in w n values) % 2 ^ 64) (bytes ++ values)
values_added w total n bytes values sums h =
    let same : (0 + length bytes) % w ≡ 0 = ap (λ k. k % w) (let e : 0 + length bytes ≡ length bytes = omega arith in e) ∙ sym sums.next in
    let more : weigh w 0 (bytes ++ values) ≡ weigh w 0 bytes + weigh w ((0 + length bytes) % w) values = weigh-append w 0 bytes values sums.some in
    let all : weigh w ((0 + length bytes) % w) values ≡ sum (map (digit values w) (range_with_len 0 n)) = ap (λ k. weigh w k values) same ∙ weigh_values w n values sums.some h in
    let is = sums.is in
    record {
      some = sums.some;
      width = sums.width;
      next = sums.next ∙ sym (add-mul-mod_self_right (length bytes) n w) ∙ ap (λ k. (length bytes + k) % w) (sym h) ∙ ap (λ k. k % w) (sym (length-append bytes values));
      is = omega (arith, is, more, all);
    }

pub front_added : (w place total whole : ℕ) (bytes piece : Bytes) → IsSum w place total bytes → place ≤ 0 → whole ≡ length piece - length piece % w
    → IsSum w place ((total + sum_in w (length (take whole piece) / w) (take whole piece)) % 2 ^ 64) (bytes ++ take whole piece)
front_added w place total whole bytes piece sums none is =
    let split : length piece / w * w + length piece % w ≡ length piece = div-add-mod' (length piece) w in
    let len : length (take whole piece) ≡ length piece / w * w = length-take-le whole piece (omega arith) ∙ omega arith in
    let count : length (take whole piece) / w ≡ length piece / w = values_in (length piece / w) w (length (take whole piece)) sums.some len in
    let zero_place : 0 ≡ place = omega arith in
    let at_zero : IsSum w 0 total bytes = subst (λ k. IsSum w k total bytes) (sym zero_place) sums in
    subst (λ k. IsSum w k ((total + sum_in w (length (take whole piece) / w) (take whole piece)) % 2 ^ 64) (bytes ++ take whole piece)) zero_place
    (values_added w total (length (take whole piece) / w) bytes (take whole piece) at_zero (len ∙ ap (λ k. k * w) (sym count)))
