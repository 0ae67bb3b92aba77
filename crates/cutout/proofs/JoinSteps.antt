-- Values in bytes that stand one behind the other.
use Rattle.std.proofs.Common.{◌≡◌, ◌∙◌, ◌≤◌, ◌<◌, ◌+◌, ◌-◌, ◌*◌, ◌++◌, ℕ, length, take, drop, arith, ap, sym, slice_index, ⊎_elim}
use Rattle.std.proofs.lemmas.Bool.{cases_lt}
use Rattle.std.proofs.lemmas.Grind.{common_steps}
use Rattle.std.proofs.Math.Seq.{drop-drop}
use Rattle.vol_base.specs.Boxes.{value}
use Rattle.vol_base.specs.Bytes.{AreBytes}
use Rattle.vol_spec.specs.Types.{Bytes}

in_left : (w k : ℕ) (xs ys : Bytes) → k + w ≤ length xs → take w (drop k (xs ++ ys)) ≡ take w (drop k xs)
in_left w k xs ys h = grind (arith, common_steps)

behind : (n : ℕ) (xs ys : Bytes) → length xs ≡ n → drop n (xs ++ ys) ≡ ys
behind n xs ys h = grind (arith, common_steps)

in_right : (w k n : ℕ) (xs ys : Bytes) → length xs ≡ n → take w (drop (n + k) (xs ++ ys)) ≡ take w (drop k ys)
in_right w k n xs ys h = ap (take w) (sym (drop-drop k n (xs ++ ys)) ∙ ap (drop k) (behind n xs ys h))

pub value-left : (w i : ℕ) (xs ys : Bytes) → w * i + w ≤ length xs → value w (xs ++ ys) i ≡ value w xs i
value-left w i xs ys h = in_left w (w * i) xs ys h

pub value-right : (w n i k : ℕ) (xs ys : Bytes) → length xs ≡ w * n → k ≡ n + i → value w (xs ++ ys) k ≡ value w ys i
value-right w n i k xs ys len e =
    let place : w * k ≡ w * n + w * i = ap (λ j. w * j) e ∙ omega arith in
    ap (λ j. take w (drop j (xs ++ ys))) place ∙ in_right w (w * i) (w * n) xs ys len

pub joined_bytes : (xs ys : Bytes) → AreBytes xs → AreBytes ys → AreBytes (xs ++ ys)
joined_bytes xs ys hx hy i =
    ⊎_elim (λ (lt : i < length xs). let e : slice_index (xs ++ ys) i ≡ slice_index xs i = grind (arith, common_steps) in rw e (hx i))
    (λ (ge : length xs ≤ i). let e : slice_index (xs ++ ys) i ≡ slice_index ys (i - length xs) = grind (arith, common_steps) in rw e (hy (i - length xs)))
    (cases_lt i (length xs))
