-- What is written behind what is written.
use Rattle.std.proofs.Common.{◌≡◌, ◌+◌, ◌≤◌, ◌++◌, arith, ◌∙◌, ap, ℕ, List, length, take, append_assoc, length-append, length-take}
use Rattle.std.proofs.lemmas.List.{take_at}
use borrow.Rule.Slice.PartMut.{post_of, put_mid}

pub appended : (a n k : ℕ) (xs ys rest : List ℕ) → a ≤ length xs → length ys ≡ n → take (a + n) (put_mid a k xs (ys ++ rest)) ≡ take a xs ++ ys
appended a n k xs ys rest h e =
    let regrouped : put_mid a k xs (ys ++ rest) ≡ (take a xs ++ ys) ++ (rest ++ post_of a k xs) = simp append_assoc in
    let len : length (take a xs ++ ys) ≡ a + n = omega (arith, length-append (take a xs) ys, length-take a xs) in
    ap (take (a + n)) regrouped ∙ take_at (take a xs ++ ys) (rest ++ post_of a k xs) (a + n) len
