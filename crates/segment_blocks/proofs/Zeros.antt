-- Bytes that are 0.
use Rattle.std.proofs.Common.{◌≡◌, ℕ, suc, ◌<◌, List, [], ◌∷◌, length, get_or, arith}
use Rattle.vol_spec.specs.Raw.{number}

pub number_zeros : (xs : List ℕ) → ((i : ℕ) → i < length xs → get_or xs i 0 ≡ 0) → number xs ≡ 0
number_zeros [] h = omega arith
number_zeros (x ∷ xs) h =
    let here : x ≡ 0 = h 0 (omega arith) in
    let rest : number xs ≡ 0 = number_zeros xs (λ i l. h (suc i) (omega arith)) in
    omega arith
