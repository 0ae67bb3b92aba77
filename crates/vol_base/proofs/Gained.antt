-- What an outlet gains piece by piece.
use Rattle.std.proofs.Common.{◌≡◌, ℕ, ◌+◌, ◌≤◌, List, ◌++◌, length, take, drop, Option, Some, None, refl, ap, ◌∙◌, sym, append_assoc, arith}
use Rattle.std.specs.Option.{option_map}
use Rattle.std.proofs.Math.Seq.{take-add}
use Rattle.std.proofs.lemmas.Grind.{common_steps}

pub gained-more : (o : Option (List ℕ)) (a b : List ℕ) → option_map (λ w. w ++ b) (option_map (λ w. w ++ a) o) ≡ option_map (λ w. w ++ (a ++ b)) o
gained-more None a b = refl
gained-more (Some w) a b = ap Some (append_assoc w a b)

-- n bytes more of what is left
pub gained-next : (o p q : Option (List ℕ)) (bytes : List ℕ) (done n k : ℕ) → p ≡ option_map (λ w. w ++ take done bytes) o → done + n ≤ length bytes → n ≤ k → q ≡ option_map (λ w. w ++ take n (take k (drop done bytes))) p → q ≡ option_map (λ w. w ++ take (done + n) bytes) o
gained-next o p q bytes done n k e l m f =
    let piece : take n (take k (drop done bytes)) ≡ take n (drop done bytes) = grind (arith, common_steps) in
    f ∙ ap (λ x. option_map (λ w. w ++ x) p) piece ∙ ap (option_map (λ w. w ++ take n (drop done bytes))) e ∙ gained-more o _ _ ∙ ap (λ x. option_map (λ w. w ++ x) o) (sym (take-add done n bytes))
