-- Parts of an object, one behind the other.
use Rattle.std.proofs.Common.{◌≡◌, ◌∙◌, ℕ, ◌+◌, ◌≤◌, List, ◌++◌, length, length-take, length-drop, take, drop, ap, arith}
use Rattle.std.proofs.Math.Seq.{take-add, drop-drop}
use Rattle.std.proofs.lemmas.Grind.{common_steps}
use Rattle.vol_base.specs.Outside.{part}

-- a part that is whole has whole parts
pub whole_inside : (object : List ℕ) (from t d n : ℕ) → length (part object from t) ≡ t → d + n ≤ t → length (part object (from + d) n) ≡ n
whole_inside object from t d n full le = omega (arith, full, le, length-take t (drop from object), length-drop from object, length-take n (drop (from + d) object), length-drop (from + d) object)

-- n bytes more
pub part_more : (object : List ℕ) (from d n : ℕ) → part object from (d + n) ≡ part object from d ++ part object (from + d) n
part_more object from d n = take-add d n (drop from object) ∙ ap (λ x. part object from d ++ take n x) (drop-drop d from object ∙ ap (λ k. drop k object) (omega arith))

-- a front of a part is a part
pub take_part : (object : List ℕ) (from t k : ℕ) → k ≤ t → take k (part object from t) ≡ part object from k
take_part object from t k le = grind (arith, common_steps)
