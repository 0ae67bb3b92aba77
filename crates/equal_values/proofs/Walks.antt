-- What the index has of an equal value.
use Rattle.std.proofs.Common.{◌≡◌, ◌==◌, ap, sym, ℕ, List, Option, Some, None, slice_index}
use Rattle.equal_values.specs.Chains.{IsFound}
use Rattle.equal_values.specs.Earlier.{earlier}
use Rattle.equal_values.specs.Hashes.{group_of}
use Rattle.equal_values.specs.Members.{group_at, is_member}
use Rattle.equal_values.proofs.Firsts.{eq_is, first_here, first_member, is_eq, member_first, none_here}

-- it is the first of it
pub found_is : (xs : List ℕ) (k : ℕ) (found : Option ℕ)
    → IsFound (is_member xs (group_at xs k)) (λ j. slice_index xs j == slice_index xs k) k found → found ≡ earlier xs k
found_is xs k None none =
    let group = group_at xs k in
    sym (none_here xs k (λ j l p e. none j l (first_member xs group j (ap group_of e) p) (is_eq (slice_index xs j) (slice_index xs k) e)))
found_is xs k (Some j) t =
    let equal = eq_is (slice_index xs j) (slice_index xs k) t.2 in
    sym (first_here xs k j t.0 equal (member_first xs (group_at xs k) j t.1))
