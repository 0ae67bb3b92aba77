-- Where another group begins, the index is empty.
use Rattle.std.proofs.Common.{◌≡◌, ◌≢◌, ℕ, ◌+◌, ◌-◌, ◌<◌, IsTrue, List, length, slice_index, arith, inl}
use Rattle.equal_values.specs.Chains.{IsIndex}
use Rattle.equal_values.specs.Members.{group_at, is_member}
use Rattle.equal_values.specs.Orders.{IsOrder}
use Rattle.equal_values.proofs.Firsts.{member_group}

-- no position before is of the group that begins
none_before : (values order moved : List ℕ) (n a group : ℕ) → IsOrder values order moved n → a < n
    → ((b : ℕ) → b + 1 ≡ a → group_at moved b ≡ group) → group_at moved a ≢ group
    → (j : ℕ) → j < a → IsTrue (is_member moved (group_at moved a) j) → ⊥
none_before values order moved n a group o la before other j l t =
    let e = member_group moved (group_at moved a) j t in
    let last = before (a - 1) (omega (arith, l)) in
    let low = o.together j (a - 1) (omega (arith, l)) (omega (arith, la)) in
    let high = o.together (a - 1) a (omega arith) la in
    other (omega (arith, e, last, low, high))

pub begins_empty : (hash : ℕ → ℕ) (values order moved heads next : List ℕ) (n a group : ℕ)
    → IsOrder values order moved n → a < n → ((b : ℕ) → b + 1 ≡ a → group_at moved b ≡ group)
    → group_at moved a ≢ group → ((h : ℕ) → h < length heads → slice_index heads h ≡ 0)
    → IsIndex hash (is_member moved (group_at moved a)) heads next a
begins_empty hash values order moved heads next n a group o la before other zeros =
    let none = none_before values order moved n a group o la before other in
    record {
      heads_lead = λ h l. inl (zeros h l);
      next_lead = λ i l p. absurd (none i l p);
      heads_all = λ j l p. absurd (none j l p);
      next_all = λ i j l lj p q e. absurd (none i l p);
    }
