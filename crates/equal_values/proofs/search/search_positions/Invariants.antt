use Rattle.std.proofs.Common.{◌≡◌, ◌+◌, ◌<◌, ◌≤◌, ℕ, length, slice_index}
use Rattle.equal_values.specs.Earlier.{coded, earlier}
use Rattle.equal_values.specs.Chains.{IsIndex}
use Rattle.equal_values.specs.Members.{group_at, home_at, is_member}
use Rattle.equal_values.proofs.search.search_positions.Given as goal

abbrev pub invariant-loop-a : goal.invariant-loop-a
invariant-loop-a l = IsIndex (home_at l.moved (length l.heads)) (is_member l.moved l.group) l.heads l.next l.a
    × ((b : ℕ) → b + 1 ≡ l.a → group_at l.moved b ≡ l.group)
    × (length l.heads ≡ length l.fn.heads)
    × (length l.next ≡ length l.fn.next)
    × (length l.earlier ≡ length l.fn.earlier)
    × ((b : ℕ) → b < l.a
    → slice_index l.earlier (slice_index l.order b) ≡ coded (earlier l._values (slice_index l.order b)))
    × ((b : ℕ) → l.a ≤ b → b < length l._values → slice_index l.earlier (slice_index l.order b) ≡ 0)
