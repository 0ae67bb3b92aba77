-- The positions that the index of a group has: those of its values that stand there for the first time (this
-- project's).
use Rattle.std.specs.Prelude.{ℕ, ◌==◌, ◌&&◌, Bool, List, slice_index}
use Rattle.equal_values.specs.Chains.{spread}
use Rattle.equal_values.specs.Earlier.{coded, earlier}
use Rattle.equal_values.specs.Hashes.{group_of, hashed}

-- whether no earlier value equals that of position a
unfoldable pub is_first : List ℕ → ℕ → Bool
is_first moved a = coded (earlier moved a) == 0

-- whether position a is in the index of group q: it is the first of its value, and that is in the group
unfoldable pub is_member : List ℕ → ℕ → ℕ → Bool
is_member moved q a = group_of (slice_index moved a) == q && is_first moved a

-- the group of the value at position a
abbrev pub group_at : List ℕ → ℕ → ℕ
group_at moved a = group_of (slice_index moved a)

-- the head of the chain of position a, among so many heads
abbrev pub home_at : List ℕ → ℕ → ℕ → ℕ
home_at moved heads a = spread (hashed (slice_index moved a)) heads
