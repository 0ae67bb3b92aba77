-- Numbers drawn from a state, one after the other (this project's generator).
use Rattle.std.specs.Prelude.{ℕ, zero, suc, ◌+◌, ◌*◌, ◌/◌, ◌%◌, ◌^◌}

-- the state behind one draw
unfoldable pub next_state : ℕ → ℕ
next_state x = (1103515245 * x + 12345) % 2 ^ 31

-- the state behind so many draws from a state
abbrev pub state_behind : ℕ → ℕ → ℕ
state_behind x zero = x
state_behind x (suc n) = next_state (state_behind x n)

-- draw n from a state, counted from 0, below m: the state behind it without its low eight bits, reduced
abbrev pub draw : ℕ → ℕ → ℕ → ℕ
draw x n m = state_behind x (n + 1) / 2 ^ 8 % m
