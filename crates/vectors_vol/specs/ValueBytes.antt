-- Values that count up, byte by byte (this project's generator).
use Rattle.std.specs.Prelude.{ℕ, ◌+◌, ◌/◌, ◌%◌, ◌==◌, if◌then◌else◌}

-- byte k of values of w bytes that count up from a number, modulo 256: each value is its first byte, and zeros
abbrev pub counting_byte : ℕ → ℕ → ℕ → ℕ
counting_byte w first k = if k % w == 0 then (first + k / w) % 256 else 0
