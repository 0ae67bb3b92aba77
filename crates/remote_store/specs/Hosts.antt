-- Names of hosts (this project's profile of RFC 1123, section 2.1).
use Rattle.std.specs.Prelude.{ℕ, Bool, false, ◌&&◌, ◌||◌, ◌==◌, List, [], ◌∷◌, length, nat_le}
use Rattle.std.specs.Char.{is_ascii_alphanumeric}
use Rattle.std.specs.List.{list_all}

-- letters, digits, points and hyphens
abbrev pub is_host_byte : ℕ → Bool
is_host_byte b = is_ascii_alphanumeric b || b == 46 || b == 45

abbrev pub begins_host : List ℕ → Bool
begins_host [] = false
begins_host (b ∷ bytes) = is_ascii_alphanumeric b

-- 1 to 255 such bytes, of which the first is a letter or a digit
abbrev pub is_host : List ℕ → Bool
is_host text = nat_le (length text) 255 && begins_host text && list_all is_host_byte text
