-- Names of objects (this project's profile).
use Rattle.std.specs.Prelude.{ℕ, ◌&&◌, ◌||◌, ◌==◌, not, Bool, List, length, nat_le}
use Rattle.std.specs.List.{list_all, slice_split}
use Rattle.std.specs.Char.{is_ascii_alphanumeric}

-- an ASCII letter or digit, `_`, `-` or `.`
abbrev pub is_name_byte : ℕ → Bool
is_name_byte b = is_ascii_alphanumeric b || b == 95 || b == 45 || b == 46

-- empty, `.` or `..`
abbrev pub is_dots : List ℕ → Bool
is_dots s = nat_le (length s) 2 && list_all (λ b. b == 46) s

abbrev pub is_segment : List ℕ → Bool
is_segment s = not (is_dots s) && list_all is_name_byte s

-- at most 512 bytes, and the parts round each `/` are segments
abbrev pub is_name : List ℕ → Bool
is_name bytes = nat_le (length bytes) 512 && list_all is_segment (slice_split (λ b. b == 47) bytes)
