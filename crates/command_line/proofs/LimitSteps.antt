-- The names of a command are short, and its numbers in their range.
use Rattle.std.proofs.Common.{◌≡◌, ◌<◌, ◌≤◌, ◌^◌, ℕ, List, [], ◌∷◌, Bool, true, false, Option, Some, None, IfSome, length, refl, subst, sym, arith}
use Rattle.std.specs.Prelude.{◌&&◌, nat_le, nat_lt, option_and_then, if◌then◌else◌, codes}
use Rattle.std.specs.Str.{bytes_eq}
use Rattle.std.proofs.lemmas.Bool.Decides.{nat_tests}
use Rattle.vol_base.specs.Names.{is_name}
use Rattle.vol_base.specs.declared.boxes.Box3.{Box3}
use Rattle.reduce_laws.specs.declared.method.Method.{Method}
use Rattle.command_line.specs.declared.commands.Command.{Command}
use Rattle.command_line.specs.Words.{cutout_line, cutout_of, downsample_by, downsample_line, downsample_of, either_value, generate_line, generate_of, KeepsLimits, line, method_in, other_words, part_of, plain_words, reshard_line, reshard_of, seed, serve_line, serve_of, update_line, update_of, verify_line, verify_of, workers, write_count, write_line, write_of}
use Rattle.line_words.specs.Words.{box_of, connection_count, number, port_number, short_name}

abbrev IsShort : Option (List ℕ) → Type 0
IsShort name = IfSome name (λ n. length n ≤ 200)

kept_short : (named fits : Bool) (word : List ℕ) → (fits ≡ true → length word ≤ 200) → IsShort (if named && fits then Some word else None)
kept_short true true word h = h refl
kept_short true false word h = tt
kept_short false fits word h = tt

small : (n : ℕ) → nat_le n 200 ≡ true → n ≤ 200
small n e = grind (arith, nat_tests)

short_is : (word : List ℕ) → IsShort (short_name word)
short_is word = kept_short (is_name word) (nat_le (length word) 200) word (small (length word))

cutout_keeps : (a b : Option (List ℕ)) (p : Option Box3) → IsShort a → IsShort b → KeepsLimits (cutout_of a b p)
cutout_keeps (Some a) (Some b) (Some p) ha hb = (ha, hb)
cutout_keeps (Some a) (Some b) None ha hb = tt
cutout_keeps (Some a) None p ha hb = tt
cutout_keeps None b p ha hb = tt

write_keeps : (a b : Option (List ℕ)) (n : Option ℕ) → IsShort a → IsShort b → KeepsLimits (write_of a b n)
write_keeps (Some a) (Some b) (Some n) ha hb = (ha, hb)
write_keeps (Some a) (Some b) None ha hb = tt
write_keeps (Some a) None n ha hb = tt
write_keeps None b n ha hb = tt

update_keeps : (a b : Option (List ℕ)) (n : Option ℕ) → IsShort a → IsShort b → KeepsLimits (update_of a b n)
update_keeps (Some a) (Some b) (Some n) ha hb = (ha, hb)
update_keeps (Some a) (Some b) None ha hb = tt
update_keeps (Some a) None n ha hb = tt
update_keeps None b n ha hb = tt

reshard_keeps : (a b c d : Option (List ℕ)) (n : Option ℕ) → IsShort a → IsShort b → IsShort c → IsShort d → KeepsLimits (reshard_of a b c d n)
reshard_keeps (Some a) (Some b) (Some c) (Some d) (Some n) ha hb hc hd = (ha, hb, hc, hd)
reshard_keeps (Some a) (Some b) (Some c) (Some d) None ha hb hc hd = tt
reshard_keeps (Some a) (Some b) (Some c) None n ha hb hc hd = tt
reshard_keeps (Some a) (Some b) None d n ha hb hc hd = tt
reshard_keeps (Some a) None c d n ha hb hc hd = tt
reshard_keeps None b c d n ha hb hc hd = tt

downsample_keeps : (a b c : Option (List ℕ)) (m : Method) (n : Option ℕ) → IsShort a → IsShort b → IsShort c → KeepsLimits (downsample_of a b c m n)
downsample_keeps (Some a) (Some b) (Some c) m (Some n) ha hb hc = (ha, hb, hc)
downsample_keeps (Some a) (Some b) (Some c) m None ha hb hc = tt
downsample_keeps (Some a) (Some b) None m n ha hb hc = tt
downsample_keeps (Some a) None c m n ha hb hc = tt
downsample_keeps None b c m n ha hb hc = tt

verify_keeps : (a b : Option (List ℕ)) (p : Option (Option Box3)) → IsShort a → IsShort b → KeepsLimits (verify_of a b p)
verify_keeps (Some a) (Some b) (Some p) ha hb = (ha, hb)
verify_keeps (Some a) (Some b) None ha hb = tt
verify_keeps (Some a) None p ha hb = tt
verify_keeps None b p ha hb = tt

-- a number that passes a test keeps its bound
abbrev IsBelow : ℕ → Option ℕ → Type 0
IsBelow bound n = IfSome n (λ n. n < bound)

kept_below : (b : Bool) (n bound : ℕ) → (b ≡ true → n < bound) → IsBelow bound (if b then Some n else None)
kept_below true n bound h = h refl
kept_below false n bound h = tt

low : (n bound : ℕ) → nat_lt n bound ≡ true → n < bound
low n bound e = grind (arith, nat_tests)

few : (n : ℕ) → nat_le n 4096 ≡ true → n < 4097
few n e = grind (arith, nat_tests)

found_seed : (n : Option ℕ) → IsBelow (2 ^ 31) (option_and_then (λ n. if nat_lt n (2 ^ 31) then Some n else None) n)
found_seed None = tt
found_seed (Some n) = kept_below (nat_lt n (2 ^ 31)) n (2 ^ 31) (low n (2 ^ 31))

found_count : (n : Option ℕ) → IsBelow 4097 (option_and_then (λ n. if nat_le n 4096 then Some n else None) n)
found_count None = tt
found_count (Some n) = kept_below (nat_le n 4096) n 4097 (few n)

most : (n : ℕ) → n < 4097 → n ≤ 4096
most n h = omega arith

generate_keeps : (a b : Option (List ℕ)) (n m w : Option ℕ) → IsShort a → IsShort b → IsBelow (2 ^ 31) n → IsBelow 4097 m → KeepsLimits (generate_of a b n m w)
generate_keeps (Some a) (Some b) (Some n) (Some m) (Some w) ha hb hn hm = (ha, hb, hn, most m hm)
generate_keeps (Some a) (Some b) (Some n) (Some m) None ha hb hn hm = tt
generate_keeps (Some a) (Some b) (Some n) None w ha hb hn hm = tt
generate_keeps (Some a) (Some b) None m w ha hb hn hm = tt
generate_keeps (Some a) None n m w ha hb hn hm = tt
generate_keeps None b n m w ha hb hn hm = tt

-- some connections
abbrev HasSome : Option ℕ → Type 0
HasSome n = IfSome n (λ n. 1 ≤ n)

kept_some : (low high : Bool) (n : ℕ) → (low ≡ true → 1 ≤ n) → HasSome (if low && high then Some n else None)
kept_some true true n h = h refl
kept_some true false n h = tt
kept_some false high n h = tt

one : (n : ℕ) → nat_le 1 n ≡ true → 1 ≤ n
one n e = grind (arith, nat_tests)

some_number : (n : Option ℕ) → HasSome (option_and_then (λ n. if nat_le 1 n && nat_le n 65536 then Some n else None) n)
some_number None = tt
some_number (Some n) = kept_some (nat_le 1 n) (nat_le n 65536) n (one n)

found_connections : (value : Option (List ℕ)) → HasSome (option_and_then connection_count value)
found_connections None = tt
found_connections (Some word) = some_number (number word)

serve_keeps : (a : Option (List ℕ)) (p n : Option ℕ) → IsShort a → HasSome n → KeepsLimits (serve_of a p n)
serve_keeps (Some a) (Some p) (Some n) ha hn = (ha, hn)
serve_keeps (Some a) (Some p) None ha hn = tt
serve_keeps (Some a) None n ha hn = tt
serve_keeps None p n ha hn = tt

cutout_line_keeps : (plain others : List (List ℕ)) → KeepsLimits (cutout_line plain others)
cutout_line_keeps (a ∷ b ∷ c ∷ []) [] = cutout_keeps (short_name a) (short_name b) (box_of c) (short_is a) (short_is b)
cutout_line_keeps (a ∷ b ∷ c ∷ []) (o ∷ others) = tt
cutout_line_keeps [] others = tt
cutout_line_keeps (a ∷ []) others = tt
cutout_line_keeps (a ∷ b ∷ []) others = tt
cutout_line_keeps (a ∷ b ∷ c ∷ d ∷ plain) others = tt

reshard_line_keeps : (plain others : List (List ℕ)) → KeepsLimits (reshard_line plain others)
reshard_line_keeps (a ∷ b ∷ c ∷ d ∷ []) others =
    reshard_keeps (short_name a) (short_name b) (short_name c) (short_name d) (workers others) (short_is a) (short_is b) (short_is c) (short_is d)
reshard_line_keeps [] others = tt
reshard_line_keeps (a ∷ []) others = tt
reshard_line_keeps (a ∷ b ∷ []) others = tt
reshard_line_keeps (a ∷ b ∷ c ∷ []) others = tt
reshard_line_keeps (a ∷ b ∷ c ∷ d ∷ e ∷ plain) others = tt

method_keeps : (a b c : Option (List ℕ)) (found : Option (Method × List (List ℕ))) → IsShort a → IsShort b → IsShort c → KeepsLimits (downsample_by a b c found)
method_keeps a b c (Some found) ha hb hc = downsample_keeps a b c found.0 (workers found.1) ha hb hc
method_keeps a b c None ha hb hc = tt

downsample_line_keeps : (plain others : List (List ℕ)) → KeepsLimits (downsample_line plain others)
downsample_line_keeps (a ∷ b ∷ c ∷ []) others = method_keeps (short_name a) (short_name b) (short_name c) (method_in others) (short_is a) (short_is b) (short_is c)
downsample_line_keeps [] others = tt
downsample_line_keeps (a ∷ []) others = tt
downsample_line_keeps (a ∷ b ∷ []) others = tt
downsample_line_keeps (a ∷ b ∷ c ∷ d ∷ plain) others = tt

verify_line_keeps : (plain others : List (List ℕ)) → KeepsLimits (verify_line plain others)
verify_line_keeps (a ∷ b ∷ []) [] = verify_keeps (short_name a) (short_name b) (part_of None) (short_is a) (short_is b)
verify_line_keeps (a ∷ b ∷ []) (o ∷ others) = tt
verify_line_keeps (a ∷ b ∷ c ∷ []) [] = verify_keeps (short_name a) (short_name b) (part_of (Some c)) (short_is a) (short_is b)
verify_line_keeps (a ∷ b ∷ c ∷ []) (o ∷ others) = tt
verify_line_keeps [] others = tt
verify_line_keeps (a ∷ []) others = tt
verify_line_keeps (a ∷ b ∷ c ∷ d ∷ plain) others = tt

write_line_keeps : (plain others : List (List ℕ)) → KeepsLimits (write_line plain others)
write_line_keeps (a ∷ b ∷ []) others = write_keeps (short_name a) (short_name b) (workers others) (short_is a) (short_is b)
write_line_keeps [] others = tt
write_line_keeps (a ∷ []) others = tt
write_line_keeps (a ∷ b ∷ c ∷ plain) others = tt

update_line_keeps : (plain others : List (List ℕ)) → KeepsLimits (update_line plain others)
update_line_keeps (a ∷ b ∷ []) others = update_keeps (short_name a) (short_name b) (workers others) (short_is a) (short_is b)
update_line_keeps [] others = tt
update_line_keeps (a ∷ []) others = tt
update_line_keeps (a ∷ b ∷ c ∷ plain) others = tt

generate_line_keeps : (plain others : List (List ℕ)) → KeepsLimits (generate_line plain others)
generate_line_keeps (a ∷ b ∷ n ∷ m ∷ []) others =
    generate_keeps (short_name a) (short_name b) (seed n) (write_count m) (workers others) (short_is a) (short_is b) (found_seed (number n)) (found_count (number m))
generate_line_keeps [] others = tt
generate_line_keeps (a ∷ []) others = tt
generate_line_keeps (a ∷ b ∷ []) others = tt
generate_line_keeps (a ∷ b ∷ c ∷ []) others = tt
generate_line_keeps (a ∷ b ∷ c ∷ d ∷ e ∷ plain) others = tt

serve_line_keeps : (plain others : List (List ℕ)) → KeepsLimits (serve_line plain others)
serve_line_keeps (d ∷ []) (a ∷ b ∷ []) =
    serve_keeps (short_name d) (option_and_then port_number (either_value (codes "--port=") a b)) (option_and_then connection_count (either_value (codes "--connections=") a b)) (short_is d)
    (found_connections (either_value (codes "--connections=") a b))
serve_line_keeps (d ∷ []) [] = tt
serve_line_keeps (d ∷ []) (a ∷ []) = tt
serve_line_keeps (d ∷ []) (a ∷ b ∷ c ∷ others) = tt
serve_line_keeps [] others = tt
serve_line_keeps (d ∷ e ∷ plain) others = tt

either_keeps : (b : Bool) (x y : Option Command) → KeepsLimits x → KeepsLimits y → KeepsLimits (if b then x else y)
either_keeps true x y hx hy = hx
either_keeps false x y hx hy = hy

pub line_keeps : (words : List (List ℕ)) → KeepsLimits (line words)
line_keeps [] = tt
line_keeps (command ∷ words) =
    let plain = plain_words words in
    let others = other_words words in
    either_keeps (bytes_eq command (codes "cutout")) (cutout_line plain others) _ (cutout_line_keeps plain others)
    (either_keeps (bytes_eq command (codes "write")) (write_line plain others) _ (write_line_keeps plain others)
    (either_keeps (bytes_eq command (codes "update")) (update_line plain others) _ (update_line_keeps plain others)
    (either_keeps (bytes_eq command (codes "generate")) (generate_line plain others) _ (generate_line_keeps plain others)
    (either_keeps (bytes_eq command (codes "reshard")) (reshard_line plain others) _ (reshard_line_keeps plain others)
    (either_keeps (bytes_eq command (codes "downsample")) (downsample_line plain others) _ (downsample_line_keeps plain others)
    (either_keeps (bytes_eq command (codes "verify")) (verify_line plain others) _ (verify_line_keeps plain others)
    (either_keeps (bytes_eq command (codes "serve")) (serve_line plain others) None (serve_line_keeps plain others) tt)))))))

pub command_keeps : (found : Option Command) (words : List (List ℕ)) → found ≡ line words → KeepsLimits found
command_keeps found words e = subst KeepsLimits (sym e) (line_keeps words)
