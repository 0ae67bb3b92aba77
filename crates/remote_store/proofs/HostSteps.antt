-- Names of hosts in requests.
use Rattle.std.proofs.Common.{◌≡◌, ℕ, ◌<◌, ◌≤◌, ◌^◌, true, ◌&&◌, nat_le, List, [], ◌∷◌, length, length-append, lit<, IsTrue, refl, arith}
use Rattle.std.specs.Fmt.{decimal}
use Rattle.std.specs.List.{list_all}
use Rattle.std.proofs.lemmas.Fmt.{length-decimal-le}
use Rattle.std.proofs.lemmas.Bool.{and_from, and_parts, leb-true}
use Rattle.std.proofs.lemmas.Bool.Decides.{nat_tests}
use Rattle.httparse.specs.Grammar.{is_value_byte}
use Rattle.remote_store.specs.Hosts.{begins_host, is_host, is_host_byte}
use Rattle.remote_store.specs.Requests.{peer_value}

value_byte : (b : ℕ) → is_host_byte b ≡ true → is_value_byte b ≡ true
value_byte b e = grind (arith, nat_tests)

host_values : (bytes : List ℕ) → list_all is_host_byte bytes ≡ true → list_all is_value_byte bytes ≡ true
host_values [] e = refl
host_values (b ∷ bytes) e =
    let both = and_parts (is_host_byte b) (list_all is_host_byte bytes) e in
    and_from (is_value_byte b) (list_all is_value_byte bytes) (value_byte b both.0) (host_values bytes both.1)

-- a host's name is short, and has no byte that a value can't have
pub host_parts : (host : List ℕ) → IsTrue (is_host host) → (length host ≤ 255) × (list_all is_value_byte host ≡ true)
host_parts host t =
    let one = and_parts (nat_le (length host) 255 && begins_host host) (list_all is_host_byte host) t in
    (leb-true (length host) 255 (and_parts (nat_le (length host) 255) (begins_host host) one.0).0, host_values host one.1)

pub peer_short : (host : List ℕ) (port : ℕ) → length host ≤ 255 → port < 2 ^ 16 → length (peer_value host port) ≤ 261
peer_short host port short small =
    let digits : length (decimal port) ≤ 5 = length-decimal-le 5 port (lit< tt) (omega (arith, small)) (omega (arith, small)) in
    omega (arith, length-append host (58 ∷ decimal port), short, digits)
