-- The bytes of a request are those of its head.
use Rattle.std.proofs.Common.{◌≡◌, ◌∙◌, List, ℕ, ◌+◌, ◌-◌, ◌<◌, ◌≤◌, ◌^◌, [], ◌++◌, codes, length, length-append, lit<, ap, sym, refl, append_assoc, append-nil, arith}
use Rattle.std.specs.Fmt.{decimal}
use Rattle.std.proofs.lemmas.Fmt.{length-decimal-le}
use Rattle.httparse.specs.Grammar.{print_request}
use Rattle.httparse.proofs.GrammarLemmas.{print_request-append}
use Rattle.remote_store.specs.Answers.{IsAsked}
use Rattle.remote_store.specs.Requests.{peer_value, request_of}
use Rattle.remote_store.specs.declared.wanted.Wanted.{Wanted}
use Rattle.remote_store.specs.Texts.{length_text, part_text, range_text, request_text}
use Rattle.remote_store.specs.declared.wanted.Wanted.TheVariants.{Length, Part}

pieces : (a k b p c : List ℕ) → a ++ k ++ b ++ p ++ c ≡ a ++ (k ++ (b ++ (p ++ c)))
pieces a k b p c = simp (append_assoc) refl

ended : (p e : List ℕ) → (((p ++ e) ++ []) ++ e) ++ [] ≡ p ++ (e ++ e)
ended p e = append-nil (((p ++ e) ++ []) ++ e) ∙ ap (λ x. x ++ e) (append-nil (p ++ e)) ∙ append_assoc p e e

pub length_printed : (host : List ℕ) (port : ℕ) (key : List ℕ) → length_text (peer_value host port) key ≡ print_request (request_of host port key Length)
length_printed host port key =
    let p = peer_value host port in
    let h = request_of host port key Length in
    pieces (codes "HEAD /") key (codes " HTTP/1.1\r\nHost: ") p (codes "\r\n\r\n")
    ∙ (λ i. codes "HEAD /" ++ (key ++ (codes " HTTP/1.1\r\nHost: " ++ sym (ended p (codes "\r\n")) i)))
    ∙ sym (print_request-append h []) ∙ append-nil (print_request h)

ended_part : (p e lit d m l : List ℕ) → p ++ ((((e ++ lit) ++ d) ++ m) ++ l ++ (e ++ e)) ≡ (((p ++ e) ++ (((((lit ++ d) ++ m) ++ l) ++ e) ++ [])) ++ e) ++ []
ended_part p e lit d m l = simp (append_assoc, append-nil) refl

pub part_printed : (host : List ℕ) (port : ℕ) (key : List ℕ) (from count : ℕ) → part_text (peer_value host port) key from count ≡ print_request (request_of host port key (Part from count))
part_printed host port key from count =
    let p = peer_value host port in
    let h = request_of host port key (Part from count) in
    pieces (codes "GET /") key (codes " HTTP/1.1\r\nHost: ") p (range_text from (from + count - 1))
    ∙ (λ i. codes "GET /" ++ (key ++ (codes " HTTP/1.1\r\nHost: " ++ ended_part p (codes "\r\n") (codes "Range: bytes=") (decimal from) (codes "-") (decimal (from + count - 1)) i)))
    ∙ sym (print_request-append h []) ∙ append-nil (print_request h)

pub printed : (host : List ℕ) (port : ℕ) (key : List ℕ) (wanted : Wanted) → request_text (peer_value host port) key wanted ≡ print_request (request_of host port key wanted)
printed host port key Length = length_printed host port key
printed host port key (Part from count) = part_printed host port key from count

five_long : (a k b p c : List ℕ) → length (a ++ k ++ b ++ p ++ c) ≡ length a + length k + length b + length p + length c
five_long a k b p c = simp length-append refl

number_short : (n : ℕ) → n < 2 ^ 64 → length (decimal n) ≤ 20
number_short n small = length-decimal-le 20 n (lit< tt) (omega (arith, small)) small

-- a request has at most 1,024 bytes
pub request_short : (peer key : List ℕ) (wanted : Wanted) → length peer ≤ 261 → length key ≤ 512 → IsAsked wanted → length (request_text peer key wanted) ≤ 1024
request_short peer key Length lp lk asked = omega (arith, five_long (codes "HEAD /") key (codes " HTTP/1.1\r\nHost: ") peer (codes "\r\n\r\n"))
request_short peer key (Part from count) lp lk asked =
    let last = from + count - 1 in
    let first_short : length (decimal from) ≤ 20 = number_short from (omega (arith, asked)) in
    let last_short : length (decimal last) ≤ 20 = number_short last (omega (arith, asked)) in
    omega (arith, five_long (codes "GET /") key (codes " HTTP/1.1\r\nHost: ") peer (range_text from last), five_long (codes "\r\nRange: bytes=") (decimal from) (codes "-") (decimal last) (codes "\r\n\r\n"))

pub five_more : (t0 t1 t2 t3 t4 t5 a d m l e : List ℕ) → t1 ≡ t0 ++ a → t2 ≡ t1 ++ d → t3 ≡ t2 ++ m → t4 ≡ t3 ++ l → t5 ≡ t4 ++ e → t5 ≡ t0 ++ (a ++ d ++ m ++ l ++ e)
five_more t0 t1 t2 t3 t4 t5 a d m l e e1 e2 e3 e4 e5 =
    e5 ∙ ap (λ t. t ++ e) (e4 ∙ ap (λ t. t ++ l) (e3 ∙ ap (λ t. t ++ m) (e2 ∙ ap (λ t. t ++ d) e1))) ∙ simp (append_assoc) refl
