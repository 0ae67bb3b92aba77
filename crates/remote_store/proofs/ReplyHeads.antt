-- How long heads of replies are, and what comes in front of what is received.
use Rattle.std.proofs.Common.{◌≡◌, ◌∙◌, ℕ, suc, ◌+◌, ◌-◌, ◌*◌, ◌<◌, ◌≤◌, List, [], ◌∷◌, ◌++◌, length, length-append, length-take, take, drop, All, inl, inr, ap, sym, arith}
use Rattle.std.specs.List.{flat_map}
use Rattle.std.proofs.Math.Seq.{drop-append_seam, take-append-add, take-length}
use Rattle.std.proofs.lemmas.Bool.{cases_lt}
use Rattle.std.proofs.lemmas.List.{take-append-le}
use Rattle.httparse.specs.Grammar.{LineEnd, crlf, lf, print_end, Field, IsField, HasNoResponse, ResponseHead, print_blank, print_field, print_reason, print_response, print_section, print_version}
use Rattle.httparse.specs.Spans.{ResponseOverflows}
use Rattle.httparse.proofs.GrammarLemmas.{print_response-append}
use Rattle.remote_store.specs.Waits.{NeverBegins}
use borrow.Rule.Slice.PartMut.{put_mid, post_of}

end_long : (e : LineEnd) → 0 < length (print_end e)
end_long crlf = omega arith
end_long lf = omega arith

field_long : (f : Field) → IsField f → 3 ≤ length (print_field f)
field_long f h =
    let a = h.name.0 in
    let b = end_long f.end in
    let all : length (print_field f) ≡ length (f.name ++ 58 ∷ f.raw) + length (print_end f.end) = length-append (f.name ++ 58 ∷ f.raw) (print_end f.end) in
    omega (arith, a, b, all, length-append f.name (58 ∷ f.raw))

fields_long : (fs : List Field) → All IsField fs → 3 * length fs ≤ length (flat_map print_field fs)
fields_long [] h = omega arith
fields_long (f ∷ fs) h =
    let one = field_long f (h 0 f (omega arith)) in
    let rest = fields_long fs (λ k d lt. h (suc k) d (omega arith)) in
    omega (arith, one, rest, length-append (print_field f) (flat_map print_field fs))

-- a head is longer than three times its fields
pub head_long : (h : ResponseHead) → All IsField h.fields → 3 * length h.fields < length (print_response h)
head_long h all =
    let section = print_section h.fields h.last ++ [] in
    let ended = print_end h.line_end ++ section in
    let reasoned = print_reason h.reason ++ ended in
    let coded = h.digits ++ reasoned in
    let whole : length (print_response h ++ []) ≡ length (print_blank h.blank ++ (print_version h.minor ++ 32 ∷ coded)) = ap length (print_response-append h []) in
    omega (
      arith,
      whole,
      fields_long h.fields all,
      length-append (print_response h) [],
      length-append (print_blank h.blank) (print_version h.minor ++ 32 ∷ coded),
      length-append (print_version h.minor) (32 ∷ coded),
      length-append h.digits reasoned,
      length-append (print_reason h.reason) ended,
      length-append (print_end h.line_end) section,
      length-append (print_section h.fields h.last) [],
      length-append (flat_map print_field h.fields) (print_end h.last),
    )

pub overflows_never : (buf : List ℕ) (room : ℕ) → 2730 ≤ room → ResponseOverflows room buf → NeverBegins buf
overflows_never buf room enough over more head rest x = omega (arith, enough, over more head rest x, head_long head x.0.fields)

-- 8,192 bytes that hold no head
pub full_never : (received : List ℕ) → length received ≡ 8192 → HasNoResponse received → NeverBegins received
full_never received full none more head rest x = elim (cases_lt 8192 (length (print_response head))) [
  | inl lt ↦ lt
  | inr le ↦
      let front : take 8192 (received ++ more) ≡ received = ap (λ k. take k (received ++ more)) (sym full) ∙ take_front received more in
      absurd (none head (take (8192 - length (print_response head)) rest) (x.0, sym front ∙ ap (take 8192) x.1 ∙ split 8192 (print_response head) rest le))
]
  where
    take_front : (a b : List ℕ) → take (length a) (a ++ b) ≡ a
    take_front a b = take-append-le (length a) a b (omega arith) ∙ take-length a

    split : (n : ℕ) (a b : List ℕ) → length a ≤ n → take n (a ++ b) ≡ a ++ take (n - length a) b
    split n a b le = let e : n ≡ length a + (n - length a) = omega arith in ap (λ k. take k (a ++ b)) e ∙ take-append-add a b (n - length a)

-- what came behind those that were there
pub piece_is : (there n k : ℕ) (buffer out : List ℕ) → there ≤ length buffer → n ≤ length out → drop there (take (there + n) (put_mid there k buffer out)) ≡ take n out
piece_is there n k buffer out l i =
    let e : length (take there buffer) ≡ there = omega (arith, length-take there buffer) in
    let a : take (there + n) (put_mid there k buffer out) ≡ take there buffer ++ take n out =
    ap (λ j. take (j + n) (put_mid there k buffer out)) (sym e) ∙ take-append-add (take there buffer) (out ++ post_of there k buffer) n ∙ ap (λ x. take there buffer ++ x) (take-append-le n out (post_of there k buffer) i) in
    ap (drop there) a ∙ ap (λ j. drop j (take there buffer ++ take n out)) (sym e) ∙ drop-append_seam (take there buffer) (take n out)
