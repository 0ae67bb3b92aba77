-- How long heads are, and that few bytes hold few fields.
use Rattle.std.proofs.Common.{◌≡◌, ◌≢◌, ℕ, suc, ◌+◌, ◌*◌, ◌<◌, ◌≤◌, List, [], ◌∷◌, ◌++◌, length, length-append, All, Err, Result, ap, refl, arith}
use Rattle.std.specs.List.{flat_map}
use Rattle.httparse.specs.Grammar.{LineEnd, crlf, lf, print_end, Field, IsField, print_field, print_section, print_version, print_blank, RequestHead, ReadsRequest, print_request, NeverHasRequest}
use Rattle.httparse.specs.Spans.{RequestExceeds}
use Rattle.httparse.specs.declared.Error.{Error}
use Rattle.httparse.specs.declared.Error.TheVariants as errors
use Rattle.httparse.proofs.GrammarLemmas.{print_request-append}

end_long : (e : LineEnd) → 0 < length (print_end e)
end_long crlf = omega arith
end_long lf = omega arith

field_long : (f : Field) → IsField f → 3 ≤ length (print_field f)
field_long f h =
    let a = h.name.0 in
    let b = end_long f.end in
    let all : length (print_field f) ≡ length (f.name ++ 58 ∷ f.raw) + length (print_end f.end) = length-append (f.name ++ 58 ∷ f.raw) (print_end f.end) in
    omega (arith, a, b, all, length-append f.name (58 ∷ f.raw))

fields_long : (fs : List Field) → All IsField fs → 3 * length fs ≤ length (flat_map print_field fs)
fields_long [] h = omega arith
fields_long (f ∷ fs) h =
    let one = field_long f (h 0 f (omega arith)) in
    let rest = fields_long fs (λ k d lt. h (suc k) d (omega arith)) in
    omega (arith, one, rest, length-append (print_field f) (flat_map print_field fs))

-- a head is longer than its method, its target and its fields
pub head_long : (h : RequestHead) → length h.method + length h.target + length (print_section h.fields h.last) < length (print_request h)
head_long h =
    let tail = print_end h.line_end ++ (print_section h.fields h.last ++ []) in
    let version = print_version h.minor ++ tail in
    let target = h.target ++ 32 ∷ version in
    let all : length (print_request h ++ []) ≡ length (print_blank h.blank ++ (h.method ++ 32 ∷ target)) = ap length (print_request-append h []) in
    omega (arith, all, length-append (print_request h) [], length-append (print_blank h.blank) (h.method ++ 32 ∷ target), length-append h.method (32 ∷ target), length-append h.target (32 ∷ version), length-append (print_version h.minor) tail, length-append (print_end h.line_end) (print_section h.fields h.last ++ []), length-append (print_section h.fields h.last) [])

pub many_fields : (h : RequestHead) → All IsField h.fields → 3 * length h.fields < length (print_request h)
many_fields h all =
    let section : length (print_section h.fields h.last) ≡ length (flat_map print_field h.fields) + length (print_end h.last) = length-append (flat_map print_field h.fields) (print_end h.last) in
    omega (arith, head_long h, fields_long h.fields all, section)

-- nothing is no head
pub empty_none : (h : RequestHead) (rest : List ℕ) → ReadsRequest [] h rest → ⊥
empty_none h rest x = absurd (omega (arith, head_long h, length-append (print_request h) rest, ap length x.1))

-- 8,192 bytes never hold the beginning of a head of more than 2,730 fields
pub never_exceeds : (buf : List ℕ) (room : ℕ) → length buf ≤ 8192 → 2730 ≤ room → RequestExceeds room buf → ⊥
never_exceeds buf room few room_is x =
    absurd (omega (arith, few, room_is, x.5, many_fields x.3 x.4.0.fields, length-append x.0 x.1, ap length x.2, length-append x.0 (print_end lf), ap length x.4.1, length-append (print_request x.3) []))

pub never_has : {A : Type 0} (buf : List ℕ) (room : ℕ) (e : Error) → length buf ≤ 8192 → 2730 ≤ room → (◌≡◌ {A = Result A Error} (Err e) (Err errors.TooManyHeaders) → RequestExceeds room buf) → (e ≢ errors.TooManyHeaders → NeverHasRequest buf) → NeverHasRequest buf
never_has buf room errors.TooManyHeaders few r many invalid = absurd (never_exceeds buf room few r (many refl))
never_has buf room errors.HeaderName few r many invalid = invalid (λ e. absurd (cc e))
never_has buf room errors.HeaderValue few r many invalid = invalid (λ e. absurd (cc e))
never_has buf room errors.NewLine few r many invalid = invalid (λ e. absurd (cc e))
never_has buf room errors.Status few r many invalid = invalid (λ e. absurd (cc e))
never_has buf room errors.Token few r many invalid = invalid (λ e. absurd (cc e))
never_has buf room errors.Version few r many invalid = invalid (λ e. absurd (cc e))
