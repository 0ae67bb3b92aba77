-- Waiting for a head.
use Rattle.std.proofs.Common.{◌≡◌, ◌∙◌, ℕ, ◌+◌, ◌-◌, ◌<◌, ◌≤◌, List, [], ◌∷◌, ◌++◌, length, take, drop, length-append, length-take, take-append-drop, append_assoc, append-nil, Option, Some, None, option_map, IfSome, ap, sym, refl, subst, inl, inr, arith}
use Rattle.std.proofs.Math.Seq.{take-append-add}
use Rattle.std.proofs.lemmas.List.{take-append-le}
use Rattle.std.proofs.lemmas.Bool.{cases_lt}
use Rattle.std.proofs.lemmas.Grind.{common_steps}
use Rattle.vol_base.specs.Outside.{Gives}
use Rattle.httparse.specs.Grammar.{RequestHead, ReadsRequest, print_request, HasNoRequest, NeverHasRequest}
use Rattle.httparse.specs.Spans.{IsRequestOf}
use Rattle.httparse.specs.declared.spans.HeaderSpan.{HeaderSpan}
use Rattle.httparse.specs.declared.spans.RequestSpans.{RequestSpans}
use Rattle.httparse.proofs.GrammarLemmas.{ReadsRequest-append}
use Rattle.request_heads.specs.Heads.{pending}
use Rattle.request_heads.specs.Answers.{IsNext}
use Rattle.request_heads.specs.declared.kinds.Next.TheVariants as next
use borrow.Rule.Slice.PartMut.{put_mid, post_of}

-- some bytes come behind those that are there
pub pending_more : (left : Option (List ℕ)) (len n k : ℕ) (buffer out : List ℕ) → len ≤ length buffer → n ≤ length out → IfSome left (Gives n out)
    → pending (put_mid len k buffer out) (len + n) (option_map (drop n) left) ≡ pending buffer len left
pending_more None len n k buffer out l i g = refl
pending_more (Some bytes) len n k buffer out l i g =
    let e : length (take len buffer) ≡ len = omega (arith, length-take len buffer) in
    let a : take (len + n) (put_mid len k buffer out) ≡ take len buffer ++ take n out =
    ap (λ j. take (j + n) (put_mid len k buffer out)) (sym e) ∙ take-append-add (take len buffer) (out ++ post_of len k buffer) n ∙ ap (λ x. take len buffer ++ x) (take-append-le n out (post_of len k buffer) i) in
    ap Some (ap (λ x. x ++ drop n bytes) a ∙ append_assoc (take len buffer) (take n out) (drop n bytes) ∙ ap (λ x. take len buffer ++ (x ++ drop n bytes)) g.front ∙ ap (λ x. take len buffer ++ x) (take-append-drop n bytes))

-- a head at the front of what was received is one of the stream
pub next_head : (o : Option (List ℕ)) (received : List ℕ) (spans : List HeaderSpan) (parts : RequestSpans) → length received ≤ 8192 → IsRequestOf received spans parts
    → IfSome (option_map (λ bytes. received ++ bytes) o) (λ stream. IsNext stream (next.Head parts))
next_head None received spans parts few h = tt
next_head (Some bytes) received spans parts few h =
    let reads = h.1.reads in (
      h.0,
      drop parts.len received ++ bytes,
      record {
        reads = ReadsRequest-append received h.0 (drop parts.len received) bytes reads;
        short = omega (arith, few, ap length reads.1, length-append (print_request h.0) (drop parts.len received));
      },
    )

-- where the first 8,192 bytes hold no head, the stream has none
none_in_front : (n : ℕ) (stream : List ℕ) → HasNoRequest (take n stream) → (h : RequestHead) (rest : List ℕ) → ReadsRequest stream h rest → n < length (print_request h)
none_in_front n stream none h rest x = elim (cases_lt n (length (print_request h))) [
  | inl lt ↦ lt
  | inr le ↦ absurd (none h (take (n - length (print_request h)) rest) (x.0, ap (take n) x.1 ∙ split n (print_request h) rest le))
]
  where
    split : (n : ℕ) (a b : List ℕ) → length a ≤ n → take n (a ++ b) ≡ a ++ take (n - length a) b
    split n a b le = let e : n ≡ length a + (n - length a) = omega arith in ap (λ k. take k (a ++ b)) e ∙ take-append-add a b (n - length a)

-- bytes that no bytes can follow to make a head
pub next_never : (o : Option (List ℕ)) (received : List ℕ) → length received ≤ 8192 → (0 < length received) × NeverHasRequest received
    → IfSome (option_map (λ bytes. received ++ bytes) o) (λ stream. IsNext stream next.Bad)
next_never None received few h = tt
next_never (Some bytes) received few h = (
  (λ e. omega (arith, h.0, ap length e, length-append received bytes)),
  λ head rest x. absurd (h.1 bytes head rest x),
)

-- 8,192 bytes that hold none
pub next_full : (o : Option (List ℕ)) (received : List ℕ) → length received ≡ 8192 → HasNoRequest received
    → IfSome (option_map (λ bytes. received ++ bytes) o) (λ stream. IsNext stream next.Bad)
next_full None received full none = tt
next_full (Some bytes) received full none =
    let front : take 8192 (received ++ bytes) ≡ received = ap (λ k. take k (received ++ bytes)) (sym full) ∙ grind (arith, common_steps) in (
      (λ e. omega (arith, full, ap length e, length-append received bytes)),
      λ head rest x. none_in_front 8192 (received ++ bytes) (subst HasNoRequest (sym front) none) head rest x,
    )

-- the end, with bytes that hold none
pub next_cut : (o : Option (List ℕ)) (received : List ℕ) → length received ≤ 8192 → 0 < length received → HasNoRequest received → IfSome o (λ bytes. bytes ≡ [])
    → IfSome (option_map (λ bytes. received ++ bytes) o) (λ stream. IsNext stream next.Bad)
next_cut None received few some none end = tt
next_cut (Some bytes) received few some none end =
    let whole : received ++ bytes ≡ received = ap (λ b. received ++ b) end ∙ append-nil received in (
      (λ e. omega (arith, some, ap length e, length-append received bytes)),
      λ head rest x. absurd (subst HasNoRequest (sym whole) none head rest x),
    )

-- the end, with nothing
pub next_end : (o : Option (List ℕ)) (received : List ℕ) → length received ≡ 0 → IfSome o (λ bytes. bytes ≡ [])
    → IfSome (option_map (λ bytes. received ++ bytes) o) (λ stream. IsNext stream next.End)
next_end None received z end = tt
next_end (Some bytes) [] z end = end
next_end (Some bytes) (b ∷ received) z end = absurd (omega (arith, z))
