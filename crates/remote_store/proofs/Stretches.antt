-- Which bytes of a body are asked for.
use Rattle.std.proofs.Common.{◌≡◌, ◌∙◌, ℕ, ◌+◌, ◌-◌, ◌≤◌, min, Bool, true, List, [], ◌++◌, length, length-drop, length-take, take, drop, IfOk, Result, Ok, Err, inl, inr, ap, sym, arith}
use Rattle.std.proofs.Math.ListN.{drop_of_length-le}
use Rattle.std.proofs.lemmas.Bool.{cases_lt, eqb-true}
use Rattle.std.proofs.lemmas.Grind.{common_steps}
use Rattle.vol_base.specs.Outside.{part}
use Rattle.remote_store.specs.Bodies.{HasRoom, Said, Taken, stretch_at, stretch_count}
use Rattle.remote_store.specs.Placed.{placed}
use Rattle.remote_store.specs.Fits.{bytes_said}
use Rattle.remote_store.specs.declared.wanted.Kind.{Kind}
use Rattle.remote_store.specs.declared.wanted.Kind.TheVariants as kind

pub stretch_fits : (k : Kind) (len from count : ℕ) → stretch_at k len from + stretch_count k len from count ≤ len
stretch_fits kind.Missing len from count = omega arith
stretch_fits kind.Beyond len from count = omega arith
stretch_fits kind.Whole len from count = omega arith
stretch_fits kind.Part len from count = omega arith

pub stretch_room : (k : Kind) (len from count : ℕ) → HasRoom k len count → stretch_count k len from count ≤ count
stretch_room kind.Missing len from count h = omega arith
stretch_room kind.Beyond len from count h = omega arith
stretch_room kind.Whole len from count h = omega arith
stretch_room kind.Part len from count h = h

same_part : (body : List ℕ) (from count : ℕ) → part body (min from (length body)) (min (length body - min from (length body)) count) ≡ part body from count
same_part body from count = elim (cases_lt (length body) from) [
  | inl past ↦
      let none : drop from body ≡ [] = drop_of_length-le body (omega (arith, past)) in
      let zero_more : min (length body - min from (length body)) count ≡ 0 = omega (arith, past) in
      ap (λ k. take k (drop (min from (length body)) body)) zero_more ∙ sym (ap (take count) none ∙ take_nothing count)
  | inr within ↦
      let at : min from (length body) ≡ from = omega (arith, within) in
      ap (λ k. take (min (length body - k) count) (drop k body)) at ∙ take_least (length body - from) count (drop from body) (length-drop from body)
]
  where
    take_nothing : (n : ℕ) → ◌≡◌ {A = List ℕ} (take n []) []
    take_nothing n = grind (arith, common_steps)

    take_least : (m n : ℕ) (x : List ℕ) → length x ≡ m → take (min m n) x ≡ take n x
    take_least m n x e = grind (arith, common_steps, e)

part_long : (body : List ℕ) (at n : ℕ) → at + n ≤ length body → length (part body at n) ≡ n
part_long body at n h = omega (arith, length-take n (drop at body), length-drop at body, h)

-- what stands in a buffer is what they say
pub stretch_said : (k : Kind) (len from : ℕ) (body out new : List ℕ) → length body ≡ len → new ≡ part body (stretch_at k len from) (stretch_count k len from (length out)) ++ drop (stretch_count k len from (length out)) out
    → new ≡ placed (bytes_said k from (length out) body) out
stretch_said kind.Missing len from body out new long e = e
stretch_said kind.Beyond len from body out new long e = e
stretch_said kind.Whole len from body out new long e =
    let n = min (len - min from len) (length out) in
    let same : part body (min from len) n ≡ part body from (length out) = (λ i. part body (min from (sym long i)) (min (sym long i - min from (sym long i)) (length out))) ∙ same_part body from (length out) in
    let count : n ≡ length (part body from (length out)) = sym (part_long body (min from len) n (omega (arith, long))) ∙ ap length same in
    e ∙ (λ i. same i ++ drop (count i) out)
stretch_said kind.Part len from body out new long e =
    let all : take len body ≡ body = grind (arith, common_steps, long) in
    e ∙ (λ i. all i ++ drop (sym long i) out)

pub said_of : {E : Type 0} {k : Kind} {len at from got n : ℕ} {body old new out whole : List ℕ} {r : Result Bool E} → Taken len at got body old new r → at ≡ stretch_at k len from → length old ≡ n
    → n ≡ stretch_count k len from (length out) → whole ≡ new ++ drop n out → Said k len from got body out whole r
said_of {k = k} {len = len} {at = at} {from = from} {got = got} {n = n} {body = body} {old = old} {new = new} {out = out} {whole = whole} {r = r} t ea eo en ew = record { long = t.long; whole = t.whole; bytes = by_result r t }
  where
    by_result : {E : Type 0} (r : Result Bool E) → Taken len at got body old new r → IfOk r (λ w. w ≡ true → whole ≡ placed (bytes_said k from (length out) body) out)
    by_result (Err e) t = tt
    by_result (Ok w) t = λ yes.
        let long : length body ≡ len = t.long ∙ eqb-true got len (sym t.whole ∙ yes) in
        let is : new ≡ part body (stretch_at k len from) (stretch_count k len from (length out)) = t.bytes yes ∙ (λ i. part body (ea i) ((eo ∙ en) i)) in
        stretch_said k len from body out whole long (ew ∙ (λ i. is i ++ drop (en i) out))
