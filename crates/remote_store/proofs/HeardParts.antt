-- Whether what came of a reply with a body fits.
use Rattle.std.proofs.Common.{◌≡◌, ◌∙◌, ℕ, ◌+◌, ◌-◌, ◌<◌, ◌≤◌, ◌^◌, min, Bool, true, false, ◌&&◌, ◌==◌, nat_le, codes, if◌then◌else◌, append-nil, List, [], ◌∷◌, ◌++◌, ◌≢◌, not, length, length-append, length-drop, take, drop, IfOk, Result, Ok, Err, Option, Some, None, IfSome, inl, inr, ap, sym, refl, subst, arith}
use Rattle.std.proofs.lemmas.List.{drop-append-le, nil_from_length}
use Rattle.httparse.specs.Ascii.{space}
use Rattle.httparse.specs.Grammar.{HasNoResponse, ReadsResponse, ResponseHead, print_blank, print_end, print_reason, print_response, print_section, print_version, status_code}
use Rattle.httparse.specs.Spans.{IsResponseOf}
use Rattle.httparse.specs.declared.spans.HeaderSpan.{HeaderSpan}
use Rattle.httparse.specs.declared.spans.ResponseSpans.{ResponseSpans}
use Rattle.httparse.proofs.GrammarLemmas.{ReadsResponse-append, response_prefix_free, response_unique}
use Rattle.remote_store.specs.Bodies.{Ended, Finished, HasHead, HasRoom, IsBegun, IsCounted, IsHeard, IsKeptBehind, Passed, Said}
use Rattle.remote_store.specs.Dials.{Line}
use Rattle.remote_store.specs.Placed.{placed}
use Rattle.remote_store.specs.Fits.{Fits, NeverFits, Place, bytes_said, ends_behind, following, is_place, judged, kind_of, length_told, only, place_in, promised}
use Rattle.remote_store.specs.declared.wanted.Kind.{Kind}
use Rattle.remote_store.specs.declared.wanted.Kind.TheVariants as kind
use Rattle.request_heads.specs.Asks.{values_of}
use Rattle.std.proofs.lemmas.Bool.{cases_lt, eq-eqb, eqb-true}
use Rattle.std.proofs.lemmas.Grind.{common_steps}
use Rattle.std.proofs.Math.Seq.{take-add, take-append_seam}
use Rattle.remote_store.proofs.Bodies.{cancel}
use Rattle.remote_store.proofs.Received.{take_join}
use Rattle.remote_store.specs.Talks.{DoesNotFit, Unfit}
use Rattle.remote_store.specs.Waits.{NeverBegins}
use Rattle.remote_store.specs.declared.wanted.Begun.{Begun}
use Rattle.remote_store.specs.declared.wanted.Promise.{Promise}
use Rattle.remote_store.specs.declared.wanted.Wanted.{Wanted}
use Rattle.remote_store.specs.declared.wanted.Wanted.TheVariants.{Length, Part}

same_promise : {x y : Promise} → Some x ≡ Some y → x ≡ y
same_promise e = cc e

-- whatever comes behind the head that stands at the front, it isn't that of a reply
module _ (wanted : Wanted) (g : List ℕ) (spans : List HeaderSpan) (parts : ResponseSpans) (of : IsResponseOf g spans parts) where
  pub judged_never : (o : Option Promise) → o ≡ None → ((head : ResponseHead) (rest : List ℕ) → ReadsResponse g head rest → o ≡ judged wanted head) → NeverFits wanted g
  judged_never o none is = λ more promise body f.
      let same = response_prefix_free g more of.0 f.0 (drop parts.len g) body of.1.reads f.1.reads in
      let none_is : judged wanted f.0 ≡ None = ap (judged wanted) (sym same.0) ∙ sym (is of.0 (drop parts.len g) of.1.reads) ∙ none in
      absurd (differ (sym none_is ∙ f.1.judged))
    where
      differ : {p : Promise} → None ≡ Some p → ⊥
      differ e = absurd (cc e)

  module _ (promise : Promise) (is : (head : ResponseHead) (rest : List ℕ) → ReadsResponse g head rest → Some promise ≡ judged wanted head) where
    -- more bytes behind the head than it says
    pub many_never : parts.len + following wanted promise.len < length g → NeverFits wanted g
    many_never many = λ more other body f.
        let same = response_prefix_free g more of.0 f.0 (drop parts.len g) body of.1.reads f.1.reads in
        let says : Some promise ≡ Some other = is of.0 (drop parts.len g) of.1.reads ∙ ap (judged wanted) same.0 ∙ f.1.judged in
        let len : following wanted promise.len ≡ following wanted other.len = ap (λ p. following wanted p.len) (same_promise says) in
        absurd (omega (arith, many, f.1.whole, len, ap length same.1, length-append (drop parts.len g) more, length-drop parts.len g))

    pub heard : (closes : Bool) → ((head : ResponseHead) (rest : List ℕ) → ReadsResponse g head rest → closes ≡ ends_behind head) → parts.len ≤ length g → length g ≤ 8192
        → length g ≤ parts.len + following wanted promise.len → IsHeard wanted g (record { head = parts.len; promise = promise; closes = closes })
    heard closes ends within few most = record {
      head = of.0;
      reads = of.1.reads;
      says = sym (is of.0 (drop parts.len g) of.1.reads);
      ends = ends of.0 (drop parts.len g) of.1.reads;
      within = within;
      few = omega (arith, few, ap length of.1.reads.1, length-append (print_response of.0) (drop parts.len g));
      most = omega (arith, length-drop parts.len g, most);
    }

-- more bytes came
pub heard_more : {wanted : Wanted} {g : List ℕ} {b : Begun} (more : List ℕ) → IsHeard wanted g b → length (drop b.head g) + length more ≤ following wanted b.promise.len → IsHeard wanted (g ++ more) b
heard_more {wanted = wanted} {g = g} {b = b} more h most =
    let behind : drop b.head (g ++ more) ≡ drop b.head g ++ more = drop-append-le b.head g more h.within in
    record {
      head = h.head;
      reads = subst (ReadsResponse (g ++ more) h.head) (sym behind) (ReadsResponse-append g h.head (drop b.head g) more h.reads);
      says = h.says;
      ends = h.ends;
      within = omega (arith, h.within, length-append g more);
      few = h.few;
      most = omega (arith, most, ap length behind, length-append (drop b.head g) more);
    }

-- the end came too early
pub heard_short : {wanted : Wanted} {g : List ℕ} {b : Begun} → IsHeard wanted g b → length (drop b.head g) < following wanted b.promise.len → DoesNotFit wanted g
heard_short {wanted = wanted} {g = g} {b = b} h short = λ other body f.
    let same = response_unique g h.head f.0 (drop b.head g) body h.reads f.1.reads in
    let says : Some b.promise ≡ Some other = sym h.says ∙ ap (judged wanted) same.0 ∙ f.1.judged in
    let long : following wanted b.promise.len ≡ following wanted other.len = ap (λ p. following wanted p.len) (same_promise says) in
    absurd (omega (arith, short, f.1.whole, long, ap length same.1))

pub heard_cut : {wanted : Wanted} {g : List ℕ} {b : Begun} {before now : ℕ} {left : Option (List ℕ)} → IsHeard wanted g b → length (drop b.head g) < following wanted b.promise.len → Ended g left before now
    → Unfit wanted g before now left
heard_cut h short ended = inr (heard_short h short, ended.rose, ended.all)

-- all of it came
abbrev pub heard_fits : {wanted : Wanted} {g : List ℕ} {b : Begun} → IsHeard wanted g b → length (drop b.head g) ≡ following wanted b.promise.len → Fits wanted g b.promise (drop b.head g)
heard_fits h whole = (h.head, record { reads = h.reads; short = h.few; judged = h.says; whole = whole })

-- nothing follows the head of a reply to a request for a length
abbrev pub begun_length : {g : List ℕ} {b : Begun} → IsBegun Length g b → Fits Length g b.promise []
begun_length {g = g} {b = b} x =
    let none : drop b.head g ≡ [] = nil_from_length (drop b.head g) (omega (arith, x.heard.most)) in
    (x.heard.head, record { reads = subst (ReadsResponse g x.heard.head) none x.heard.reads; short = x.heard.few; judged = x.heard.says; whole = refl })

pub heard_some : {wanted : Wanted} {g : List ℕ} {b : Begun} (o : Option Begun) → o ≡ Some b → IfSome o (λ b. IsHeard wanted g b) → IsHeard wanted g b
heard_some {wanted = wanted} {g = g} o e h = subst (λ x. IfSome x (λ b. IsHeard wanted g b)) e h

pub begun_some : {wanted : Wanted} {g : List ℕ} {b : Begun} (o : Option Begun) → o ≡ Some b → IfSome o (λ b. IsBegun wanted g b) → IsBegun wanted g b
begun_some {wanted = wanted} {g = g} o e h = subst (λ x. IfSome x (λ b. IsBegun wanted g b)) e h

-- no head is empty
head_there : (h : ResponseHead) (rest : List ℕ) → ReadsResponse [] h rest → ⊥
unfolding print_response
head_there h rest x =
    let lead = print_blank h.blank ++ print_version h.minor in
    let code = lead ++ (space ∷ h.digits) in
    let reason = code ++ print_reason h.reason in
    let line = reason ++ print_end h.line_end in
    let none : length (print_response h ++ rest) ≡ 0 = ap length (sym x.1) in
    let all : length (print_response h ++ rest) ≡ length (print_response h) + length rest = length-append (print_response h) rest in
    let head : length (print_response h) ≡ length line + length (print_section h.fields h.last) = length-append line (print_section h.fields h.last) in
    let first = length-append code (print_reason h.reason) in
    let second = length-append reason (print_end h.line_end) in
    let third = length-append lead (space ∷ h.digits) in
    absurd (omega (arith, none, all, head, first, second, third))

pub heard_there : {wanted : Wanted} {b : Begun} (g : List ℕ) (n : ℕ) → IsHeard wanted (take n g) b → n ≢ 0
heard_there {b = b} g n h e = head_there h.head (drop b.head []) (subst (λ k. ReadsResponse (take k g) h.head (drop b.head (take k g))) e h.reads)

-- behind a reply that doesn't close, and no other, an end is kept
pub kept_behind : {wanted : Wanted} {g : List ℕ} {b : Begun} → IsHeard wanted g b → IsKeptBehind g (not b.closes)
kept_behind {g = g} {b = b} h = λ head rest x. ap not (h.ends ∙ ap ends_behind (response_unique g h.head head (drop b.head g) rest h.reads x.0).0)

pub kept_nowhere : (kept : Bool) → IsKeptBehind [] kept
kept_nowhere kept = λ head rest x. absurd (head_there head rest x.0)

-- a part is no longer than what was asked for
place_room : (from count len : ℕ) (p : Option Place) → is_place from count len p ≡ true → len ≤ count
place_room from count len None e = absurd (cc e)
place_room from count len (Some (first, last, total)) e =
    let t = four (first == from) (nat_le from last) (last + 1 == min (from + count) total) (len + from == last + 1) e in
    omega (arith, eqb-true (last + 1) (min (from + count) total) t.0, eqb-true (len + from) (last + 1) t.1)
  where
    four : (a b c d : Bool) → (a && b && c && d) ≡ true → (c ≡ true) × (d ≡ true)
    four true true true true e = (refl, refl)
    four true true true false e = absurd (cc e)
    four true true false d e = absurd (cc e)
    four true false c d e = absurd (cc e)
    four false b c d e = absurd (cc e)

if_room : (from count len : ℕ) (k : Kind) (t : Bool) (p : Promise) → HasRoom k len count → (if t then Some (record { kind = k; len = len }) else None) ≡ Some p → HasRoom p.kind p.len count
if_room from count len k true p h e = subst (λ q. HasRoom q.kind q.len count) (same_promise e) h
if_room from count len k false p h e = absurd (cc e)

pub room_of : (from count : ℕ) (k : Option Kind) (len : Option ℕ) (place : Option Place) (p : Promise) → promised (Part from count) k len place ≡ Some p → HasRoom p.kind p.len count
room_of from count None len place p e = absurd (cc e)
room_of from count (Some k) None place p e = absurd (cc e)
room_of from count (Some kind.Missing) (Some len) place p e = if_room from count len kind.Missing (nat_le len (2 ^ 30)) p tt e
room_of from count (Some kind.Beyond) (Some len) place p e = if_room from count len kind.Beyond (nat_le len (2 ^ 30)) p tt e
room_of from count (Some kind.Whole) (Some len) place p e = if_room from count len kind.Whole (nat_le len (2 ^ 30)) p tt e
room_of from count (Some kind.Part) (Some len) place p e = by_test (is_place from count len place) refl e
  where
    by_test : (t : Bool) → is_place from count len place ≡ t → (if t then Some (record { kind = kind.Part; len = len }) else None) ≡ Some p → HasRoom p.kind p.len count
    by_test true t e = if_room from count len kind.Part true p (place_room from count len place t) e
    by_test false t e = absurd (cc e)

pub part_room : {from count : ℕ} {g : List ℕ} {b : Begun} → IsHeard (Part from count) g b → HasRoom b.promise.kind b.promise.len count
unfolding judged
part_room {from = from} {count = count} {b = b} h =
    room_of from count (kind_of (Part from count) (status_code h.head)) (length_told h.head.fields) (place_in (only (values_of (codes "content-range") h.head.fields))) b.promise h.says

pub take_whole : (n : ℕ) (x : List ℕ) → length x ≤ n → take n x ≡ x
take_whole n x le = grind (arith, common_steps, le)

-- the first bytes of all that came
pub last_is : {wanted : Wanted} {g : List ℕ} {b : Begun} (more : List ℕ) → IsBegun wanted g b → length g ≤ 8192 → length (drop b.head g) + length more ≤ following wanted b.promise.len → g ≡ take 8192 (g ++ more)
last_is {wanted = wanted} {g = g} {b = b} more begun few most = elim (cases_lt (length (drop b.head g)) (following wanted b.promise.len)) [
  | inl short ↦
      let full : length g ≡ 8192 = begun.full short in
      sym (ap (λ k. take k (g ++ more)) (sym full) ∙ take-append_seam g more)
  | inr all ↦
      let none : more ≡ [] = nil_from_length more (omega (arith, most, all)) in
      let whole : take 8192 g ≡ g = take_whole 8192 g few in
      sym (ap (λ x. take 8192 (g ++ x)) none ∙ ap (take 8192) (append-nil g) ∙ whole)
]

pub front_is : (r : List ℕ) (head there : ℕ) → head ≤ there → take (there - head) (drop head r) ≡ drop head (take there r)
front_is r head there le =
    let e : head + (there - head) ≡ there = omega (arith, le) in
    cancel (take head r) (take (there - head) (drop head r)) (drop head (take there r)) (sym (take-add head (there - head) r) ∙ ap (λ n. take n r) e ∙ sym (take_join head there r le))

less_of : (a n : ℕ) → (a == n) ≡ false → a ≤ n → a < n
less_of a n off le = elim (cases_lt a n) [
  | inl lt ↦ lt
  | inr ge ↦
      let same : (a == n) ≡ true = eq-eqb a n (omega (arith, le, ge)) in
      absurd (differ (sym off ∙ same))
]
  where
    differ : false ≡ true → ⊥
    differ x = absurd (cc x)

-- the rest of a reply, by how its body came
pub finished_of : {E : Type 0} {from count got : ℕ} {first old new : List ℕ} {b : Begun} {r0 r1 left0 left1 : Option (List ℕ)} {line0 line1 : Option Line} {ends0 ends1 : ℕ} {r : Result Bool E} (more : List ℕ)
    → IsBegun (Part from count) first b → length first ≤ 8192 → Said b.promise.kind b.promise.len from got (drop b.head first ++ more) old new r → length old ≡ count
    → Passed (b.promise.len - length (drop b.head first)) more r0 r1 left0 left1 line0 line1 ends0 ends1 r
    → Finished from count first more b old new got r0 r1 left0 left1 line0 line1 ends0 ends1 r
finished_of {E = E} {from = from} {count = count} {got = got} {first = first} {old = old} {new = new} {b = b} {left0 = left0} {ends0 = ends0} {ends1 = ends1} {r = r} more begun few said long passed =
    let most : length (drop b.head first) + length more ≤ b.promise.len = omega (arith, passed.within, begun.heard.most) in
    let split : drop b.head (first ++ more) ≡ drop b.head first ++ more = drop-append-le b.head first more begun.heard.within in
    let longs : length (drop b.head (first ++ more)) ≡ got = ap length split ∙ said.long in
    record {
      front = last_is more begun few most;
      received = passed.received;
      came = passed.came;
      heard = heard_more more begun.heard most;
      long = longs;
      fits = fits_by r split longs said.whole said.bytes;
      cut = cut_by r split longs most said.whole passed.ended;
      later = passed.later;
    }
  where
    fits_by : (r : Result Bool E) → drop b.head (first ++ more) ≡ drop b.head first ++ more → length (drop b.head (first ++ more)) ≡ got → IfOk r (λ whole. whole ≡ (got == b.promise.len))
        → IfOk r (λ whole. whole ≡ true → new ≡ placed (bytes_said b.promise.kind from (length old) (drop b.head first ++ more)) old)
        → IfOk r (λ whole. whole ≡ true → (length (drop b.head (first ++ more)) ≡ b.promise.len) × (new ≡ placed (bytes_said b.promise.kind from count (drop b.head (first ++ more))) old))
    fits_by (Err e) split longs whole bytes = tt
    fits_by (Ok w) split longs whole bytes = λ all.
        (longs ∙ eqb-true got b.promise.len (sym whole ∙ all), bytes all ∙ (λ i. placed (bytes_said b.promise.kind from (long i) (sym split i)) old))

    cut_by : (r : Result Bool E) → drop b.head (first ++ more) ≡ drop b.head first ++ more → length (drop b.head (first ++ more)) ≡ got → length (drop b.head first) + length more ≤ b.promise.len
        → IfOk r (λ whole. whole ≡ (got == b.promise.len)) → IfOk r (λ _. length more < b.promise.len - length (drop b.head first) → Ended more left0 ends0 ends1)
        → IfOk r (λ whole. whole ≡ false → (length (drop b.head (first ++ more)) < b.promise.len) × Ended more left0 ends0 ends1)
    cut_by (Err e) split longs most whole ended = tt
    cut_by (Ok w) split longs most whole ended = λ off.
        let parts : length (drop b.head (first ++ more)) ≡ length (drop b.head first) + length more = ap length split ∙ length-append (drop b.head first) more in
        let less : got < b.promise.len = less_of got b.promise.len (sym whole ∙ off) (omega (arith, longs, parts, most)) in
        (omega (arith, longs, less), ended (omega (arith, longs, parts, less)))

pub finished_front : {E : Type 0} {from count got : ℕ} {first old new : List ℕ} {b : Begun} {r0 r1 left0 left1 : Option (List ℕ)} {line0 line1 : Option Line} {ends0 ends1 : ℕ} {r : Result Bool E} (more front : List ℕ)
    → front ≡ drop b.head first → IsBegun (Part from count) first b → length first ≤ 8192 → Said b.promise.kind b.promise.len from got (front ++ more) old new r → length old ≡ count
    → Passed (b.promise.len - length front) more r0 r1 left0 left1 line0 line1 ends0 ends1 r
    → Finished from count first more b old new got r0 r1 left0 left1 line0 line1 ends0 ends1 r
finished_front {from = from} {got = got} {old = old} {new = new} {b = b} {r0 = r0} {r1 = r1} {left0 = left0} {left1 = left1} {line0 = line0} {line1 = line1} {ends0 = ends0} {ends1 = ends1} {r = r} more front fr begun few said long passed =
    finished_of more begun few (subst (λ f. Said b.promise.kind b.promise.len from got (f ++ more) old new r) fr said) long
    (subst (λ f. Passed (b.promise.len - length f) more r0 r1 left0 left1 line0 line1 ends0 ends1 r) fr passed)

-- how many bytes stand behind a head
pub counted_head : (wanted : Wanted) (g : List ℕ) (spans : List HeaderSpan) (parts : ResponseSpans) (body : ℕ) → IsResponseOf g spans parts → length g ≤ 8192 → body ≡ length g - parts.len → IsCounted wanted g body
counted_head wanted g spans parts body of few is = record {
  behind = λ head rest x. omega (arith, is, length-drop parts.len g, ap length (response_unique g of.0 head (drop parts.len g) rest of.1.reads x.0).1);
  none = λ f. absurd (f of.0 (drop parts.len g) (of.1.reads, omega (arith, few, ap length of.1.reads.1, length-append (print_response of.0) (drop parts.len g))));
  most = λ many. absurd (omega (arith, many, few));
}

pub counted_none : (wanted : Wanted) (g : List ℕ) → length g ≤ 8192 → ((head : ResponseHead) (rest : List ℕ) → ¬ (HasHead g head rest)) → IsCounted wanted g 0
counted_none wanted g few never = record { behind = λ head rest x. absurd (never head rest x); none = λ _. refl; most = λ many. absurd (omega (arith, many, few)) }

pub counted_nothing : (wanted : Wanted) → IsCounted wanted [] 0
counted_nothing wanted = counted_none wanted [] (omega arith) (λ head rest x. head_there head rest x.0)

pub counted_partial : (wanted : Wanted) (g : List ℕ) → length g ≤ 8192 → HasNoResponse g → IsCounted wanted g 0
counted_partial wanted g few none = counted_none wanted g few (λ head rest x. none head rest x.0)

pub counted_never : (wanted : Wanted) (g : List ℕ) → length g ≤ 8192 → NeverBegins g → IsCounted wanted g 0
counted_never wanted g few never = counted_none wanted g few (λ head rest x.
    let long : 8192 < length (print_response head) = never [] head rest (subst (λ b. ReadsResponse b head rest) (sym (append-nil g)) x.0) in
    absurd (omega (arith, long, x.1)))

pub counted_heard : {wanted : Wanted} {g : List ℕ} {b : Begun} (body : ℕ) → IsHeard wanted g b → length (drop b.head g) ≡ body → IsCounted wanted g body
counted_heard {g = g} {b = b} body h long = record {
  behind = λ head rest x. sym long ∙ ap length (response_unique g h.head head (drop b.head g) rest h.reads x.0).1;
  none = λ f. absurd (f h.head (drop b.head g) (h.reads, h.few));
  most = λ _. (h.head, b.promise, drop b.head g, (h.reads, h.few), h.says, h.most);
}
