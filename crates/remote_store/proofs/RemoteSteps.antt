-- What the calls of a store answer, by the replies.
use Rattle.std.proofs.Common.{◌≡◌, ◌∙◌, ℕ, ◌+◌, ◌-◌, ◌≤◌, ◌^◌, min, Bool, true, false, List, [], ◌∷◌, ◌++◌, length, length-take, take, drop, Option, Some, None, IfOk, IfSome, IsTrue, OnErr, OnOk, ◌≢◌, option_map, Result, Ok, Err, if◌then◌else◌, bytes_eq, codes, ap, sym, refl, subst, arith}
use Rattle.std.specs.FinMap as map
use Rattle.std.proofs.Math.Seq.{drop-append_seam}
use Rattle.std.proofs.lemmas.List.{nil_from_length}
use Rattle.std.proofs.lemmas.Result.{IfOk-weaker}
use Rattle.std.proofs.lemmas.Slice.Eq.{bytes_eq-Decides}
use Rattle.httparse.specs.Grammar.{status_code}
use Rattle.request_heads.specs.Asks.{values_of}
use Rattle.vol_base.specs.Causes.{HasCause, Rose}
use Rattle.vol_base.specs.Outside.{KeepsRest, Objects, OnlyReads, Reads, part}
use Rattle.vol_base.specs.declared.outside.Failed.{Failed}
use Rattle.std.specs.Result.{result_ok}
use Rattle.std.specs.Vec.{with_items}
use Rattle.std.specs.declared.vec.Vec.{Vec}
use Rattle.remote_store.specs.Bodies.{HasRoom, IsKeptBehind, Replied, empty_got, got_of_kind, stretch_count}
use Rattle.remote_store.specs.Dials.{Dialled, Dials, DialsOnce, Line, Peer}
use Rattle.remote_store.specs.Ends.{IsShort, KeepsEnd, StoreKeepsEnd}
use Rattle.remote_store.specs.Fits.{Fits, bytes_said, kind_of, length_told, only, place_in, judged, size_said}
use Rattle.remote_store.specs.Placed.{got_by, placed}
use Rattle.remote_store.specs.Quiet.{IsQuietFor}
use Rattle.remote_store.specs.Shown.{IsServed, count_at, shown, under}
use Rattle.remote_store.specs.Talks.{SaysLength, SaysPart, promise_in}
use Rattle.remote_store.specs.declared.wanted.Kind.{Kind}
use Rattle.remote_store.specs.declared.wanted.Kind.TheVariants as kind
use Rattle.remote_store.specs.declared.wanted.Promise.{Promise}
use Rattle.remote_store.specs.declared.wanted.Wanted.TheVariants.{Part}
use Rattle.remote_store.specs.ShownBytes.{looked}
use Rattle.remote_store.proofs.HeardParts.{room_of}
use Rattle.remote_store.proofs.KeySteps.{IsKey}
use Rattle.remote_store.proofs.PartReads.{read_by, said_long}

-- of the objects that are shown, those of a peer that is told and serves the data set
pub shown_where : (dataset : List ℕ) (peer : Option Peer) (P : Objects → Type 0) → ((p : Peer) → peer ≡ Some p → p.dataset ≡ dataset → P (under dataset p.objects)) → IfSome (shown dataset peer) P
shown_where dataset None P f = tt
shown_where dataset (Some p) P f = by_test (bytes_eq p.dataset dataset) refl
  where
    by_test : (t : Bool) → bytes_eq p.dataset dataset ≡ t → IfSome (if t then Some (under dataset p.objects) else None) P
    by_test true e = f p refl ((bytes_eq-Decides p.dataset dataset).0 e)
    by_test false e = tt

pub some_promise : {x y : Promise} → Some x ≡ Some y → x ≡ y
some_promise e = cc e

module _ (dataset name key : List ℕ) (k : IsKey dataset name key) (p : Peer) (serves : p.dataset ≡ dataset) where
  object_is : map.get p.objects (p.dataset ++ 47 ∷ key) ≡ map.get (under dataset p.objects) name
  object_is =
      let named : p.dataset ++ 47 ∷ key ≡ name = ap (λ d. d ++ 47 ∷ key) serves ∙ sym k.joined in
      ap (map.get p.objects) named ∙ sym (looked dataset p.objects name ∙ (λ i. if k.has i then map.get p.objects name else None))

-- a length
pub found_told : (dataset name key : List ℕ) (peer : Option Peer) (promise : Promise) → IsKey dataset name key → SaysLength dataset peer key (Some promise)
    → IfSome (shown dataset peer) (λ m. size_said promise.kind promise.len ≡ option_map length (map.get m name))
found_told dataset name key peer promise k says =
    shown_where dataset peer (λ m. size_said promise.kind promise.len ≡ option_map length (map.get m name)) (λ p is serves.
    let s = says p is serves in
    ap (λ q. size_said q.kind q.len) (some_promise s.1) ∙ s.2 ∙ ap (option_map length) (object_is dataset name key k p serves))

-- no bytes
read_empty : (k : Kind) (len at : ℕ) (object : Option (List ℕ)) → size_said k len ≡ option_map length object → Reads object at [] [] (empty_got k)
read_empty kind.Missing len at None e = record { got = refl; bytes = refl }
read_empty kind.Missing len at (Some b) e = absurd (cc e)
read_empty kind.Beyond len at None e = absurd (cc e)
read_empty kind.Beyond len at (Some b) e = record { got = refl; bytes = refl }
read_empty kind.Whole len at None e = absurd (cc e)
read_empty kind.Whole len at (Some b) e = record { got = refl; bytes = refl }
read_empty kind.Part len at None e = absurd (cc e)
read_empty kind.Part len at (Some b) e = record { got = refl; bytes = refl }

pub empty_told : (dataset name key : List ℕ) (peer : Option Peer) (promise : Promise) (at : ℕ) (out : List ℕ) → length out ≡ 0 → IsKey dataset name key → SaysLength dataset peer key (Some promise)
    → IfSome (shown dataset peer) (λ m. Reads (map.get m name) at out out (empty_got promise.kind))
empty_told dataset name key peer promise at out none k says =
    let nothing : out ≡ [] = nil_from_length out none in
    subst (λ o. IfSome (shown dataset peer) (λ m. Reads (map.get m name) at o o (empty_got promise.kind))) (sym nothing)
    (shown_where dataset peer (λ m. Reads (map.get m name) at [] [] (empty_got promise.kind)) (λ p is serves.
    let s = says p is serves in
    read_empty promise.kind promise.len at (map.get (under dataset p.objects) name) (ap (λ q. size_said q.kind q.len) (some_promise s.1) ∙ s.2 ∙ ap (option_map length) (object_is dataset name key k p serves))))

pub empty_kept : (k : Kind) (out : List ℕ) → KeepsRest out out (empty_got k)
empty_kept kind.Missing out = refl
empty_kept kind.Beyond out = (omega arith, refl)
empty_kept kind.Whole out = (omega arith, refl)
empty_kept kind.Part out = (omega arith, refl)

-- a part
pub read_told : (dataset name key : List ℕ) (peer : Option Peer) (promise : Promise) (at : ℕ) (old new : List ℕ) → IsKey dataset name key → SaysPart dataset peer key at old new (Some promise)
    → IfSome (shown dataset peer) (λ m. Reads (map.get m name) at old new (got_of_kind promise.kind (stretch_count promise.kind promise.len at (length old))))
read_told dataset name key peer promise at old new k says =
    shown_where dataset peer (λ m. Reads (map.get m name) at old new (got_of_kind promise.kind (stretch_count promise.kind promise.len at (length old)))) (λ p is serves.
    let s = says p is serves in
    let object = map.get (under dataset p.objects) name in
    let said : bytes_said s.0.kind at (length old) s.1 ≡ option_map (λ b. part b at (length old)) object = s.3 ∙ ap (option_map (λ b. part b at (length old))) (object_is dataset name key k p serves) in
    let got : got_by (bytes_said s.0.kind at (length old) s.1) ≡ got_of_kind promise.kind (stretch_count promise.kind promise.len at (length old)) =
    said_long s.0.kind s.0.len at (length old) s.1 s.4.1 ∙ ap (λ q. got_of_kind q.kind (stretch_count q.kind q.len at (length old))) (sym (some_promise s.2)) in
    subst (λ g. Reads object at old new g) got (read_by (bytes_said s.0.kind at (length old) s.1) object at old new said s.4.0))

kept_said : (s : Option (List ℕ)) (old new : List ℕ) → new ≡ placed s old → IfSome s (λ b. length b ≤ length old) → KeepsRest old new (got_by s)
kept_said None old new e short = e
kept_said (Some b) old new e short = (short, ap (drop (length b)) e ∙ drop-append_seam b (drop (length b) old))

said_short : (k : Kind) (len from count : ℕ) (body : List ℕ) → HasRoom k len count → length body ≡ len → IfSome (bytes_said k from count body) (λ b. length b ≤ count)
said_short kind.Missing len from count body room long = tt
said_short kind.Beyond len from count body room long = omega arith
said_short kind.Whole len from count body room long = omega (arith, length-take count (drop from body))
said_short kind.Part len from count body room long = omega (arith, room, long)

fits_room : (from count : ℕ) (gained body : List ℕ) (promise : Promise) → Fits (Part from count) gained promise body → HasRoom promise.kind promise.len count
unfolding judged
fits_room from count gained body promise f =
    room_of from count (kind_of (Part from count) (status_code f.0)) (length_told f.0.fields) (place_in (only (values_of (codes "content-range") f.0.fields))) promise f.1.judged

pub part_kept : (from : ℕ) (gained old new : List ℕ) (promise : Promise) → (body : List ℕ) × Fits (Part from (length old)) gained promise body × (new ≡ placed (bytes_said promise.kind from (length old) body) old)
    → KeepsRest old new (got_of_kind promise.kind (stretch_count promise.kind promise.len from (length old)))
part_kept from gained old new promise x =
    let room = fits_room from (length old) gained x.0 promise x.1 in
    subst (λ g. KeepsRest old new g) (said_long promise.kind promise.len from (length old) x.0 x.1.1.whole)
    (kept_said (bytes_said promise.kind from (length old) x.0) old new x.2 (said_short promise.kind promise.len from (length old) x.0 room x.1.1.whole))

-- counts of faults
pub cause_ok : {T : Type 0} (t : T) (dataset : List ℕ) (peer0 peer1 : Option Peer) (dial0 dial1 own : ℕ) → peer1 ≡ peer0 → dial1 ≡ dial0
    → HasCause {T = T} {E = Failed} (count_at (shown dataset peer0) dial0 own) (count_at (shown dataset peer1) dial1 own) (Ok t)
cause_ok {T = T} t dataset peer0 peer1 dial0 dial1 own same e =
    subst (λ q. HasCause {T = T} {E = Failed} (count_at (shown dataset peer0) dial0 own) (count_at (shown dataset q) dial1 own) (Ok t)) (sym same) (at (shown dataset peer0))
  where
    at : (o : Option Objects) → HasCause {T = T} {E = Failed} (count_at o dial0 own) (count_at o dial1 own) (Ok t)
    at None = record { later = omega arith; failed = tt; stands = refl }
    at (Some m) = record { later = omega (arith, e); failed = tt; stands = e }

pub cause_err : {T : Type 0} (f : Failed) (dataset : List ℕ) (peer0 peer1 : Option Peer) (dial0 dial1 own0 own1 : ℕ) → peer1 ≡ peer0 → own1 ≡ min (own0 + 1) (2 ^ 64 - 1) → dial0 ≤ dial1
    → ((p : Peer) → peer0 ≡ Some p → p.dataset ≡ dataset → Rose dial0 dial1) → HasCause {T = T} {E = Failed} (count_at (shown dataset peer0) dial0 own0) (count_at (shown dataset peer1) dial1 own1) (Err f)
cause_err {T = T} f dataset peer0 peer1 dial0 dial1 own0 own1 same e later rose =
    subst (λ q. HasCause {T = T} {E = Failed} (count_at (shown dataset peer0) dial0 own0) (count_at (shown dataset q) dial1 own1) (Err f)) (sym same)
    (at (shown dataset peer0) (shown_where dataset peer0 (λ _. Rose dial0 dial1) rose))
  where
    at : (o : Option Objects) → IfSome o (λ _. Rose dial0 dial1) → HasCause {T = T} {E = Failed} (count_at o dial0 own0) (count_at o dial1 own1) (Err f)
    at None x = record { later = omega (arith, e); failed = omega (arith, e); stands = tt }
    at (Some m) x = record { later = later; failed = x; stands = tt }

-- an answer that is settled
module _ (answer : Result (Option Promise) Failed) (r : Result Promise Failed) (said : result_ok r ≡ promise_in answer) where
  pub settled : (P : Option Promise → Type 0) → IfOk answer P → IfOk r (λ promise. P (Some promise))
  settled P f = by_cases answer r said f
    where
      by_cases : (answer : Result (Option Promise) Failed) (r : Result Promise Failed) → result_ok r ≡ promise_in answer → IfOk answer P → IfOk r (λ promise. P (Some promise))
      by_cases answer (Err e) said f = tt
      by_cases (Ok o) (Ok q) said f = subst P (sym said) f
      by_cases (Err e) (Ok q) said f = absurd (cc said)

  pub settled_some : (P : Promise → Type 0) → IfOk answer (λ o. IfSome o P) → IfOk r P
  settled_some P f = by_cases answer r said f
    where
      by_cases : (answer : Result (Option Promise) Failed) (r : Result Promise Failed) → result_ok r ≡ promise_in answer → IfOk answer (λ o. IfSome o P) → IfOk r P
      by_cases answer (Err e) said f = tt
      by_cases (Ok o) (Ok q) said f = subst (λ o. IfSome o P) (sym said) f
      by_cases (Err e) (Ok q) said f = absurd (cc said)

  pub settled_again : (Q : Type 0) (dial0 dial1 : ℕ) → HasCause dial0 dial1 answer → IfOk answer (λ o. o ≡ None → Q) → OnErr r ((Rose dial0 dial1 → ⊥) → Q)
  settled_again Q dial0 dial1 cause f = by_cases answer r said cause f
    where
      by_cases : (answer : Result (Option Promise) Failed) (r : Result Promise Failed) → result_ok r ≡ promise_in answer → HasCause dial0 dial1 answer → IfOk answer (λ o. o ≡ None → Q) → OnErr r ((Rose dial0 dial1 → ⊥) → Q)
      by_cases answer (Ok q) said cause f = tt
      by_cases (Ok o) (Err x) said cause f = λ calm. f (sym said)
      by_cases (Err e) (Err x) said cause f = λ calm. absurd (calm cause.failed)

  settled_dropped : (Q : Type 0) → (promise_in answer ≡ None → Q) → OnErr r Q
  settled_dropped Q f = by_cases r said
    where
      by_cases : (r : Result Promise Failed) → result_ok r ≡ promise_in answer → OnErr r Q
      by_cases (Ok q) said = tt
      by_cases (Err x) said = f (sym said)

  -- and how it leaves the end
  pub settled_end : (key dataset full : List ℕ) {name host : List ℕ} {port there : ℕ} {ws : List ℕ} {old_kept kept holds : Bool} {p0 p1 : Option Peer} {l0 l1 : Option Line} {d0 d1 : Option Dialled} {dial0 dial1 : ℕ}
      → KeepsEnd (IsShort key) (name, port) there ws old_kept kept holds p0 p1 l0 l1 d0 d1 answer → HasCause dial0 dial1 answer → IsShort key dataset → (IsTrue old_kept → IsQuietFor dataset p0 l0) → name ≡ host → take there full ≡ take there ws
      → StoreKeepsEnd dataset (host, port) there full old_kept kept p0 dial0 dial1 d0 d1 r
  settled_end key dataset full {name = name} {port = port} {there = there} {ws = ws} {old_kept = old_kept} {kept = kept} {p0 = p0} {d0 = d0} {d1 = d1} {dial0 = dial0} {dial1 = dial1} e cause short quiet same front = record {
    dials = subst (λ h. Dials (h, port) d0 d1) same e.dials;
    again = subst (λ h. OnErr r ((Rose dial0 dial1 → ⊥) → there ≡ 0 → DialsOnce (h, port) d0 d1)) same (settled_again (there ≡ 0 → DialsOnce (name, port) d0 d1) dial0 dial1 cause e.again);
    goes_on = settled (λ _. IsTrue old_kept → IsServed dataset p0 → d1 ≡ d0) (IfOk-weaker answer _ _ (λ _ stays on served. stays dataset short on (quiet on) served) e.goes_on);
    kept_end = subst (λ bytes. IfOk r (λ _. IsKeptBehind bytes kept)) (sym front) (settled_some (λ _. IsKeptBehind (take there ws) kept) e.kept_end);
    dropped = settled_dropped (kept ≡ false) e.dropped;
  }

  module _ (dataset : List ℕ) (peer0 peer1 : Option Peer) (dial0 dial1 own0 own1 : ℕ) (same : peer1 ≡ peer0) (cause : HasCause dial0 dial1 answer)
      (stands : OnOk r (own1 ≡ own0)) (counts : OnErr r (own1 ≡ min (own0 + 1) (2 ^ 64 - 1))) (told : IfOk answer (λ o. (p : Peer) → peer0 ≡ Some p → p.dataset ≡ dataset → o ≢ None)) where
    pub settled_cause : HasCause (count_at (shown dataset peer0) dial0 own0) (count_at (shown dataset peer1) dial1 own1) r
    settled_cause = by_cases answer r said cause stands counts told
      where
        by_cases : (answer : Result (Option Promise) Failed) (r : Result Promise Failed) → result_ok r ≡ promise_in answer → HasCause dial0 dial1 answer → OnOk r (own1 ≡ own0) → OnErr r (own1 ≡ min (own0 + 1) (2 ^ 64 - 1))
            → IfOk answer (λ o. (p : Peer) → peer0 ≡ Some p → p.dataset ≡ dataset → o ≢ None) → HasCause (count_at (shown dataset peer0) dial0 own0) (count_at (shown dataset peer1) dial1 own1) r
        by_cases (Ok o) (Ok q) said cause stands counts told =
            subst (λ own. HasCause {T = Promise} {E = Failed} (count_at (shown dataset peer0) dial0 own0) (count_at (shown dataset peer1) dial1 own) (Ok q)) (sym stands) (cause_ok q dataset peer0 peer1 dial0 dial1 own0 same cause.stands)
        by_cases (Err e) (Ok q) said cause stands counts told = absurd (cc said)
        by_cases (Ok o) (Err x) said cause stands counts told =
            cause_err x dataset peer0 peer1 dial0 dial1 own0 own1 same counts cause.later (λ p is serves. absurd (told p is serves (sym said)))
        by_cases (Err e) (Err x) said cause stands counts told = cause_err x dataset peer0 peer1 dial0 dial1 own0 own1 same counts cause.later (λ p is serves. cause.failed)

-- what is told of an answer, at a data set
pub length_at : (dataset key : List ℕ) (kept : Bool) (peer : Option Peer) (line : Option Line) (answer : Result (Option Promise) Failed) → length dataset + 1 + length key ≤ 512 → (IsTrue kept → IsQuietFor dataset peer line)
    → IfOk answer (λ o. (dataset : List ℕ) → length dataset + 1 + length key ≤ 512 → (IsTrue kept → IsQuietFor dataset peer line) → SaysLength dataset peer key o) → IfOk answer (λ o. SaysLength dataset peer key o)
length_at dataset key kept peer line (Err e) named quiet f = tt
length_at dataset key kept peer line (Ok o) named quiet f = f dataset named quiet

pub part_at : (dataset key : List ℕ) (kept : Bool) (peer : Option Peer) (line : Option Line) (at : ℕ) (old new : List ℕ) (answer : Result (Option Promise) Failed) → length dataset + 1 + length key ≤ 512 → (IsTrue kept → IsQuietFor dataset peer line)
    → IfOk answer (λ o. (dataset : List ℕ) → length dataset + 1 + length key ≤ 512 → (IsTrue kept → IsQuietFor dataset peer line) → SaysPart dataset peer key at old new o) → IfOk answer (λ o. SaysPart dataset peer key at old new o)
part_at dataset key kept peer line at old new (Err e) named quiet f = tt
part_at dataset key kept peer line at old new (Ok o) named quiet f = f dataset named quiet

-- a peer that is told gives a reply that fits
pub length_comes : (dataset key : List ℕ) (peer : Option Peer) (answer : Result (Option Promise) Failed) → IfOk answer (λ o. SaysLength dataset peer key o) → IfOk answer (λ o. (p : Peer) → peer ≡ Some p → p.dataset ≡ dataset → o ≢ None)
length_comes dataset key peer (Err e) f = tt
length_comes dataset key peer (Ok o) f = λ p is serves none. absurd (cc ((f p is serves).1, none))

pub part_comes : (dataset key : List ℕ) (peer : Option Peer) (at : ℕ) (old new : List ℕ) (answer : Result (Option Promise) Failed) → IfOk answer (λ o. SaysPart dataset peer key at old new o) → IfOk answer (λ o. (p : Peer) → peer ≡ Some p → p.dataset ≡ dataset → o ≢ None)
part_comes dataset key peer at old new (Err e) f = tt
part_comes dataset key peer at old new (Ok o) f = λ p is serves none. absurd (cc ((f p is serves).2, none))

-- what a reply to a request for a part leaves of a buffer
pub replied_kept : (at : ℕ) (gained last old new : List ℕ) (body : ℕ) (r0 r1 : Option (List ℕ)) (ends0 ends1 : ℕ) (answer : Result (Option Promise) Failed) → Replied at (length old) gained last old new body r0 r1 ends0 ends1 answer
    → IfOk answer (λ o. IfSome o (λ promise. KeepsRest old new (got_of_kind promise.kind (stretch_count promise.kind promise.len at (length old)))))
replied_kept at gained last old new body r0 r1 ends0 ends1 (Err e) x = tt
replied_kept at gained last old new body r0 r1 ends0 ends1 (Ok None) x = tt
replied_kept at gained last old new body r0 r1 ends0 ends1 (Ok (Some promise)) x = part_kept at gained old new promise x.fits

pub only_reads : (dataset : List ℕ) (peer0 peer1 : Option Peer) → peer1 ≡ peer0 → OnlyReads (shown dataset peer0) (shown dataset peer1) None None
only_reads dataset peer0 peer1 same = record { same_objects = ap (shown dataset) same; same_draft = refl }

-- a buffer that was written keeps its length
pub refilled : {X Z : Type 0} (v : Vec X Z) (ws : List X) → length (with_items v ws).items ≡ length v.items
refilled v ws = sym (with_items v ws).ok.0 ∙ v.ok.0
