-- What a call that asks a peer answers, by the front of the reply and by what came behind it.
use Rattle.std.proofs.Common.{◌≡◌, ◌∙◌, ℕ, ◌≤◌, ◌<◌, Bool, true, false, not, List, [], ◌++◌, length, drop, Option, Some, None, IfOk, IfSome, IsTrue, Result, Ok, Err, inr, sym, refl, subst, arith}
use Rattle.std.proofs.Math.Logic.{∥∥₁_elim, ∥∥₁_map}
use Rattle.std.proofs.Props.{props}
use Rattle.vol_base.specs.Gains.{Gains}
use Rattle.vol_base.specs.declared.outside.Failed.{Failed}
use Rattle.remote_store.specs.Asking.{HasBegun, IsAskFor}
use Rattle.remote_store.specs.Bodies.{Came, Ended, Finished, IsBegun, IsCounted, Replied}
use Rattle.remote_store.specs.Placed.{placed}
use Rattle.remote_store.specs.Dials.{IsPlain, Line, Peer}
use Rattle.remote_store.specs.Fits.{bytes_said}
use Rattle.remote_store.specs.Quiet.{IsQuietFor}
use Rattle.remote_store.specs.Talks.{IsUnfit, SaysLength, SaysPart}
use Rattle.remote_store.specs.declared.wanted.Begun.{Begun}
use Rattle.remote_store.specs.declared.wanted.Wanted.TheVariants.{Length, Part}
use Rattle.remote_store.proofs.Bodies.{gains_twice}
use Rattle.remote_store.proofs.HeardParts.{begun_length, counted_heard, heard_fits, heard_short, take_whole}
use Rattle.remote_store.proofs.ToldParts.{answer_cut, answer_more, answer_quiet, answer_says}

plain_at : {peer : Option Peer} (p : Peer) → IfSome peer IsPlain → peer ≡ Some p → IsPlain p
plain_at p plain is = subst (λ o. IfSome o IsPlain) is plain

open_still : (closes : Bool) → IsTrue (not closes) → closes ≡ false
open_still true t = absurd (cc t)
open_still false t = refl

-- the length
pub length_told : {dataset host key text gained : List ℕ} {port : ℕ} {peer : Option Peer} {left : Option (List ℕ)} {line : Option Line} {b : Begun} → IsBegun Length gained b → IfSome peer IsPlain → IsAskFor dataset host port key Length text
    → HasBegun dataset peer text gained left line (Some b) → SaysLength dataset peer key (Some b.promise)
length_told {b = b} x plain asks has = λ p is serves.
    (b.promise, refl, ∥∥₁_elim (has p is serves).1 (hlevel props) (λ a. answer_says p (plain_at p plain is) asks serves a b.promise [] (begun_length x)))

pub length_untold : (key : List ℕ) {dataset text gained : List ℕ} {peer : Option Peer} {left : Option (List ℕ)} {line : Option Line} → HasBegun dataset peer text gained left line None → SaysLength dataset peer key None
length_untold key has = λ p is serves. absurd ((has p is serves).0 refl)

pub length_quiet : {dataset host key text gained : List ℕ} {port : ℕ} {peer peer1 : Option Peer} {left : Option (List ℕ)} {line : Option Line} {b : Begun} → IsBegun Length gained b → IfSome peer IsPlain → IsAskFor dataset host port key Length text
    → HasBegun dataset peer text gained left line (Some b) → peer1 ≡ peer → IsTrue (not b.closes) → IsQuietFor dataset peer1 line
length_quiet {b = b} x plain asks has same on = λ p is serves.
    let here = sym same ∙ is in
    ∥∥₁_map (has p here serves).1 (λ a. answer_quiet p (plain_at p plain here) asks serves a b.promise [] (begun_length x) (sym x.heard.ends ∙ open_still b.closes on))

-- a part
module _ {first more old new : List ℕ} {from body : ℕ} {b : Begun} {r1 r2 left0 left1 : Option (List ℕ)} {line0 line1 : Option Line} {ends0 ends1 : ℕ} {w : Result Bool Failed}
    (fin : Finished from (length old) first more b old new body r1 r2 left0 left1 line0 line1 ends0 ends1 w) where
  whole_at : w ≡ Ok true → (length (drop b.head (first ++ more)) ≡ b.promise.len) × (new ≡ placed (bytes_said b.promise.kind from (length old) (drop b.head (first ++ more))) old)
  whole_at all = taken w all fin.fits
    where
      taken : (w : Result Bool Failed) → w ≡ Ok true → IfOk w (λ whole. whole ≡ true → (length (drop b.head (first ++ more)) ≡ b.promise.len) × (new ≡ placed (bytes_said b.promise.kind from (length old) (drop b.head (first ++ more))) old))
          → (length (drop b.head (first ++ more)) ≡ b.promise.len) × (new ≡ placed (bytes_said b.promise.kind from (length old) (drop b.head (first ++ more))) old)
      taken (Ok t) e f = f (cc e)
      taken (Err x) e f = absurd (cc e)

  cut_at : w ≡ Ok false → (length (drop b.head (first ++ more)) < b.promise.len) × Ended more left0 ends0 ends1
  cut_at off = taken w off fin.cut
    where
      taken : (w : Result Bool Failed) → w ≡ Ok false → IfOk w (λ whole. whole ≡ false → (length (drop b.head (first ++ more)) < b.promise.len) × Ended more left0 ends0 ends1) → (length (drop b.head (first ++ more)) < b.promise.len) × Ended more left0 ends0 ends1
      taken (Ok t) e f = f (cc e)
      taken (Err x) e f = absurd (cc e)

  came_at : (t : Bool) → w ≡ Ok t → Came more left0 left1 line0 line1
  came_at t all = taken w all fin.came
    where
      taken : (w : Result Bool Failed) → w ≡ Ok t → IfOk w (λ _. Came more left0 left1 line0 line1) → Came more left0 left1 line0 line1
      taken (Ok t) e f = f
      taken (Err x) e f = absurd (cc e)

  pub part_told : {dataset host key text : List ℕ} {port : ℕ} {peer : Option Peer} → w ≡ Ok true → IfSome peer IsPlain → IsAskFor dataset host port key (Part from (length old)) text → HasBegun dataset peer text first left0 line0 (Some b) → SaysPart dataset peer key from old new (Some b.promise)
  part_told all plain asks has = λ p is serves.
      let t = whole_at all in
      let body = drop b.head (first ++ more) in
      let f = heard_fits fin.heard t.0 in
      (b.promise, body, refl, ∥∥₁_elim (has p is serves).1 (hlevel props) (λ a. answer_says p (plain_at p plain is) asks serves (answer_more more (came_at true all) a) b.promise body f), (t.1, t.0))

  pub part_untold : {dataset host key text : List ℕ} {port : ℕ} {peer : Option Peer} → w ≡ Ok false → IfSome peer IsPlain → IsAskFor dataset host port key (Part from (length old)) text → HasBegun dataset peer text first left0 line0 (Some b) → SaysPart dataset peer key from old new None
  part_untold off plain asks has = λ p is serves.
      let t = cut_at off in
      absurd (∥∥₁_elim (has p is serves).1 (hlevel props) (λ a. answer_cut p (plain_at p plain is) asks serves a more t.1.all (heard_short fin.heard t.0)))

  pub part_quiet : {dataset host key text : List ℕ} {port : ℕ} {peer : Option Peer} → w ≡ Ok true → IfSome peer IsPlain → IsAskFor dataset host port key (Part from (length old)) text → HasBegun dataset peer text first left0 line0 (Some b) → {peer1 : Option Peer} → peer1 ≡ peer → IsTrue (not b.closes)
      → IsQuietFor dataset peer1 line1
  part_quiet all plain asks has same on = λ p is serves.
      let here = sym same ∙ is in
      let t = whole_at all in
      let body = drop b.head (first ++ more) in
      ∥∥₁_map (has p here serves).1 (λ a. answer_quiet p (plain_at p plain here) asks serves (answer_more more (came_at true all) a) b.promise body (heard_fits fin.heard t.0) (sym fin.heard.ends ∙ open_still b.closes on))

  pub replied_whole : (r0 : Option (List ℕ)) (before : ℕ) → w ≡ Ok true → Gains r0 r1 first → Replied {E = Failed} from (length old) (first ++ more) first old new body r0 r2 before ends1 (Ok (Some b.promise))
  replied_whole r0 before all gains =
      let t = whole_at all in
      record {
        front = fin.front;
        received = gains_twice first more _ _ _ gains fin.received;
        fits = (drop b.head (first ++ more), heard_fits fin.heard t.0, t.1);
        unfit = λ none. absurd (cc none);
        counted = counted_heard body fin.heard fin.long;
      }

  pub replied_cut : (r0 : Option (List ℕ)) (before : ℕ) → w ≡ Ok false → Gains r0 r1 first → before ≤ ends0 → Replied {E = Failed} from (length old) (first ++ more) first old new body r0 r2 before ends1 (Ok None)
  replied_cut r0 before off gains later =
      let t = cut_at off in
      record {
        front = fin.front;
        received = gains_twice first more _ _ _ gains fin.received;
        fits = tt;
        unfit = λ _. inr (heard_short fin.heard t.0, omega (arith, t.1.rose, later));
        counted = counted_heard body fin.heard fin.long;
      }

  pub replied_err : (r0 : Option (List ℕ)) (before : ℕ) (e : Failed) → Gains r0 r1 first → Replied {E = Failed} from (length old) (first ++ more) first old new body r0 r2 before ends1 (Err e)
  replied_err r0 before e gains = record {
    front = fin.front;
    received = gains_twice first more _ _ _ gains fin.received;
    fits = tt;
    unfit = tt;
    counted = counted_heard body fin.heard fin.long;
  }

-- what was begun alone
pub replied_begun : (from count : ℕ) (first old : List ℕ) (body : ℕ) (r0 r1 : Option (List ℕ)) (before now : ℕ) → length first ≤ 8192 → Gains r0 r1 first → IsUnfit (Part from count) first before now → IsCounted (Part from count) first body
    → Replied {E = Failed} from count first first old old body r0 r1 before now (Ok None)
replied_begun from count first old body r0 r1 before now few gains unfit counted = record { front = sym (take_whole 8192 first few); received = gains; fits = tt; unfit = λ _. unfit; counted = counted }

pub replied_failed : (from count : ℕ) (first old : List ℕ) (body : ℕ) (r0 r1 : Option (List ℕ)) (before now : ℕ) (e : Failed) → length first ≤ 8192 → Gains r0 r1 first → IsCounted (Part from count) first body → Replied {E = Failed} from count first first old old body r0 r1 before now (Err e)
replied_failed from count first old body r0 r1 before now e few gains counted = record { front = sym (take_whole 8192 first few); received = gains; fits = tt; unfit = tt; counted = counted }

pub has_some : {dataset text gained : List ℕ} {peer : Option Peer} {left : Option (List ℕ)} {line : Option Line} {b : Begun} (o : Option Begun) → o ≡ Some b → HasBegun dataset peer text gained left line o → HasBegun dataset peer text gained left line (Some b)
has_some {dataset = dataset} {text = text} {gained = gained} {peer = peer} {left = left} {line = line} o e h = subst (λ o. HasBegun dataset peer text gained left line o) e h

pub has_none : {dataset text gained : List ℕ} {peer : Option Peer} {left : Option (List ℕ)} {line : Option Line} (o : Option Begun) → o ≡ None → HasBegun dataset peer text gained left line o → HasBegun dataset peer text gained left line None
has_none {dataset = dataset} {text = text} {gained = gained} {peer = peer} {left = left} {line = line} o e h = subst (λ o. HasBegun dataset peer text gained left line o) e h
