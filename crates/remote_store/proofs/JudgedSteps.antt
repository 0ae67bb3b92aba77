-- What the calls of a store answer, by what came.
use Rattle.std.proofs.Common.{◌≡◌, ◌≢◌, ◌∙◌, ℕ, ◌≤◌, List, [], length, take, Option, Some, None, IfOk, IfSome, OnErr, Result, Ok, Err, ◌⊎◌, if◌then◌else◌, inl, inr, ap, sym, refl, subst}
use Rattle.std.specs.Result.{result_ok}
use Rattle.std.specs.Vec.{with_items}
use Rattle.std.specs.declared.vec.Vec.{Vec}
use Rattle.std.proofs.lemmas.Bool.{ne_eqb}
use Rattle.std.proofs.lemmas.List.{nil_from_length, with_items_is}
use Rattle.vol_base.specs.Causes.{HasCause, Rose}
use Rattle.vol_base.specs.Gains.{Gains}
use Rattle.vol_base.specs.declared.outside.Failed.{Failed}
use Rattle.vol_base.specs.declared.outside.Got.{Got}
use Rattle.remote_store.specs.Bodies.{IsCounted, Replied, empty_got, got_of_kind, stretch_count}
use Rattle.remote_store.specs.Fits.{Fits, bytes_said, size_said}
use Rattle.remote_store.specs.Placed.{got_by, placed}
use Rattle.remote_store.specs.Remotes.{IsJudged, IsPlaced, IsRead, IsSame, IsSize, wanted_of}
use Rattle.remote_store.specs.Talks.{IsUnfit, promise_in}
use Rattle.remote_store.specs.declared.wanted.Kind.{Kind}
use Rattle.remote_store.specs.declared.wanted.Kind.TheVariants as kind
use Rattle.remote_store.specs.declared.wanted.Promise.{Promise}
use Rattle.remote_store.specs.declared.wanted.Wanted.{Wanted}
use Rattle.remote_store.specs.declared.wanted.Wanted.TheVariants.{Length, Part}
use Rattle.remote_store.proofs.HeardParts.{take_whole}
use Rattle.remote_store.proofs.PartReads.{said_long}
use Rattle.remote_store.proofs.RemoteSteps.{some_promise}

-- what was written to a buffer stands in it
pub written : {X Z : Type 0} (v : Vec X Z) (ws : List X) → length ws ≡ length v.items → (with_items v ws).items ≡ ws
written v ws e = with_items_is v ws (e ∙ sym v.ok.0)

pub written_front : {Z : Type 0} (v : Vec ℕ Z) (ws : List ℕ) (n : ℕ) → length ws ≡ length v.items → take n (with_items v ws).items ≡ take n ws
written_front v ws n e = ap (take n) (written v ws e)

pub judged_length : (answer : Result (Option Promise) Failed) (r : Result Promise Failed) → result_ok r ≡ promise_in answer → (gained last : List ℕ) (body : ℕ) (r0 r1 : Option (List ℕ)) (e0 e1 d0 d1 : ℕ) → last ≡ gained → length gained ≤ 8192 → Gains r0 r1 gained → IsCounted Length gained body
    → IfOk answer (λ o. IfSome o (λ promise. Fits Length gained promise [])) → IfOk answer (λ o. o ≡ None → IsUnfit Length gained e0 e1) → HasCause d0 d1 answer → IsJudged Length IsSame last body r0 r1 e0 e1 d0 d1 r
judged_length answer r said gained last body r0 r1 e0 e1 d0 d1 is few gains counted fits unfit cause = record {
  gained = gained;
  front = is ∙ sym (take_whole 8192 gained few);
  received = gains;
  counted = counted;
  fits = fits_by answer r said fits;
  failed = failed_by answer r said unfit cause;
}
  where
    fits_by : (answer : Result (Option Promise) Failed) (r : Result Promise Failed) → result_ok r ≡ promise_in answer → IfOk answer (λ o. IfSome o (λ promise. Fits Length gained promise []))
        → IfOk r (λ answer. (promise : Promise) × (body : List ℕ) × Fits Length gained promise body × IsSame promise body answer)
    fits_by answer (Err e) said f = tt
    fits_by (Ok None) (Ok q) said f = absurd (cc said)
    fits_by (Ok (Some p)) (Ok q) said f = (q, [], subst (λ p. Fits Length gained p []) (sym (some_promise said)) f, refl)
    fits_by (Err e) (Ok q) said f = absurd (cc said)

    failed_by : (answer : Result (Option Promise) Failed) (r : Result Promise Failed) → result_ok r ≡ promise_in answer → IfOk answer (λ o. o ≡ None → IsUnfit Length gained e0 e1) → HasCause d0 d1 answer
        → OnErr r (Rose d0 d1 ⊎ IsUnfit Length gained e0 e1)
    failed_by answer (Ok q) said unfit cause = tt
    failed_by (Ok o) (Err x) said unfit cause = inr (unfit (sym said))
    failed_by (Err e) (Err x) said unfit cause = inl cause.failed

pub judged_part : (answer : Result (Option Promise) Failed) (r : Result Promise Failed) → result_ok r ≡ promise_in answer → (from : ℕ) (gained last kept old new : List ℕ) (body : ℕ) (r0 r1 : Option (List ℕ)) (e0 e1 d0 d1 : ℕ) → last ≡ kept
    → Replied from (length old) gained kept old new body r0 r1 e0 e1 answer → HasCause d0 d1 answer → IsJudged (Part from (length old)) (IsPlaced from old new) last body r0 r1 e0 e1 d0 d1 r
judged_part answer r said from gained last kept old new body r0 r1 e0 e1 d0 d1 is x cause = record {
  gained = gained;
  front = is ∙ x.front;
  received = x.received;
  counted = x.counted;
  fits = fits_by answer r said x.fits;
  failed = failed_by answer r said x.unfit cause;
}
  where
    fits_by : (answer : Result (Option Promise) Failed) (r : Result Promise Failed) → result_ok r ≡ promise_in answer
        → IfOk answer (λ o. IfSome o (λ promise. (body : List ℕ) × Fits (Part from (length old)) gained promise body × (new ≡ placed (bytes_said promise.kind from (length old) body) old)))
        → IfOk r (λ answer. (promise : Promise) × (body : List ℕ) × Fits (Part from (length old)) gained promise body × IsPlaced from old new promise body answer)
    fits_by answer (Err e) said f = tt
    fits_by (Ok None) (Ok q) said f = absurd (cc said)
    fits_by (Ok (Some p)) (Ok q) said f = (p, f.0, f.1, (some_promise said, f.2))
    fits_by (Err e) (Ok q) said f = absurd (cc said)

    failed_by : (answer : Result (Option Promise) Failed) (r : Result Promise Failed) → result_ok r ≡ promise_in answer → IfOk answer (λ o. o ≡ None → IsUnfit (Part from (length old)) gained e0 e1) → HasCause d0 d1 answer
        → OnErr r (Rose d0 d1 ⊎ IsUnfit (Part from (length old)) gained e0 e1)
    failed_by answer (Ok q) said unfit cause = tt
    failed_by (Ok o) (Err x) said unfit cause = inr (unfit (sym said))
    failed_by (Err e) (Err x) said unfit cause = inl cause.failed

-- whatever was asked
pub if_any : {P : Type 0} (o : Option (List ℕ)) → P → IfSome o (λ _. P)
if_any None x = tt
if_any (Some key) x = x

pub if_none : (P : Type 0) (o : Option (List ℕ)) → o ≡ None → IfSome o (λ _. P)
if_none P None e = tt
if_none P (Some key) e = absurd (cc e)

module _ (last : List ℕ) (body : ℕ) (r0 r1 : Option (List ℕ)) (e0 e1 d0 d1 : ℕ) where
  pub judged_size : (promise : Promise) (size : Option ℕ) → size ≡ size_said promise.kind promise.len → IsJudged {E = Failed} Length IsSame last body r0 r1 e0 e1 d0 d1 (Ok promise) → IsJudged {E = Failed} Length IsSize last body r0 r1 e0 e1 d0 d1 (Ok size)
  judged_size promise size is j = record {
    gained = j.gained;
    front = j.front;
    received = j.received;
    counted = j.counted;
    fits = (j.fits.0, j.fits.1, j.fits.2, is ∙ ap (λ q. size_said q.kind q.len) j.fits.3);
    failed = tt;
  }

  pub judged_failed : {T U : Type 0} (wanted other : Wanted) (says : Promise → List ℕ → T → Type 0) (tells : Promise → List ℕ → U → Type 0) (e : Failed) → other ≡ wanted → IsJudged {T = T} wanted says last body r0 r1 e0 e1 d0 d1 (Err e)
      → IsJudged {T = U} other tells last body r0 r1 e0 e1 d0 d1 (Err e)
  judged_failed wanted other says tells e same j = record {
    gained = j.gained;
    front = j.front;
    received = j.received;
    counted = subst (λ w. IsCounted w j.gained body) (sym same) j.counted;
    fits = tt;
    failed = subst (λ w. Rose d0 d1 ⊎ IsUnfit w j.gained e0 e1) (sym same) j.failed;
  }

  empty_said : (k : Kind) (at : ℕ) → (empty_got k ≡ got_by (bytes_said k at 0 [])) × (◌≡◌ {A = List ℕ} [] (placed (bytes_said k at 0 []) []))
  empty_said kind.Missing at = (refl, refl)
  empty_said kind.Beyond at = (refl, refl)
  empty_said kind.Whole at = (refl, refl)
  empty_said kind.Part at = (refl, refl)

  pub wanted_none : (at n : ℕ) → n ≡ 0 → wanted_of at n ≡ Length
  wanted_none at n e = ap (wanted_of at) e

  pub wanted_some : (at n : ℕ) → n ≢ 0 → wanted_of at n ≡ Part at n
  wanted_some at n some = λ i. if ne_eqb n 0 some i then Length else Part at n

  pub judged_empty : (promise : Promise) (got : Got) (at : ℕ) (out : List ℕ) → length out ≡ 0 → got ≡ empty_got promise.kind → IsJudged {E = Failed} Length IsSame last body r0 r1 e0 e1 d0 d1 (Ok promise)
      → IsJudged {E = Failed} (wanted_of at (length out)) (IsRead at out out) last body r0 r1 e0 e1 d0 d1 (Ok got)
  judged_empty promise got at out none is j =
      let body_none : j.fits.1 ≡ [] = nil_from_length j.fits.1 j.fits.2.1.whole in
      let out_none : out ≡ [] = nil_from_length out none in
      let said = empty_said j.fits.0.kind at in
      let reads : IsRead at [] [] j.fits.0 [] got = (is ∙ ap (λ q. empty_got q.kind) j.fits.3 ∙ said.0, said.1) in
      record {
        gained = j.gained;
        front = j.front;
        received = j.received;
        counted = subst (λ w. IsCounted w j.gained body) (sym (wanted_none at (length out) none)) j.counted;
        fits = (
          j.fits.0,
          j.fits.1,
          subst (λ w. Fits w j.gained j.fits.0 j.fits.1) (sym (wanted_none at (length out) none)) j.fits.2,
          subst (λ o. IsRead at o o j.fits.0 j.fits.1 got) (sym out_none) (subst (λ b. IsRead at [] [] j.fits.0 b got) (sym body_none) reads),
        );
        failed = tt;
      }

  pub judged_read : (promise : Promise) (got : Got) (at : ℕ) (old new : List ℕ) → length old ≢ 0 → got ≡ got_of_kind promise.kind (stretch_count promise.kind promise.len at (length old))
      → IsJudged {E = Failed} (Part at (length old)) (IsPlaced at old new) last body r0 r1 e0 e1 d0 d1 (Ok promise) → IsJudged {E = Failed} (wanted_of at (length old)) (IsRead at old new) last body r0 r1 e0 e1 d0 d1 (Ok got)
  judged_read promise got at old new some is j =
      let p = j.fits.0 in
      let long : got_by (bytes_said p.kind at (length old) j.fits.1) ≡ got_of_kind p.kind (stretch_count p.kind p.len at (length old)) = said_long p.kind p.len at (length old) j.fits.1 j.fits.2.1.whole in
      record {
        gained = j.gained;
        front = j.front;
        received = j.received;
        counted = subst (λ w. IsCounted w j.gained body) (sym (wanted_some at (length old) some)) j.counted;
        fits = (
          p,
          j.fits.1,
          subst (λ w. Fits w j.gained p j.fits.1) (sym (wanted_some at (length old) some)) j.fits.2,
          (is ∙ ap (λ q. got_of_kind q.kind (stretch_count q.kind q.len at (length old))) j.fits.3.0 ∙ sym long, j.fits.3.1),
        );
        failed = tt;
      }
