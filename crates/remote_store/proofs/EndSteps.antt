-- How calls leave the end to their peer.
use Rattle.std.proofs.Common.{◌≡◌, ℕ, Bool, false, IsTrue, List, Option, Some, None, IfOk, Result, Ok, Err, refl}
use Rattle.remote_store.specs.Dials.{Dialled, Dials, DialsOnce, Line, Peer}
use Rattle.remote_store.specs.Ends.{KeepsEnd}
use Rattle.remote_store.specs.Quiet.{IsQuietFor}
use Rattle.remote_store.specs.Shown.{IsServed}
use Rattle.remote_store.specs.declared.wanted.Promise.{Promise}

module _ {E : Type 0} {to : List ℕ × ℕ} {there : ℕ} {received : List ℕ} {old_kept holds : Bool} {p0 p1 : Option Peer} {l0 l1 : Option Line} {d0 d1 : Option Dialled} where
  -- none is kept where no reply came that fits
  pub end_dropped : {asks : List ℕ → Type 0} (result : Result (Option Promise) E) → IfOk result (λ o. o ≡ None) → Dials to d0 d1 → IfOk result (λ o. o ≡ None → there ≡ 0 → DialsOnce to d0 d1)
      → IfOk result (λ _. (dataset : List ℕ) → asks dataset → IsTrue old_kept → IsQuietFor dataset p0 l0 → IsServed dataset p0 → d1 ≡ d0) → KeepsEnd asks to there received old_kept false holds p0 p1 l0 l1 d0 d1 result
  end_dropped (Ok None) none dials again on = record { held = λ t. absurd (cc t); quiet = λ t. absurd (cc t); dials = dials; again = again; goes_on = on; kept_end = tt; dropped = λ _. refl }
  end_dropped (Ok (Some promise)) none dials again on = absurd (cc none)
  end_dropped (Err e) none dials again on = record { held = λ t. absurd (cc t); quiet = λ t. absurd (cc t); dials = dials; again = tt; goes_on = tt; kept_end = tt; dropped = λ _. refl }

  -- the same of what asks for less
  pub end_of : {A B : List ℕ → Type 0} {kept : Bool} (result : Result (Option Promise) E) → ((dataset : List ℕ) → B dataset → A dataset) → KeepsEnd A to there received old_kept kept holds p0 p1 l0 l1 d0 d1 result
      → KeepsEnd B to there received old_kept kept holds p0 p1 l0 l1 d0 d1 result
  end_of (Ok o) f e = record { held = e.held; quiet = λ t dataset asks. e.quiet t dataset (f dataset asks); dials = e.dials; again = e.again; goes_on = λ dataset asks. e.goes_on dataset (f dataset asks); kept_end = e.kept_end; dropped = e.dropped }
  end_of (Err x) f e = record { held = e.held; quiet = λ t dataset asks. e.quiet t dataset (f dataset asks); dials = e.dials; again = tt; goes_on = tt; kept_end = tt; dropped = e.dropped }
