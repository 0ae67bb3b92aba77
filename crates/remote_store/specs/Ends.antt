-- How a call goes about the end to its peer (this project's).
use Rattle.std.specs.Prelude.{◌≡◌, ◌≤◌, ◌+◌, ℕ, Bool, false, IsTrue, List, length, take, Option, None, IfOk, IfSome, OnErr, Result}
use Rattle.vol_base.specs.Causes.{Rose}
use Rattle.remote_store.specs.Asking.{IsAskFor}
use Rattle.remote_store.specs.Bodies.{IsKeptBehind}
use Rattle.remote_store.specs.Dials.{Dialled, Dials, DialsOnce, Line, Peer}
use Rattle.remote_store.specs.Quiet.{IsQuietFor}
use Rattle.remote_store.specs.Shown.{IsServed}
use Rattle.remote_store.specs.Talks.{promise_in}
use Rattle.remote_store.specs.declared.wanted.Promise.{Promise}
use Rattle.remote_store.specs.declared.wanted.Wanted.{Wanted}

-- the text asks for an object of a data set
abbrev pub Asks : List ℕ → ℕ → Wanted → List ℕ → List ℕ → Type 0
Asks host port wanted text dataset = (key : List ℕ) × IsAskFor dataset host port key wanted text

-- a name below a data set is no longer than a name may be
abbrev pub IsShort : List ℕ → List ℕ → Type 0
IsShort key dataset = length dataset + 1 + length key ≤ 512

-- A call that asks for an object of a data set dials once at most: it does where no byte came and no reply fits, and doesn't while an end
-- is kept to a peer that is told and serves the data set. It keeps the end behind a reply that doesn't close, and no other.
pub record KeepsEnd {E : Type 0} (asks : List ℕ → Type 0) (to : List ℕ × ℕ) (there : ℕ) (received : List ℕ)
    (old_kept kept holds : Bool) (old_peer peer : Option Peer) (old_line line : Option Line)
    (old_dialled dialled : Option Dialled) (result : Result (Option Promise) E) : Type 0 where
  pub held : IsTrue kept → IsTrue holds
  pub quiet : IsTrue kept → (dataset : List ℕ) → asks dataset →
      (IsTrue old_kept → IsQuietFor dataset old_peer old_line) → IsQuietFor dataset peer line
  pub dials : Dials to old_dialled dialled
  pub again : IfOk result (λ o. o ≡ None → there ≡ 0 → DialsOnce to old_dialled dialled)
  pub goes_on : IfOk result (λ _. (dataset : List ℕ) → asks dataset → IsTrue old_kept →
      IsQuietFor dataset old_peer old_line → IsServed dataset old_peer → dialled ≡ old_dialled)
  pub kept_end : IfOk result (λ o. IfSome o (λ _. IsKeptBehind (take there received) kept))
  pub dropped : promise_in result ≡ None → kept ≡ false

-- the same of a store of a data set, whose call fails where no reply came that fits
pub record StoreKeepsEnd {T E : Type 0} (dataset : List ℕ) (to : List ℕ × ℕ) (there : ℕ) (received : List ℕ)
    (old_kept kept : Bool) (peer : Option Peer) (old_faults faults : ℕ) (old_dialled dialled : Option Dialled)
    (result : Result T E) : Type 0 where
  pub dials : Dials to old_dialled dialled
  pub again : OnErr result ((Rose old_faults faults → ⊥) → there ≡ 0 → DialsOnce to old_dialled dialled)
  pub goes_on : IfOk result (λ _. IsTrue old_kept → IsServed dataset peer → dialled ≡ old_dialled)
  pub kept_end : IfOk result (λ _. IsKeptBehind (take there received) kept)
  pub dropped : OnErr result (kept ≡ false)
