-- A request, and the reply to it (this project's).
use Rattle.std.specs.Prelude.{◌≡◌, ◌≤◌, ◌⊎◌, ℕ, true, IsTrue, List, [], ◌∷◌, ◌++◌, length, Option, Some, None, IfSome, Result, Ok, Err}
use Rattle.std.specs.FinMap as map
use Rattle.std.specs.List.{list_all}
use Rattle.httparse.specs.Grammar.{is_value_byte, print_request}
use Rattle.vol_base.specs.Names.{is_name}
use Rattle.vol_base.specs.Causes.{Rose}
use Rattle.remote_store.specs.Answers.{SaysOf}
use Rattle.remote_store.specs.Dials.{Peer}
use Rattle.remote_store.specs.Requests.{request_of}
use Rattle.remote_store.specs.declared.wanted.Wanted.TheVariants.{Length, Part}
use Rattle.remote_store.specs.Fits.{Fits, NeverFits, bytes_said}
use Rattle.remote_store.specs.Placed.{placed}
use Rattle.remote_store.specs.declared.wanted.Promise.{Promise}
use Rattle.remote_store.specs.declared.wanted.Wanted.{Wanted}

-- the bytes don't fit
abbrev pub DoesNotFit : Wanted → List ℕ → Type 0
DoesNotFit wanted received = (promise : Promise) (body : List ℕ) → ¬ (Fits wanted received promise body)

-- the bytes never fit; or they don't, and the end came, behind all that was left
abbrev pub Unfit : Wanted → List ℕ → ℕ → ℕ → Option (List ℕ) → Type 0
Unfit wanted received before now left =
    NeverFits wanted received ⊎ (DoesNotFit wanted received × Rose before now × IfSome left (λ stream. stream ≡ received))

-- the same, whatever is left
abbrev pub IsUnfit : Wanted → List ℕ → ℕ → ℕ → Type 0
IsUnfit wanted received before now = NeverFits wanted received ⊎ (DoesNotFit wanted received × Rose before now)

-- the text is the request for an object by its name below the data set, of at most 8,192 bytes, to a peer whose name and port
-- are these
pub record IsRequest (host : List ℕ) (port : ℕ) (key : List ℕ) (wanted : Wanted) (text : List ℕ) : Type 0 where
  pub printed : text ≡ print_request (request_of host port key wanted)
  pub short : length text ≤ 8192
  pub plain : list_all is_value_byte host ≡ true
  pub name : IsTrue (is_name key)

-- where the peer is told and serves this data set, a reply came that says the length of the object, or that there is none
abbrev pub SaysLength : List ℕ → Option Peer → List ℕ → Option Promise → Type 0
SaysLength dataset peer key o = (p : Peer) → peer ≡ Some p → p.dataset ≡ dataset
    → (promise : Promise) × (o ≡ Some promise) × SaysOf Length (map.get p.objects (p.dataset ++ 47 ∷ key)) promise []

-- the same for the bytes of the object from a place on, and they stand in a buffer
abbrev pub SaysPart : List ℕ → Option Peer → List ℕ → ℕ → List ℕ → List ℕ → Option Promise → Type 0
SaysPart dataset peer key from old new o = (p : Peer) → peer ≡ Some p → p.dataset ≡ dataset
    → (promise : Promise) × (body : List ℕ) × (o ≡ Some promise) × SaysOf (Part from (length old)) (map.get p.objects (p.dataset ++ 47 ∷ key)) promise body
    × ((new ≡ placed (bytes_said promise.kind from (length old) body) old) × (length body ≡ promise.len))

-- what a call found that a reply says, if one came that fits
abbrev pub promise_in : {E : Type 0} → Result (Option Promise) E → Option Promise
promise_in (Ok o) = o
promise_in (Err e) = None
