-- What the calls of a store answer, by what came (this project's).
use Rattle.std.specs.Prelude.{◌≡◌, ◌⊎◌, ◌==◌, if◌then◌else◌, ℕ, List, take, length, Option, IfOk, OnErr, Result}
use Rattle.vol_base.specs.Causes.{Rose}
use Rattle.vol_base.specs.Gains.{Gains}
use Rattle.vol_base.specs.declared.outside.Got.{Got}
use Rattle.remote_store.specs.Bodies.{IsCounted}
use Rattle.remote_store.specs.Fits.{Fits, bytes_said, size_said}
use Rattle.remote_store.specs.Placed.{got_by, placed}
use Rattle.remote_store.specs.Talks.{IsUnfit}
use Rattle.remote_store.specs.declared.wanted.Promise.{Promise}
use Rattle.remote_store.specs.declared.wanted.Wanted.{Wanted}
use Rattle.remote_store.specs.declared.wanted.Wanted.TheVariants.{Length, Part}

-- the bytes that came in a call, of which the first 8,192 are kept, decide it: where it answers they fit, and the answer is what they
-- say, and `body` counts those behind the head; it fails only where the dial failed, or they never fit, or they don't and the end came
pub record IsJudged {T E : Type 0} (wanted : Wanted) (says : Promise → List ℕ → T → Type 0) (last : List ℕ) (body : ℕ) (old_received new_received : Option (List ℕ)) (old_ends new_ends old_faults new_faults : ℕ) (result : Result T E) : Type 0 where
  pub gained : List ℕ
  pub front : last ≡ take 8192 gained
  pub received : Gains old_received new_received gained
  pub fits : IfOk result (λ answer. (promise : Promise) × (body : List ℕ) × Fits wanted gained promise body × says promise body answer)
  pub counted : IsCounted wanted gained body
  pub failed : OnErr result (Rose old_faults new_faults ⊎ IsUnfit wanted gained old_ends new_ends)

-- what a read asks for: an object's length alone where there is no room for bytes
abbrev pub wanted_of : ℕ → ℕ → Wanted
wanted_of from count = if count == 0 then Length else Part from count

-- the reply itself
abbrev pub IsSame : Promise → List ℕ → Promise → Type 0
IsSame promise body answer = answer ≡ promise

-- and what it leaves of a buffer
abbrev pub IsPlaced : ℕ → List ℕ → List ℕ → Promise → List ℕ → Promise → Type 0
IsPlaced from old new promise body answer = (answer ≡ promise) × (new ≡ placed (bytes_said promise.kind from (length old) body) old)

-- the length that a reply says
abbrev pub IsSize : Promise → List ℕ → Option ℕ → Type 0
IsSize promise body size = size ≡ size_said promise.kind promise.len

-- the bytes that it says stand in a buffer, and so many are they
abbrev pub IsRead : ℕ → List ℕ → List ℕ → Promise → List ℕ → Got → Type 0
IsRead from old new promise body got =
    (got ≡ got_by (bytes_said promise.kind from (length old) body)) × (new ≡ placed (bytes_said promise.kind from (length old) body) old)
