-- How a command ends (this project's).
use Rattle.std.specs.Prelude.{◌≡◌, ◌⊎◌, ℕ, ◌≤◌, Result, Ok, Err}
use Rattle.vol_base.specs.Causes.{Rose}
use Rattle.vol_spec.specs.Types.{Bytes}
use Rattle.command_base.specs.Outlets.{Finishes, Outlets, Silent, Tells}
use Rattle.command_base.specs.Statuses.{Reports}
use Rattle.command_base.specs.declared.status.Status.{Status}
use Rattle.command_base.specs.declared.status.Status.TheVariants as status

-- a refusal is told by the line that it has, and the command ends with its status; or there is no memory for the line
abbrev pub Refuses : {R : Type 0} → (R → Status) → (R → Bytes) → R → Status → Outlets → Type 0
Refuses ends told refusal ended o = Reports (ends refusal) (told refusal) ended (Tells o)

-- an answer is told: the line of what was done is printed, or a refusal is told and the output gains nothing
abbrev pub Ends : {A R : Type 0} → (A → Bytes) → (R → Status) → (R → Bytes) → Result A R → Status → Outlets →
    Type 0
Ends line ends told (Ok answer) ended o = Finishes ended (line answer) o
Ends line ends told (Err refusal) ended o = Silent o × Refuses ends told refusal ended o

-- no count of a store and two outlets falls, a fault comes only where its count rose, and at success no call of them failed
pub record IsCaused (ended : Status) (store store_now out out_now err err_now : ℕ) : Type 0 where
  pub store_later : store ≤ store_now
  pub out_later : out ≤ out_now
  pub err_later : err ≤ err_now
  pub store_fault : ended ≡ status.StoreFault → Rose store store_now
  pub out_fault : ended ≡ status.OutFault → Rose out out_now
  pub store_stands : ended ≡ status.Ok → store_now ≡ store
  pub out_stands : ended ≡ status.Ok → out_now ≡ out
  pub quiet : ended ≡ status.Ok → err_now ≡ err

-- it succeeds, or wants memory
abbrev pub EndsWell : Status → Type 0
EndsWell ended = (ended ≡ status.Ok) ⊎ (ended ≡ status.NoMemory)
