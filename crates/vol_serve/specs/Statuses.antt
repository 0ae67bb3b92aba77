-- How `vol_serve` ends, and what stands then (this project's).
use Rattle.std.specs.Prelude.{◌≡◌, ◌<◌, ◌⊎◌, ℕ, Bool, true, false, Option, Some, IfSome}
use Rattle.vol_base.specs.Causes.{Rose}
use Rattle.vol_spec.specs.Types.{Bytes}
use Rattle.command_base.specs.declared.status.Status.{Status}
use Rattle.command_base.specs.declared.status.Status.TheVariants as status
use Rattle.hall.specs.declared.outcome.HallEnd.{HallEnd}
use Rattle.hall.specs.declared.outcome.HallEnd.TheVariants as ended
use Rattle.serve_cmd.specs.declared.refusal.ServeRefusal.{ServeRefusal}
use Rattle.serve_cmd.specs.declared.refusal.ServeRefusal.TheVariants as refused
use Rattle.vol_serve.specs.declared.status.HallStatus.{HallStatus}
use Rattle.vol_serve.specs.declared.status.HallStatus.TheVariants.{Ok, Usage, OutFault, NoMemory, DoorFault}

-- the status of commands with the same number and line
abbrev pub as_status : HallStatus → Status
as_status Ok = status.Ok
as_status Usage = status.Usage
as_status OutFault = status.OutFault
as_status NoMemory = status.NoMemory
as_status DoorFault = status.DoorFault

-- how it ends where the port couldn't be told
abbrev pub refused_by : ServeRefusal → HallStatus
refused_by refused.OutFault = OutFault
refused_by refused.NoMemory = NoMemory
refused_by refused.DoorFault = DoorFault

-- and where it was, by how serving ended
abbrev pub ended_by : HallEnd → HallStatus
ended_by ended.All = Ok
ended_by ended.DoorFault = DoorFault
ended_by ended.OutOfMemory = NoMemory

-- memory ran out, for the whole or amid some connection
abbrev pub lacks_memory : HallStatus → Bool
lacks_memory Ok = false
lacks_memory Usage = false
lacks_memory OutFault = false
lacks_memory NoMemory = true
lacks_memory DoorFault = false

-- how many of n ends were accepted, by how it ends, while the entrance's count of faults went from one number to another: all at success, none
-- where the output failed, fewer where an accept did; and where memory ran out all, or none, or fewer where an accept failed too
abbrev pub Accepted : HallStatus → ℕ → ℕ → ℕ → ℕ → Type 0
Accepted Ok n before now accepted = accepted ≡ n
Accepted Usage n before now accepted = ⊥
Accepted OutFault n before now accepted = accepted ≡ 0
Accepted NoMemory n before now accepted = (accepted ≡ n) ⊎ (accepted ≡ 0) ⊎ ((accepted < n) × Rose before now)
Accepted DoorFault n before now accepted = accepted < n

-- no end is given before the port is told: none where the output gained nothing
abbrev pub GivesLater : Option Bytes → Option Bytes → ℕ → ℕ → Type 0
GivesLater old new given given_now = IfSome old (λ bytes. new ≡ Some bytes → given_now ≡ given)
