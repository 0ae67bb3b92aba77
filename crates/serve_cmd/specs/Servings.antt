-- What `serve` answers, and what stands after it (this project's profile).
use Rattle.std.specs.Prelude.{◌≡◌, ◌≢◌, ◌⊎◌, ℕ, ◌+◌, ◌-◌, ◌<◌, ◌≤◌, List, ◌++◌, length, take, Option, Some, None, Result, Ok as Done, Err, ⊤, IfSome, IsSomeAnd}
use Rattle.vol_base.specs.Causes.{most_count}
use Rattle.vol_base.specs.Outside.{Objects}
use Rattle.range_server.specs.Serving.{AtMostBroken, EndsCutShort, EndsServed}
use Rattle.vol_base.specs.Gains.{Gains, GainsFront}
use Rattle.serve_cmd.specs.Lines.{listening_line}
use Rattle.vol_spec.specs.Types.{Bytes, Name}
use Rattle.command_base.specs.Outlets.{Outlets, Tells}
use Rattle.command_base.specs.Statuses.{fixed_line}
use Rattle.serve_cmd.specs.declared.refusal.ServeRefusal.{ServeRefusal}
use Rattle.serve_cmd.specs.declared.refusal.ServeRefusal.TheVariants as refused
use Rattle.command_base.specs.declared.status.Status.{Status}
use Rattle.command_base.specs.declared.status.Status.TheVariants.{Ok, OutFault, NoMemory, DoorFault}

-- the ends that a door closed: of each its stream, what was sent, and its count of faults
abbrev pub Ends : Type 0
Ends = List (Bytes × Bytes × ℕ)

-- a door: the port that was bound, how many ends it gave, and those that were closed
pub record Doorway : Type 0 where
  pub bound : Option ℕ
  pub accepted : ℕ
  pub served : Option Ends

-- the same by what a door tells
abbrev pub doorway : {D : Type 0} → (D → Option ℕ) → (D → ℕ) → (D → Option Ends) → D → Doorway
doorway bound accepted served d = record { bound = bound d; accepted = accepted d; served = served d }

-- the status of a refusal
abbrev pub serve_status : ServeRefusal → Status
serve_status refused.OutFault = OutFault
serve_status refused.NoMemory = NoMemory
serve_status refused.DoorFault = DoorFault

-- the status that serving ends with
abbrev pub status_of : Result ⊤ ServeRefusal → Status
status_of (Done done) = Ok
status_of (Err refusal) = serve_status refusal

-- the output gained the line with the port that the door is bound to
abbrev pub TellsPort : Option ℕ → Option Bytes → Option Bytes → Type 0
TellsPort bound old new = IsSomeAnd bound (λ port. Gains old new (listening_line port))

-- the same, or a front of it
abbrev pub TellsPortFront : Option ℕ → Option Bytes → Option Bytes → Type 0
TellsPortFront bound old new = IsSomeAnd bound (λ port. GainsFront old new (listening_line port))

-- what opening a door answers: the port is told before any end is given
abbrev pub Announces : Result ⊤ ServeRefusal → Option ℕ → Option Bytes → Option Bytes → Type 0
Announces (Done done) bound old new = TellsPort bound old new
Announces (Err refused.OutFault) bound old new = TellsPortFront bound old new
Announces (Err refused.NoMemory) bound old new = new ≡ old
Announces (Err refused.DoorFault) bound old new = (bound ≡ None) × (new ≡ old)

-- what the output gained, by the status: nothing where the door can't be bound
abbrev pub PortTold : Status → Option ℕ → Option Bytes → Option Bytes → Type 0
PortTold Ok bound old new = TellsPort bound old new
PortTold OutFault bound old new = TellsPortFront bound old new
PortTold NoMemory bound old new = (new ≡ old) ⊎ TellsPort bound old new
PortTold DoorFault bound old new = ((bound ≡ None) × (new ≡ old)) ⊎ TellsPort bound old new
PortTold other bound old new = ⊥

-- how many ends the door gave: all that were asked for at success, fewer where it failed, none where the output did
abbrev pub GivesEnds : Status → ℕ → ℕ → Type 0
GivesEnds Ok wanted given = given ≡ wanted
GivesEnds OutFault wanted given = given ≡ 0
GivesEnds NoMemory wanted given = given ≤ wanted
GivesEnds DoorFault wanted given = given < wanted
GivesEnds other wanted given = ⊥

abbrev pub AcceptsEnds : Status → ℕ → Doorway → Doorway → Type 0
AcceptsEnds status wanted before after = (given : ℕ) × (after.accepted ≡ before.accepted + given) ×
    GivesEnds status wanted given

-- no end is given before the port is told: none where the output gained nothing
abbrev pub TellsFirst : Option Bytes → Option Bytes → Doorway → Doorway → Type 0
TellsFirst old new before after = IfSome old (λ bytes. new ≡ Some bytes → after.accepted ≡ before.accepted)

-- how ends were served, while the store's count of faults went from one number to another: to the end, or until the link or the store
-- failed; where memory ran out, perhaps amid the last of them
abbrev pub AreServed : Status → Objects → Name → ℕ → ℕ → Ends → Type 0
AreServed NoMemory m dataset from to ends = EndsServed m dataset from to ends ⊎
    EndsCutShort m dataset from to ends
AreServed other m dataset from to ends = EndsServed m dataset from to ends

-- of the ends whose link didn't fail no more are not whole than that count rose by; or it stands at its end
abbrev pub FewBroken : Objects → Name → ℕ → ℕ → Ends → Type 0
FewBroken m dataset from to ends = (most_count ≤ to) ⊎ AtMostBroken m dataset ends (to - from)

-- the same by the status: where memory ran out, of all ends but the last
abbrev pub BreaksFew : Status → Objects → Name → ℕ → ℕ → Ends → Type 0
BreaksFew NoMemory m dataset from to ends = FewBroken m dataset from to (take (length ends - 1) ends)
BreaksFew other m dataset from to ends = FewBroken m dataset from to ends

-- the ends that the door noted were served so, and few of them are broken
abbrev pub ServeShows : Status → Objects → Name → Doorway → Doorway → ℕ → ℕ → Type 0
ServeShows status m dataset before after from to =
    IfSome before.served (λ list. (ends : Ends) × (after.served ≡ Some (list ++ ends)) ×
    AreServed status m dataset from to ends × BreaksFew status m dataset from to ends)

-- the door noted as many ends as it gave, whatever the store tells
abbrev pub NotesEnds : Doorway → Doorway → Type 0
NotesEnds before after =
    IfSome before.served (λ list. (ends : Ends) × (after.served ≡ Some (list ++ ends)) ×
    (after.accepted ≡ before.accepted + length ends))

-- the error output gained the line that a status always has, and nothing where it has none
abbrev pub SaysFixed : Option Bytes → Outlets → Type 0
SaysFixed None o = o.err_new ≡ o.err_old
SaysFixed (Some line) o = Tells o line

-- a door that is bound is bound to the port that was asked for, or to any where that was 0
abbrev pub IsBoundTo : ℕ → Option ℕ → Type 0
IsBoundTo port = λ bound. IfSome bound (λ found. port ≢ 0 → found ≡ port)

-- what `serve` leaves, also where nothing is told
abbrev pub ServeLeaves : Status → ℕ → Option ℕ → Outlets → Type 0
ServeLeaves status port bound o = IsBoundTo port bound × PortTold status bound o.out_old o.out_new ×
    SaysFixed (fixed_line status) o
