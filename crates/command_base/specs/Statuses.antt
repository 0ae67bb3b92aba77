-- The statuses of commands, their numbers, and what is told of them (this project's).
use Rattle.std.specs.Prelude.{◌≡◌, ◌⊎◌, ℕ, Bool, true, false, Option, Some, None}
use Rattle.vol_shell.specs.Lines.{door_line, feed_line, memory_line, output_line, store_line, usage_line}
use Rattle.vol_spec.specs.Types.{Bytes}
use Rattle.command_base.specs.declared.status.Status.{Status}
use Rattle.command_base.specs.declared.status.Status.TheVariants.{Ok, Usage, InfoRefused, RequestRefused, Damaged, StoreFault, FeedFault, OutFault, NoMemory, DoorFault}

-- the number that the process ends with
abbrev pub number_of : Status → ℕ
number_of Ok = 0
number_of Usage = 1
number_of InfoRefused = 2
number_of RequestRefused = 3
number_of Damaged = 4
number_of StoreFault = 5
number_of FeedFault = 6
number_of OutFault = 7
number_of NoMemory = 8
number_of DoorFault = 9

-- the line of a status that always has the same one
abbrev pub fixed_line : Status → Option Bytes
fixed_line Ok = None
fixed_line Usage = Some usage_line
fixed_line InfoRefused = None
fixed_line RequestRefused = None
fixed_line Damaged = None
fixed_line StoreFault = Some store_line
fixed_line FeedFault = Some feed_line
fixed_line OutFault = Some output_line
fixed_line NoMemory = Some memory_line
fixed_line DoorFault = Some door_line

-- a refusal of this status and line is told, and the command ends with the status; or there is no memory for the line, which is told then
abbrev pub Reports : Status → Bytes → Status → (Bytes → Type 0) → Type 0
Reports wanted line status Tells = ((status ≡ wanted) × Tells line) ⊎
    ((status ≡ NoMemory) × (fixed_line wanted ≡ None) × Tells memory_line)

-- the statuses after which a writing command may have put some object
abbrev pub puts : Status → Bool
puts Ok = true
puts Damaged = true
puts StoreFault = true
puts OutFault = true
puts NoMemory = true
puts other = false

-- the statuses after which a command that prints a line of what was done may have called its output
abbrev pub prints : Status → Bool
prints Ok = true
prints OutFault = true
prints other = false

-- the statuses of a request that is refused by the info document, or by the words with it
abbrev pub refuses : Status → Bool
refuses InfoRefused = true
refuses RequestRefused = true
refuses other = false
