-- What a command leaves of its two outlets (this project's).
use Rattle.std.specs.Prelude.{◌≡◌, ℕ, Option}
use Rattle.vol_base.specs.Gains.{Gains, GainsFront}
use Rattle.vol_base.specs.declared.faults.Fault.{Fault}
use Rattle.vol_shell.specs.Effects.{Says}
use Rattle.vol_shell.specs.Lines.{memory_line, output_line}
use Rattle.command_base.specs.Lines.{damaged_line, info_line}
use Rattle.vol_spec.specs.Types.{Bytes, Cell, Name}
use Rattle.command_base.specs.Refusals.{info_text}
use Rattle.command_base.specs.declared.refusal.NoScale.{NoScale}
use Rattle.command_base.specs.declared.status.Status.{Status}
use Rattle.command_base.specs.declared.status.Status.TheVariants.{Ok, NoMemory, OutFault}

-- the outlets of a call: what was written before and after it, and the error outlet's counts of faults
pub record Outlets : Type 0 where
  pub out_old : Option Bytes
  pub out_new : Option Bytes
  pub err_old : Option Bytes
  pub err_new : Option Bytes
  pub err_before : ℕ
  pub err_now : ℕ

-- the error outlet gained a line, or a front of it where it failed
abbrev pub Tells : Outlets → Bytes → Type 0
Tells o line = Says o.err_old o.err_new o.err_before o.err_now line

-- the output gained nothing
abbrev pub Silent : Outlets → Type 0
Silent o = o.out_new ≡ o.out_old

-- the same by what the two outlets tell
abbrev pub outlets_of : {O E : Type 0} → (O → Option Bytes) → (O → ℕ) → (E → Option Bytes) → (E → ℕ) → O → O →
    E → E → Outlets
outlets_of out out_faults err err_faults o p e f = record {
  out_old = out o;
  out_new = out p;
  err_old = err e;
  err_new = err f;
  err_before = err_faults e;
  err_now = err_faults f;
}

-- a line is printed, and the command succeeds; or the output failed, gained a front of it, and that is told; or there was no memory
-- for the line, and that is told
abbrev pub Finishes : Status → Bytes → Outlets → Type 0
Finishes Ok line o = (o.err_new ≡ o.err_old) × Gains o.out_old o.out_new line
Finishes OutFault line o = Tells o output_line × GainsFront o.out_old o.out_new line
Finishes NoMemory line o = Tells o memory_line × Silent o
Finishes other line o = ⊥

-- the line of a data set that has no scale of the key, for some reason
abbrev pub TellsNoScale : Outlets → Name → Type 0
TellsNoScale o dataset = (why : NoScale) × Tells o (info_line dataset (info_text why))

-- the line of some cell that has some fault
abbrev pub TellsDamage : Outlets → Type 0
TellsDamage o = (cell : Cell) × (fault : Fault) × Tells o (damaged_line cell fault)
