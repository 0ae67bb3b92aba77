-- Where there is no memory for the words themselves, each command says what it says at that status.
use Rattle.std.proofs.Common.{◌≡◌, ◌∙◌, ◌≤◌, ◌+◌, ◌^◌, ℕ, List, [], Option, Some, None, Err, ap, refl, subst, sym, inl, inr, arith}
use Rattle.command_line.specs.declared.commands.Command.{Command}
use Rattle.command_line.specs.declared.commands.Command.TheVariants.{Cutout, Downsample, Generate, Reshard, Serve, Update, Verify, Write}
use Rattle.vol_base.proofs.Moments.{passes_none}
use Rattle.vol_base.specs.Outside.{Objects}
use Rattle.vol_shell.specs.Lines.{memory_line}
use Rattle.vol_spec.proofs.Told.{in_told}
use Rattle.vol_spec.specs.Types.{Bytes}
use Rattle.command_base.proofs.Choices.{nothing_behind}
use Rattle.command_base.specs.Outlets.{Tells}
use Rattle.command_base.specs.Scales.{stored_scale}
use Rattle.command_base.specs.declared.status.Status.TheVariants.{NoMemory}
use Rattle.cutout_cmd.proofs.AskSteps.{asks_none}
use Rattle.cutout_cmd.proofs.CutoutSteps.{memory_ends}
use Rattle.cutout_cmd.specs.Cutouts.{cells_cost}
use Rattle.downsample_cmd.proofs.DownsampleSteps.{memory_right as memory_reduces}
use Rattle.generate_cmd.proofs.DrawnSteps.{memory_right as memory_generates}
use Rattle.generate_cmd.specs.declared.refusal.GenerateRefusal.TheVariants as generate
use Rattle.make_scale.proofs.StoredSteps.{draft_kept}
use Rattle.make_scale.specs.declared.fault.MakeFault.TheVariants.{OutOfMemory as MakeMemory}
use Rattle.make_scale.specs.declared.refusal.MakeRefusal.TheVariants.{Unmade}
use Rattle.reshard_cmd.proofs.ReshardSteps.{memory_right as memory_copies}
use Rattle.serve_cmd.specs.Servings.{IsBoundTo}
use Rattle.update_cmd.proofs.AnswerSteps.{drops_unread, memory_right as memory_updates}
use Rattle.update_cmd.specs.declared.refusal.UpdateRefusal.TheVariants as update
use Rattle.verify_cmd.proofs.VerifySteps.{memory_right as memory_verifies}
use Rattle.verify_cmd.specs.Verified.{judgement_cost}
use Rattle.verify_cmd.specs.declared.refusal.VerifyRefusal.TheVariants as verify
use Rattle.write_cmd.proofs.MomentSteps.{none_passed}
use Rattle.write_cmd.proofs.WriteSteps.{memory_right as memory_writes, takes_none}
use Rattle.write_cmd.specs.declared.refusal.WriteRefusal.TheVariants as write
use Rattle.vol_tool.specs.Runs.{Answers, AreCaused, Causes, Headline, Keeps, Killed, Succeeds}
use Rattle.vol_tool.specs.Seen.{Faults, LeavesStore, outlets, Seen}

-- only the error outlet changed
abbrev pub said_only : Seen → Option Bytes → ℕ → Seen
said_only before err count = record before { err = err; faults = record before.faults { err = count } }

pub memory_answers : (command : Option Command) (before : Seen) (err : Option Bytes) (count : ℕ) → before.door.bound ≡ None → Tells (outlets before (said_only before err count)) memory_line → Answers command NoMemory before (said_only before err count)
memory_answers None before err count unbound said = (refl, said)
memory_answers (Some (Cutout dataset key part)) before err count unbound said = memory_ends before.objects dataset key part (outlets before (said_only before err count)) refl said
memory_answers (Some (Write dataset key workers)) before err count unbound said = (Err write.NoMemory, memory_writes before.objects before.left dataset key, (refl, inl (refl, said)))
memory_answers (Some (Update dataset key workers)) before err count unbound said = (Err update.NoMemory, memory_updates before.objects before.draft before.left dataset key, (refl, inl (refl, said)))
memory_answers (Some (Generate dataset key number writes workers)) before err count unbound said =
    (Err (generate.Write write.NoMemory), memory_generates before.objects number writes dataset key, (refl, inl (refl, said)))
memory_answers (Some (Verify dataset key part)) before err count unbound said = (Err verify.NoMemory, memory_verifies before.objects dataset key part, (refl, inl (refl, said)))
memory_answers (Some (Reshard dataset key to_dataset to_key workers)) before err count unbound said =
    (Err (Unmade MakeMemory), memory_copies before.objects before.objects dataset key to_dataset to_key refl, (refl, inl (refl, said)))
memory_answers (Some (Downsample dataset key to_key method workers)) before err count unbound said =
    (Err (Unmade MakeMemory), memory_reduces before.objects before.objects method dataset key to_key refl, (refl, inl (refl, said)))
memory_answers (Some (Serve dataset port connections)) before err count unbound said = (
  (subst (IsBoundTo port) (sym unbound) tt, inl refl, said),
  in_told before.door.served _ (λ list noted. ([], noted ∙ ap Some (sym (nothing_behind list)), omega arith)),
  in_told before.objects _ (λ m told. in_told before.door.served _ (λ list noted. ([], noted ∙ ap Some (sym (nothing_behind list)), inl (omega arith), inr tt))),
)

pub memory_succeeds : (command : Option Command) (before : Seen) (err : Option Bytes) (count : ℕ) → Succeeds command NoMemory before (said_only before err count)
memory_succeeds None before err count = tt
memory_succeeds (Some (Cutout dataset key part)) before err count = in_told before.objects _ (λ m told can store out. inr refl)
memory_succeeds (Some (Write dataset key workers)) before err count = in_told before.objects _ (λ m told. in_told before.left _ (λ bytes fed can store feed out. inr refl))
memory_succeeds (Some (Update dataset key workers)) before err count = in_told before.objects _ (λ m told. in_told before.left _ (λ bytes fed can store feed out. inr refl))
memory_succeeds (Some (Generate dataset key number writes workers)) before err count = in_told before.objects _ (λ m told can store out. inr refl)
memory_succeeds (Some (Verify dataset key part)) before err count = in_told before.objects _ (λ m told can store out. inr refl)
memory_succeeds (Some (Reshard dataset key to_dataset to_key workers)) before err count = in_told before.objects _ (λ m told can store out. inr refl)
memory_succeeds (Some (Downsample dataset key to_key method workers)) before err count = in_told before.objects _ (λ m told can store out. inr refl)
memory_succeeds (Some (Serve dataset port connections)) before err count = λ door out. inr refl

pub memory_headline : (command : Option Command) (before : Seen) (err : Option Bytes) (count : ℕ) → Headline command NoMemory before (said_only before err count)
memory_headline None before err count = tt
memory_headline (Some (Cutout dataset key part)) before err count = tt
memory_headline (Some (Write dataset key workers)) before err count = λ done. absurd (cc done)
memory_headline (Some (Update dataset key workers)) before err count = λ done. absurd (cc done)
memory_headline (Some (Generate dataset key number writes workers)) before err count = λ done. absurd (cc done)
memory_headline (Some (Verify dataset key part)) before err count = tt
memory_headline (Some (Reshard dataset key to_dataset to_key workers)) before err count = λ done. absurd (cc done)
memory_headline (Some (Downsample dataset key to_key method workers)) before err count = λ done. absurd (cc done)
memory_headline (Some (Serve dataset port connections)) before err count = tt

pub memory_killed : (command : Option Command) (before : Seen) (history : List Objects) → Killed command before history history
memory_killed None before history = refl
memory_killed (Some (Cutout dataset key part)) before history = refl
memory_killed (Some (Write dataset key workers)) before history = none_passed before.left _ history history refl
memory_killed (Some (Update dataset key workers)) before history = none_passed before.left _ history history refl
memory_killed (Some (Generate dataset key number writes workers)) before history = passes_none _ history history refl
memory_killed (Some (Verify dataset key part)) before history = refl
memory_killed (Some (Reshard dataset key to_dataset to_key workers)) before history = passes_none _ history history refl
memory_killed (Some (Downsample dataset key to_key method workers)) before history = passes_none _ history history refl
memory_killed (Some (Serve dataset port connections)) before history = refl

reads : (before : Seen) (err : Option Bytes) (count : ℕ) → LeavesStore before (said_only before err count)
reads before err count = record { same_objects = refl; same_draft = refl }

pub memory_keeps : (command : Option Command) (uncalled : Type 0) (before : Seen) (err : Option Bytes) (count : ℕ) → uncalled → Keeps command NoMemory uncalled before (said_only before err count)
memory_keeps None uncalled before err count same = (reads before err count, refl, refl, same)
memory_keeps (Some (Cutout dataset key part)) uncalled before err count same =
    (reads before err count, refl, refl, asks_none before.objects (λ m. 2 ^ 20 + 1 + cells_cost (stored_scale m dataset key) m dataset part) before.asked, λ is. cc is, λ is. cc is)
memory_keeps (Some (Write dataset key workers)) uncalled before err count same = (inr refl, λ no. reads before err count, λ done. absurd (cc done), λ refused. refl, takes_none before.left, refl, λ no. same)
memory_keeps (Some (Update dataset key workers)) uncalled before err count same =
    (λ done. absurd (cc done), λ out. absurd (cc out), drops_unread before.objects dataset key before.draft before.draft refl, inl (inr refl), λ no. reads before err count, λ done. absurd (cc done), λ refused. refl, takes_none before.left, refl, λ no. same)
memory_keeps (Some (Generate dataset key number writes workers)) uncalled before err count same = (inr refl, λ no. reads before err count, refl, refl, λ no. same)
memory_keeps (Some (Verify dataset key part)) uncalled before err count same =
    (reads before err count, refl, refl, asks_none before.objects (λ m. 2 ^ 20 + 1 + judgement_cost (stored_scale m dataset key) m dataset part) before.asked, λ is. cc is, λ no. same)
memory_keeps (Some (Reshard dataset key to_dataset to_key workers)) uncalled before err count same =
    (λ done. absurd (cc done), λ out. absurd (cc out), in_told before.objects _ (λ m told. draft_kept (stored_scale m to_dataset to_key) before.draft before.draft refl), inl (inr refl), λ no. reads before err count, refl, refl, λ no. same)
memory_keeps (Some (Downsample dataset key to_key method workers)) uncalled before err count same =
    (λ done. absurd (cc done), λ out. absurd (cc out), in_told before.objects _ (λ m told. draft_kept (stored_scale m dataset to_key) before.draft before.draft refl), inl (inr refl), λ no. reads before err count, refl, refl, λ no. same)
memory_keeps (Some (Serve dataset port connections)) uncalled before err count same = (reads before err count, refl, (0, omega arith, omega arith), in_told before.out _ (λ bytes gained is. refl), λ none. same)

caused : (before : Faults) (count : ℕ) → before.err ≤ count → AreCaused NoMemory before (record before { err = count })
caused before count later = record {
  later = record { store = omega arith; feed = omega arith; out = omega arith; err = later; door = omega arith };
  store = λ e. absurd (cc e);
  feed = λ e. absurd (cc e);
  out = λ e. absurd (cc e);
  door = λ e. absurd (cc e);
  feed_stands = λ e. absurd (cc e);
  out_stands = λ e. absurd (cc e);
  door_stands = λ e. absurd (cc e);
  quiet = λ e. absurd (cc e);
}

pub memory_causes : (command : Option Command) (before : Faults) (count : ℕ) → before.err ≤ count → Causes command NoMemory before (record before { err = count })
memory_causes None before count later = (caused before count later, refl, refl, refl, refl)
memory_causes (Some (Cutout dataset key part)) before count later = (caused before count later, λ e. absurd (cc e), refl, refl)
memory_causes (Some (Write dataset key workers)) before count later = (caused before count later, λ e. absurd (cc e), refl)
memory_causes (Some (Update dataset key workers)) before count later = (caused before count later, λ e. absurd (cc e), refl)
memory_causes (Some (Generate dataset key number writes workers)) before count later = (caused before count later, λ e. absurd (cc e), refl, refl)
memory_causes (Some (Verify dataset key part)) before count later = (caused before count later, λ e. absurd (cc e), refl, refl)
memory_causes (Some (Reshard dataset key to_dataset to_key workers)) before count later = (caused before count later, λ e. absurd (cc e), refl, refl)
memory_causes (Some (Downsample dataset key to_key method workers)) before count later = (caused before count later, λ e. absurd (cc e), refl, refl)
memory_causes (Some (Serve dataset port connections)) before count later = (caused before count later, refl)
