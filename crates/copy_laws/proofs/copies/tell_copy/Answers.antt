use Rattle.copy_laws.proofs.CopyLaw.{copied_sound, copied_value}
use Rattle.copy_laws.proofs.CopySteps.{are_apart, put_apart, same_copied}
use Rattle.copy_laws.proofs.CopyValues.{copied_are_met, cut_is_copied, fault_found, jobs_sound}
use Rattle.copy_laws.proofs.copies.tell_copy.Goals as goal

pub returns-clause-values : goal.returns-clause-values
returns-clause-values c m h sound p ch inside l =
    copied_value m c.args.from_dataset.now c.args.to_dataset.now c.args.from.now c.args.to.now h.volume h.few h.writable h.empty p ch h.bytes sound inside l

pub returns-clause-sound : goal.returns-clause-sound
returns-clause-sound c m h cell is =
    copied_sound m c.args.from_dataset.now c.args.to_dataset.now c.args.from.now c.args.to.now h.volume h.few h.writable h.empty cell is

pub returns-clause-met : goal.returns-clause-met
returns-clause-met c m = copied_are_met m c.args.from_dataset.now c.args.from.now c.args.to.now

pub returns-clause-cut : goal.returns-clause-cut
returns-clause-cut c m same cell is none = cut_is_copied c.args.from.now c.args.to.now same m c.args.from_dataset.now cell is none

pub returns-clause-faults : goal.returns-clause-faults
returns-clause-faults c m same = (
  (λ none cell is. fault_found c.args.from.now c.args.to.now same m c.args.from_dataset.now none cell is),
  (λ sound. jobs_sound m c.args.from_dataset.now c.args.from.now c.args.to.now sound),
)

pub returns-clause-apart : goal.returns-clause-apart
returns-clause-apart c m none some = are_apart m c.args.from_dataset.now c.args.to_dataset.now c.args.from.now c.args.to.now none some

pub returns-clause-beside : goal.returns-clause-beside
returns-clause-beside c m apart cell bytes = put_apart c.args.from_dataset.now c.args.to_dataset.now c.args.from.now c.args.to.now m cell bytes apart

pub returns-clause-alike : goal.returns-clause-alike
returns-clause-alike c m n agree = same_copied c.args.from_dataset.now c.args.from.now c.args.to.now m n agree
