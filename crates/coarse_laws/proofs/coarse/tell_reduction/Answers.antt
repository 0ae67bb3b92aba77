use Rattle.coarse_laws.proofs.CoarseLaw.{fault_found, jobs_sound, read_is_reduced, reduced_apart, reduced_sound, reduced_value, same_cells, source_stays}
use Rattle.coarse_laws.proofs.ReadSteps.{reads_reduced}
use Rattle.coarse_laws.proofs.LiesSteps.{lies_over}
use Rattle.coarse_laws.proofs.coarse.tell_reduction.Goals as goal

pub returns-clause-values : goal.returns-clause-values
returns-clause-values c m h p ch inside l = reduced_value c.args.method m c.args.dataset.now c.args.from.now c.args.to.now h.next c.args.dataset.now h.few h.writable h.empty p ch h.bytes inside l

pub returns-clause-sound : goal.returns-clause-sound
returns-clause-sound c m h cell is = reduced_sound c.args.method m c.args.dataset.now c.args.from.now c.args.to.now h.next c.args.dataset.now h.few h.writable h.empty cell is

pub returns-clause-source : goal.returns-clause-source
returns-clause-source c m h cell = source_stays c.args.method m c.args.dataset.now c.args.dataset.now c.args.from.now c.args.to.now h.empty cell

pub returns-clause-cut : goal.returns-clause-cut
returns-clause-cut c m have next cell raw out is sound read bytes len values =
    read_is_reduced c.args.method m c.args.dataset.now c.args.from.now c.args.to.now next cell raw out have is sound read bytes len values

pub returns-clause-faults : goal.returns-clause-faults
returns-clause-faults c m next = (
  (λ none cell is. fault_found c.args.method m c.args.dataset.now c.args.from.now c.args.to.now next none cell is),
  (λ sound. jobs_sound c.args.method m c.args.dataset.now c.args.from.now c.args.to.now next sound),
)

pub returns-clause-apart : goal.returns-clause-apart
returns-clause-apart c m none some = reduced_apart m c.args.dataset.now c.args.dataset.now c.args.from.now c.args.to.now none some

pub returns-clause-alike : goal.returns-clause-alike
returns-clause-alike c m n agree = same_cells c.args.dataset.now c.args.from.now c.args.to.now m n agree

pub returns-clause-over : goal.returns-clause-over
returns-clause-over c m next cell is = lies_over m c.args.dataset.now c.args.from.now c.args.to.now next c.args.method cell is

pub returns-clause-back : goal.returns-clause-back
returns-clause-back c = λ m can b inside.
    reads_reduced c.args.method m c.args.dataset.now c.args.from.now c.args.to.now can.next can.few can.writable can.empty
    (λ p ch covered l. reduced_value c.args.method m c.args.dataset.now c.args.from.now c.args.to.now can.next c.args.dataset.now can.few can.writable can.empty p ch can.bytes covered l) b inside
