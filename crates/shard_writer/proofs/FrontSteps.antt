-- Moments at which a front of some objects was put in.
use Rattle.std.proofs.Common.{◌≡◌, ◌∙◌, ℕ, ◌-◌, ◌≤◌, List, ◌++◌, length, Option, Some, None, IfSome, Result, Ok, Err, refl, ap, sym, subst, arith}
use Rattle.std.proofs.Math.Seq.{take-length}
use Rattle.vol_base.specs.Outside.{Objects, Turns}
use Rattle.vol_base.specs.declared.outside.StoreRefusal.{StoreRefusal}
use Rattle.vol_base.specs.declared.outside.StoreRefusal.TheVariants.{Failed}
use Rattle.vol_base.proofs.Moments.{passes_weaker, turns_pass}
use Rattle.vol_spec.specs.CellNames.{cell_name}
use Rattle.vol_spec.specs.StoredCells.{cell_of, put_in}
use Rattle.vol_spec.specs.StoredLists.{AreJobs}
use Rattle.vol_spec.specs.Types.{Bytes, Listed, Name}
use Rattle.vol_spec.specs.declared.scale.Scale.{Scale}
use Rattle.vol_spec.proofs.Told.{from_told, in_told}
use Rattle.write_plan.specs.Jobs.{AreReady, KeepsOthers, Work}
use Rattle.shard_writer.specs.Plain.{ready_objects, stored_from}
use Rattle.shard_writer.specs.Writing.{PutsFront}
use Rattle.shard_writer.specs.Works.{PassesFronts, Puts, job_objects, stored_by}
use Rattle.shard_writer.specs.declared.written.WriteFault.{WriteFault}
use Rattle.shard_writer.specs.declared.written.WriteFault.TheVariants.{StoreFault}
use Rattle.shard_writer.proofs.ListedSteps.{all_front}
use Rattle.shard_writer.proofs.PutSteps.{none_put, puts_ok}
use Rattle.shard_writer.proofs.RoundPuts.{ready_stopped}
use Rattle.shard_writer.proofs.WindowSteps.{keeps_of, keeps_stored, window_puts, window_stopped}

-- all of them, or a front
puts_front : {E : Type 0} (list : Listed) (o new : Option Objects) (r : Result ℕ E) → Puts {E = E} list o new r → IfSome o (λ m. PutsFront list m new)
puts_front list None new r puts = tt
puts_front list (Some m) new (Ok len) puts = record { count = length list; within = omega arith; put = puts.put ∙ ap (λ xs. Some (put_in m xs)) (sym (take-length list)) }
puts_front list (Some m) new (Err e) puts = puts.front

-- at one moment
pub puts_passed : {E : Type 0} (list : Listed) (o new : Option Objects) (was now : List Objects) (r : Result ℕ E) → Puts {E = E} list o new r → Turns o new was now → PassesFronts (λ m. list) o was now
puts_passed list o new was now r puts turns =
    turns_pass (λ x. IfSome o (λ m. PutsFront list m (Some x))) o new was now
    (λ x is. subst (λ y. IfSome o (λ m. PutsFront list m y)) is (none_put o o (λ m. list) refl))
    (λ x is. subst (λ y. IfSome o (λ m. PutsFront list m y)) is (puts_front list o new r puts)) turns

-- fronts of some jobs' objects, behind those of others, are fronts of all
pub ready_passed : {E : Type 0} (dataset : Name) (s : Scale) (work : Work) (ready : ℕ → Option Bytes) (a b c to : ℕ) (o here : Option Objects) (bytes : ℕ) (was now : List Objects) → a ≤ b → b ≤ c → c ≤ to
    → Puts {E = E} (ready_objects dataset s work ready a b) o here (Ok bytes) → PassesFronts (λ m. ready_objects dataset s work ready b c) here was now
    → PassesFronts (λ m. ready_objects dataset s work ready a to) o was now
ready_passed dataset s work ready a b c to o here bytes was now low high few puts =
    passes_weaker (λ x. IfSome here (λ m. PutsFront (ready_objects dataset s work ready b c) m (Some x))) (λ x. IfSome o (λ m. PutsFront (ready_objects dataset s work ready a to) m (Some x)))
    (λ x h.
    (ready_stopped {E = StoreRefusal} dataset s work ready a b c to o here (Some x) bytes Failed (Err Failed) refl low high few (puts_ok (ready_objects dataset s work ready a b) o here bytes puts)
    (record { put = tt; bytes = tt; front = h })).front) was now

-- of jobs that were prepared over these objects
pub window_passed : (o here : Option Objects) (dataset : Name) (s : Scale) (work : Work) (ready : ℕ → Option Bytes) (from to : ℕ) (was now : List Objects) → from ≤ to → here ≡ o → IfSome o (λ m. AreReady ready (work.raw m) from to)
    → PassesFronts (λ m. ready_objects dataset s work ready from to) here was now → PassesFronts (λ m. stored_from dataset s work m from (to - from)) o was now
window_passed o here dataset s work ready from to was now order same is =
    passes_weaker (λ x. IfSome here (λ m. PutsFront (ready_objects dataset s work ready from to) m (Some x))) (λ x. IfSome o (λ m. PutsFront (stored_from dataset s work m from (to - from)) m (Some x)))
    (λ x h.
    in_told o (λ m. PutsFront (stored_from dataset s work m from (to - from)) m (Some x))
    (λ m told.
    (from_told o (λ m. Puts {E = StoreRefusal} (stored_from dataset s work m from (to - from)) (Some m) (Some x) (Err Failed)) m told
    (window_puts {E = StoreRefusal} o here (Some x) dataset s work ready from to (Err Failed) order same is (record { put = tt; bytes = tt; front = h }))).front)) was now

-- of a window, behind those before it
pub part_passed : (o here : Option Objects) (dataset : Name) (s : Scale) (work seen : Work) (count from to bytes : ℕ) (was now : List Objects)
    → seen ≡ work → from ≤ to → to ≤ count → work.scale ≡ s → s.sharding ≡ None → AreJobs work.scale work.cells → count ≡ length work.cells
    → ((m : Objects) → o ≡ Some m → KeepsOthers dataset s work)
    → ((m : Objects) → o ≡ Some m → Puts {E = WriteFault} (stored_from dataset s work m 0 from) (Some m) here (Ok bytes))
    → PassesFronts (λ m. stored_from dataset s seen m from (to - from)) here was now → PassesFronts (λ m. stored_from dataset s work m 0 count) o was now
part_passed o here dataset s work seen count from to bytes was now same low high scale unsharded jobs all kept puts =
    passes_weaker (λ x. IfSome here (λ n. PutsFront (stored_from dataset s seen n from (to - from)) n (Some x))) (λ x. IfSome o (λ m. PutsFront (stored_from dataset s work m 0 count) m (Some x)))
    (λ x h.
    in_told o (λ m. PutsFront (stored_from dataset s work m 0 count) m (Some x))
    (λ m told.
    (window_stopped {E = WriteFault} m here (Some x) dataset s work seen count from to bytes StoreFault (Err StoreFault) refl same low high
    (keeps_stored work (λ i. cell_name dataset s (cell_of work.cells i)) count (keeps_of work.raw dataset work.scale s work.cells count scale unsharded jobs all (kept m told).raws)) (puts m told)
    (in_told here (λ n. Puts {E = WriteFault} (stored_from dataset s seen n from (to - from)) (Some n) (Some x) (Err StoreFault))
    (λ n is. record { put = tt; bytes = tt; front = from_told here (λ n. PutsFront (stored_from dataset s seen n from (to - from)) n (Some x)) n is h }))).front)) was now

-- of all jobs of an unsharded scale
pub plain_passed : (o : Option Objects) (dataset : Name) (work : Work) (s : Scale) (count : ℕ) (was now : List Objects) → work.scale ≡ s → s.sharding ≡ None → count ≡ length work.cells
    → PassesFronts (λ m. stored_from dataset s work m 0 count) o was now → PassesFronts (job_objects dataset work) o was now
plain_passed o dataset work s count was now same unsharded all =
    passes_weaker (λ x. IfSome o (λ m. PutsFront (stored_from dataset s work m 0 count) m (Some x))) (λ x. IfSome o (λ m. PutsFront (job_objects dataset work m) m (Some x)))
    (λ x h. all_front o (Some x) dataset work s count same unsharded all h) was now

-- behind a call that only read
pub passed_behind : (list : Objects → Listed) (o here : Option Objects) (was before now : List Objects) → here ≡ o → before ≡ was → PassesFronts list here before now → PassesFronts list o was now
passed_behind list o here was before now same unturned passed =
    subst (λ h. PassesFronts list o h now) unturned (subst (λ x. PassesFronts list x before now) same passed)

-- in other words
pub passed_as : (list other : Objects → Listed) (o : Option Objects) (was now : List Objects) → IfSome o (λ m. list m ≡ other m) → PassesFronts list o was now → PassesFronts other o was now
passed_as list other o was now same =
    passes_weaker (λ x. IfSome o (λ m. PutsFront (list m) m (Some x))) (λ x. IfSome o (λ m. PutsFront (other m) m (Some x)))
    (λ x h.
    in_told o (λ m. PutsFront (other m) m (Some x))
    (λ m told. subst (λ xs. PutsFront xs m (Some x)) (from_told o (λ m. list m ≡ other m) m told same) (from_told o (λ m. PutsFront (list m) m (Some x)) m told h))) was now
