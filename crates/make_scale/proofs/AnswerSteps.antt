-- What making a scale of another one answers, from what its parts answer.
use Rattle.std.proofs.Common.{◌≡◌, ◌⊎◌, ℕ, ◌≤◌, ◌^◌, Bool, Option, Some, None, IfSome, Result, Ok, Err, true, false, nat_lt, refl, sym, subst, inl, inr, arith}
use Rattle.std.specs.Prelude.{IfOk, OnErr, OnOk, ⊤, length, if◌then◌else◌}
use Rattle.std.proofs.lemmas.Bool.Decides.{nat_tests}
use Rattle.vol_base.specs.Outside.{Draft, Objects, OnlyReads, any_under}
use Rattle.vol_base.specs.declared.outside.StoreRefusal.{StoreRefusal}
use Rattle.vol_base.specs.declared.outside.StoreRefusal.TheVariants as refusals
use Rattle.vol_spec.specs.CellNames.{folder_of}
use Rattle.vol_spec.specs.Types.{Name}
use Rattle.vol_spec.specs.declared.scale.Scale.{Scale}
use Rattle.info_doc.specs.declared.fault.Item.{Item}
use Rattle.shard_writer.specs.Faults.{of_store}
use Rattle.shard_writer.specs.Writing.{joint_len}
use Rattle.shard_writer.specs.Works.{KnowsLens, PutsJobs, PutsSome, SparesFaulty, WritesAll, first_of_jobs, job_objects, told_objects}
use Rattle.shard_writer.specs.declared.written.WriteFault.{WriteFault}
use Rattle.shard_writer.specs.declared.written.Written.{Written}
use Rattle.write_plan.specs.Jobs.{Work}
use Rattle.write_plan.specs.Pairs.{cell_count}
use Rattle.make_scale.specs.Judging.{IsOfFolder, IsOfScales, JudgesAs, JudgesFolder, too_many}
use Rattle.make_scale.specs.Making.{KeepsStore, Makes, Puts, Said, Wrote}
use Rattle.make_scale.specs.declared.fault.MakeFault.{MakeFault}
use Rattle.make_scale.specs.declared.fault.MakeFault.TheVariants.{Differs, TooManyCells, NotEmpty, StoreFault, Damaged, OutOfMemory}

-- what judging the scales answers,
module _ (Differing : Item → Type 0) (Fits : Type 0) where
  pub scales_judged : (fault : MakeFault) (from to : Scale) → IsOfScales fault → JudgesAs Differing Fits {A = ⊤} (Err fault) from to → JudgesAs Differing Fits {A = Written} (Err fault) from to
  scales_judged (Differs item) from to early h = h
  scales_judged (TooManyCells cells) from to early h = h
  scales_judged NotEmpty from to early h = absurd early
  scales_judged StoreFault from to early h = absurd early
  scales_judged (Damaged cell fault) from to early h = absurd early
  scales_judged OutOfMemory from to early h = absurd early

  -- the folder,
  pub folder_judged : (fault : MakeFault) (from to : Scale) → IsOfFolder fault → Fits × (too_many from to ≡ None) → JudgesAs Differing Fits {A = Written} (Err fault) from to
  folder_judged NotEmpty from to early h = h
  folder_judged StoreFault from to early h = h
  folder_judged (Differs item) from to early h = absurd early
  folder_judged (TooManyCells cells) from to early h = absurd early
  folder_judged (Damaged cell fault) from to early h = absurd early
  folder_judged OutOfMemory from to early h = absurd early

same_told : {A : Type 0} (o : Option A) → IfSome o (λ a. o ≡ Some a)
same_told None = tt
same_told (Some a) = refl

-- over objects that are told
module _ (said : Objects → Said) where
  pub scales_told : (fault : MakeFault) (o : Option Objects) (dataset : Name) (to : Scale) → IsOfScales fault → IfSome o (λ m. Makes (said m) (Err fault) m o dataset to)
  scales_told (Differs item) o dataset to early = same_told o
  scales_told (TooManyCells cells) o dataset to early = same_told o
  scales_told NotEmpty o dataset to early = absurd early
  scales_told StoreFault o dataset to early = absurd early
  scales_told (Damaged cell fault) o dataset to early = absurd early
  scales_told OutOfMemory o dataset to early = absurd early

  pub folder_told : (fault : MakeFault) (o now : Option Objects) (dataset : Name) (to : Scale) → IsOfFolder fault → now ≡ o → IfSome o (λ m. JudgesFolder (Err fault) m dataset to) → IfSome o (λ m. Makes (said m) (Err fault) m now dataset to)
  folder_told fault None now dataset to early same h = tt
  folder_told NotEmpty (Some m) now dataset to early same h = (h, same)
  folder_told StoreFault (Some m) now dataset to early same h = inl same
  folder_told (Differs item) (Some m) now dataset to early same h = absurd early
  folder_told (TooManyCells cells) (Some m) now dataset to early same h = absurd early
  folder_told (Damaged cell fault) (Some m) now dataset to early same h = absurd early
  folder_told OutOfMemory (Some m) now dataset to early same h = absurd early

-- what stands where the scales are refused,
pub scales_kept : (fault : MakeFault) (o : Option Objects) (d : Option Draft) → IsOfScales fault → KeepsStore fault o o d d
scales_kept (Differs item) o d early = record { same_objects = refl; same_draft = refl }
scales_kept (TooManyCells cells) o d early = record { same_objects = refl; same_draft = refl }
scales_kept NotEmpty o d early = absurd early
scales_kept StoreFault o d early = absurd early
scales_kept (Damaged cell fault) o d early = absurd early
scales_kept OutOfMemory o d early = absurd early

-- where the folder is,
pub folder_kept : (fault : MakeFault) (o now : Option Objects) (d after : Option Draft) → IsOfFolder fault → OnlyReads o now d after → KeepsStore fault o now d after
folder_kept NotEmpty o now d after early h = h
folder_kept StoreFault o now d after early h = tt
folder_kept (Differs item) o now d after early h = absurd early
folder_kept (TooManyCells cells) o now d after early h = absurd early
folder_kept (Damaged cell fault) o now d after early h = absurd early
folder_kept OutOfMemory o now d after early h = absurd early

-- grids of which none has too many cells
not_more : (a b : ℕ) → nat_lt a b ≡ false → b ≤ a
not_more a b e = grind (arith, nat_tests)

none_more : (most a b : ℕ) → (if nat_lt most a then Some a else (if nat_lt most b then Some b else None)) ≡ None → b ≤ most
none_more most a b e = by (nat_lt most a) (nat_lt most b) refl e
  where
    by : (p q : Bool) → nat_lt most b ≡ q → (if p then Some a else (if q then Some b else None)) ≡ None → b ≤ most
    by true q is h = absurd (cc h)
    by false true is h = absurd (cc h)
    by false false is h = not_more most b is

pub few_cells : (from to : Scale) → too_many from to ≡ None → cell_count to ≤ 2 ^ 22
few_cells from to none = none_more (2 ^ 22) (cell_count from) (cell_count to) none

-- what is told of a store that was only read
pub told_in : (o p : Option Objects) (P : Objects → Type 0) → p ≡ o → IfSome o P → IfSome p P
told_in o p P same h = subst (λ x. IfSome x P) (sym same) h

-- what jobs that are written answer, in the words of a way of making
pub wrote : (o p now : Option Objects) (dataset : Name) (work : Work) (said : Objects → Option Objects → Said) (answer : Result Written WriteFault) → p ≡ o
    → OnOk answer (PutsJobs dataset work p now) → OnErr answer (PutsSome dataset work p now) → OnErr answer (SparesFaulty dataset work p now)
    → IfOk answer (λ written. written.objects ≡ length (told_objects dataset work p)) → IfOk answer (λ written. written.cells ≡ length work.cells)
    → (KnowsLens work p → IfOk answer (λ written. written.bytes ≡ joint_len (told_objects dataset work p))) → IfSome p (λ m. WritesAll answer (first_of_jobs work m))
    → IfSome o (λ m. (now : Option Objects) (answer : Result Written WriteFault) → Wrote dataset work m now answer → Puts (said m now) answer) → IfSome o (λ m. Puts (said m now) answer)
wrote None p now dataset work said answer same put front spares objects cells bytes first tells = tt
wrote (Some m) p now dataset work said answer same put front spares objects cells bytes first tells = tells now answer (record {
  put = subst (λ x. OnOk answer (PutsJobs dataset work x now)) same put;
  front = subst (λ x. OnErr answer (PutsSome dataset work x now)) same front;
  spares = subst (λ x. OnErr answer (SparesFaulty dataset work x now)) same spares;
  objects = subst (λ x. IfOk answer (λ written. written.objects ≡ length (told_objects dataset work x))) same objects;
  cells = cells;
  bytes = subst (λ x. KnowsLens work x → IfOk answer (λ written. written.bytes ≡ joint_len (told_objects dataset work x))) same bytes tt;
  answer = subst (λ x. IfSome x (λ m. WritesAll answer (first_of_jobs work m))) same first;
})

-- nothing is put yet
pub unbegun_in : (o now : Option Objects) (said : Objects → Option Objects → Said) (answer : Result Written WriteFault) (refusal : StoreRefusal) → answer ≡ Err (of_store refusal) → ((m : Objects) → (said m (Some m)).front) → now ≡ o
    → IfSome o (λ m. Puts (said m now) answer)
unbegun_in None now said answer refusal is front same = tt
unbegun_in (Some m) now said answer refusal is front same = subst (λ r. Puts (said m now) r) (sym is) (by refusal (subst (λ x. (said m x).front) (sym same) (front m)))
  where
    by : (refusal : StoreRefusal) → (said m now).front → Puts (said m now) (Err (of_store refusal))
    by refusals.Failed h = h
    by refusals.OutOfMemory h = h
