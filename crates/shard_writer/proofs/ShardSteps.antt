-- A writer of shards between two jobs: what it does next, and what it ensures where it stops.
use Rattle.std.proofs.Common.{◌≡◌, ◌∙◌, ℕ, ◌+◌, ◌^◌, ◌<◌, ◌≤◌, ◌⊎◌, Bool, true, false, List, [], ◌∷◌, ◌++◌, length, None, Option, Some, IfSome, IsSome, Result, Ok, Err, ap, arith, inl, refl, subst, sym, if◌then◌else◌}
use Rattle.std.specs.Prelude.{◌==◌, IsErrAnd}
use Rattle.std.specs.Bool.{OnFalse}
use Rattle.std.specs.Option.{option_map}
use Rattle.vol_base.specs.Outside.{Draft, Objects, Turns, appended}
use Rattle.vol_base.specs.declared.outside.StoreRefusal.{StoreRefusal}
use Rattle.vol_base.proofs.Moments.{passes_twice, turns_pass}
use Rattle.vol_spec.specs.ShardNames.{shard_name}
use Rattle.vol_spec.specs.Shards.{shard_bytes}
use Rattle.vol_spec.specs.StoredCells.{put_in}
use Rattle.vol_spec.specs.StoredLists.{AreJobs}
use Rattle.vol_spec.specs.Types.{Bytes, Name}
use Rattle.vol_spec.specs.declared.row.Row.{Row}
use Rattle.vol_spec.specs.declared.scale.Scale.{Scale}
use Rattle.vol_spec.specs.declared.sharding.Sharding.{Sharding}
use Rattle.vol_spec.proofs.Told.{from_told, in_told}
use Rattle.shard_parts.specs.Parts.{draft_of}
use Rattle.write_plan.specs.Jobs.{AreReady, Prepares, Work}
use Rattle.write_plan.specs.declared.chunks.PrepareFault.{PrepareFault}
use Rattle.write_plan.specs.declared.jobs.Job.{Job}
use Rattle.encode_round.specs.Ready.{chunk_ready}
use Rattle.shard_writer.specs.Faults.{of_jobs, of_store}
use Rattle.shard_writer.specs.Serving.{PreparesOn, first_fault}
use Rattle.shard_writer.specs.ShardRuns.{chunk_of, jobs_in, shards_between}
use Rattle.shard_writer.specs.States.{Appends, AreStored, begun_if, front_of, IsOpen, with_len}
use Rattle.shard_writer.specs.Writing.{BeginsNext, Drops, joint_len}
use Rattle.shard_writer.specs.Works.{NeverDamaged, PassesFronts, PutsSome, WritesAll, WritesJobs, first_of_jobs, job_len, job_objects, raw_in, stored_by, told_chunk}
use Rattle.shard_writer.specs.declared.steps.Ahead.{Ahead}
use Rattle.shard_writer.specs.declared.written.WriteFault.{WriteFault}
use Rattle.shard_writer.specs.declared.written.Written.{Written}
use Rattle.shard_writer.proofs.BegunSteps.{begun_between}
use Rattle.shard_writer.proofs.CountSteps.{all_begun, all_sound, store_answer, writes_none}
use Rattle.shard_writer.proofs.JobSteps.{front_all, put_all}
use Rattle.shard_writer.proofs.LensSteps.{append_at, joint_known, number_same}
use Rattle.shard_writer.proofs.PutSteps.{as_error}
use Rattle.shard_writer.proofs.SpareSteps.{spared_behind}
use Rattle.shard_writer.proofs.StateSteps.{begun_some, open_some}
use Rattle.shard_writer.proofs.WorkSteps.{in_minishards, in_shards, ordered_of, sharded_begun, sharded_front, sharded_objects, sharded_put, store_sound}
use Rattle.shard_writer.proofs.WrittenSteps.{gives_up}

-- a job and the numbers of its place
pub placed_here : (work seen : Work) (s : Scale) (sharding : Sharding) (k : ℕ) (own : Job) → work.scale ≡ s → s.sharding ≡ Some sharding → seen ≡ work → own ≡ jobs_in seen k
    → (own ≡ jobs_in work k) × (own.place.shard < 2 ^ sharding.shard_bits) × (own.place.minishard < 2 ^ sharding.minishard_bits)
placed_here work seen s sharding k own same sharded works is =
    let own_is : own ≡ jobs_in work k = is ∙ ap (λ (x : Work). jobs_in x k) works in (
      own_is,
      subst (λ (j : Job). j.place.shard < 2 ^ sharding.shard_bits) (sym own_is) (in_shards work s sharding same sharded k),
      subst (λ (j : Job). j.place.minishard < 2 ^ sharding.minishard_bits) (sym own_is) (in_minishards work s sharding same sharded k),
    )

-- where no shard is begun one is open
goes_on : (fresh : Bool) (a k : ℕ) (before now : Option Draft) → fresh ≡ (a == k) → a ≤ k → (a < k → IsSome before) → now ≡ before → OnFalse fresh (IsSome now)
goes_on true a k before now is le has same = tt
goes_on false a k before now is le has same = begun_some false a k (record { len = 0; told = None }) before now is le has same

begun_le : {dataset : Name} {s : Scale} {sharding : Sharding} {work : Work} {o now : Option Objects} {lens : ℕ → ℕ} {begun k at objects bytes : ℕ} {rows : List Row} {draft : Option Draft}
    → AreStored dataset s sharding work o now lens begun k at objects bytes rows draft → begun ≤ k
begun_le stored = let x = stored.between.place.order_a in let y = stored.between.place.order_b in omega arith

pub goes_here : {dataset : Name} {s : Scale} {sharding : Sharding} {work : Work} {o now : Option Objects} {lens : ℕ → ℕ} {begun k at objects bytes : ℕ} {rows : List Row} {draft : Option Draft}
    → AreStored dataset s sharding work o now lens begun k at objects bytes rows draft → (fresh : Bool) (was : Option Draft) → fresh ≡ (begun == k) → was ≡ draft → OnFalse fresh (IsSome was)
goes_here {begun = begun} {k = k} {draft = draft} stored fresh was is same =
    goes_on fresh begun k draft was is (begun_le stored) (λ less. open_some _ _ _ _ _ _ _ _ _ _ (stored.between.some less)) same

-- and so behind a chunk
pub begun_is_some : (fresh : Bool) (d : Draft) (before now : Option Draft) → OnFalse fresh (IsSome before) → now ≡ (if fresh then Some d else before) → IsSome now
begun_is_some true d before now has is = subst (λ o. IsSome o) (sym is) refl
begun_is_some false d before now has is = subst (λ o. IsSome o) (sym is) has

mapped_some : (f : Draft → Draft) (before after : Option Draft) → IsSome before → after ≡ option_map f before → IsSome after
mapped_some f None after some is = absurd (cc some)
mapped_some f (Some d) after some is = subst (λ o. IsSome o) (sym is) refl

pub appends_some : {E : Type 0} (fresh : Bool) (o : Option Objects) (name : Name) (bits : ℕ) (before after : Option Draft) (bytes : Bytes) (len : ℕ) → OnFalse fresh (IsSome before)
    → Appends {E = E} bytes (begun_if fresh o name bits before) after (Ok len) → IsSome after
appends_some fresh o name bits before after bytes len has appends =
    let started : Option Draft = begun_if fresh o name bits before in
    mapped_some (λ d. appended d bytes) started after (begun_is_some fresh (draft_of o name (shard_bytes bits [])) before started has refl) appends.more

pub ended_some : (ends : Bool) (f : Draft → Draft) (before after : Option Draft) → IsSome before → after ≡ (if ends then option_map f before else before) → IsSome after
ended_some false f before after some is = subst (λ o. IsSome o) (sym is) some
ended_some true f before after some is = mapped_some f before after some is

-- what preparing more jobs answers, over the objects as the writer began
prepares_at : {dataset : Name} {s : Scale} {sharding : Sharding} {work : Work} {o now : Option Objects} {lens : ℕ → ℕ} {begun k at objects bytes : ℕ} {rows : List Row} {draft : Option Draft}
    → AreStored dataset s sharding work o now lens begun k at objects bytes rows draft
    → (seen : Work) (before after : ℕ → Option Bytes) (done : ℕ) (r : Result Ahead PrepareFault) → seen ≡ work → IfSome now (λ n. PreparesOn seen n before after k done r)
    → (m : Objects) → o ≡ Some m → PreparesOn work (put_in m (front_of dataset s sharding work o lens begun)) before after k done r
prepares_at {dataset = dataset} {s = s} {sharding = sharding} {work = work} {o = o} {now = now} {lens = lens} {begun = begun} {k = k} stored seen before after done r same law m told =
    let here : Objects = put_in m (front_of dataset s sharding work o lens begun) in
    let is : now ≡ Some here = stored.put ∙ ap (option_map (λ n. put_in n (front_of dataset s sharding work o lens begun))) told in
    subst (λ (x : Work). PreparesOn x here before after k done r) same (from_told now (λ n. PreparesOn seen n before after k done r) here is law)

pub ready_now : {dataset : Name} {s : Scale} {sharding : Sharding} {work : Work} {o now : Option Objects} {lens : ℕ → ℕ} {begun k at objects bytes : ℕ} {rows : List Row} {draft : Option Draft}
    → AreStored dataset s sharding work o now lens begun k at objects bytes rows draft
    → (seen : Work) (before after : ℕ → Option Bytes) (done : ℕ) (next : Ahead) → seen ≡ work → ((m : Objects) → o ≡ Some m → AreReady before (work.raw m) k done)
    → IfSome now (λ n. PreparesOn seen n before after k done (Ok next)) → (m : Objects) → o ≡ Some m → AreReady after (work.raw m) k next.prepared
ready_now {work = work} stored seen before after done next same had law m told =
    let le = begun_le stored in
    (prepares_at stored seen before after done (Ok next) same law m told).bytes (work.raw m) (λ job l u. stored.raws m told job (omega arith) u) (had m told)

pub sound_now : {dataset : Name} {s : Scale} {sharding : Sharding} {work : Work} {o now : Option Objects} {lens : ℕ → ℕ} {begun k at objects bytes : ℕ} {rows : List Row} {draft : Option Draft}
    → AreStored dataset s sharding work o now lens begun k at objects bytes rows draft
    → (seen : Work) (before after : ℕ → Option Bytes) (done : ℕ) (next : Ahead) → seen ≡ work → ((m : Objects) → o ≡ Some m → first_fault (work.fault m) done ≡ None)
    → IfSome now (λ n. PreparesOn seen n before after k done (Ok next)) → (m : Objects) → o ≡ Some m → first_fault (work.fault m) next.prepared ≡ None
sound_now {work = work} stored seen before after done next same sound law m told =
    let le = begun_le stored in
    (prepares_at stored seen before after done (Ok next) same law m told).answer (work.fault m) (λ job l u. stored.faults m told job (omega arith) u) (sound m told)

faulty_now : {dataset : Name} {s : Scale} {sharding : Sharding} {work : Work} {o now : Option Objects} {lens : ℕ → ℕ} {begun k at objects bytes : ℕ} {rows : List Row} {draft : Option Draft}
    → AreStored dataset s sharding work o now lens begun k at objects bytes rows draft
    → (seen : Work) (before after : ℕ → Option Bytes) (done : ℕ) (e : PrepareFault) → seen ≡ work → ((m : Objects) → o ≡ Some m → first_fault (work.fault m) done ≡ None)
    → IfSome now (λ n. PreparesOn seen n before after k done (Err e)) → (m : Objects) → o ≡ Some m → Prepares (Err e) (first_of_jobs work m)
faulty_now {work = work} stored seen before after done e same sound law m told =
    let le = begun_le stored in
    (prepares_at stored seen before after done (Err e) same law m told).answer (work.fault m) (λ job l u. stored.faults m told job (omega arith) u) (sound m told)

-- a shard is open behind the chunk of this job
pub open_now : {E : Type 0} {dataset : Name} {s : Scale} {sharding : Sharding} {work : Work} {o now : Option Objects} {lens : ℕ → ℕ} {begun k at objects bytes : ℕ} {rows : List Row} {draft : Option Draft}
    → (stored : AreStored dataset s sharding work o now lens begun k at objects bytes rows draft)
    → (seen : Work) (ready : ℕ → Option Bytes) (own : Job) (fresh : Bool) (len : ℕ) (more : List Row) (here : Option Objects) (was new : Option Draft)
    → seen ≡ work → here ≡ now → was ≡ draft → own ≡ jobs_in seen k → fresh ≡ (begun == k) → ((m : Objects) → o ≡ Some m → ready k ≡ Some (work.raw m k))
    → Appends {E = E} (chunk_ready seen ready k) (begun_if fresh here (shard_name dataset s own.place.shard) sharding.minishard_bits was) new (Ok len)
    → more ≡ rows ++ record { id = own.id; start = at; size = len } ∷ []
    → IsOpen o (shard_name dataset s (jobs_in work k).place.shard) sharding.minishard_bits (chunk_of (jobs_in work) (raw_in o (stored_by work) (with_len lens k len))) begun stored.between.b (k + 1) (at + len) more new
open_now {dataset = dataset} {s = s} {sharding = sharding} {work = work} {o = o} {now = now} {lens = lens} {begun = begun} {k = k} {at = at} {rows = rows} {draft = draft} stored seen ready own fresh len more here was new same here_is was_is own_is fresh_is told appends more_is =
    let name : Name = shard_name dataset s own.place.shard in
    let started : Option Draft = begun_if fresh here name sharding.minishard_bits was in
    append_at o now dataset s sharding work lens begun k at len rows more draft started new ready own fresh stored.put stored.between
    (own_is ∙ ap (λ (x : Work). jobs_in x k) same) fresh_is
    (ap (λ x. begun_if fresh x name sharding.minishard_bits was) here_is ∙ ap (λ d. begun_if fresh now name sharding.minishard_bits d) was_is)
    told (appends.len ∙ ap (λ (x : Work). length (chunk_ready x ready k)) same)
    (appends.more ∙ ap (λ (x : Work). option_map (λ d. appended d (chunk_ready x ready k)) started) same) more_is

-- what stands is the objects with a front put in,
front_here : {dataset : Name} {s : Scale} {sharding : Sharding} {work : Work} {o now : Option Objects} {lens : ℕ → ℕ} {begun k at objects bytes : ℕ} {rows : List Row} {draft : Option Draft}
    → AreStored dataset s sharding work o now lens begun k at objects bytes rows draft
    → (new : Option Objects) → work.scale ≡ s → s.sharding ≡ Some sharding → AreJobs work.scale work.cells → new ≡ now → PutsSome dataset work o new
front_here {dataset = dataset} {s = s} {sharding = sharding} {work = work} {o = o} {now = now} {lens = lens} {begun = begun} {k = k} stored new same sharded jobs is =
    sharded_front o new dataset work s sharding same sharded jobs
    (front_all o now new dataset s sharding (jobs_in work) (stored_by work) lens (length work.cells) begun stored.between.b k (ordered_of work s sharding same sharded jobs) stored.between.place stored.put is)

-- and so it is at each moment of a call that leads from it to what stands afterwards
pub passed_here : {dataset : Name} {s : Scale} {sharding : Sharding} {work : Work} {o now : Option Objects} {lens : ℕ → ℕ} {begun k at objects bytes : ℕ} {rows : List Row} {draft : Option Draft}
    → AreStored dataset s sharding work o now lens begun k at objects bytes rows draft
    → (new : Option Objects) (before was after : List Objects) → work.scale ≡ s → s.sharding ≡ Some sharding → AreJobs work.scale work.cells
    → PassesFronts (job_objects dataset work) o before was → PutsSome dataset work o new → Turns now new was after
    → PassesFronts (job_objects dataset work) o before after
passed_here {dataset = dataset} {work = work} {o = o} {now = now} stored new before was after same sharded jobs passed puts turns =
    passes_twice (λ x. PutsSome dataset work o (Some x)) before was after passed
    (turns_pass (λ x. PutsSome dataset work o (Some x)) now new was after
    (λ x is. front_here stored (Some x) same sharded jobs (sym is)) (λ x is. subst (PutsSome dataset work o) is puts) turns)

-- where it stays,
pub stays_here : {dataset : Name} {s : Scale} {sharding : Sharding} {work : Work} {o now : Option Objects} {lens : ℕ → ℕ} {begun k at objects bytes : ℕ} {rows : List Row} {draft : Option Draft}
    → AreStored dataset s sharding work o now lens begun k at objects bytes rows draft
    → (new : Option Objects) (before was after : List Objects) → work.scale ≡ s → s.sharding ≡ Some sharding → AreJobs work.scale work.cells
    → PassesFronts (job_objects dataset work) o before was → new ≡ now → Turns now new was after
    → PassesFronts (job_objects dataset work) o before after
stays_here stored new before was after same sharded jobs passed is turns = passed_here stored new before was after same sharded jobs passed (front_here stored new same sharded jobs is) turns

-- and where the next job is next
pub next_here : {dataset : Name} {s : Scale} {sharding : Sharding} {work : Work} {o now new : Option Objects} {lens next_lens : ℕ → ℕ} {begun next_begun k next_k at next_at objects next_objects bytes next_bytes : ℕ} {rows next_rows : List Row} {draft next_draft : Option Draft}
    → AreStored dataset s sharding work o now lens begun k at objects bytes rows draft → AreStored dataset s sharding work o new next_lens next_begun next_k next_at next_objects next_bytes next_rows next_draft
    → (before was after : List Objects) → work.scale ≡ s → s.sharding ≡ Some sharding → AreJobs work.scale work.cells
    → PassesFronts (job_objects dataset work) o before was → Turns now new was after
    → PassesFronts (job_objects dataset work) o before after
next_here {new = new} stored next before was after same sharded jobs passed turns = passed_here stored new before was after same sharded jobs passed (front_here next new same sharded jobs refl) turns

-- a writer gives up
stops : {dataset : Name} {s : Scale} {sharding : Sharding} {work : Work} {o now : Option Objects} {lens : ℕ → ℕ} {begun k at objects bytes : ℕ} {rows : List Row} {draft : Option Draft}
    → AreStored dataset s sharding work o now lens begun k at objects bytes rows draft
    → (sure : Type 0) (new : Option Objects) (first last : Option Draft) (done : ℕ) (fault : WriteFault)
    → work.scale ≡ s → s.sharding ≡ Some sharding → AreJobs work.scale work.cells → k ≤ done → ((m : Objects) → o ≡ Some m → first_fault (work.fault m) done ≡ None) → new ≡ now
    → IfSome o (λ m. WritesAll {A = Written} (Err fault) (first_of_jobs work m)) → (sure → NeverDamaged {A = Written} (Err fault)) → (sure → Drops first last)
    → Drops first last ⊎ IfSome o (λ m. BeginsNext (shards_between dataset s sharding (jobs_in work) (stored_by work m) 0 (length work.cells)) m new last)
    → WritesJobs dataset work sure o new first last (Err fault)
stops {dataset = dataset} {s = s} {sharding = sharding} {work = work} {o = o} {now = now} {lens = lens} {begun = begun} {k = k} stored sure new first last done fault same sharded jobs ahead sound is answer never dropped leaves =
    let le = begun_le stored in
    gives_up dataset work sure o new first last fault
    (front_here stored new same sharded jobs is)
    (spared_behind o now new dataset s sharding work lens begun done same (omega arith) stored.put stored.names sound is)
    answer never dropped (sharded_begun o new dataset work s sharding first last same sharded jobs leaves)

-- where the store refuses
pub refused_here : {dataset : Name} {s : Scale} {sharding : Sharding} {work : Work} {o now : Option Objects} {lens : ℕ → ℕ} {begun k at objects bytes : ℕ} {rows : List Row} {draft : Option Draft}
    → AreStored dataset s sharding work o now lens begun k at objects bytes rows draft
    → (sure : Type 0) (new : Option Objects) (first last : Option Draft) (done : ℕ) (refusal : StoreRefusal) (r : Result Written WriteFault) → IsErrAnd r (λ fault. fault ≡ of_store refusal)
    → work.scale ≡ s → s.sharding ≡ Some sharding → AreJobs work.scale work.cells → k ≤ done → ((m : Objects) → o ≡ Some m → first_fault (work.fault m) done ≡ None) → new ≡ now → last ≡ None
    → WritesJobs dataset work sure o new first last r
refused_here {dataset = dataset} {work = work} {o = o} stored sure new first last done refusal r refused same sharded jobs ahead sound is nothing =
    as_error (λ x. WritesJobs dataset work sure o new first last x) r refused
    (λ fault e.
    stops stored sure new first last done fault same sharded jobs ahead sound is
    (store_answer Written o (first_of_jobs work) refusal fault e) (λ q. store_sound Written refusal fault e) (λ q. inl nothing) (inl (inl nothing)))

-- where jobs can't be prepared
pub unprepared_here : {dataset : Name} {s : Scale} {sharding : Sharding} {work : Work} {o now : Option Objects} {lens : ℕ → ℕ} {begun k at objects bytes : ℕ} {rows : List Row} {draft : Option Draft}
    → AreStored dataset s sharding work o now lens begun k at objects bytes rows draft
    → (sure : Type 0) (new : Option Objects) (first last : Option Draft) (seen : Work) (before after : ℕ → Option Bytes) (done : ℕ) (e : PrepareFault) (r : Result Written WriteFault) → IsErrAnd r (λ fault. fault ≡ of_jobs e)
    → work.scale ≡ s → s.sharding ≡ Some sharding → AreJobs work.scale work.cells → k ≤ done → k < length work.cells → ((m : Objects) → o ≡ Some m → first_fault (work.fault m) done ≡ None) → new ≡ now
    → seen ≡ work → IfSome now (λ n. PreparesOn seen n before after k done (Err e)) → (sure → ⊥) → last ≡ draft → (begun ≡ k → Drops first draft)
    → WritesJobs dataset work sure o new first last r
unprepared_here {dataset = dataset} {s = s} {sharding = sharding} {work = work} {o = o} {now = now} {lens = lens} {begun = begun} {k = k} {at = at} {rows = rows} {draft = draft} stored sure new first last seen before after done e r refused same sharded jobs ahead within sound is works law never kept drops =
    as_error (λ x. WritesJobs dataset work sure o new first last x) r refused
    (λ fault q.
    stops stored sure new first last done fault same sharded jobs ahead sound is
    (in_told o (λ m. WritesAll {A = Written} (Err fault) (first_of_jobs work m)) (λ m told. writes_none Written e fault (first_of_jobs work m) q (faulty_now stored seen before after done e works sound law m told)))
    (λ z. absurd (never z)) (λ z. absurd (never z))
    (begun_between o now new dataset s sharding (jobs_in work) (stored_by work) lens (length work.cells) begun k at rows first draft last (ordered_of work s sharding same sharded jobs) within stored.between stored.put is kept drops))

-- behind the last job
pub all_here : {dataset : Name} {s : Scale} {sharding : Sharding} {work : Work} {o now : Option Objects} {lens : ℕ → ℕ} {begun k at objects bytes : ℕ} {rows : List Row} {draft : Option Draft}
    → AreStored dataset s sharding work o now lens begun k at objects bytes rows draft
    → (sure : Type 0) (first : Option Draft) (done count : ℕ)
    → work.scale ≡ s → s.sharding ≡ Some sharding → AreJobs work.scale work.cells → count ≡ length work.cells → count ≤ k → done ≡ count → ((m : Objects) → o ≡ Some m → first_fault (work.fault m) done ≡ None) → (begun ≡ k → Drops first draft)
    → WritesJobs dataset work sure o now first draft (Ok (record { objects = objects; cells = count; bytes = bytes }))
all_here {dataset = dataset} {s = s} {sharding = sharding} {work = work} {o = o} {now = now} {lens = lens} {begun = begun} {k = k} {draft = draft} stored sure first done count same sharded jobs all last ready sound drops =
    let n : ℕ = length work.cells in
    let past : length work.cells ≤ k = omega arith in
    let place = stored.between.place in
    let end : begun ≡ length work.cells = all_begun (length work.cells) (jobs_in work) begun stored.between.b k place past in
    let left : Drops first draft = drops (place.last past) in
    record {
      put = sharded_put o now dataset work s sharding same sharded jobs (put_all o now dataset s sharding (jobs_in work) (stored_by work) lens (length work.cells) begun stored.between.b k place past stored.put);
      front = tt;
      spares = tt;
      objects =
          stored.number ∙ ap (λ q. length (front_of dataset s sharding work o lens q)) end
          ∙ number_same dataset s sharding (jobs_in work) (raw_in o (stored_by work) lens) (told_chunk work o) (length work.cells)
          ∙ ap length (sharded_objects dataset work s sharding (raw_in o work.raw (job_len work)) same sharded jobs);
      cells = all;
      bytes = λ knows.
          stored.joint ∙ ap (λ q. joint_len (front_of dataset s sharding work o lens q)) end
          ∙ joint_known dataset s sharding work o lens (length work.cells) (λ plain job u. stored.known plain job (omega arith)) knows
          ∙ ap joint_len (sharded_objects dataset work s sharding (raw_in o work.raw (job_len work)) same sharded jobs);
      answer = all_sound o work.fault done (length work.cells) (omega arith) sound;
      sound = λ q cell what is. cc is;
      draft = left;
      dropped = λ q. left;
      begun = inl left;
    }
