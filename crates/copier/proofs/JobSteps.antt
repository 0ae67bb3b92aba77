-- What reading a job leaves.
use Rattle.std.proofs.Common.{◌≡◌, ℕ, ◌^◌, ◌<◌, ◌≤◌, ◌-◌, min, take, List, [], length, Option, Some, None, IfSome, sym, ◌∙◌, ap, subst, arith}
use Rattle.std.specs.Prelude.{Err, Ok, Result, ⊤}
use Rattle.std.proofs.lemmas.List.{get_or-map}
use Rattle.vol_base.specs.Outside.{Objects}
use Rattle.vol_base.specs.declared.boxes.Box3.{Box3}
use Rattle.vol_spec.specs.Copies.{AreOfOneVolume}
use Rattle.vol_spec.specs.Encodings.{raw_size}
use Rattle.vol_spec.specs.Grid.{IsCell, cell_box}
use Rattle.vol_spec.specs.Raw.{raw_len}
use Rattle.vol_spec.specs.declared.scale.Scale.{Scale}
use Rattle.chunk_grid.proofs.GridSteps.{cell_box-short}
use Rattle.copy_laws.proofs.CopyValues.{cut_is_copied}
use Rattle.vol_spec.specs.StoredCells.{cell_of}
use Rattle.write_plan.specs.Jobs.{cells_in, job_at}
use Rattle.write_plan.specs.declared.jobs.Job.{Job}
use Rattle.write_plan.specs.declared.chunks.PrepareFault.{PrepareFault}
use Rattle.write_plan.specs.declared.chunks.PrepareFault.TheVariants.{Damaged, StoreFault}
use Rattle.copier.specs.Held.{CutsBox, ReadsJob}

-- a box of the target has as many bytes in the source
pub job_len : (from to : Scale) (cell : List ℕ) (b : Box3) (n : ℕ) → AreOfOneVolume from to → b ≡ cell_box to cell → n ≡ raw_size to cell → n ≡ raw_len b from.channels from.width
job_len from to cell b n same e h =
    h ∙ ap (λ x. raw_len x to.channels to.width) (sym e) ∙ ap (λ c. raw_len b c to.width) (sym same.channel_counts) ∙ ap (raw_len b from.channels) (sym same.widths)

pub job_short : (to : Scale) (cell : List ℕ) (n : ℕ) → n ≡ raw_size to cell → n ≤ 2 ^ 30
job_short to cell n e = let short = cell_box-short to cell in omega (arith, short, to.first_ok)

-- what is cut out is what is copied, and a fault on the way to it is the job's
cut_one : (m : Objects) (r : Result ⊤ PrepareFault) (dataset : List ℕ) (from to : Scale) (cell out : List ℕ) → AreOfOneVolume from to → IsCell to cell
    → CutsBox r m dataset from (cell_box to cell) out → ReadsJob r m dataset from to cell out
cut_one m (Ok done) dataset from to cell out same is h = (h.0, h.1 ∙ cut_is_copied from to same m dataset cell is h.0)
cut_one m (Err StoreFault) dataset from to cell out same is h = h
cut_one m (Err (Damaged at fault)) dataset from to cell out same is h = h

pub job_cut : (o : Option Objects) (r : Result ⊤ PrepareFault) (dataset : List ℕ) (from to : Scale) (cell : List ℕ) (b : Box3) (out : List ℕ) → AreOfOneVolume from to → IsCell to cell → b ≡ cell_box to cell
    → IfSome o (λ m. CutsBox r m dataset from b out) → IfSome o (λ m. ReadsJob r m dataset from to cell out)
job_cut None r dataset from to cell b out same is e h = tt
job_cut (Some m) r dataset from to cell b out same is e h = cut_one m r dataset from to cell out same is (subst (λ x. CutsBox r m dataset from x out) e h)

pub len_is : (s : Scale) (cell : List ℕ) (b : Box3) (n : ℕ) → b ≡ cell_box s cell → n ≡ min (raw_len b s.channels s.width) (2 ^ 128 - 1) → n ≡ raw_size s cell
len_is s cell b n e h =
    let same : raw_len b s.channels s.width ≡ raw_size s cell = ap (λ x. raw_len x s.channels s.width) e in
    let short = cell_box-short s cell in
    let most : min (raw_len b s.channels s.width) (2 ^ 128 - 1) ≡ min (raw_size s cell) (2 ^ 128 - 1) = ap (λ k. min k (2 ^ 128 - 1)) same in
    omega (arith, short, s.first_ok, h, most)

pub job_front : (o : Option Objects) (r : Result ⊤ PrepareFault) (dataset : List ℕ) (from to : Scale) (cell out new : List ℕ) → take (raw_size to cell) new ≡ out
    → IfSome o (λ m. ReadsJob r m dataset from to cell out) → IfSome o (λ m. ReadsJob r m dataset from to cell (take (raw_size to cell) new))
job_front o r dataset from to cell out new e h = subst (λ x. IfSome o (λ m. ReadsJob r m dataset from to cell x)) (sym e) h

-- the cell of a job is that of its number
pub job_cell_at : (jobs : List Job) (n : ℕ) → n < length jobs → (job_at jobs n).cell ≡ cell_of (cells_in jobs) n
job_cell_at jobs n l = sym (get_or-map (λ (job : Job). job.cell) jobs n (record { cell = []; id = 0; place = record { shard = 0; minishard = 0 } }) [] l)
