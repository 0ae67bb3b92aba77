-- What reading and reducing a job leaves.
use Rattle.std.proofs.Common.{◌≡◌, ◌+◌, ◌<◌, ℕ, List, Option, Some, None, Vec, IfSome, arith, length, subst, sym, ap, ◌∙◌, map, take}
use Rattle.std.specs.Prelude.{All, Err, Ok, slice_set}
use Rattle.std.specs.Global.{Global}
use Rattle.std.proofs.lemmas.List.{length-map}
use Rattle.vol_base.specs.Boxes.{num}
use Rattle.vol_base.specs.Outside.{HaveBytes, Objects}
use Rattle.vol_spec.specs.Encodings.{raw_size}
use Rattle.vol_spec.specs.Grid.{IsCell}
use Rattle.vol_spec.specs.Raw.{digit}
use Rattle.vol_spec.specs.StoredCells.{cell_of}
use Rattle.vol_spec.specs.declared.scale.Scale.{Scale}
use Rattle.reduce_laws.specs.Halves.{under}
use Rattle.reduce_laws.specs.Reduced.{IsNext, source_box}
use Rattle.reduce_laws.specs.Reducing.{reduce}
use Rattle.reduce_laws.specs.declared.method.Method.{Method}
use Rattle.write_plan.specs.Jobs.{cells_in}
use Rattle.write_plan.specs.declared.jobs.Job.{Job}
use Rattle.write_plan.specs.declared.chunks.PrepareFault.{PrepareFault}
use Rattle.write_plan.specs.declared.chunks.PrepareFault.TheVariants.{Damaged, StoreFault}
use Rattle.copier.specs.Held.{AreRead, CutsBox}
use Rattle.copier.proofs.FrameSteps.{read_more}
use Rattle.coarse_laws.proofs.CoarseLaw.{read_is_reduced}
use Rattle.reducer.specs.Reading.{IsReducedOf, ReadsReduced, reductions_of}

-- what is reduced of a cutout is the job's
pub source_reduced : (o : Option Objects) (method : Method) (dataset : List ℕ) (from to : Scale) (cell raw out : List ℕ) → IsNext from to → IsCell to cell → IfSome o HaveBytes → IsReducedOf method from to cell raw out
    → IfSome o (λ m. CutsBox (Ok tt) m dataset from (source_box from to cell) raw) → IfSome o (λ m. ReadsReduced (Ok tt) method m dataset from to cell out)
source_reduced None method dataset from to cell raw out next is have reduced h = tt
source_reduced (Some m) method dataset from to cell raw out next is have reduced h = (
  h.0,
  read_is_reduced method m dataset from to next cell raw out have is h.0 h.1 reduced.bytes reduced.len
      (λ p c covered l. reduced.digits p c covered l ∙ ap (reduce method) (λ i. map (λ q. digit raw ((sym next.widths) i) (num (source_box from to cell) q c)) (under (source_box from to cell) p))),
)

-- where it is reduced as it was cut out
pub source_read : (o : Option Objects) (method : Method) (dataset : List ℕ) (from to : Scale) (cell cut raw out : List ℕ) → IsNext from to → IsCell to cell → IfSome o HaveBytes → raw ≡ cut
    → IsReducedOf method from to cell raw out → IfSome o (λ m. CutsBox (Ok tt) m dataset from (source_box from to cell) cut) → IfSome o (λ m. ReadsReduced (Ok tt) method m dataset from to cell out)
source_read o method dataset from to cell cut raw out next is have same reduced h =
    source_reduced o method dataset from to cell cut out next is have (subst (λ bytes. IsReducedOf method from to cell bytes out) same reduced) h

-- where its source box isn't cut out, a job isn't read
pub failed_one : (m : Objects) (method : Method) (dataset : List ℕ) (from to : Scale) (cell raw out : List ℕ) (fault : PrepareFault) → CutsBox (Err fault) m dataset from (source_box from to cell) raw
    → ReadsReduced (Err fault) method m dataset from to cell out
failed_one m method dataset from to cell raw out StoreFault h = h
failed_one m method dataset from to cell raw out (Damaged at fault) h = h

-- the cell of a job is one of the grid's
pub cell_own : (to : Scale) (jobs : List Job) (n : ℕ) (cell : List ℕ) → All (IsCell to) (cells_in jobs) → n < length jobs → cell ≡ cell_of (cells_in jobs) n → IsCell to cell
cell_own to jobs n cell all low e = subst (IsCell to) (sym e) (all n _ (omega (arith, low, length-map jobs (λ (job : Job). job.cell))))

-- one more job is read where its source box was cut out and is reduced into its frame
pub next_read : (m : Objects) (method : Method) (dataset : List ℕ) (from to : Scale) (cells : List (List ℕ)) (first k : ℕ) (frames : List (Vec ℕ Global)) (v : Vec ℕ Global) (cell cut raw : List ℕ) → IsNext from to → IsCell to cell
    → HaveBytes m → cell ≡ cell_of cells (first + k) → k < length frames → raw ≡ cut → IsReducedOf method from to cell raw (take (raw_size to cell) v.items)
    → CutsBox (Ok tt) m dataset from (source_box from to cell) cut → AreRead (reductions_of method m dataset from to) to cells first k (map (λ f. f.items) frames)
    → AreRead (reductions_of method m dataset from to) to cells first (k + 1) (map (λ f. f.items) (slice_set frames k v))
next_read m method dataset from to cells first k frames v cell cut raw next own have here inside same reduced h old =
    read_more (reductions_of method m dataset from to) to cells first k frames v cell here inside old
    (source_read (Some m) method dataset from to cell cut raw (take (raw_size to cell) v.items) next own have same reduced h)
