-- Taking a job's chunk as it is stored.
use Rattle.std.proofs.Common.{◌≡◌, ℕ, ◌≤◌, ◌++◌, List, [], ◌∷◌, length, take, length-take, Option, Some, None, Result, Ok, Err, IfSome, Bool, refl, ap, ◌∙◌, sym, subst, arith}
use Rattle.std.specs.Prelude.{IfOk, replicate}
use Rattle.std.specs.Option.{option_map}
use Rattle.std.proofs.lemmas.List.{take_all, take-append-le, take-take}
use Rattle.vol_base.specs.Bytes.{AreBytes}
use Rattle.vol_base.specs.Outside.{Objects}
use Rattle.vol_base.specs.declared.faults.Fault.{Fault}
use Rattle.vol_spec.specs.Chunks.{fault_of}
use Rattle.vol_spec.specs.Encodings.{chunk_fault, encoded, raw_size}
use Rattle.vol_spec.specs.Grid.{IsCell}
use Rattle.vol_spec.specs.Limits.{first_bytes}
use Rattle.vol_spec.specs.Types.{Name}
use Rattle.vol_spec.specs.declared.scale.Scale.{Scale}
use Rattle.vol_spec.proofs.CutSteps.{bytes_part}
use Rattle.chunk_grid.proofs.GridSteps.{cell_box-short}
use Rattle.cutout.specs.Kept.{Keeping}
use Rattle.cutout.specs.Runs.{RunsOn}
use Rattle.cutout.specs.Taking.{HasOwnChunk, TakesCell}
use Rattle.cutout.specs.declared.fault.CutFault.TheVariants.{Damaged as CutDamaged}
use Rattle.copy_laws.specs.Twins.{AreTwins, said_raw}
use Rattle.copy_laws.proofs.TwinSteps.{again_same, cells_here, fault_here, fault_same, limit_same, said_copied, said_len, values_copied}
use Rattle.write_plan.specs.declared.chunks.PrepareFault.{PrepareFault}
use Rattle.write_plan.specs.declared.chunks.PrepareFault.TheVariants.{StoreFault, Damaged}
use Rattle.copier.specs.Filled.{Fills}
use Rattle.copier.specs.Frames.{IsKept, KeepsBy, Takes, TakesJob, owned, values_by}
use Rattle.copier.specs.Held.{IsFilled, ReadsJob, front}
use Rattle.copier.specs.HeldLaws.{length-front}
use Rattle.copier.specs.Sources.{cells_under}
use Rattle.copier.specs.declared.frame.OwnChunk.{OwnChunk}

pub front_bytes : (n : ℕ) (xs : List ℕ) → AreBytes xs → AreBytes (take n xs)
front_bytes n xs h = bytes_part n 0 xs h

-- bytes in front of more room stay in front
pub take-front : (n m : ℕ) (xs : List ℕ) → length xs ≡ n → n ≤ m → take n (front m xs) ≡ xs
take-front n m xs len le =
    take-take n m (xs ++ replicate m 0) le ∙ take-append-le n xs (replicate m 0) (omega (arith, len)) ∙ take_all n xs (omega (arith, len))

pub said_front : (to : Scale) (cell chunk : List ℕ) → take (raw_size to cell) (front (first_bytes to.width to.channels to.size to.chunk) (said_raw to cell chunk)) ≡ said_raw to cell chunk
said_front to cell chunk = take-front (raw_size to cell) (first_bytes to.width to.channels to.size to.chunk) (said_raw to cell chunk) (said_len to cell chunk) (cell_box-short to cell)

-- values that were put are those of a frame that has a chunk
pub said_filled : (to : Scale) (own : OwnChunk) (some : Option OwnChunk) (bytes raw : List ℕ) (n : ℕ) → some ≡ Some own → Fills to some bytes n → raw ≡ said_raw to own.cell (take own.len bytes) → raw ≡ take n (values_by to some bytes)
said_filled to own some bytes raw n e fills is =
    let facts : Fills to (Some own) bytes n = subst (λ o. Fills to o bytes n) e fills in
    is ∙ sym (said_front to own.cell (take own.len bytes)) ∙ ap (λ k. take k (values_by to (Some own) bytes)) (sym facts.0) ∙ ap (λ o. take n (values_by to o bytes)) (sym e)

pub own_filled : (to : Scale) (own : Option OwnChunk) (bytes : List ℕ) → IsFilled to bytes → IsFilled to (values_by to own bytes)
own_filled to None bytes h = h
own_filled to (Some own) bytes h = length-front (first_bytes to.width to.channels to.size to.chunk) (said_raw to own.cell (take own.len bytes))

module _ (from to : Scale) (twins : AreTwins from to) (cell : List ℕ) (is : IsCell to cell) where
  -- values that were taken
  taken_values : (o : Option Objects) (dataset out : List ℕ) → AreBytes out → length out ≡ raw_size to cell → IfSome o (λ m. TakesCell (Ok None) m dataset from cell out) → IfSome o (λ m. TakesJob (Ok None) m dataset from to cell out)
  taken_values None dataset out bytes len h = tt
  taken_values (Some m) dataset out bytes len h = (
    fault_here from to twins cell m dataset is ∙ ap (option_map (λ (fault : Fault). (let x : List ℕ × Fault = (cell, fault) in x))) h.0,
    take_all (raw_size to cell) out (omega (arith, len)) ∙ values_copied from to twins cell m dataset is out bytes len h.1,
  )

  -- a chunk that was taken,
  taken_chunk : (o : Option Objects) (dataset out : List ℕ) (n : ℕ) → AreBytes out → IfSome o (λ m. TakesCell (Ok (Some n)) m dataset from cell out)
      → IfSome o (λ m. TakesJob (Ok (Some (record { cell = cell; len = n }))) m dataset from to cell out)
  taken_chunk None dataset out n bytes h = tt
  taken_chunk (Some m) dataset out n bytes h = (
    fault_here from to twins cell m dataset is ∙ ap (λ seen. option_map (λ (fault : Fault). (let x : List ℕ × Fault = (cell, fault) in x)) (fault_of seen)) h,
    said_front to cell (take n out) ∙ said_copied from to twins cell m dataset is (take n out) (front_bytes n out bytes) h,
  )

  own_kept : (out : List ℕ) (n : ℕ) → AreBytes out → HasOwnChunk from cell out n → KeepsBy to cell (Some (record { cell = cell; len = n })) out
  own_kept out n bytes h =
      let small : AreBytes (take n out) = front_bytes n out bytes in
      let long = length-take n out in
      let within = h.within in
      let room = h.own.room in
      let limit = limit_same from to twins cell in (
        refl,
        record {
          in_grid = is;
          within = h.within;
          small = small;
          blocks = λ raw. h.own.blocks (twins.encodings ∙ raw);
          sound = sym (fault_same from to twins cell (take n out)) ∙ h.own.sound;
          again = again_same from to twins cell (take n out) small h.own.again;
          room = omega (arith, long, within, room, limit);
        },
      )

  -- and a fault
  taken_fault : (o : Option Objects) (dataset out other at : List ℕ) (fault : Fault) → IfSome o (λ m. TakesCell (Err (CutDamaged at fault)) m dataset from cell out)
      → IfSome o (λ m. TakesJob (Err (Damaged at fault)) m dataset from to cell other)
  taken_fault None dataset out other at fault h = tt
  taken_fault (Some m) dataset out other at fault h =
      fault_here from to twins cell m dataset is
      ∙ ap (λ seen. option_map (λ (fault : Fault). (let x : List ℕ × Fault = (cell, fault) in x)) (fault_of seen)) h.1
      ∙ ap (λ c. Some (let x : List ℕ × Fault = (c, fault) in x)) (sym h.0)

  pub taken_job : (o : Option Objects) (dataset out : List ℕ) (len : Option ℕ) → AreBytes out → length out ≡ raw_size to cell → IfSome o (λ m. TakesCell (Ok len) m dataset from cell out)
      → IfSome o (λ m. TakesJob (Ok (owned cell len)) m dataset from to cell out)
  taken_job o dataset out None bytes long h = taken_values o dataset out bytes long h
  taken_job o dataset out (Some n) bytes long h = taken_chunk o dataset out n bytes h

  pub job_kept : (out : List ℕ) (len : Option ℕ) → AreBytes out → IfSome len (HasOwnChunk from cell out) → KeepsBy to cell (owned cell len) out
  job_kept out None bytes h = tt
  job_kept out (Some n) bytes h = own_kept out n bytes h

  pub refused_job : (o : Option Objects) (dataset out other : List ℕ) (fault : PrepareFault) → IfSome o (λ m. Takes (Err fault) m dataset from cell out) → IfSome o (λ m. TakesJob (Err fault) m dataset from to cell other)
  refused_job None dataset out other fault h = tt
  refused_job (Some m) dataset out other StoreFault h = tt
  refused_job (Some m) dataset out other (Damaged at fault) h = taken_fault (Some m) dataset out other at fault h

  pub run_here : (o : Option Objects) (whole : Bool) (dataset : Name) (before after : ℕ) (old new : Keeping)
      → IfSome o (λ m. RunsOn whole m dataset from (cell ∷ []) before after old.shards new.shards) → IfSome o (λ m. RunsOn whole m dataset from (cells_under from to cell) before after old.shards new.shards)
  run_here o whole dataset before after old new h = subst (λ cells. IfSome o (λ m. RunsOn whole m dataset from cells before after old.shards new.shards)) (sym (cells_here from to twins cell is)) h

-- what was taken into a part in front is in front
front_less : (n k : ℕ) (part frame : List ℕ) → take k frame ≡ part → n ≤ k → take n part ≡ take n frame
front_less n k part frame e le = ap (take n) (sym e) ∙ take-take n k frame le

kept_in : (to : Scale) (own : OwnChunk) (k : ℕ) (part frame : List ℕ) → take k frame ≡ part → length part ≡ k → IsKept to own part → IsKept to own frame
kept_in to own k part frame e len h =
    let within = h.within in
    let taken = length-take k frame in
    let same_len = ap length e in
    let same : take own.len part ≡ take own.len frame = front_less own.len k part frame e (omega (arith, within, len)) in
    record {
      in_grid = h.in_grid;
      within = omega (arith, within, len, taken, same_len);
      small = subst AreBytes same h.small;
      blocks = h.blocks;
      sound = subst (λ xs. chunk_fault to own.cell xs ≡ None) same h.sound;
      again = subst (λ xs. encoded to own.cell (said_raw to own.cell xs) ≡ xs) same h.again;
      room = h.room;
    }

kept_by : (to : Scale) (cell : List ℕ) (own : Option OwnChunk) (k : ℕ) (part frame : List ℕ) → take k frame ≡ part → length part ≡ k → KeepsBy to cell own part → KeepsBy to cell own frame
kept_by to cell None k part frame e len h = tt
kept_by to cell (Some own) k part frame e len h = (h.0, kept_in to own k part frame e len h.1)

pub kept_front : (to : Scale) (cell : List ℕ) (r : Result (Option OwnChunk) PrepareFault) (k : ℕ) (part frame : List ℕ) → take k frame ≡ part → length part ≡ k
    → IfOk r (λ own. KeepsBy to cell own part) → IfOk r (λ own. KeepsBy to cell own frame)
kept_front to cell (Ok own) k part frame e len h = kept_by to cell own k part frame e len h
kept_front to cell (Err fault) k part frame e len h = tt

failed_as : (m : Objects) (dataset : List ℕ) (from to : Scale) (cell : List ℕ) (fault : PrepareFault) (out other : List ℕ) → ReadsJob (Err fault) m dataset from to cell out → ReadsJob (Err fault) m dataset from to cell other
failed_as m dataset from to cell StoreFault out other h = tt
failed_as m dataset from to cell (Damaged at fault) out other h = h

pub failed_job : (o : Option Objects) (dataset : List ℕ) (from to : Scale) (cell : List ℕ) (fault : PrepareFault) (out other : List ℕ) → IfSome o (λ m. ReadsJob (Err fault) m dataset from to cell out)
    → IfSome o (λ m. ReadsJob (Err fault) m dataset from to cell other)
failed_job None dataset from to cell fault out other h = tt
failed_job (Some m) dataset from to cell fault out other h = failed_as m dataset from to cell fault out other h

front_job : (m : Objects) (dataset : List ℕ) (from to : Scale) (cell : List ℕ) (r : Result (Option OwnChunk) PrepareFault) (part frame : List ℕ) → take (raw_size to cell) frame ≡ part → length part ≡ raw_size to cell
    → IfOk r (λ own. KeepsBy to cell own part) → TakesJob r m dataset from to cell part → TakesJob r m dataset from to cell frame
front_job m dataset from to cell (Ok None) part frame e len kept h = (h.0, e ∙ sym (take_all (raw_size to cell) part (omega (arith, len))) ∙ h.1)
front_job m dataset from to cell (Ok (Some own)) part frame e len kept h =
    let within = kept.1.within in
    let same : take own.len part ≡ take own.len frame = front_less own.len (raw_size to cell) part frame e (omega (arith, within, len)) in
    (h.0, ap (λ xs. take (raw_size to cell) (front (first_bytes to.width to.channels to.size to.chunk) (said_raw to own.cell xs))) (sym same) ∙ h.1)
front_job m dataset from to cell (Err fault) part frame e len kept h = failed_as m dataset from to cell fault part frame h

pub taken_front : (o : Option Objects) (dataset : List ℕ) (from to : Scale) (cell : List ℕ) (r : Result (Option OwnChunk) PrepareFault) (part frame : List ℕ) → take (raw_size to cell) frame ≡ part → length part ≡ raw_size to cell
    → IfOk r (λ own. KeepsBy to cell own part) → IfSome o (λ m. TakesJob r m dataset from to cell part) → IfSome o (λ m. TakesJob r m dataset from to cell frame)
taken_front None dataset from to cell r part frame e len kept h = tt
taken_front (Some m) dataset from to cell r part frame e len kept h = front_job m dataset from to cell r part frame e len kept h
