-- Taking a cell's chunk.
use Rattle.std.proofs.Common.{◌≡◌, ◌≢◌, ℕ, ◌+◌, ◌≤◌, ◌==◌, List, length, take, Bool, true, false, Option, Some, None, Result, Ok, Err, arith, refl, ap, ◌∙◌, sym, subst, IfOk, IfSome, length-take}
use Rattle.std.specs.Prelude.{if◌then◌else◌}
use Rattle.std.proofs.lemmas.Bool.Decides.{nat_tests}
use Rattle.std.proofs.lemmas.List.{take_all}
use Rattle.chunk_pool.specs.Frames.{Filled}
use Rattle.vol_base.specs.Boxes.{num}
use Rattle.vol_base.specs.Outside.{Objects}
use Rattle.vol_base.specs.declared.boxes.Box3.{Box3}
use Rattle.vol_base.specs.declared.faults.ChunkFault.{ChunkFault}
use Rattle.vol_base.specs.declared.faults.ChunkFault.TheVariants.{ChunkLength}
use Rattle.vol_base.specs.declared.faults.Fault.{Fault}
use Rattle.vol_base.specs.declared.faults.Fault.TheVariants.{Chunk}
use Rattle.vol_spec.specs.Chunks.{chunk_in, fault_of, value_of}
use Rattle.vol_spec.specs.Encodings.{by_encoding, cell_limit, chunk_fault, raw_size, sizes_in}
use Rattle.vol_spec.specs.Grid.{cell_box}
use Rattle.vol_spec.specs.Raw.{digit, raw_fault as raw_fault_of}
use Rattle.vol_spec.specs.SegFaults.{seg_fault}
use Rattle.vol_spec.specs.SegSizes.{encoded_limit}
use Rattle.vol_spec.specs.StoredBytes.{stored_bytes}
use Rattle.vol_spec.specs.Types.{Bytes, Cell, Name}
use Rattle.vol_spec.specs.declared.encoding.Encoding.{Encoding}
use Rattle.vol_spec.specs.declared.encoding.Encoding.TheVariants.{Raw, Seg}
use Rattle.vol_spec.specs.declared.scale.Scale.{Scale}
use Rattle.vol_spec.specs.declared.stored_scale.StoredScale.{StoredScale}
use Rattle.segment_cells.specs.Decoding.{HoldsValues}
use Rattle.shard_reader.specs.Reading.{Gets}
use Rattle.shard_reader.specs.declared.bytes.LookupFault.{LookupFault}
use Rattle.shard_reader.specs.declared.bytes.LookupFault.TheVariants.{NotRead, Faulty}
use Rattle.cutout.proofs.FindSteps.{seen_absent, seen_bytes, seen_refused}
use Rattle.cutout.proofs.TakeSteps.{holds_raw}
use Rattle.cutout.specs.Finding.{HasRead}
use Rattle.cutout.proofs.ReadSteps.{cell_small}
use Rattle.cutout.specs.Reading.{Took}
use Rattle.cutout.specs.Targets.{IsTarget}
use Rattle.cutout.specs.declared.channels.Channels.{Channels}
use Rattle.cutout.specs.Taking.{HoldsCell, TakesCell, TakesOne, all_of}

-- blocks aren't raw
pub not_raw : (e : Encoding) (block : List ℕ) → e ≡ Seg block → e ≢ Raw
not_raw e block seg raw = let no : Seg block ≡ Raw = sym seg ∙ raw in absurd (cc no)

-- a chunk that was put in front is the cell's
pub taken_chunk : (o : Option Objects) (dataset : Name) (s : Scale) (cell : Cell) (frame : Filled) (there : Bool) (bytes out : Bytes) → there ≡ true → bytes ≡ take frame.used frame.bytes
    → IfSome o (λ m. HasRead (Ok there) frame (stored_bytes m dataset s cell)) → chunk_fault s cell bytes ≡ None → take (length bytes) out ≡ bytes
    → IfSome o (λ m. chunk_in m dataset s cell ≡ Ok (Some (take (length bytes) out)))
taken_chunk None dataset s cell frame there bytes out is used read sound front = tt
taken_chunk (Some m) dataset s cell frame there bytes out is used read sound front =
    seen_bytes m dataset s cell frame there bytes None is used read (sym sound) ∙ ap (λ xs. Ok (Some xs)) (sym front)

-- what taking a cell answers, with the cell
one_told : (m : Objects) (origin : StoredScale) (cell : Cell) (len : Option ℕ) (out : Bytes) → TakesOne (Ok len) m origin cell out → TakesCell (Ok len) m origin.dataset origin.scale cell out
one_told m origin cell None out h = h
one_told m origin cell (Some n) out h = h

pub cell_told : (o : Option Objects) (origin : StoredScale) (cell : Cell) (len : Option ℕ) (out : Bytes) → IfSome o (λ m. TakesOne (Ok len) m origin cell out) → IfSome o (λ m. TakesCell (Ok len) m origin.dataset origin.scale cell out)
cell_told None origin cell len out h = tt
cell_told (Some m) origin cell len out h = one_told m origin cell len out h

-- values that were taken of the whole of a cell are held
pub took_held : (s : Scale) (cell : Cell) (seen : Result (Option Bytes) Fault) (old new : Bytes) → Took s cell (cell_box s cell) (all_of s) seen old new → HoldsCell s cell seen new
took_held s cell seen old new took p c covered l =
    let same : 0 + c ≡ c = omega arith in
    subst (λ k. value_of s cell seen p k ≡ Ok (digit new s.width (num (cell_box s cell) p c))) same (took.taken p c covered covered l)

-- so are those of a chunk
values_held : (s : Scale) (cell : Cell) (chunk out : Bytes) → HoldsValues s cell chunk out → HoldsCell s cell (Ok (Some chunk)) out
values_held s cell chunk out holds p c covered l = ap Ok (sym (holds p c covered l))

-- taking a cell that holds the values of what is seen of it
takes_as : (m : Objects) (origin : StoredScale) (cell : Cell) (chunk : Option Bytes) (out : Bytes) → chunk_in m origin.dataset origin.scale cell ≡ Ok chunk → HoldsCell origin.scale cell (Ok chunk) out → TakesOne (Ok None) m origin cell out
takes_as m origin cell chunk out seen held = subst (λ x. (fault_of x ≡ None) × HoldsCell origin.scale cell x out) (sym seen) (refl, held)

pub takes_absent : (o : Option Objects) (origin : StoredScale) (cell : Cell) (frame : Filled) (there : Bool) (out : Bytes) → there ≡ false
    → IfSome o (λ m. HasRead (Ok there) frame (stored_bytes m origin.dataset origin.scale cell)) → HoldsCell origin.scale cell (Ok None) out → IfSome o (λ m. TakesOne (Ok None) m origin cell out)
takes_absent None origin cell frame there out is read held = tt
takes_absent (Some m) origin cell frame there out is read held = takes_as m origin cell None out (seen_absent m origin.dataset origin.scale cell frame there is read) held

pub takes_chunk : (o : Option Objects) (origin : StoredScale) (cell : Cell) (frame : Filled) (there : Bool) (bytes out : Bytes) → there ≡ true → bytes ≡ take frame.used frame.bytes
    → IfSome o (λ m. HasRead (Ok there) frame (stored_bytes m origin.dataset origin.scale cell)) → None ≡ chunk_fault origin.scale cell bytes → HoldsValues origin.scale cell bytes out → IfSome o (λ m. TakesOne (Ok None) m origin cell out)
takes_chunk None origin cell frame there bytes out is used read judge holds = tt
takes_chunk (Some m) origin cell frame there bytes out is used read judge holds =
    takes_as m origin cell (Some bytes) out (seen_bytes m origin.dataset origin.scale cell frame there bytes None is used read judge) (values_held origin.scale cell bytes out holds)

-- a chunk of raw values has room where these do
pub raw_short : (s : Scale) (cell : Cell) (limit n : ℕ) → s.encoding ≡ Raw → limit ≡ cell_limit s cell → n ≡ raw_size s cell → limit ≤ n
raw_short s cell limit n raw is len =
    let same : cell_limit s cell ≡ raw_size s cell = ap (λ e. by_encoding e (raw_size s cell) (encoded_limit (sizes_in s cell))) raw in
    omega (arith, same, is, len)

-- and has no fault only where it has their length
len_by : (n wanted : ℕ) → None ≡ (if n == wanted then None else Some (ChunkLength n wanted)) → n ≡ wanted
len_by n wanted e = by (n == wanted) refl e
  where
    by : (b : Bool) → (n == wanted) ≡ b → None ≡ (if b then None else Some (ChunkLength n wanted)) → n ≡ wanted
    by true same e = grind (arith, nat_tests)
    by false other e = absurd (cc e)

raw_whole : (s : Scale) (cell : Cell) (n : ℕ) (out : Bytes) → s.encoding ≡ Raw → length out ≡ raw_size s cell → None ≡ chunk_fault s cell (take n out) → take n out ≡ out
raw_whole s cell n out raw len judge =
    let as_raw : chunk_fault s cell (take n out) ≡ raw_fault_of (cell_box s cell) s.channels s.width (take n out) =
    ap (λ e. by_encoding e (raw_fault_of (cell_box s cell) s.channels s.width (take n out)) (seg_fault (take n out) (sizes_in s cell))) raw in
    let all : length (take n out) ≡ raw_size s cell = len_by (length (take n out)) (raw_size s cell) (judge ∙ as_raw) in
    take_all n out (omega (arith, all, len, length-take n out))

-- what was read out of a shard into the place of raw values: nothing,
pub raw_absent : (o : Option Objects) (origin : StoredScale) (cell : Cell) (found : Option ℕ) (buffer out : Bytes) → found ≡ None → IfSome o (λ m. Gets (Ok found) buffer (stored_bytes m origin.dataset origin.scale cell))
    → HoldsCell origin.scale cell (Ok None) out → IfSome o (λ m. TakesOne (Ok None) m origin cell out)
raw_absent None origin cell found buffer out is read held = tt
raw_absent (Some m) origin cell found buffer out is read held =
    let none : stored_bytes m origin.dataset origin.scale cell ≡ Ok None = subst (λ x. Gets (Ok x) buffer (stored_bytes m origin.dataset origin.scale cell)) is read in
    takes_as m origin cell None out (seen_absent m origin.dataset origin.scale cell (record { bytes = buffer; used = 0 }) false refl none) held

-- the values,
pub raw_chunk : (o : Option Objects) (origin : StoredScale) (cell : Cell) (found : Option ℕ) (n : ℕ) (out : Bytes) → found ≡ Some n → origin.scale.encoding ≡ Raw → length out ≡ raw_size origin.scale cell
    → IfSome o (λ m. Gets (Ok found) out (stored_bytes m origin.dataset origin.scale cell)) → None ≡ chunk_fault origin.scale cell (take n out) → IfSome o (λ m. TakesOne (Ok None) m origin cell out)
raw_chunk None origin cell found n out is raw len read judge = tt
raw_chunk (Some m) origin cell found n out is raw len read judge =
    let some : stored_bytes m origin.dataset origin.scale cell ≡ Ok (Some (take n out)) = subst (λ x. Gets (Ok x) out (stored_bytes m origin.dataset origin.scale cell)) is read in
    let seen = seen_bytes m origin.dataset origin.scale cell (record { bytes = out; used = n }) true (take n out) None refl refl some judge in
    takes_as m origin cell (Some out) out (seen ∙ ap (λ xs. Ok (Some xs)) (raw_whole origin.scale cell n out raw len judge)) (values_held origin.scale cell out out (holds_raw origin.scale cell out raw))

-- bytes with a fault,
pub raw_fault : (o : Option Objects) (origin : StoredScale) (cell : Cell) (found : Option ℕ) (n : ℕ) (out : Bytes) (fault : ChunkFault) → found ≡ Some n
    → IfSome o (λ m. Gets (Ok found) out (stored_bytes m origin.dataset origin.scale cell)) → Some fault ≡ chunk_fault origin.scale cell (take n out) → IfSome o (λ m. TakesOne (Err (Faulty (Chunk fault))) m origin cell out)
raw_fault None origin cell found n out fault is read judge = tt
raw_fault (Some m) origin cell found n out fault is read judge =
    let some : stored_bytes m origin.dataset origin.scale cell ≡ Ok (Some (take n out)) = subst (λ x. Gets (Ok x) out (stored_bytes m origin.dataset origin.scale cell)) is read in
    seen_bytes m origin.dataset origin.scale cell (record { bytes = out; used = n }) true (take n out) (Some fault) refl refl some judge

-- or a fault on the way to them
pub raw_refused : (o : Option Objects) (origin : StoredScale) (cell : Cell) (fault : LookupFault) (out : Bytes) → IfSome o (λ m. Gets (Err fault) out (stored_bytes m origin.dataset origin.scale cell)) → IfSome o (λ m. TakesOne (Err fault) m origin cell out)
raw_refused None origin cell fault out read = tt
raw_refused (Some m) origin cell NotRead out read = tt
raw_refused (Some m) origin cell (Faulty fault) out read = seen_refused m origin.dataset origin.scale cell fault read

-- where no bytes of a chunk are answered, all that are have what it asks
pub no_own : (r : Result (Option ℕ) LookupFault) (P : ℕ → Type 0) → IfOk r (λ len. len ≡ None) → IfOk r (λ len. IfSome len P)
no_own (Ok None) P h = tt
no_own (Ok (Some n)) P h = absurd (cc h)
no_own (Err fault) P h = tt

-- the whole of a cell
pub whole_target : (s : Scale) (cell : Cell) (part : Box3) (picked : Channels) (n : ℕ) → part ≡ cell_box s cell → picked ≡ all_of s → n ≡ raw_size s cell → IsTarget s part picked n
whole_target s cell part picked n own all len =
    let small = cell_small s cell in
    subst (λ b. IsTarget s b picked n) (sym own) (subst (λ k. IsTarget s (cell_box s cell) k n) (sym all) (record { channels = omega arith; len = len; limit = omega (arith, len, small) }))

pub whole_took : (s : Scale) (cell : Cell) (part : Box3) (picked : Channels) (seen : Result (Option Bytes) Fault) (old new : Bytes) → part ≡ cell_box s cell → picked ≡ all_of s → Took s cell part picked seen old new
    → Took s cell (cell_box s cell) (all_of s) seen old new
whole_took s cell part picked seen old new own all took = subst (λ b. Took s cell b (all_of s) seen old new) own (subst (λ k. Took s cell part k seen old new) all took)
