-- The bytes of a chunk, read.
use Rattle.std.proofs.Common.{◌≡◌, ℕ, ◌+◌, ◌≤◌, List, length, take, Bool, true, false, Option, None, Some, IfSome, Result, Ok, Err, arith, refl, ap, ◌∙◌, sym, subst}
use Rattle.std.specs.Prelude.{nat_lt, if◌then◌else◌}
use Rattle.std.specs.FinMap as map
use Rattle.std.proofs.lemmas.Bool.Decides.{nat_tests}
use Rattle.vol_base.specs.Outside.{Objects, part}
use Rattle.vol_base.specs.declared.faults.Fault.{Fault}
use Rattle.vol_base.specs.declared.faults.ShardFault.{ShardFault}
use Rattle.vol_base.specs.declared.faults.ShardFault.TheVariants.{ChunkTooLong, ShortChunk}
use Rattle.vol_spec.specs.Entries.{base_of}
use Rattle.vol_spec.specs.FoundChunks.{found, ◌>>=◌, of_index, of_shard, row_in, rows_in, span_of}
use Rattle.vol_spec.specs.StoredBytes.{spanned}
use Rattle.vol_spec.specs.Places.{minishard_of, shard_of}
use Rattle.vol_spec.specs.declared.row.Row.{Row}
use Rattle.vol_spec.specs.declared.sharding.Sharding.{Sharding}
use Rattle.vol_spec.specs.declared.span.ChunkSpan.{ChunkSpan}
use Rattle.shard_reader.specs.Reading.{Answers, chunk_bytes, found_of, Gets, OnObject}
use Rattle.shard_reader.specs.declared.bytes.LookupFault.{LookupFault}
use Rattle.shard_reader.specs.declared.bytes.LookupFault.TheVariants.{NotRead, Faulty}

-- what comes next of an answer
bind_ok : {A B : Type 0} → (r : Result A Fault) (f : A → Result B Fault) (y : B) → r >>= f ≡ Ok y → (x : A) × (f x ≡ Ok y)
bind_ok (Ok x) f y e = (x, e)
bind_ok (Err fault) f y e = absurd (cc e)

not_below : (a b : ℕ) → false ≡ nat_lt a b → b ≤ a
not_below a b e = grind (arith, nat_tests)

span_within : (base len limit : ℕ) (row : Option Row) (span : ChunkSpan) → of_shard (span_of base len limit row) ≡ Ok (Some span) → span.start + span.len ≤ len
span_within base len limit None span e = absurd (cc e)
span_within base len limit (Some row) span e = by_tests (nat_lt limit row.size) (nat_lt len (base + row.start + row.size)) refl e
  where
    chosen : Bool → Bool → Result (Option ChunkSpan) ShardFault
    chosen a b = if a then Err (ChunkTooLong row.size limit) else (if b then Err ShortChunk else Ok (Some (record { start = base + row.start; len = row.size })))

    by_tests : (a b : Bool) → b ≡ nat_lt len (base + row.start + row.size) → of_shard (chosen a b) ≡ Ok (Some span) → span.start + span.len ≤ len
    by_tests true b is e = absurd (cc e)
    by_tests false true is e = absurd (cc e)
    by_tests false false is e =
        let here : ChunkSpan = record { start = base + row.start; len = row.size } in
        let same : here ≡ span = cc e in
        let one : base + row.start ≡ span.start = ap (λ (s : ChunkSpan). s.start) same in
        let two : row.size ≡ span.len = ap (λ (s : ChunkSpan). s.len) same in
        omega (arith, not_below len (base + row.start + row.size) is)

-- a chunk that is found lies within its object
pub found_within : (object : List ℕ) (sharding : Sharding) (limit id : ℕ) (span : ChunkSpan) → found object sharding limit id ≡ Ok (Some span) → span.start + span.len ≤ length object
unfolding found
found_within object sharding limit id span e =
    let rows = bind_ok (of_shard (rows_in object sharding (minishard_of sharding id))) (λ n. of_index (row_in object sharding (minishard_of sharding id) id n) >>= (λ row. of_shard (span_of (base_of sharding) (length object) limit row))) (Some span) e in
    let row = bind_ok (of_index (row_in object sharding (minishard_of sharding id) id rows.0)) (λ r. of_shard (span_of (base_of sharding) (length object) limit r)) (Some span) rows.1 in
    span_within (base_of sharding) (length object) limit row.0 span row.1

gets_object : (object : Option (List ℕ)) (sharding : Sharding) (limit id : ℕ) (span : ChunkSpan) (buffer : List ℕ) → found_of object sharding limit id ≡ Ok (Some span)
    → ((bytes : List ℕ) → object ≡ Some bytes → span.start + span.len ≤ length bytes → take span.len buffer ≡ part bytes span.start span.len) → chunk_bytes object sharding limit id ≡ Ok (Some (take span.len buffer))
gets_object None sharding limit id span buffer e read = absurd (cc e)
gets_object (Some object) sharding limit id span buffer e read = ap (spanned object) e ∙ ap (λ xs. Ok (Some xs)) (sym (read object refl (found_within object sharding limit id span e)))

short_object : (object : Option (List ℕ)) (sharding : Sharding) (limit id : ℕ) (span : ChunkSpan) (fault : Fault) → found_of object sharding limit id ≡ Ok (Some span)
    → ((bytes : List ℕ) → object ≡ Some bytes → span.start + span.len ≤ length bytes → Faulty fault ≡ NotRead) → chunk_bytes object sharding limit id ≡ Err fault
short_object None sharding limit id span fault e whole = absurd (cc e)
short_object (Some object) sharding limit id span fault e whole = absurd (cc (whole object refl (found_within object sharding limit id span e)))

-- what reading the bytes of a chunk that was found answers
pub gets_read : (o : Option Objects) (names : ℕ → List ℕ) (name : List ℕ) (sharding : Sharding) (shard limit id : ℕ) (r : Result (Option ChunkSpan) LookupFault) (span : ChunkSpan) (buffer : List ℕ)
    → r ≡ Ok (Some span) → name ≡ names shard → shard ≡ shard_of sharding id → IfSome o (λ objects. Answers (found_of (map.get objects (names (shard_of sharding id))) sharding limit id) r)
    → OnObject o name (λ object. span.start + span.len ≤ length object → take span.len buffer ≡ part object span.start span.len)
    → IfSome o (λ objects. Gets (Ok (Some span.len)) buffer (chunk_bytes (map.get objects (names (shard_of sharding id))) sharding limit id))
gets_read None names name sharding shard limit id r span buffer e named es h read = tt
gets_read (Some objects) names name sharding shard limit id r span buffer e named es h read =
    let same : names (shard_of sharding id) ≡ name = ap names (sym es) ∙ sym named in
    gets_object (map.get objects (names (shard_of sharding id))) sharding limit id span buffer (subst (λ x. Answers (found_of (map.get objects (names (shard_of sharding id))) sharding limit id) x) e h)
    (λ bytes there. read bytes (ap (map.get objects) (sym same) ∙ there))

pub gets_fault : (o : Option Objects) (names : ℕ → List ℕ) (name : List ℕ) (sharding : Sharding) (shard limit id : ℕ) (r : Result (Option ChunkSpan) LookupFault) (span : ChunkSpan) (buffer : List ℕ) (fault : LookupFault)
    → r ≡ Ok (Some span) → name ≡ names shard → shard ≡ shard_of sharding id → IfSome o (λ objects. Answers (found_of (map.get objects (names (shard_of sharding id))) sharding limit id) r)
    → OnObject o name (λ object. span.start + span.len ≤ length object → fault ≡ NotRead)
    → IfSome o (λ objects. Gets (Err fault) buffer (chunk_bytes (map.get objects (names (shard_of sharding id))) sharding limit id))
gets_fault None names name sharding shard limit id r span buffer fault e named es h whole = tt
gets_fault (Some objects) names name sharding shard limit id r span buffer NotRead e named es h whole = tt
gets_fault (Some objects) names name sharding shard limit id r span buffer (Faulty fault) e named es h whole =
    let same : names (shard_of sharding id) ≡ name = ap names (sym es) ∙ sym named in
    short_object (map.get objects (names (shard_of sharding id))) sharding limit id span fault (subst (λ x. Answers (found_of (map.get objects (names (shard_of sharding id))) sharding limit id) x) e h)
    (λ bytes there. whole bytes (ap (map.get objects) (sym same) ∙ there))
