-- The chunk of an id, by an index that was opened.
use Rattle.std.proofs.Common.{◌≡◌, ℕ, ◌*◌, List, length, Option, None, Some, IfSome, Result, Ok, Err, refl, ap, ◌∙◌, sym, subst}
use Rattle.vol_base.specs.Outside.{part}
use Rattle.vol_base.specs.declared.faults.Fault.{Fault}
use Rattle.vol_base.specs.declared.faults.ShardFault.{ShardFault}
use Rattle.vol_spec.specs.Entries.{base_of}
use Rattle.vol_spec.specs.FoundChunks.{found, ◌>>=◌, of_index, of_shard, row_in, rows_in, span_of}
use Rattle.vol_spec.specs.Places.{minishard_of}
use Rattle.vol_spec.specs.Rows.{columns_of, find_in}
use Rattle.vol_spec.specs.declared.row.Row.{Row}
use Rattle.vol_spec.specs.declared.sharding.Sharding.{Sharding}
use Rattle.vol_spec.specs.declared.span.ChunkSpan.{ChunkSpan}
use Rattle.shard_reader.proofs.WindowSteps.{on_some}
use Rattle.shard_reader.specs.Reading.{Answers, found_of, IsOpened, Opens}
use Rattle.shard_reader.specs.declared.bytes.LookupFault.{LookupFault}
use Rattle.shard_reader.specs.declared.opened.OpenedIndex.{OpenedIndex}
use Rattle.shard_reader.specs.declared.bytes.LookupFault.TheVariants.{NotRead, Faulty}

abbrev behind_row : ℕ → ℕ → ℕ → Result (Option Row) Fault → Result (Option ChunkSpan) Fault
behind_row base len limit r = r >>= (λ row. of_shard (span_of base len limit row))

abbrev behind_entry : List ℕ → Sharding → ℕ → ℕ → Result ℕ Fault → Result (Option ChunkSpan) Fault
behind_entry object sharding limit id r = r >>= (λ rows. behind_row (base_of sharding) (length object) limit (of_index (row_in object sharding (minishard_of sharding id) id rows)))

-- behind an entry that was opened the row decides
pub found_behind : (object : List ℕ) (sharding : Sharding) (limit id len at count : ℕ) → IsOpened sharding (minishard_of sharding id) object len at count
    → found object sharding limit id ≡ behind_row (base_of sharding) len limit (of_index (find_in (columns_of (part object at (24 * count))) id))
unfolding found
found_behind object sharding limit id len at count is =
    ap (λ r. behind_entry object sharding limit id (of_shard r)) is.rows
    ∙ ap (λ xs. behind_row (base_of sharding) (length object) limit (of_index (find_in (columns_of xs) id))) (sym is.bytes)
    ∙ ap (λ n. behind_row (base_of sharding) n limit (of_index (find_in (columns_of (part object at (24 * count))) id))) (sym is.len)

pub found_row : (object : List ℕ) (sharding : Sharding) (limit id len at count base : ℕ) (row : Option Row) (span : Result (Option ChunkSpan) ShardFault) → IsOpened sharding (minishard_of sharding id) object len at count
    → of_index (find_in (columns_of (part object at (24 * count))) id) ≡ Ok row → base ≡ base_of sharding → span_of base len limit row ≡ span → found object sharding limit id ≡ of_shard span
found_row object sharding limit id len at count base row span is e eb es =
    found_behind object sharding limit id len at count is ∙ ap (behind_row (base_of sharding) len limit) e ∙ ap of_shard (ap (λ b. span_of b len limit row) (sym eb) ∙ es)

pub found_fault : (object : List ℕ) (sharding : Sharding) (limit id len at count : ℕ) (fault : LookupFault) → IsOpened sharding (minishard_of sharding id) object len at count
    → Answers {A = Option Row} (of_index (find_in (columns_of (part object at (24 * count))) id)) (Err fault) → Answers {A = Option ChunkSpan} (found object sharding limit id) (Err fault)
found_fault object sharding limit id len at count NotRead is h = tt
found_fault object sharding limit id len at count (Faulty fault) is h = found_behind object sharding limit id len at count is ∙ ap (behind_row (base_of sharding) len limit) h

-- of an entry with a fault
pub entry_fault : (object : List ℕ) (sharding : Sharding) (limit id : ℕ) (fault : Fault) → of_shard (rows_in object sharding (minishard_of sharding id)) ≡ Err fault → found object sharding limit id ≡ Err fault
unfolding found
entry_fault object sharding limit id fault e = ap (behind_entry object sharding limit id) e

pub opens_fault : (object : Option (List ℕ)) (sharding : Sharding) (limit id : ℕ) (fault : LookupFault) → Opens sharding (minishard_of sharding id) object (Err fault) → Answers {A = Option ChunkSpan} (found_of object sharding limit id) (Err fault)
opens_fault object sharding limit id NotRead h = tt
opens_fault None sharding limit id (Faulty fault) h = absurd h
opens_fault (Some object) sharding limit id (Faulty fault) h = entry_fault object sharding limit id fault h

pub opens_found : (object : Option (List ℕ)) (sharding : Sharding) (m limit id : ℕ) (opened : OpenedIndex) (answer : Result (Option ChunkSpan) LookupFault) → Opens sharding m object (Ok (Some opened))
    → ((bytes : List ℕ) → object ≡ Some bytes → Answers (found bytes sharding limit id) answer) → Answers (found_of object sharding limit id) answer
opens_found None sharding m limit id opened answer h there = absurd h
opens_found (Some object) sharding m limit id opened answer h there = there object refl

-- a chunk that is there is one of a row
pub span_of_row : (base len limit : ℕ) (row : Option Row) (span : Option ChunkSpan) (P : Type 0) → span_of base len limit row ≡ Ok span → IfSome row (λ _. P) → IfSome span (λ _. P)
span_of_row base len limit None span P is h = let e : None ≡ span = cc is in subst (λ x. IfSome x (λ _. P)) e tt
span_of_row base len limit (Some row) span P is h = on_some span P h
