-- Where the chunk of a cell stands.
use Rattle.std.proofs.Common.{◌≡◌, ◌≤◌, ℕ, ◌+◌, Option, Some, None, Result, Ok, Err, refl, ap, ◌∙◌, sym, subst, length, IfSome, IsSome}
use Rattle.std.specs.FinMap as fin
use Rattle.std.specs.Option.{ForSome}
use Rattle.vol_base.specs.Grids.{pairs}
use Rattle.vol_base.specs.Outside.{Objects}
use Rattle.vol_base.specs.declared.faults.Fault.{Fault}
use Rattle.vol_spec.specs.Encodings.{cell_limit}
use Rattle.vol_spec.specs.Limits.{cell_counts}
use Rattle.vol_spec.specs.Places.{id_of, shard_of}
use Rattle.vol_spec.specs.ShardNames.{shard_name}
use Rattle.vol_spec.specs.StoredBytes.{object_by, object_of}
use Rattle.vol_spec.specs.Types.{Bytes, Cell, Name}
use Rattle.vol_spec.specs.declared.scale.Scale.{Scale}
use Rattle.vol_spec.specs.declared.sharding.Sharding.{Sharding}
use Rattle.vol_spec.specs.declared.span.ChunkSpan.{ChunkSpan}
use Rattle.shard_reader.specs.Reading.{Answers, cost_of, found_of}
use Rattle.shard_reader.specs.declared.bytes.LookupFault.{LookupFault}
use Rattle.shard_reader.specs.declared.bytes.LookupFault.TheVariants.{NotRead, Faulty}
use Rattle.cutout.specs.Keeping.{search_by, search_cost}
use Rattle.cutout.specs.Reading.{Locates, placed, span_by, span_in}
use Rattle.cutout.specs.declared.fault.CutFault.{CutFault}
use Rattle.cutout.specs.declared.found.Found.TheVariants.{Absent, At}

-- the codes of a scale with shards have few bits
bits_by : (o : Option Sharding) (n : ℕ) → IsSome o → ForSome o (λ _. n ≤ 64) → n ≤ 64
bits_by None n some few = absurd (cc some)
bits_by (Some sharding) n some few = few sharding refl

pub few_bits : (s : Scale) → IsSome s.sharding → length (pairs (cell_counts s.size s.chunk)) ≤ 64
few_bits s some = bits_by s.sharding (length (pairs (cell_counts s.size s.chunk))) some s.codes_ok

-- where an object has a chunk, by a sharding or none
abbrev span_as : Option Sharding → Scale → Cell → Option Bytes → Result (Option ChunkSpan) Fault
span_as o s cell None = Ok None
span_as o s cell (Some object) = span_by o s cell object

in_shard : (sharding : Sharding) (s : Scale) (cell : Cell) (object : Option Bytes) → span_as (Some sharding) s cell object ≡ found_of object sharding (cell_limit s cell) (id_of s cell)
in_shard sharding s cell None = refl
in_shard sharding s cell (Some object) = refl

span-sharded : (m : Objects) (dataset : Name) (s : Scale) (cell : Cell) (sharding : Sharding) → s.sharding ≡ Some sharding
    → span_in m dataset s cell ≡ found_of (fin.get m (shard_name dataset s (shard_of sharding (id_of s cell)))) sharding (cell_limit s cell) (id_of s cell)
span-sharded m dataset s cell sharding e =
    ap (λ o. span_as o s cell (fin.get m (object_by o dataset s cell))) e
    ∙ in_shard sharding s cell (fin.get m (shard_name dataset s (shard_of sharding (id_of s cell))))

object-sharded : (dataset : Name) (s : Scale) (cell : Cell) (sharding : Sharding) → s.sharding ≡ Some sharding → object_of dataset s cell ≡ shard_name dataset s (shard_of sharding (id_of s cell))
object-sharded dataset s cell sharding e = ap (λ o. object_by o dataset s cell) e

-- a chunk in a shard
same_search : (m : Objects) (dataset : Name) (s : Scale) (cell : Cell) (sharding : Sharding) (limit id : ℕ) → s.sharding ≡ Some sharding → limit ≡ cell_limit s cell → id ≡ id_of s cell
    → span_in m dataset s cell ≡ found_of (fin.get m (shard_name dataset s (shard_of sharding id))) sharding limit id
same_search m dataset s cell sharding limit id e is_limit is_id =
    span-sharded m dataset s cell sharding e
    ∙ ap (λ n. found_of (fin.get m (shard_name dataset s (shard_of sharding (id_of s cell)))) sharding n (id_of s cell)) (sym is_limit)
    ∙ ap (λ k. found_of (fin.get m (shard_name dataset s (shard_of sharding k))) sharding limit k) (sym is_id)

pub span_found : (o : Option Objects) (dataset : Name) (s : Scale) (cell : Cell) (sharding : Sharding) (limit id : ℕ) (result : Result (Option ChunkSpan) LookupFault) → s.sharding ≡ Some sharding
    → limit ≡ cell_limit s cell → id ≡ id_of s cell → IfSome o (λ m. Answers (found_of (fin.get m (shard_name dataset s (shard_of sharding id))) sharding limit id) result)
    → IfSome o (λ m. Answers (span_in m dataset s cell) result)
span_found None dataset s cell sharding limit id result e is_limit is_id h = tt
span_found (Some m) dataset s cell sharding limit id result e is_limit is_id h = subst (λ wanted. Answers wanted result) (sym (same_search m dataset s cell sharding limit id e is_limit is_id)) h

-- what a search answers: that the chunk is absent,
pub absent_told : (o : Option Objects) (dataset : Name) (s : Scale) (cell : Cell) (seen : Option ChunkSpan) → seen ≡ None → IfSome o (λ m. Answers (span_in m dataset s cell) (Ok seen)) → IfSome o (λ m. Locates (Ok Absent) m dataset s cell)
absent_told None dataset s cell seen none h = tt
absent_told (Some m) dataset s cell seen none h = h ∙ ap (λ x. Ok x) none

-- where it stands,
pub span_told : (o : Option Objects) (dataset : Name) (s : Scale) (cell : Cell) (sharding : Sharding) (id : ℕ) (name : Name) (span : ChunkSpan) (seen : Option ChunkSpan) → s.sharding ≡ Some sharding → id ≡ id_of s cell
    → name ≡ shard_name dataset s (shard_of sharding id) → seen ≡ Some span → IfSome o (λ m. Answers (span_in m dataset s cell) (Ok seen)) → IfSome o (λ m. Locates (Ok (At name span.start span.len)) m dataset s cell)
span_told None dataset s cell sharding id name span seen e is_id named some h = tt
span_told (Some m) dataset s cell sharding id name span seen e is_id named some h = (
  named ∙ ap (λ k. shard_name dataset s (shard_of sharding k)) is_id ∙ sym (object-sharded dataset s cell sharding e),
  h ∙ ap (λ x. Ok x) some,
)

-- or a fault
fault_located : (m : Objects) (dataset : Name) (s : Scale) (cell : Cell) (fault : LookupFault) → Answers (span_in m dataset s cell) (Err fault) → Locates (Err (placed cell fault)) m dataset s cell
fault_located m dataset s cell NotRead h = tt
fault_located m dataset s cell (Faulty fault) h = (refl, h)

pub fault_told : (o : Option Objects) (dataset : Name) (s : Scale) (cell : Cell) (fault : LookupFault) (told : CutFault) → told ≡ placed cell fault
    → IfSome o (λ m. Answers (span_in m dataset s cell) (Err fault)) → IfSome o (λ m. Locates (Err told) m dataset s cell)
fault_told None dataset s cell fault told as_placed h = tt
fault_told (Some m) dataset s cell fault told as_placed h = subst (λ x. Locates (Err x) m dataset s cell) (sym as_placed) (fault_located m dataset s cell fault h)

-- what the search costs
by_shard : (sharding : Sharding) (s : Scale) (cell : Cell) (object : Option Bytes) → search_by (Some sharding) s cell object ≡ cost_of object sharding (id_of s cell)
by_shard sharding s cell None = refl
by_shard sharding s cell (Some object) = refl

search_costs : (m : Objects) (dataset : Name) (s : Scale) (cell : Cell) (sharding : Sharding) (id old new : ℕ) → s.sharding ≡ Some sharding → id ≡ id_of s cell
    → new ≤ old + cost_of (fin.get m (shard_name dataset s (shard_of sharding id))) sharding id → new ≤ old + search_cost m dataset s cell
search_costs m dataset s cell sharding id old new e is_id h =
    let same : cost_of (fin.get m (shard_name dataset s (shard_of sharding id))) sharding id ≡ search_cost m dataset s cell =
    ap (λ k. cost_of (fin.get m (shard_name dataset s (shard_of sharding k))) sharding k) is_id
    ∙ sym (by_shard sharding s cell (fin.get m (shard_name dataset s (shard_of sharding (id_of s cell)))))
    ∙ sym (ap (λ o. search_by o s cell (fin.get m (object_by o dataset s cell))) e) in
    subst (λ c. new ≤ old + c) same h

pub search_told : (o : Option Objects) (dataset : Name) (s : Scale) (cell : Cell) (sharding : Sharding) (id old new : ℕ) → s.sharding ≡ Some sharding → id ≡ id_of s cell
    → IfSome o (λ m. new ≤ old + cost_of (fin.get m (shard_name dataset s (shard_of sharding id))) sharding id) → IfSome o (λ m. new ≤ old + search_cost m dataset s cell)
search_told None dataset s cell sharding id old new e is_id h = tt
search_told (Some m) dataset s cell sharding id old new e is_id h = search_costs m dataset s cell sharding id old new e is_id h
