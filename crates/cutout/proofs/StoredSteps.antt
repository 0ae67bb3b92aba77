-- The bytes of a cell's chunk and what they cost, out of a shard or from an object of its own.
use Rattle.std.proofs.Common.{◌≡◌, ◌≤◌, ℕ, ◌+◌, ◌++◌, take, drop, length, Option, Some, None, Result, Ok, Err, arith, refl, ap, ◌∙◌, sym, subst, IfOk, IfSome}
use Rattle.std.proofs.Math.Seq.{take-append_seam}
use Rattle.std.proofs.lemmas.Grind.{common_steps}
use Rattle.std.specs.FinMap as fin
use Rattle.vol_base.specs.Outside.{got_of, Objects, part, Reads}
use Rattle.vol_base.specs.declared.faults.Fault.{Fault}
use Rattle.vol_base.specs.declared.outside.Got.{Got}
use Rattle.vol_base.specs.declared.outside.Got.TheVariants.{Absent, Bytes as Found}
use Rattle.vol_spec.specs.CellNames.{cell_name}
use Rattle.vol_spec.specs.Encodings.{cell_limit}
use Rattle.vol_spec.specs.Places.{id_of, shard_of}
use Rattle.vol_spec.specs.ShardNames.{shard_name}
use Rattle.vol_spec.specs.StoredBytes.{held_by, object_by, stored_bytes}
use Rattle.vol_spec.specs.Types.{Bytes, Cell, Name}
use Rattle.vol_spec.specs.declared.scale.Scale.{Scale}
use Rattle.vol_spec.specs.declared.sharding.Sharding.{Sharding}
use Rattle.shard_reader.specs.Readers.{Keeps}
use Rattle.shard_reader.specs.Reading.{chunk_bytes, Gets}
use Rattle.shard_reader.specs.declared.bytes.LookupFault.{LookupFault}
use Rattle.shard_reader.specs.declared.bytes.LookupFault.TheVariants.{NotRead, Faulty}
use Rattle.shard_reader.specs.declared.reader.ShardReader.{ShardReader}
use Rattle.cutout.specs.Keeping.{front_of, KeepsBy, KeepsShards}

-- what is held of an object, by a sharding or none
abbrev held_as : Option Sharding → Scale → Cell → Option Bytes → Result (Option Bytes) Fault
held_as o s cell None = Ok None
held_as o s cell (Some object) = held_by o s cell object

in_shard : (sharding : Sharding) (s : Scale) (cell : Cell) (object : Option Bytes) → held_as (Some sharding) s cell object ≡ chunk_bytes object sharding (cell_limit s cell) (id_of s cell)
in_shard sharding s cell None = refl
in_shard sharding s cell (Some object) = refl

on_its_own : (s : Scale) (cell : Cell) (object : Option Bytes) → held_as None s cell object ≡ front_of (cell_limit s cell + 1) object
on_its_own s cell None = refl
on_its_own s cell (Some object) = refl

stored-sharded : (m : Objects) (dataset : Name) (s : Scale) (cell : Cell) (sharding : Sharding) → s.sharding ≡ Some sharding
    → stored_bytes m dataset s cell ≡ chunk_bytes (fin.get m (shard_name dataset s (shard_of sharding (id_of s cell)))) sharding (cell_limit s cell) (id_of s cell)
unfolding stored_bytes
stored-sharded m dataset s cell sharding e =
    ap (λ o. held_as o s cell (fin.get m (object_by o dataset s cell))) e
    ∙ in_shard sharding s cell (fin.get m (shard_name dataset s (shard_of sharding (id_of s cell))))

stored-own : (m : Objects) (dataset : Name) (s : Scale) (cell : Cell) → s.sharding ≡ None → stored_bytes m dataset s cell ≡ front_of (cell_limit s cell + 1) (fin.get m (cell_name dataset s cell))
unfolding stored_bytes
stored-own m dataset s cell e =
    ap (λ o. held_as o s cell (fin.get m (object_by o dataset s cell))) e ∙ on_its_own s cell (fin.get m (cell_name dataset s cell))

-- a chunk that was read out of a shard is the cell's,
gets_sharded : (m : Objects) (dataset : Name) (s : Scale) (cell : Cell) (sharding : Sharding) (limit id : ℕ) (buffer : Bytes) (result : Result (Option ℕ) LookupFault)
    → s.sharding ≡ Some sharding → limit ≡ cell_limit s cell → id ≡ id_of s cell
    → Gets result buffer (chunk_bytes (fin.get m (shard_name dataset s (shard_of sharding id))) sharding limit id) → Gets result buffer (stored_bytes m dataset s cell)
gets_sharded m dataset s cell sharding limit id buffer result e is_limit is_id h =
    let same : chunk_bytes (fin.get m (shard_name dataset s (shard_of sharding id))) sharding limit id ≡ stored_bytes m dataset s cell =
    ap (λ k. chunk_bytes (fin.get m (shard_name dataset s (shard_of sharding k))) sharding limit k) is_id
    ∙ ap (λ n. chunk_bytes (fin.get m (shard_name dataset s (shard_of sharding (id_of s cell)))) sharding n (id_of s cell)) is_limit
    ∙ sym (stored-sharded m dataset s cell sharding e) in
    subst (Gets result buffer) same h

-- and so is the front of an object of its own
gets_own : (m : Objects) (dataset : Name) (s : Scale) (cell : Cell) (name : Name) (limit room : ℕ) (buffer : Bytes) (result : Result (Option ℕ) LookupFault)
    → s.sharding ≡ None → limit ≡ cell_limit s cell → name ≡ cell_name dataset s cell → room ≡ limit + 1
    → Gets result buffer (front_of room (fin.get m name)) → Gets result buffer (stored_bytes m dataset s cell)
gets_own m dataset s cell name limit room buffer result e is_limit is_name is_room h =
    let same : front_of room (fin.get m name) ≡ stored_bytes m dataset s cell =
    ap (λ n. front_of n (fin.get m name)) (is_room ∙ ap (λ n. n + 1) is_limit)
    ∙ ap (λ n. front_of (cell_limit s cell + 1) (fin.get m n)) is_name
    ∙ sym (stored-own m dataset s cell e) in
    subst (Gets result buffer) same h

-- the same where the objects may be untold
pub sharded_told : (o : Option Objects) (dataset : Name) (s : Scale) (cell : Cell) (sharding : Sharding) (limit id : ℕ) (buffer : Bytes) (result : Result (Option ℕ) LookupFault)
    → s.sharding ≡ Some sharding → limit ≡ cell_limit s cell → id ≡ id_of s cell
    → IfSome o (λ m. Gets result buffer (chunk_bytes (fin.get m (shard_name dataset s (shard_of sharding id))) sharding limit id)) → IfSome o (λ m. Gets result buffer (stored_bytes m dataset s cell))
sharded_told None dataset s cell sharding limit id buffer result e is_limit is_id h = tt
sharded_told (Some m) dataset s cell sharding limit id buffer result e is_limit is_id h = gets_sharded m dataset s cell sharding limit id buffer result e is_limit is_id h

pub own_told : (o : Option Objects) (dataset : Name) (s : Scale) (cell : Cell) (name : Name) (limit room : ℕ) (buffer : Bytes) (result : Result (Option ℕ) LookupFault)
    → s.sharding ≡ None → limit ≡ cell_limit s cell → name ≡ cell_name dataset s cell → room ≡ limit + 1
    → IfSome o (λ m. Gets result buffer (front_of room (fin.get m name))) → IfSome o (λ m. Gets result buffer (stored_bytes m dataset s cell))
own_told None dataset s cell name limit room buffer result e is_limit is_name is_room h = tt
own_told (Some m) dataset s cell name limit room buffer result e is_limit is_name is_room h = gets_own m dataset s cell name limit room buffer result e is_limit is_name is_room h

-- what a read of an object's front gave
front_absent : (object : Option Bytes) (old new buffer : Bytes) (got : Got) → got ≡ Absent → Reads object 0 old new got → Gets (Ok None) buffer (front_of (length old) object)
front_absent None old new buffer got is read = refl
front_absent (Some bytes) old new buffer got is read = absurd (let e : Absent ≡ got_of (Some bytes) 0 (length old) = sym is ∙ read.got in cc e)

bytes_in : Got → ℕ
bytes_in Absent = 0
bytes_in (Found n) = n

front_found : (object : Option Bytes) (old new : Bytes) (got : Got) (n : ℕ) → got ≡ Found n → Reads object 0 old new got → Gets (Ok (Some n)) new (front_of (length old) object)
unfolding bytes_in
front_found None old new got n is read = absurd (let e : Found n ≡ got_of None 0 (length old) = sym is ∙ read.got in cc e)
front_found (Some bytes) old new got n is read =
    let count : n ≡ length (part bytes 0 (length old)) = ap bytes_in (sym is ∙ read.got) in
    let same : take n new ≡ take (length old) bytes =
    ap (take n) read.bytes ∙ ap (λ j. take j (part bytes 0 (length old) ++ drop (length (part bytes 0 (length old))) old)) count
    ∙ take-append_seam (part bytes 0 (length old)) (drop (length (part bytes 0 (length old))) old) in
    ap (λ xs. Ok (Some xs)) (sym same)

pub absent_told : (o : Option Objects) (name : Name) (old new buffer : Bytes) (got : Got) → got ≡ Absent → IfSome o (λ m. Reads (fin.get m name) 0 old new got)
    → IfSome o (λ m. Gets (Ok None) buffer (front_of (length old) (fin.get m name)))
absent_told None name old new buffer got is read = tt
absent_told (Some m) name old new buffer got is read = front_absent (fin.get m name) old new buffer got is read

pub found_told : (o : Option Objects) (name : Name) (old new : Bytes) (got : Got) (n : ℕ) → got ≡ Found n → IfSome o (λ m. Reads (fin.get m name) 0 old new got)
    → IfSome o (λ m. Gets (Ok (Some n)) new (front_of (length old) (fin.get m name)))
found_told None name old new got n is read = tt
found_told (Some m) name old new got n is read = front_found (fin.get m name) old new got n is read

-- what is kept of an index, by the sharding
pub keeps_as : (o : Option Objects) (dataset : Name) (s : Scale) (sharding : Sharding) (shards : ShardReader) → s.sharding ≡ Some sharding → KeepsShards o dataset s shards
    → Keeps o dataset s sharding shards
keeps_as o dataset s sharding shards e h = subst (λ x. KeepsBy x o dataset s shards) e h

pub keeps_index : (o : Option Objects) (dataset : Name) (s : Scale) (sharding : Sharding) (shards : ShardReader) → s.sharding ≡ Some sharding
    → Keeps o dataset s sharding shards → KeepsShards o dataset s shards
keeps_index o dataset s sharding shards e h = subst (λ x. KeepsBy x o dataset s shards) (sym e) h

-- what is kept rightly of every scale is kept rightly of one,
kept_by : (o : Option Objects) (dataset : Name) (s : Scale) (by : Option Sharding) (shards : ShardReader) → ((objects : Option Objects) (name : Name) (t : Scale) (sharding : Sharding) → Keeps objects name t sharding shards)
    → KeepsBy by o dataset s shards
kept_by o dataset s None shards all = tt
kept_by o dataset s (Some sharding) shards all = all o dataset s sharding

pub keeps_none : (o : Option Objects) (dataset : Name) (s : Scale) (shards : ShardReader) → ((objects : Option Objects) (name : Name) (t : Scale) (sharding : Sharding) → Keeps objects name t sharding shards)
    → KeepsShards o dataset s shards
keeps_none o dataset s shards all = kept_by o dataset s s.sharding shards all

-- and what is kept stays right where the objects do
pub keeps_still : (o same : Option Objects) (dataset : Name) (s : Scale) (shards : ShardReader) → same ≡ o → KeepsShards o dataset s shards → KeepsShards same dataset s shards
keeps_still o same dataset s shards e h = subst (λ x. KeepsShards x dataset s shards) (sym e) h

-- bytes in front of a buffer are in front of a longer one
front_same : (n : ℕ) (front rest : Bytes) → n ≤ length front → take n front ≡ take n (front ++ rest)
front_same n front rest h = grind (arith, common_steps)

gets_longer : (r : Result (Option ℕ) LookupFault) (front rest : Bytes) (seen : Result (Option Bytes) Fault) → IfOk r (λ found. IfSome found (λ n. n ≤ length front)) → Gets r front seen → Gets r (front ++ rest) seen
gets_longer (Ok None) front rest seen within h = h
gets_longer (Ok (Some n)) front rest seen within h = h ∙ ap (λ xs. Ok (Some xs)) (front_same n front rest within)
gets_longer (Err NotRead) front rest seen within h = tt
gets_longer (Err (Faulty fault)) front rest seen within h = h

pub gets_front : (o : Option Objects) (dataset : Name) (s : Scale) (cell : Cell) (r : Result (Option ℕ) LookupFault) (front rest : Bytes) → IfOk r (λ found. IfSome found (λ n. n ≤ length front))
    → IfSome o (λ m. Gets r front (stored_bytes m dataset s cell)) → IfSome o (λ m. Gets r (front ++ rest) (stored_bytes m dataset s cell))
gets_front None dataset s cell r front rest within h = tt
gets_front (Some m) dataset s cell r front rest within h = gets_longer r front rest (stored_bytes m dataset s cell) within h

-- and what is within a front is within the whole
pub within_more : (r : Result (Option ℕ) LookupFault) (few many : ℕ) → few ≤ many → IfOk r (λ found. IfSome found (λ n. n ≤ few)) → IfOk r (λ found. IfSome found (λ n. n ≤ many))
within_more (Ok None) few many h within = tt
within_more (Ok (Some n)) few many h within = omega (arith, h, within)
within_more (Err fault) few many h within = tt
