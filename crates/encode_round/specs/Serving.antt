-- What encoding the chunks of a scale takes (this project's).
use Rattle.std.specs.Prelude.{◌≡◌, ◌<◌, ◌≤◌, ◌+◌, ◌^◌, ℕ, List, length, Option, Some, None, IsSome, All, [], slice_get, slice_index_or, vec_capacity}
use Rattle.chunk_pool.specs.Frames.{Filled, Stock}
use Rattle.encode_round.specs.Held.{HasBytes, HasLen, used_of}
use Rattle.encode_round.specs.declared.kit.Kit.{Kit}
use Rattle.encode_round.specs.declared.bench.Bench.{Bench}
use Rattle.job_log.specs.declared.stages.Event.{Event}
use Rattle.vol_spec.specs.Limits.{first_bytes, limit_of}
use Rattle.vol_spec.specs.Types.{Bytes}
use Rattle.vol_spec.specs.declared.encoding.Encoding.TheVariants.{Raw, Seg}
use Rattle.vol_spec.specs.declared.scale.Scale.{Scale}
use Rattle.vol_spec.specs.Writable.{IsWritable}
use Rattle.segment_cells.specs.Serving.{ServesScale}
use Rattle.write_plan.specs.Jobs.{Work}
use Rattle.encode_round.specs.Ready.{chunk_ready}
use Rattle.encode_round.specs.declared.desk.Desk.{Desk}
use Rattle.encode_round.specs.declared.desk.Segments.{Segments}

-- the most bytes that a chunk of the scale has
abbrev pub most : Scale → ℕ
most s = limit_of s.encoding s.width s.channels s.size s.chunk

-- room for the values of each cell, and a scratch and room for its chunk
pub record AreSegments (s : Scale) (segments : Segments) : Type 0 where
  pub block : s.encoding ≡ Seg segments.block
  pub values : length segments.values.bytes ≡ first_bytes s.width s.channels s.size s.chunk
  pub scratch : ServesScale s segments.scratch
  pub chunk : length segments.chunk.bytes ≡ most s

-- none are needed for raw chunks
abbrev pub FitSegments : Scale → Option Segments → Type 0
FitSegments s None = s.encoding ≡ Raw
FitSegments s (Some segments) = AreSegments s segments

abbrev pub ServesDesk : Scale → Desk → Type 0
ServesDesk s desk = FitSegments s desk.segments

-- the jobs from one number up to, not with, another are prepared, of a scale that can be written
pub record ArePrepared (s : Scale) (work : Work) (ready : ℕ → Option Bytes) (from to : ℕ) : Type 0 where
  pub writable : IsWritable s
  pub scale : work.scale ≡ s
  pub order : from ≤ to
  pub within : to ≤ length work.cells
  pub few : to ≤ 2 ^ 22
  pub some : (job : ℕ) → from ≤ job → job < to → IsSome (ready job)

-- a round's name is that of the chunks of the jobs from this one on
pub record AreNamed (s : Scale) (work : Work) (ready : ℕ → Option Bytes) (from : ℕ) (wanted : List Bytes) (len : ℕ) : Type 0 where
  pub jobs : ArePrepared s work ready from (from + length wanted)
  pub chunks : (job : ℕ) → job < length wanted → slice_get wanted job ≡ Some (chunk_ready work ready (from + job))
  pub long : len ≡ most s

-- what all rounds of so many jobs of the scale take: lists with room for the events, a frame for each job, and a desk for each of at most 16 seats
pub record ServesKit (s : Scale) (size : ℕ) (kit : Kit) : Type 0 where
  pub stages : size + size ≤ vec_capacity kit.stages
  pub log : size + size ≤ vec_capacity kit.log
  pub count : length kit.frames.items ≡ size
  pub frames : All (HasLen (most s)) kit.frames.items
  pub desks : All (ServesDesk s) kit.desks.items
  pub some : 0 < length kit.desks.items
  pub few : length kit.desks.items ≤ 16
  pub spare : length kit.spare.items ≡ 0
  pub spare_room : 16 ≤ vec_capacity kit.spare

-- the first frames, so many, have these bytes
abbrev pub HasChunks : ℕ → List Bytes → ℕ → Kit → Type 0
HasChunks len wanted count kit = (k : ℕ) (d : Option Filled) → k < count →
    HasBytes len (slice_get wanted k) (slice_index_or kit.frames.items k d)

-- a seat of so many that has nothing out, and a desk for the scale
pub record IsSeated (s : Scale) (seats number : ℕ) (job : Option ℕ) (kept : Option Filled) (desk : Desk) : Type 0 where
  pub idle : job ≡ None
  pub bare : kept ≡ None
  pub serves : ServesDesk s desk
  pub below : number < seats

-- how many jobs a round has at most, how many seats, and what the last one did
abbrev pub size_in : Bench → ℕ
size_in bench = bench.size

abbrev pub seats_in : Bench → ℕ
seats_in bench = length bench.kit.desks.items

abbrev pub log_in : Bench → List Event
log_in bench = bench.kit.log.items

-- a pool of so many frames of a length has lent each of them
pub record AllLent (count len : ℕ) (pool : Stock) : Type 0 where
  pub reserved : pool.reserved ≡ count
  pub lent : pool.lent ≡ count
  pub long : pool.len ≡ len

-- a bench serves rounds of a scale: it has a kit for as many jobs as a round has at most, of which there are some, and no more than 256; its
-- pool has lent a frame for each of them, as long as those of the kit
pub record ServesBench (s : Scale) (bench : Bench) : Type 0 where
  pub frames : AllLent bench.size (most s) bench.pool
  pub kit : ServesKit s bench.size bench.kit
  pub some : 0 < bench.size
  pub few : bench.size ≤ 256

-- the bytes of a frame that lies at a place, or none
abbrev pub used_at : Option (Option Filled) → Bytes
used_at None = []
used_at (Some None) = []
used_at (Some (Some f)) = used_of f

-- the chunk that lies at a place after a round
abbrev pub done_in : Bench → ℕ → Bytes
done_in bench k = used_at (slice_get bench.kit.frames.items k)
