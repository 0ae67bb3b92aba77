-- The texts of faults (this project's).
use Rattle.std.specs.Prelude.{ℕ, List, [], ◌∷◌, ◌++◌, codes}
use Rattle.std.specs.Fmt.{decimal}
use Rattle.vol_base.specs.declared.faults.Fault.{Fault}
use Rattle.vol_base.specs.declared.faults.Fault.TheVariants.{Chunk, Index, Shard}
use Rattle.vol_base.specs.declared.faults.ChunkFault.{ChunkFault}
use Rattle.vol_base.specs.declared.faults.ChunkFault.TheVariants.{ChunkLength, SegLength, SegChannel, SegBits, SegValues, SegTable}
use Rattle.vol_base.specs.declared.faults.IndexFault.{IndexFault}
use Rattle.vol_base.specs.declared.faults.IndexFault.TheVariants.{BadId, BadStart}
use Rattle.vol_base.specs.declared.faults.ShardFault.{ShardFault}
use Rattle.vol_base.specs.declared.faults.ShardFault.TheVariants.{ShortIndex, BadRange, BadLength, TooManyRows, ShortMinishard, ChunkTooLong, ShortChunk}

-- some texts, one behind the other
abbrev pub texts : List (List ℕ) → List ℕ
texts [] = []
texts (t ∷ []) = t
texts (t ∷ rest) = t ++ texts rest

abbrev pub chunk_text : ChunkFault → List ℕ
chunk_text (ChunkLength found wanted) = texts (codes "chunk length " ∷ decimal found ∷ codes " wanted "
    ∷ decimal wanted ∷ [])
chunk_text (SegLength found) = texts (codes "seg length " ∷ decimal found ∷ [])
chunk_text (SegChannel c) = texts (codes "seg channel " ∷ decimal c ∷ [])
chunk_text (SegBits c b bits) = texts (codes "seg bits " ∷ decimal c ∷ codes " " ∷ decimal b ∷ codes " "
    ∷ decimal bits ∷ [])
chunk_text (SegValues c b) = texts (codes "seg values " ∷ decimal c ∷ codes " " ∷ decimal b ∷ [])
chunk_text (SegTable c b n) = texts (codes "seg table " ∷ decimal c ∷ codes " " ∷ decimal b ∷ codes " "
    ∷ decimal n ∷ [])

abbrev pub index_text : IndexFault → List ℕ
index_text (BadId row) = texts (codes "index id " ∷ decimal row ∷ [])
index_text (BadStart row) = texts (codes "index start " ∷ decimal row ∷ [])

abbrev pub shard_text : ShardFault → List ℕ
shard_text ShortIndex = codes "shard short index"
shard_text BadRange = codes "shard bad range"
shard_text (BadLength bytes) = texts (codes "shard bad length " ∷ decimal bytes ∷ [])
shard_text (TooManyRows rows) = texts (codes "shard too many rows " ∷ decimal rows ∷ [])
shard_text ShortMinishard = codes "shard short minishard"
shard_text (ChunkTooLong found limit) = texts (codes "chunk too long " ∷ decimal found ∷ codes " limit "
    ∷ decimal limit ∷ [])
shard_text ShortChunk = codes "shard short chunk"

abbrev pub fault_text : Fault → List ℕ
fault_text (Chunk fault) = chunk_text fault
fault_text (Index fault) = index_text fault
fault_text (Shard fault) = shard_text fault
