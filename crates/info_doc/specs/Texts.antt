-- The texts of faults (this project's).
use Rattle.std.specs.Prelude.{ℕ, codes, List, ◌∷◌, ◌++◌}
use Rattle.info_doc.specs.declared.fault.Item.{Item}
use Rattle.info_doc.specs.declared.fault.Item.TheVariants.{Root, AtType, VolumeType, DataType, NumChannels, Scales, Size, VoxelOffset, ChunkSizes, Resolution, Encoding, BlockSize, Sharding, ShardingType, PreshiftBits, Hash, MinishardBits, ShardBits, MinishardIndexEncoding, DataEncoding, ChunkBytes, MortonBits, Padded}
use Rattle.info_doc.specs.declared.fault.What.{What}
use Rattle.info_doc.specs.declared.fault.What.TheVariants.{Missing, WrongKind, BadValue}
use Rattle.info_doc.specs.declared.fault.InfoFault.{InfoFault}
use Rattle.info_doc.specs.declared.fault.InfoFault.TheVariants.{TooLong, NotJson, Member, ScaleAbsent, Unsupported, Limit, OutOfMemory}

-- the member's name, or the limit's
abbrev pub item_text : Item → List ℕ
item_text Root = codes "root"
item_text AtType = codes "@type"
item_text VolumeType = codes "type"
item_text DataType = codes "data_type"
item_text NumChannels = codes "num_channels"
item_text Scales = codes "scales"
item_text Size = codes "size"
item_text VoxelOffset = codes "voxel_offset"
item_text ChunkSizes = codes "chunk_sizes"
item_text Resolution = codes "resolution"
item_text Encoding = codes "encoding"
item_text BlockSize = codes "compressed_segmentation_block_size"
item_text Sharding = codes "sharding"
item_text ShardingType = codes "sharding @type"
item_text PreshiftBits = codes "preshift_bits"
item_text Hash = codes "hash"
item_text MinishardBits = codes "minishard_bits"
item_text ShardBits = codes "shard_bits"
item_text MinishardIndexEncoding = codes "minishard_index_encoding"
item_text DataEncoding = codes "data_encoding"
item_text ChunkBytes = codes "chunk_bytes"
item_text MortonBits = codes "morton_bits"
item_text Padded = codes "padded"

abbrev pub what_text : What → List ℕ
what_text Missing = codes "missing"
what_text WrongKind = codes "wrong kind"
what_text BadValue = codes "bad value"

-- as it stands in a line of the program
abbrev pub fault_text : InfoFault → List ℕ
fault_text TooLong = codes "too long"
fault_text NotJson = codes "not json"
fault_text (Member item what) = item_text item ++ 32 ∷ what_text what
fault_text ScaleAbsent = codes "scale absent"
fault_text (Unsupported item) = codes "unsupported " ++ item_text item
fault_text (Limit item) = codes "limit " ++ item_text item
fault_text OutOfMemory = codes "out of memory"
