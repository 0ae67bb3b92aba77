-- The steps of the judgement of an info document (precomputed volume format, info metadata; sharded format, sharding
-- specification; this project's profile): what each reads, and its fault.
use Rattle.std.specs.Prelude.{ℕ, ◌+◌, ◌^◌, ◌&&◌, ◌||◌, ◌==◌, nat_lt, nat_le, not, Bool, ℤ, pos, nat_abs, is_some, is_none, codes, bytes_eq, List, [], ◌∷◌, drop, length, map, slice_get, Option, Some, None, option_and_then, unwrap_or, if◌then◌else◌}
use Rattle.std.specs.List.{find, list_all, list_any}
use Rattle.std.specs.Str.{str_eq_ignore_ascii_case}
use Rattle.vol_base.specs.Boxes.{on_axes}
use Rattle.vol_base.specs.Grids.{pairs}
use Rattle.serde_json.specs.Data.{Data}
use Rattle.serde_json.specs.Find.{get, as_number, as_object}
use Rattle.vol_spec.specs.Limits.{first_bytes, cell_counts, padded_of}
use Rattle.vol_spec.specs.declared.encoding.Encoding.{Encoding}
use Rattle.vol_spec.specs.declared.sharding.HashKind.{HashKind}
use Rattle.vol_spec.specs.declared.sharding.HashKind.TheVariants.{Identity, Murmur}
use Rattle.info_doc.specs.declared.fault.InfoFault.{InfoFault}
use Rattle.info_doc.specs.declared.fault.InfoFault.TheVariants.{Member, ScaleAbsent, Unsupported, Limit}
use Rattle.info_doc.specs.declared.fault.What.TheVariants.{Missing, WrongKind, BadValue}
use Rattle.info_doc.specs.declared.fault.Item.{Item}
use Rattle.info_doc.specs.declared.fault.Item.TheVariants as items
use Rattle.info_doc.specs.Faults.{fault_by, first}
use Rattle.info_doc.specs.Json.{whole, signed, text, elements, triple, is_null}

-- ---- members that have to be there

-- a text
unfoldable pub text_fault : Item → Option Data → Option InfoFault
text_fault item member = fault_by ((is_none member, Member item Missing)
    ∷ (is_none (text member), Member item WrongKind) ∷ [])

abbrev pub text_in : Option Data → List ℕ
text_in member = unwrap_or (text member) []

-- a whole number
unfoldable pub number_fault : Item → Option Data → Option InfoFault
number_fault item member = fault_by ((is_none member, Member item Missing)
    ∷ (is_none (option_and_then whole member), Member item WrongKind) ∷ [])

abbrev pub number_in : Option Data → ℕ
number_in member = unwrap_or (option_and_then whole member) 0

-- an array
unfoldable pub list_fault : Item → Option Data → Option InfoFault
list_fault item member = fault_by ((is_none member, Member item Missing)
    ∷ (is_none (option_and_then elements member), Member item WrongKind) ∷ [])

abbrev pub list_in : Option Data → List Data
list_in member = unwrap_or (option_and_then elements member) []

-- three whole numbers
unfoldable pub triple_fault : Item → Option Data → Option InfoFault
triple_fault item member = fault_by ((is_none member, Member item Missing)
    ∷ (is_none (option_and_then (triple whole) member), Member item WrongKind) ∷ [])

abbrev pub sizes_in : Option Data → List ℕ
sizes_in member = unwrap_or (option_and_then (triple whole) member) []

-- some number passes a limit
abbrev pub passes : ℕ → List ℕ → Bool
passes limit numbers = list_any (λ n. nat_lt limit n) numbers

abbrev pub has_zero : List ℕ → Bool
has_zero numbers = list_any (λ n. n == 0) numbers

-- three whole numbers from 1 to a limit
unfoldable pub sizes_fault : Item → ℕ → Option Data → Option InfoFault
sizes_fault item limit member = first (
    triple_fault item member ∷
    fault_by ((has_zero (sizes_in member), Member item BadValue)
    ∷ (passes limit (sizes_in member), Limit item) ∷ []) ∷ [])

-- ---- the volume

unfoldable pub root_fault : Data → Option InfoFault
root_fault volume = fault_by ((is_none (as_object volume), Member items.Root WrongKind) ∷ [])

-- `@type`, which may be absent
unfoldable pub at_type_fault : Option Data → Option InfoFault
at_type_fault member = fault_by (
    (is_some member && is_none (text member), Member items.AtType WrongKind) ∷ (
      is_some member && not (bytes_eq (text_in member)
          (codes "neuroglancer_multiscale_volume")),
      Member items.AtType BadValue,
    ) ∷ [])

abbrev pub is_segmentation : Option Data → Bool
is_segmentation member = bytes_eq (text_in member) (codes "segmentation")

-- `type`
unfoldable pub type_fault : Option Data → Option InfoFault
type_fault member = first (
    text_fault items.VolumeType member ∷
    fault_by
    ((
      not
          (bytes_eq (text_in member)
          (codes "image") || is_segmentation member),
      Member items.VolumeType BadValue,
    ) ∷ []) ∷ [])

-- the same text but for the case of ASCII letters
abbrev pub is_like : List ℕ → List ℕ → Bool
is_like wanted found = str_eq_ignore_ascii_case found wanted

-- types of the format that aren't read
abbrev pub is_unread_type : List ℕ → Bool
is_unread_type name = is_like (codes "float32") name || is_like (codes "int8") name || is_like
    (codes "int16") name || is_like (codes "int32") name || is_like (codes "int64") name

-- the bytes of a value of a type
unfoldable pub width_of : List ℕ → Option ℕ
width_of name = if is_like (codes "uint8") name then Some 1
    else (if is_like (codes "uint16") name then Some 2
    else (if is_like (codes "uint32") name then Some 4
    else (if is_like (codes "uint64") name then Some 8 else None)))

abbrev pub width_in : Option Data → ℕ
width_in member = unwrap_or (width_of (text_in member)) 0

-- `data_type`
unfoldable pub data_type_fault : Option Data → Option InfoFault
data_type_fault member = first (
    text_fault items.DataType member ∷
    fault_by ((is_unread_type (text_in member), Unsupported items.DataType)
    ∷ (is_none (width_of (text_in member)), Member items.DataType BadValue) ∷ []) ∷ [])

-- `num_channels`: 1 to 1,024, and 1 in a segmentation
unfoldable pub channels_fault : Bool → Option Data → Option InfoFault
channels_fault segmentation member = first (
    number_fault items.NumChannels member ∷
    fault_by (
    (number_in member == 0, Member items.NumChannels BadValue) ∷
    (segmentation && not (number_in member == 1), Member items.NumChannels BadValue) ∷
    (nat_lt 1024 (number_in member), Limit items.NumChannels) ∷ []) ∷ [])

-- ---- its scales

-- an object whose key is this text
abbrev pub has_key : List ℕ → Data → Bool
has_key key scale = is_some (text (get (codes "key") scale)) && bytes_eq
    (text_in (get (codes "key") scale)) key

-- the first scale with the key; a key of more than 200 bytes names none
unfoldable pub scale_of_key : List ℕ → List Data → Option Data
scale_of_key key scales = if nat_le (length key) 200 then find (has_key key) scales else None

unfoldable pub key_fault : Option Data → Option InfoFault
key_fault scale = fault_by ((is_none scale, ScaleAbsent) ∷ [])

-- ---- the shape of a scale

abbrev pub offsets_in : Option Data → List ℤ
offsets_in member = unwrap_or (option_and_then (triple signed) member) (on_axes (λ _. pos 0))

-- some number passes a limit either way
abbrev pub passes_either_way : ℕ → List ℤ → Bool
passes_either_way limit numbers = list_any (λ n. nat_lt limit (nat_abs n)) numbers

-- `voxel_offset`, which may be absent: three signed numbers, each at most 2^40 either way
unfoldable pub offset_fault : Option Data → Option InfoFault
offset_fault member = fault_by (
    (is_some member && is_none (option_and_then (triple signed) member), Member items.VoxelOffset WrongKind) ∷
    (passes_either_way (2 ^ 40) (offsets_in member), Limit items.VoxelOffset) ∷ [])

-- the sizes of the first chunk size
abbrev pub chunk_in : Option Data → List ℕ
chunk_in member = sizes_in (slice_get (list_in member) 0)

-- and those of the others
abbrev pub more_in : Option Data → List (List ℕ)
more_in member = map (λ d. sizes_in (Some d)) (drop 1 (list_in member))

-- `chunk_sizes`: an array of one to eight elements, or with a sharding of one, each of which is three whole numbers from 1 to 2^40
unfoldable pub chunks_fault : Bool → Option Data → Option InfoFault
chunks_fault sharded member = first (
    list_fault items.ChunkSizes member ∷
    fault_by (
    (not (list_all (λ d. is_some (triple whole d)) (list_in member)), Member items.ChunkSizes WrongKind) ∷
    (length (list_in member) == 0, Member items.ChunkSizes BadValue) ∷
    (list_any (λ d. has_zero (sizes_in (Some d))) (list_in member), Member items.ChunkSizes BadValue) ∷
    (list_any (λ d. passes (2 ^ 40) (sizes_in (Some d))) (list_in member), Limit items.ChunkSizes) ∷
    (nat_lt 8 (length (list_in member)), Limit items.ChunkSizes) ∷
    (sharded && nat_lt 1 (length (list_in member)), Unsupported items.ChunkSizes) ∷ []) ∷ [])

-- `resolution`: three numbers
unfoldable pub resolution_fault : Option Data → Option InfoFault
resolution_fault member = fault_by (
    (is_none member, Member items.Resolution Missing) ∷
    (is_none (option_and_then (triple as_number) member), Member items.Resolution WrongKind) ∷ [])

-- ---- its encoding

abbrev pub is_seg : Option Data → Bool
is_seg member = is_like (codes "compressed_segmentation") (text_in member)

-- `encoding`; segmentation chunks have values of 4 or 8 bytes
unfoldable pub encoding_fault : ℕ → Option Data → Option InfoFault
encoding_fault width member = first (
    text_fault items.Encoding member ∷
    fault_by (
    (not (is_like (codes "raw") (text_in member) || is_seg member), Unsupported items.Encoding) ∷
    (is_seg member && not (width == 4 || width == 8), Member items.Encoding BadValue) ∷ []) ∷ [])

-- a step that is passed over elsewhere
abbrev pub only_if : Bool → Option InfoFault → Option InfoFault
only_if condition fault = if condition then fault else None

-- `compressed_segmentation_block_size`: three whole numbers from 1 to 2^24
unfoldable pub block_fault : Option Data → Option InfoFault
block_fault member = sizes_fault items.BlockSize (2 ^ 24) member

-- ---- its sharding

-- neither absent nor null
abbrev pub is_sharded : Option Data → Bool
is_sharded member = is_some member && not (is_null member)

unfoldable pub object_fault : Option Data → Option InfoFault
object_fault member = fault_by ((is_none (option_and_then as_object member), Member items.Sharding WrongKind)
    ∷ [])

-- `@type`
unfoldable pub sharding_type_fault : Option Data → Option InfoFault
sharding_type_fault member = first (
    text_fault items.ShardingType member ∷
    fault_by
    ((
      not
          (bytes_eq (text_in member)
          (codes "neuroglancer_uint64_sharded_v1")),
      Member items.ShardingType BadValue,
    ) ∷ []) ∷ [])

-- `preshift_bits`, to 64
unfoldable pub preshift_fault : Option Data → Option InfoFault
preshift_fault member = first (number_fault items.PreshiftBits member
    ∷ fault_by ((nat_lt 64 (number_in member), Member items.PreshiftBits BadValue) ∷ []) ∷ [])

abbrev pub is_identity : Option Data → Bool
is_identity member = bytes_eq (text_in member) (codes "identity")

abbrev pub hash_in : Option Data → HashKind
hash_in member = if is_identity member then Identity else Murmur

-- `hash`
unfoldable pub hash_fault : Option Data → Option InfoFault
hash_fault member = first (
    text_fault items.Hash member ∷
    fault_by ((
      not (is_identity member || bytes_eq (text_in member)
          (codes "murmurhash3_x86_128")),
      Member items.Hash BadValue,
    ) ∷ []) ∷ [])

-- `minishard_bits`, to 24
unfoldable pub minishard_fault : Option Data → Option InfoFault
minishard_fault member = first (number_fault items.MinishardBits member
    ∷ fault_by ((nat_lt 24 (number_in member), Limit items.MinishardBits) ∷ []) ∷ [])

-- `shard_bits`, to 64 with the minishard bits
unfoldable pub shard_fault : ℕ → Option Data → Option InfoFault
shard_fault minishard member = first (number_fault items.ShardBits member
    ∷ fault_by ((nat_lt 64 (minishard + number_in member), Member items.ShardBits BadValue) ∷ []) ∷ [])

-- `minishard_index_encoding` and `data_encoding`, which may be absent: only `raw` is read
unfoldable pub inner_encoding_fault : Item → Option Data → Option InfoFault
inner_encoding_fault item member = fault_by (
    (is_some member && is_none (text member), Member item WrongKind) ∷
    (is_some member && bytes_eq (text_in member) (codes "gzip"), Unsupported item) ∷
    (is_some member && not (bytes_eq (text_in member) (codes "raw")), Member item BadValue) ∷ [])

-- ---- its limits

-- for each chunk size at most 2^27 bytes in the first cell
abbrev pub has_many_bytes : ℕ → ℕ → List ℕ → List ℕ → Bool
has_many_bytes width channels size chunk = nat_lt (2 ^ 27) (first_bytes width channels size chunk)

unfoldable pub bytes_fault : ℕ → ℕ → List ℕ → List (List ℕ) → Option InfoFault
bytes_fault width channels size chunks =
    fault_by ((list_any (has_many_bytes width channels size) chunks, Limit items.ChunkBytes) ∷ [])

-- at most 64 bits in the Morton code of a cell
unfoldable pub codes_fault : List ℕ → List ℕ → Option InfoFault
codes_fault size chunk = fault_by ((
  nat_lt 64 (length
      (pairs (cell_counts size chunk))),
  Limit items.MortonBits,
) ∷ [])

-- for each chunk size at most 2^24 padded voxels times channels in a segmentation
abbrev pub has_many_voxels : Encoding → ℕ → List ℕ → List ℕ → Bool
has_many_voxels encoding channels size chunk = nat_lt (2 ^ 24) (padded_of encoding channels size chunk)

unfoldable pub padded_fault : Encoding → ℕ → List ℕ → List (List ℕ) → Option InfoFault
padded_fault encoding channels size chunks =
    fault_by ((list_any (has_many_voxels encoding channels size) chunks, Limit items.Padded) ∷ [])
