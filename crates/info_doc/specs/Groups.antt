-- The steps in their order (this project's profile), and what they read where none has a fault.
use Rattle.std.specs.Prelude.{ℕ, ◌^◌, Bool, codes, List, [], ◌∷◌, Option, option_and_then, if◌then◌else◌}
use Rattle.serde_json.specs.Data.{Data}
use Rattle.serde_json.specs.Find.{get}
use Rattle.vol_spec.specs.declared.encoding.Encoding.{Encoding}
use Rattle.vol_spec.specs.declared.encoding.Encoding.TheVariants.{Raw, Seg}
use Rattle.info_doc.specs.declared.fault.InfoFault.{InfoFault}
use Rattle.info_doc.specs.declared.fault.Item.TheVariants as items
use Rattle.info_doc.specs.declared.volume.Volume.{Volume}
use Rattle.info_doc.specs.declared.shape.Shape.{Shape}
use Rattle.info_doc.specs.Faults.{first}
use Rattle.info_doc.specs.Steps.{root_fault, at_type_fault, type_fault, is_segmentation, data_type_fault, width_in, channels_fault, number_in, sizes_fault, sizes_in, offset_fault, offsets_in, chunks_fault, chunk_in, more_in, is_sharded, resolution_fault, encoding_fault, is_seg, only_if, block_fault, object_fault, sharding_type_fault, preshift_fault, hash_fault, minishard_fault, shard_fault, inner_encoding_fault, bytes_fault, codes_fault, padded_fault}

-- ---- the members of a volume

abbrev pub volume_steps : Data → List (Option InfoFault)
volume_steps volume =
    root_fault volume ∷
    at_type_fault (get (codes "@type") volume) ∷
    type_fault (get (codes "type") volume) ∷
    data_type_fault (get (codes "data_type") volume) ∷
    channels_fault (is_segmentation (get (codes "type") volume)) (get (codes "num_channels") volume) ∷ []

unfoldable pub volume_fault : Data → Option InfoFault
volume_fault volume = first (volume_steps volume)

abbrev pub volume_in : Data → Volume
volume_in volume = record {
  width = width_in (get (codes "data_type") volume);
  channels =
      number_in (get (codes "num_channels") volume);
}

-- ---- the members of a scale: its shape,

abbrev pub shape_steps : Data → List (Option InfoFault)
shape_steps scale =
    sizes_fault items.Size (2 ^ 40) (get (codes "size") scale) ∷
    offset_fault (get (codes "voxel_offset") scale) ∷
    chunks_fault (is_sharded (get (codes "sharding") scale)) (get (codes "chunk_sizes") scale) ∷
    resolution_fault (get (codes "resolution") scale) ∷ []

unfoldable pub shape_fault : Data → Option InfoFault
shape_fault scale = first (shape_steps scale)

abbrev pub shape_in : Data → Shape
shape_in scale = record {
  size = sizes_in (get (codes "size") scale);
  offset =
      offsets_in (get (codes "voxel_offset") scale);
  chunk = chunk_in (get (codes "chunk_sizes") scale);
  more = more_in (get (codes "chunk_sizes") scale);
}

-- its encoding,

abbrev pub coding_steps : ℕ → Data → List (Option InfoFault)
coding_steps width scale =
    encoding_fault width (get (codes "encoding") scale) ∷
    only_if (is_seg (get (codes "encoding") scale))
    (block_fault (get (codes "compressed_segmentation_block_size") scale)) ∷ []

unfoldable pub coding_fault : ℕ → Data → Option InfoFault
coding_fault width scale = first (coding_steps width scale)

abbrev pub encoding_in : Data → Encoding
encoding_in scale = if is_seg (get (codes "encoding") scale)
    then Seg (sizes_in (get (codes "compressed_segmentation_block_size") scale)) else Raw

-- its sharding,

-- a member of an object that may be absent
abbrev pub part : List ℕ → Option Data → Option Data
part name object = option_and_then (get name) object

abbrev pub parts_steps : Option Data → List (Option InfoFault)
parts_steps sharding =
    object_fault sharding ∷
    sharding_type_fault (part (codes "@type") sharding) ∷
    preshift_fault (part (codes "preshift_bits") sharding) ∷
    hash_fault (part (codes "hash") sharding) ∷
    minishard_fault (part (codes "minishard_bits") sharding) ∷
    shard_fault (number_in (part (codes "minishard_bits") sharding)) (part (codes "shard_bits") sharding) ∷
    inner_encoding_fault items.MinishardIndexEncoding (part (codes "minishard_index_encoding") sharding) ∷
    inner_encoding_fault items.DataEncoding (part (codes "data_encoding") sharding) ∷ []

unfoldable pub parts_fault : Option Data → Option InfoFault
parts_fault sharding = first (parts_steps sharding)

-- and its limits

abbrev pub limit_steps : Volume → Shape → Encoding → Bool → List (Option InfoFault)
limit_steps volume shape encoding sharded =
    bytes_fault volume.width volume.channels shape.size (shape.chunk ∷ shape.more) ∷
    only_if sharded (codes_fault shape.size shape.chunk) ∷
    padded_fault encoding volume.channels shape.size (shape.chunk ∷ shape.more) ∷ []

unfoldable pub limit_fault : Volume → Shape → Encoding → Bool → Option InfoFault
limit_fault volume shape encoding sharded = first (limit_steps volume shape encoding sharded)
