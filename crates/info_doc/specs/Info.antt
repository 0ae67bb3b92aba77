-- The scale of an info document, or its first fault (precomputed volume format, info metadata). Which fault
-- is the first is this project's profile.
use Rattle.std.specs.Prelude.{◌≡◌, ℕ, ◌^◌, nat_lt, codes, Bool, true, false, List, [], ◌∷◌, length, Option, Some, None, unwrap_or, Result, Err, if◌then◌else◌, refl}
use Rattle.serde_json.specs.Data.{Data, null}
use Rattle.serde_json.specs.Find.{get}
use Rattle.vol_spec.specs.declared.scale.Scale.{Scale}
use Rattle.vol_spec.specs.declared.sharding.Sharding.{Sharding}
use Rattle.info_doc.specs.declared.fault.InfoFault.{InfoFault}
use Rattle.info_doc.specs.declared.fault.InfoFault.TheVariants.{TooLong, NotJson}
use Rattle.info_doc.specs.declared.fault.Item.TheVariants as items
use Rattle.info_doc.specs.Faults.{first, unless}
use Rattle.info_doc.specs.Json.{tree}
use Rattle.info_doc.specs.Steps.{root_fault, at_type_fault, type_fault, is_segmentation, data_type_fault, channels_fault, list_fault, list_in, scale_of_key, key_fault, sizes_fault, offset_fault, chunks_fault, resolution_fault, encoding_fault, is_seg, only_if, block_fault, is_sharded, object_fault, sharding_type_fault, preshift_fault, hash_fault, hash_in, minishard_fault, shard_fault, number_in, inner_encoding_fault, bytes_fault, codes_fault, padded_fault}
use Rattle.info_doc.specs.Groups.{volume_fault, volume_in, shape_fault, shape_in, coding_fault, encoding_in, part, parts_fault, limit_fault}
use Rattle.info_doc.specs.Fits as fits

-- the sharding of an object without a fault
unfoldable pub parts_in : (sharding : Option Data) → parts_fault sharding ≡ None → Sharding
parts_in sharding none = record {
  preshift = number_in (part (codes "preshift_bits") sharding);
  hash = hash_in (part (codes "hash") sharding);
  minishard_bits = number_in (part (codes "minishard_bits") sharding);
  shard_bits = number_in (part (codes "shard_bits") sharding);
  preshift_ok = fits.preshift_fits sharding none;
  minishard_ok = fits.minishard_fits sharding none;
  bits_ok = fits.shard_fits sharding none;
}

-- a value where a condition holds, whose step has no fault there
abbrev pub optional : {A : Type 0} (condition : Bool) (fault : Option InfoFault) → (fault ≡ None → A) →
    only_if condition fault ≡ None → Option A
optional true fault value none = Some (value none)
optional false fault value none = None

pub where_some : {A : Type 0} (condition : Bool) (fault : Option InfoFault) (value : fault ≡ None →
    A) (none : only_if condition fault ≡ None) (a : A) → optional condition fault value none ≡ Some a →
    condition ≡ true
where_some true fault value none a is = refl
where_some false fault value none a is = cc

abbrev pub sharding_in : (sharding : Option Data) →
    only_if (is_sharded sharding) (parts_fault sharding) ≡ None → Option Sharding
sharding_in sharding none = optional (is_sharded sharding) (parts_fault sharding) (parts_in sharding) none

-- the first fault of a sharding, or the sharding where there is one
unfoldable pub judged_parts : Option Data → Result Sharding InfoFault
judged_parts sharding = unless (parts_fault sharding) (parts_in sharding)

unfoldable pub judged_sharding : Option Data → Result (Option Sharding) InfoFault
judged_sharding sharding = unless (only_if (is_sharded sharding) (parts_fault sharding))
    (sharding_in sharding)

-- the first scale that has the key
abbrev pub found_in : List ℕ → Data → Option Data
found_in key volume = scale_of_key key (list_in (get (codes "scales") volume))

abbrev pub scale_at : List ℕ → Data → Data
scale_at key volume = unwrap_or (found_in key volume) null

-- all steps of a volume and of the scale that has the key, in their order
abbrev pub steps : List ℕ → Data → List (Option InfoFault)
steps key volume =
    let scale = scale_at key volume in
    let sharding = get (codes "sharding") scale in
    volume_fault volume ∷
    list_fault items.Scales (get (codes "scales") volume) ∷
    key_fault (found_in key volume) ∷
    shape_fault scale ∷
    coding_fault (volume_in volume).width scale ∷
    only_if (is_sharded sharding) (parts_fault sharding) ∷
    limit_fault (volume_in volume) (shape_in scale) (encoding_in scale) (is_sharded sharding) ∷ []

-- the same steps one by one, as the format lists them (proved: they have the same first fault)
abbrev pub table : List ℕ → Data → List (Option InfoFault)
table key volume =
    let scale = scale_at key volume in
    let values = volume_in volume in
    let shape = shape_in scale in
    let segmented = is_seg (get (codes "encoding") scale) in
    let sharding = get (codes "sharding") scale in
    let sharded = is_sharded sharding in
    root_fault volume ∷
    at_type_fault (get (codes "@type") volume) ∷
    type_fault (get (codes "type") volume) ∷
    data_type_fault (get (codes "data_type") volume) ∷
    channels_fault (is_segmentation (get (codes "type") volume)) (get (codes "num_channels") volume) ∷
    list_fault items.Scales (get (codes "scales") volume) ∷
    key_fault (found_in key volume) ∷
    sizes_fault items.Size (2 ^ 40) (get (codes "size") scale) ∷
    offset_fault (get (codes "voxel_offset") scale) ∷
    chunks_fault sharded (get (codes "chunk_sizes") scale) ∷
    resolution_fault (get (codes "resolution") scale) ∷
    encoding_fault values.width (get (codes "encoding") scale) ∷
    only_if segmented (block_fault (get (codes "compressed_segmentation_block_size") scale)) ∷
    only_if sharded (object_fault sharding) ∷
    only_if sharded (sharding_type_fault (part (codes "@type") sharding)) ∷
    only_if sharded (preshift_fault (part (codes "preshift_bits") sharding)) ∷
    only_if sharded (hash_fault (part (codes "hash") sharding)) ∷
    only_if sharded (minishard_fault (part (codes "minishard_bits") sharding)) ∷
    only_if sharded (shard_fault (number_in (part (codes "minishard_bits") sharding))
    (part (codes "shard_bits") sharding)) ∷
    only_if sharded (inner_encoding_fault items.MinishardIndexEncoding
    (part (codes "minishard_index_encoding") sharding)) ∷
    only_if sharded (inner_encoding_fault items.DataEncoding (part (codes "data_encoding") sharding)) ∷
    bytes_fault values.width values.channels shape.size (shape.chunk ∷ shape.more) ∷
    only_if sharded (codes_fault shape.size shape.chunk) ∷
    padded_fault (encoding_in scale) values.channels shape.size (shape.chunk ∷ shape.more) ∷ []

-- the scale of a volume without a fault
unfoldable pub scale_from : (key : List ℕ) (volume : Data) → first (steps key volume) ≡ None → Scale
scale_from key volume none =
    let scale = scale_at key volume in
    let sharding = get (codes "sharding") scale in
    let clear = fits.all_clear (steps key volume) none in
    let here : volume_fault volume ≡ None = clear.0 in
    let found : key_fault (found_in key volume) ≡ None = clear.1.1.0 in
    let shaped : shape_fault scale ≡ None = clear.1.1.1.0 in
    let coded : coding_fault (volume_in volume).width scale ≡ None = clear.1.1.1.1.0 in
    let sharded : only_if (is_sharded sharding) (parts_fault sharding) ≡ None = clear.1.1.1.1.1.0 in
    let small : limit_fault (volume_in volume) (shape_in scale) (encoding_in scale) (is_sharded sharding)
    ≡ None = clear.1.1.1.1.1.1.0 in
    record {
      key = key;
      width = (volume_in volume).width;
      channels = (volume_in volume).channels;
      size = (shape_in scale).size;
      offset = (shape_in scale).offset;
      chunk = (shape_in scale).chunk;
      encoding = encoding_in scale;
      sharding = sharding_in sharding sharded;
      more = (shape_in scale).more;
      key_ok = fits.key_fits key (list_in (get (codes "scales") volume)) found;
      width_ok = fits.volume_width volume here;
      some_channels = (fits.volume_channels volume here).0;
      channels_ok = (fits.volume_channels volume here).1;
      size_ok = fits.shape_size scale shaped;
      offset_ok = fits.shape_offset scale shaped;
      chunk_ok = fits.shape_chunk scale shaped;
      first_ok = fits.bytes_fit (volume_in volume) (shape_in scale) (encoding_in scale)
          (is_sharded sharding) small;
      wide_ok = fits.wide_fits (volume_in volume).width scale coded;
      block_ok = fits.blocks_fit (volume_in volume).width scale coded;
      padded_ok = fits.padded_fits (volume_in volume) (shape_in scale) (encoding_in scale)
          (is_sharded sharding) small;
      codes_ok = λ parts is. fits.codes_fit (volume_in volume) (shape_in scale) (encoding_in scale)
          (is_sharded sharding) small (where_some (is_sharded sharding) _
          (parts_in sharding) sharded parts is);
      more_ok = fits.more_fit (volume_in volume) (shape_in scale) (encoding_in scale) (is_sharded sharding)
          small (fits.shape_more scale shaped);
      alone_ok = λ parts is. fits.shape_alone scale shaped (where_some (is_sharded sharding) _
          (parts_in sharding) sharded parts is);
    }

-- the first fault of the steps, or the scale
unfoldable pub judged_volume : List ℕ → Data → Result Scale InfoFault
judged_volume key volume = unless (first (steps key volume)) (scale_from key volume)

abbrev pub judged_tree : List ℕ → Option Data → Result Scale InfoFault
judged_tree key None = Err NotJson
judged_tree key (Some volume) = judged_volume key volume

-- the scale of a document and a key, or the first fault
unfoldable pub scale_in : List ℕ → List ℕ → Result Scale InfoFault
scale_in bytes key = if nat_lt (2 ^ 20) (length bytes) then Err TooLong else judged_tree key (tree bytes)
