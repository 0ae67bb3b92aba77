-- Known scales and objects: what they say of their cells, what is wrong with them, and what chunks are stored as.
use Rattle.std.proofs.Common.{map, ◌≡◌, ℕ, ◌+◌, ◌*◌, ◌≤◌, List, [], ◌∷◌, ◌++◌, length, take, Option, Some, None, Ok, Err, refl, ap, lit≤}
use Rattle.std.specs.Prelude.{ℤ, pos, Result, flat_map, sum}
use Rattle.std.specs.FinMap as fin
use Rattle.std.specs.Fmt.{digits}
use Rattle.std.specs.List.{range_with_len}
use Rattle.std.specs.Option.{option_map}
use Rattle.vol_base.specs.Grids.{pairs}
use Rattle.vol_base.specs.Boxes.{from_begin}
use Rattle.vol_base.specs.Outside.{Objects}
use Rattle.vol_base.specs.declared.boxes.Box3.{Box3}
use Rattle.vol_base.specs.declared.faults.ChunkFault.TheVariants.{ChunkLength}
use Rattle.vol_base.specs.declared.faults.Fault.{Fault}
use Rattle.vol_base.specs.declared.faults.Fault.TheVariants.{Chunk, Index, Shard}
use Rattle.vol_base.specs.declared.faults.IndexFault.TheVariants.{BadId}
use Rattle.vol_base.specs.declared.faults.ShardFault.TheVariants.{ShortIndex, BadLength, ShortMinishard, ChunkTooLong, ShortChunk}
use Rattle.vol_spec.specs.BoxValues.{before_fault, bytes_of, first_some}
use Rattle.vol_spec.specs.Chunks.{chunk_in, fault_of, judged, value_of}
use Rattle.vol_spec.specs.Costs.{cost, cost_by}
use Rattle.vol_spec.specs.Cut.{cut, first_fault}
use Rattle.vol_spec.specs.Encodings.{cell_limit, encoded}
use Rattle.vol_spec.specs.Entries.{entry_bytes, entry_of}
use Rattle.vol_spec.specs.FoundChunks.{found}
use Rattle.vol_spec.specs.IndexBytes.{eight, numbers}
use Rattle.vol_spec.specs.Grid.{numbers_on, whole}
use Rattle.vol_spec.specs.LastWrite.{last}
use Rattle.vol_spec.specs.Limits.{cell_counts}
use Rattle.vol_spec.specs.Places.{id_of}
use Rattle.vol_spec.specs.Rows.{number_at}
use Rattle.vol_spec.specs.SegChunks.{entry, field, word}
use Rattle.vol_spec.specs.SegFaults.{seg_fault}
use Rattle.vol_spec.specs.SegBlocks.{in_chunk}
use Rattle.vol_spec.specs.SegWritten.{channel_start, owner, seg_bytes, table, values_place}
use Rattle.vol_spec.specs.ShardNames.{shard_file}
use Rattle.vol_spec.specs.Shards.{shard_bytes}
use Rattle.vol_spec.specs.StoredBytes.{held, object_of, stored_bytes}
use Rattle.vol_spec.specs.StoredCells.{met_cells, raw_bytes}
use Rattle.vol_spec.specs.StoredLists.{cell_key, in_key_order, stored_list}
use Rattle.vol_spec.specs.StoredShards.{objects_in}
use Rattle.vol_spec.specs.Verdicts.{Wrong, damage, index_wrong, judge}
use Rattle.vol_spec.specs.Verdicts.Wrong.{Damaged, Misplaced}
use Rattle.vol_spec.specs.declared.encoding.Encoding.TheVariants.{Raw, Seg}
use Rattle.vol_spec.specs.declared.scale.Scale.{Scale}
use Rattle.vol_spec.specs.declared.sharding.HashKind.TheVariants.{Identity, Murmur}
use Rattle.vol_spec.specs.Hashes.{loaded, stirred, mixed, all_mixed, hash8}
use Rattle.vol_spec.specs.declared.sharding.Sharding.{Sharding}
use Rattle.vol_spec.proofs.PlacedSteps.{in_order-put}
use Rattle.chunk_grid.proofs.KnownScales.{known, unsharded}

-- `d`
abbrev dataset : List ℕ
dataset = 100 ∷ []

abbrev ones : List ℕ
ones = 1 ∷ 1 ∷ 1 ∷ []

abbrev no_offset : List ℤ
no_offset = pos 0 ∷ pos 0 ∷ pos 0 ∷ []

pub two_codes : length (pairs (cell_counts (2 ∷ 1 ∷ 1 ∷ []) ones)) ≤ 64
unfolding pairs
two_codes = lit≤ tt

-- one chunk of 2 by 2 voxels, not sharded
abbrev square : Scale
square = unsharded 1 1 (2 ∷ 2 ∷ 1 ∷ []) no_offset (2 ∷ 2 ∷ 1 ∷ []) Raw refl

-- two chunks of a voxel, in a shard of so many minishards
abbrev sharded_by : Sharding → Scale
sharded_by sharding = known 1 1 (2 ∷ 1 ∷ 1 ∷ []) no_offset ones Raw (Some sharding) refl (λ x e. two_codes)

abbrev plain : Sharding
plain = record { preshift = 0; hash = Identity; minishard_bits = 0; shard_bits = 0; preshift_ok = lit≤ tt; minishard_ok = lit≤ tt; bits_ok = lit≤ tt }

abbrev halved : Sharding
halved = record { preshift = 0; hash = Identity; minishard_bits = 1; shard_bits = 0; preshift_ok = lit≤ tt; minishard_ok = lit≤ tt; bits_ok = lit≤ tt }

-- two segmentations of a voxel of four bytes, in a shard
abbrev segments : Scale
segments = known 4 1 (2 ∷ 1 ∷ 1 ∷ []) no_offset ones (Seg ones) (Some plain) refl (λ x e. two_codes)

-- the cells
abbrev first : List ℕ
first = 0 ∷ 0 ∷ 0 ∷ []

abbrev second : List ℕ
second = 1 ∷ 0 ∷ 0 ∷ []

-- what an object says of a cell
abbrev says : Scale → List ℕ → List ℕ → Result (Option (List ℕ)) Fault
says s cell object = judged s cell (held s cell (Some object))

-- raw objects of other lengths than the values have
exact : says square first (1 ∷ 2 ∷ 3 ∷ 4 ∷ []) ≡ Ok (Some (1 ∷ 2 ∷ 3 ∷ 4 ∷ []))
exact = refl

five_bytes : says square first (1 ∷ 2 ∷ 3 ∷ 4 ∷ 5 ∷ []) ≡ Err (Chunk (ChunkLength 5 4))
five_bytes = refl

nine_bytes : says square first (1 ∷ 2 ∷ 3 ∷ 4 ∷ 5 ∷ 6 ∷ 7 ∷ 8 ∷ 9 ∷ []) ≡ Err (Chunk (ChunkLength 5 4))
nine_bytes = refl

no_bytes : says square first [] ≡ Err (Chunk (ChunkLength 0 4))
no_bytes = refl

value_2 : value_of square first (says square first (1 ∷ 2 ∷ 3 ∷ 4 ∷ [])) (pos 0 ∷ pos 1 ∷ pos 0 ∷ []) 0 ≡ Ok 3
value_2 = refl

-- the shard of two minishards, with its first entry as it is given
abbrev two_with : ℕ → ℕ → List ℕ
two_with start end = numbers (start ∷ end ∷ 26 ∷ 50 ∷ []) ++ 10 ∷ numbers (0 ∷ 0 ∷ 1 ∷ []) ++ 11 ∷ numbers (1 ∷ 25 ∷ 1 ∷ [])

abbrev one_with : ℕ → ℕ → ℕ → List ℕ
one_with next start size = numbers (2 ∷ 50 ∷ []) ++ 10 ∷ 11 ∷ numbers (0 ∷ next ∷ start ∷ 0 ∷ size ∷ 1 ∷ [])

both_there_0 : says (sharded_by halved) first (two_with 1 25) ≡ Ok (Some (10 ∷ []))
unfolding found entry_of number_at eight pairs
both_there_0 = refl

both_there_1 : says (sharded_by halved) second (two_with 1 25) ≡ Ok (Some (11 ∷ []))
unfolding found entry_of number_at eight pairs
both_there_1 = refl

bad_length : says (sharded_by halved) first (two_with 2 25) ≡ Err (Shard (BadLength 23))
unfolding found entry_of number_at eight pairs
bad_length = refl

short_index : says (sharded_by halved) first (take 8 (two_with 1 25)) ≡ Err (Shard ShortIndex)
unfolding found entry_of number_at eight pairs
short_index = refl

short_minishard : says (sharded_by halved) first (take 33 (two_with 1 25)) ≡ Err (Shard ShortMinishard)
unfolding found entry_of number_at eight pairs
short_minishard = refl

same_id_0 : says (sharded_by plain) first (one_with 0 0 1) ≡ Ok (Some (10 ∷ []))
unfolding found entry_of number_at eight pairs
same_id_0 = refl

same_id_1 : says (sharded_by plain) second (one_with 0 0 1) ≡ Err (Index (BadId 1))
unfolding found entry_of number_at eight pairs
same_id_1 = refl

far_start : says (sharded_by plain) first (one_with 1 1000 1) ≡ Err (Shard ShortChunk)
unfolding found entry_of number_at eight pairs
far_start = refl

long_chunk : says (sharded_by plain) first (one_with 1 0 2) ≡ Err (Shard (ChunkTooLong 2 1))
unfolding found entry_of number_at eight pairs
long_chunk = refl

-- a row of another cell's id: the cell is absent, and the row is misplaced
abbrev other_id : List ℕ
other_id = numbers (1 ∷ 25 ∷ 26 ∷ 50 ∷ []) ++ 10 ∷ numbers (1 ∷ 0 ∷ 1 ∷ []) ++ 11 ∷ numbers (1 ∷ 25 ∷ 1 ∷ [])

other_id_absent : says (sharded_by halved) first other_id ≡ Ok None
unfolding found entry_of number_at eight pairs
other_id_absent = refl

other_id_misplaced : index_wrong (Some halved) (id_of (sharded_by halved) first) (Some other_id) ≡ Some (Misplaced 0 0 1)
unfolding entry_of number_at eight pairs
other_id_misplaced = refl

nothing_wrong : index_wrong (Some halved) (id_of (sharded_by halved) first) (Some (two_with 1 25)) ≡ None
unfolding entry_of number_at eight pairs
nothing_wrong = refl

-- rows past the wanted one are judged too
later_row : index_wrong (Some plain) (id_of (sharded_by plain) first) (Some (one_with 0 0 1)) ≡ Some (Damaged (Index (BadId 1)))
unfolding entry_of number_at eight pairs
later_row = refl

-- what a reader asks for: the entry, a row, a byte; or the entry alone
cost_found : cost_by (Some halved) (sharded_by halved) first (Some (two_with 1 25)) ≡ 41
unfolding found entry_of number_at eight pairs
cost_found = refl

cost_short : cost_by (Some halved) (sharded_by halved) first (Some (two_with 2 25)) ≡ 16
unfolding found entry_of number_at eight pairs
cost_short = refl

cost_plain : cost_by None square first None ≡ 5
cost_plain = refl

-- what chunks are stored as
abbrev shard_0 : List ℕ
shard_0 = 100 ∷ 47 ∷ 115 ∷ 47 ∷ 48 ∷ 46 ∷ 115 ∷ 104 ∷ 97 ∷ 114 ∷ 100 ∷ []

halved_stored : stored_list dataset (sharded_by halved) ((first, 10 ∷ []) ∷ (second, 11 ∷ []) ∷ []) ≡ (shard_0, two_with 1 25) ∷ []
unfolding stored_list shard_bytes entry_bytes eight pairs
halved_stored = ap (λ es. objects_in dataset (sharded_by halved) halved es (range_with_len 0 1)) (in_order-put ((0 ∷ 0 ∷ 0 ∷ [], 10 ∷ []) ∷ (0 ∷ 1 ∷ 1 ∷ [], 11 ∷ []) ∷ []))

plain_stored : stored_list dataset (sharded_by plain) ((first, 10 ∷ []) ∷ (second, 11 ∷ []) ∷ []) ≡ (shard_0, one_with 1 0 1) ∷ []
unfolding stored_list shard_bytes entry_bytes eight pairs
plain_stored = ap (λ es. objects_in dataset (sharded_by plain) plain es (range_with_len 0 1)) (in_order-put ((0 ∷ 0 ∷ 0 ∷ [], 10 ∷ []) ∷ (0 ∷ 0 ∷ 1 ∷ [], 11 ∷ []) ∷ []))

square_stored : stored_list dataset square ((first, 1 ∷ 2 ∷ 3 ∷ 4 ∷ []) ∷ []) ≡ (object_of dataset square first, 1 ∷ 2 ∷ 3 ∷ 4 ∷ []) ∷ []
unfolding stored_list
square_stored = refl

-- a segmentation of the value 7: the words 1, 2, 2 and 7
abbrev seven : List ℕ
seven = 1 ∷ 0 ∷ 0 ∷ 0 ∷ 2 ∷ 0 ∷ 0 ∷ 0 ∷ 2 ∷ 0 ∷ 0 ∷ 0 ∷ 7 ∷ 0 ∷ 0 ∷ 0 ∷ []

seven_encoded : encoded segments first (7 ∷ 0 ∷ 0 ∷ 0 ∷ []) ≡ seven
unfolding seg_bytes channel_start values_place owner table in_chunk
seven_encoded = refl

abbrev segment_shard : List ℕ
segment_shard = numbers (16 ∷ 40 ∷ []) ++ seven ++ numbers (0 ∷ 0 ∷ 16 ∷ [])

segments_stored : stored_list dataset segments ((first, 7 ∷ 0 ∷ 0 ∷ 0 ∷ []) ∷ []) ≡ (shard_0, segment_shard) ∷ []
unfolding stored_list shard_bytes entry_bytes eight pairs seg_bytes channel_start values_place owner table in_chunk
segments_stored = ap (λ es. objects_in dataset segments plain es (range_with_len 0 1)) (in_order-put ((0 ∷ 0 ∷ 0 ∷ [], seven) ∷ []))

segments_length : length segment_shard ≡ 56
unfolding eight
segments_length = refl

segments_say : says segments first segment_shard ≡ Ok (Some seven)
unfolding found entry_of number_at eight pairs seg_fault word field in_chunk
segments_say = refl

segments_value : value_of segments first (says segments first segment_shard) (pos 0 ∷ pos 0 ∷ pos 0 ∷ []) 0 ≡ Ok 7
unfolding found entry_of number_at eight pairs seg_fault word field in_chunk entry
segments_value = refl

segments_absent : says segments second segment_shard ≡ Ok None
unfolding found entry_of number_at eight pairs
segments_absent = refl

-- hashed ids: the second cell's shard comes first
abbrev hashed : Sharding
hashed = record { preshift = 0; hash = Murmur; minishard_bits = 3; shard_bits = 4; preshift_ok = lit≤ tt; minishard_ok = lit≤ tt; bits_ok = lit≤ tt }

abbrev hashed_pairs : Sharding
hashed_pairs = record { preshift = 1; hash = Murmur; minishard_bits = 3; shard_bits = 4; preshift_ok = lit≤ tt; minishard_ok = lit≤ tt; bits_ok = lit≤ tt }

abbrev both_chunks : List (List ℕ × List ℕ)
both_chunks = (first, 10 ∷ []) ∷ (second, 11 ∷ []) ∷ []

abbrev shard_file_of : ℕ → List ℕ
shard_file_of digit = 100 ∷ 47 ∷ 115 ∷ 47 ∷ digit ∷ 46 ∷ 115 ∷ 104 ∷ 97 ∷ 114 ∷ 100 ∷ []

hashed_names : map (λ o. o.0) (stored_list dataset (sharded_by hashed) both_chunks) ≡ shard_file_of 51 ∷ shard_file_of 56 ∷ []
unfolding stored_list pairs loaded stirred mixed all_mixed hash8
hashed_names =
    ap (λ es. map (λ o. o.0) (objects_in dataset (sharded_by hashed) hashed es (range_with_len 0 16))) (in_order-put ((8 ∷ 1 ∷ 0 ∷ [], 10 ∷ []) ∷ (3 ∷ 2 ∷ 1 ∷ [], 11 ∷ []) ∷ []))

-- with a bit less both ids go together, into the second of eight minishards
paired_stored : stored_list dataset (sharded_by hashed_pairs) both_chunks
    ≡ (shard_file_of 56, numbers (0 ∷ 0 ∷ 2 ∷ 50 ∷ 0 ∷ 0 ∷ 0 ∷ 0 ∷ 0 ∷ 0 ∷ 0 ∷ 0 ∷ 0 ∷ 0 ∷ 0 ∷ 0 ∷ []) ++ 10 ∷ 11 ∷ numbers (0 ∷ 1 ∷ 0 ∷ 0 ∷ 1 ∷ 1 ∷ [])) ∷ []
unfolding stored_list shard_bytes entry_bytes eight pairs loaded stirred mixed all_mixed hash8
paired_stored = ap (λ es. objects_in dataset (sharded_by hashed_pairs) hashed_pairs es (range_with_len 0 16)) (in_order-put ((8 ∷ 1 ∷ 0 ∷ [], 10 ∷ []) ∷ (8 ∷ 1 ∷ 1 ∷ [], 11 ∷ []) ∷ []))

-- a row has 24 bytes, not a minishard: two chunks in the first, one in the second
rows_counted : shard_bytes 1 (record { minishard = 0; id = 0; bytes = 10 ∷ [] } ∷ record { minishard = 0; id = 2; bytes = 12 ∷ [] } ∷ record { minishard = 1; id = 1; bytes = 11 ∷ [] } ∷ [])
    ≡ numbers (2 ∷ 50 ∷ 51 ∷ 75 ∷ []) ++ 10 ∷ 12 ∷ numbers (0 ∷ 2 ∷ 0 ∷ 0 ∷ 1 ∷ 1 ∷ []) ++ 11 ∷ numbers (1 ∷ 50 ∷ 1 ∷ [])
unfolding shard_bytes entry_bytes eight
rows_counted = refl

-- a row of an id of another shard is misplaced too
abbrev split : Sharding
split = record { preshift = 0; hash = Identity; minishard_bits = 0; shard_bits = 1; preshift_ok = lit≤ tt; minishard_ok = lit≤ tt; bits_ok = lit≤ tt }

other_shard : index_wrong (Some split) (id_of (sharded_by split) first) (Some (numbers (1 ∷ 25 ∷ []) ++ 10 ∷ numbers (1 ∷ 0 ∷ 1 ∷ []))) ≡ Some (Misplaced 0 0 1)
unfolding entry_of number_at eight pairs
other_shard = refl

-- the first row that is wrong is told: one of another minishard before one whose id doesn't ascend
both_rows_wrong : index_wrong (Some halved) (id_of (sharded_by halved) first) (Some (numbers (2 ∷ 50 ∷ 50 ∷ 50 ∷ []) ++ 10 ∷ 11 ∷ numbers (1 ∷ 0 ∷ 0 ∷ 0 ∷ 1 ∷ 1 ∷ []))) ≡ Some (Misplaced 0 0 1)
unfolding entry_of number_at eight pairs
both_rows_wrong = refl

-- with the shard before the minishard: an id of the first shard in the second
other_place : index_wrong (Some split) (id_of (sharded_by split) second) (Some (numbers (1 ∷ 25 ∷ []) ++ 10 ∷ numbers (0 ∷ 0 ∷ 1 ∷ []))) ≡ Some (Misplaced 1 0 0)
unfolding entry_of number_at eight pairs
other_place = refl

second_sound : index_wrong (Some halved) (id_of (sharded_by halved) second) (Some (two_with 1 25)) ≡ None
unfolding entry_of number_at eight pairs
second_sound = refl

-- objects with a shard
abbrev Has : Objects → List ℕ → Type 0
Has objects shard = fin.get objects shard_0 ≡ Some shard

-- the index is judged before the chunk, and the chunk is judged too
abbrev verdict : Sharding → List ℕ → Option (List ℕ) → Option Wrong
verdict sharding cell object =
    first_some (index_wrong (Some sharding) (id_of (sharded_by sharding) cell) object ∷ damage (fault_of (judged (sharded_by sharding) cell (held (sharded_by sharding) cell object))) ∷ [])

index_first : (objects : Objects) → Has objects (one_with 0 1000 1) → judge objects dataset (sharded_by plain) first ≡ Some (Damaged (Index (BadId 1)))
unfolding judge chunk_in stored_bytes found entry_of number_at eight pairs
index_first objects has = ap (verdict plain first) has

chunk_next : (objects : Objects) → Has objects (one_with 1 1000 1) → judge objects dataset (sharded_by plain) first ≡ Some (Damaged (Shard ShortChunk))
unfolding judge chunk_in stored_bytes found entry_of number_at eight pairs
chunk_next objects has = ap (verdict plain first) has

-- a chunk may end where its object does, and no further
short_entry : says (sharded_by halved) second (take 31 (two_with 1 25)) ≡ Err (Shard ShortIndex)
unfolding found entry_of number_at eight pairs
short_entry = refl

chunk_at_end : says (sharded_by plain) first (one_with 1 49 1) ≡ Ok (Some (0 ∷ []))
unfolding found entry_of number_at eight pairs
chunk_at_end = refl

chunk_past_end : says (sharded_by plain) first (one_with 1 50 1) ≡ Err (Shard ShortChunk)
unfolding found entry_of number_at eight pairs
chunk_past_end = refl

-- a cutout ends at the first voxel whose value is a fault: nothing of the second cell follows the first one's fault
ends_at_fault : before_fault (Ok 10 ∷ Err (Shard ShortIndex) ∷ Ok 11 ∷ []) ≡ 10 ∷ []
ends_at_fault = refl

abbrev pair_cut : Option (List ℕ) → List ℕ
pair_cut object =
    let value : List ℕ → List ℤ → Result ℕ Fault = λ cell p. value_of (sharded_by halved) cell (judged (sharded_by halved) cell (held (sharded_by halved) cell object)) p 0 in
    flat_map (bytes_of 1) (before_fault (value first (pos 0 ∷ pos 0 ∷ pos 0 ∷ []) ∷ value second (pos 1 ∷ pos 0 ∷ pos 0 ∷ []) ∷ []))

cut_both : (objects : Objects) → Has objects (two_with 1 25) → cut objects dataset (sharded_by halved) (whole (sharded_by halved)) ≡ 10 ∷ 11 ∷ []
unfolding cut chunk_in stored_bytes found entry_of number_at eight pairs
cut_both objects has = ap pair_cut has

cut_to_fault : (objects : Objects) → Has objects (two_with 2 25) → cut objects dataset (sharded_by halved) (whole (sharded_by halved)) ≡ []
unfolding cut chunk_in stored_bytes found entry_of number_at eight pairs
cut_to_fault objects has = ap pair_cut has

-- of two cells that have a fault the first is told
both_short : (objects : Objects) → Has objects (take 8 (two_with 1 25)) → first_fault objects dataset (sharded_by halved) (whole (sharded_by halved)) ≡ Some (first, Shard ShortIndex)
unfolding first_fault chunk_in stored_bytes found entry_of number_at eight pairs
both_short objects has =
    ap (λ object. first_some (map (λ cell. option_map (λ fault. (cell, fault)) (fault_of (judged (sharded_by halved) cell (held (sharded_by halved) cell object)))) (first ∷ second ∷ []))) has

-- the values of a box: x fastest, then y, z and the channel
abbrev eight_voxels : Box3
eight_voxels = record { begin = no_offset; size = 2 ∷ 2 ∷ 2 ∷ [] }

in_box_order : raw_bytes eight_voxels 2 1 (λ p c. from_begin eight_voxels p 0 + 10 * from_begin eight_voxels p 1 + 40 * from_begin eight_voxels p 2 + 100 * c)
    ≡ 0 ∷ 1 ∷ 10 ∷ 11 ∷ 40 ∷ 41 ∷ 50 ∷ 51 ∷ 100 ∷ 101 ∷ 110 ∷ 111 ∷ 140 ∷ 141 ∷ 150 ∷ 151 ∷ []
in_box_order = refl

-- two writes of two voxels over sevens, of which they share one: the last counts there, and what is behind them stays
abbrev shared : List (Box3 × List ℕ)
shared = (record { begin = no_offset; size = 2 ∷ 1 ∷ 1 ∷ [] }, 1 ∷ 2 ∷ []) ∷ (record { begin = pos 1 ∷ pos 0 ∷ pos 0 ∷ []; size = 2 ∷ 1 ∷ 1 ∷ [] }, 8 ∷ 9 ∷ []) ∷ []

last_counts : map (λ x. last 1 (λ p c. 7) shared (pos x ∷ pos 0 ∷ pos 0 ∷ []) 0) (range_with_len 0 4) ≡ 1 ∷ 8 ∷ 9 ∷ 7 ∷ []
last_counts = refl

-- a cell that one of the writes meets is met
either_met : met_cells (sharded_by plain) ((record { begin = no_offset; size = ones }, 1 ∷ []) ∷ (record { begin = pos 1 ∷ pos 0 ∷ pos 0 ∷ []; size = ones }, 2 ∷ []) ∷ []) ≡ first ∷ second ∷ []
unfolding met_cells
either_met = refl

cells_in_order : numbers_on (λ axis. 2)
    ≡ (0 ∷ 0 ∷ 0 ∷ []) ∷ (1 ∷ 0 ∷ 0 ∷ []) ∷ (0 ∷ 1 ∷ 0 ∷ []) ∷ (1 ∷ 1 ∷ 0 ∷ []) ∷ (0 ∷ 0 ∷ 1 ∷ []) ∷ (1 ∷ 0 ∷ 1 ∷ []) ∷ (0 ∷ 1 ∷ 1 ∷ []) ∷ (1 ∷ 1 ∷ 1 ∷ []) ∷ []
cells_in_order = refl

-- what a reader asks for: the entry alone where there is no object; two rows and a byte; a row where the id isn't in it
cost_absent : cost_by (Some halved) (sharded_by halved) first None ≡ 16
cost_absent = refl

cost_rows : cost_by (Some plain) (sharded_by plain) first (Some (one_with 1 0 1)) ≡ 65
unfolding found entry_of number_at eight pairs
cost_rows = refl

cost_other_id : cost_by (Some halved) (sharded_by halved) first (Some other_id) ≡ 40
unfolding found entry_of number_at eight pairs
cost_other_id = refl

cost_both : (objects : Objects) → Has objects (two_with 1 25) → cost objects dataset (sharded_by halved) (whole (sharded_by halved)) ≡ 82
unfolding cost found entry_of number_at eight pairs
cost_both objects has = ap (λ object. sum (map (λ cell. cost_by (Some halved) (sharded_by halved) cell object) (first ∷ second ∷ []))) has

-- the sizes of chunks count, not their number: two bytes and one in the first minishard, one in the second
sizes_counted : shard_bytes 1 (record { minishard = 0; id = 0; bytes = 10 ∷ 11 ∷ [] } ∷ record { minishard = 0; id = 2; bytes = 12 ∷ [] } ∷ record { minishard = 1; id = 1; bytes = 13 ∷ [] } ∷ [])
    ≡ numbers (3 ∷ 51 ∷ 52 ∷ 76 ∷ []) ++ 10 ∷ 11 ∷ 12 ∷ numbers (0 ∷ 2 ∷ 0 ∷ 0 ∷ 2 ∷ 1 ∷ []) ++ 13 ∷ numbers (1 ∷ 51 ∷ 1 ∷ [])
unfolding shard_bytes entry_bytes eight
sizes_counted = refl

-- the keys of cells: z, y, x; or the shard, the minishard and the id
key_by_axes : cell_key square (1 ∷ 2 ∷ 3 ∷ []) ≡ 3 ∷ 2 ∷ 1 ∷ []
key_by_axes = refl

key_by_shard : cell_key (sharded_by hashed) first ≡ 8 ∷ 1 ∷ 0 ∷ []
unfolding pairs loaded stirred mixed all_mixed hash8
key_by_shard = refl

hashed_jobs : in_key_order (sharded_by hashed) (first ∷ second ∷ []) ≡ second ∷ first ∷ []
unfolding in_key_order pairs loaded stirred mixed all_mixed hash8
hashed_jobs = ap (map (λ (entry : List ℕ × List ℕ). entry.1)) (in_order-put ((8 ∷ 1 ∷ 0 ∷ [], first) ∷ (3 ∷ 2 ∷ 1 ∷ [], second) ∷ []))

-- three voxels in chunks of two: the second chunk is clipped to one
pub clipped_codes : length (pairs (cell_counts (3 ∷ 1 ∷ 1 ∷ []) (2 ∷ 1 ∷ 1 ∷ []))) ≤ 64
unfolding pairs
clipped_codes = lit≤ tt

abbrev clipped : Option Sharding → Scale
clipped sharding = known 1 1 (3 ∷ 1 ∷ 1 ∷ []) no_offset (2 ∷ 1 ∷ 1 ∷ []) Raw sharding refl (λ x e. clipped_codes)

-- d/s/2-3_0-1_0-1
clipped_name : object_of dataset (clipped None) second ≡ 100 ∷ 47 ∷ 115 ∷ 47 ∷ 50 ∷ 45 ∷ 51 ∷ 95 ∷ 48 ∷ 45 ∷ 49 ∷ 95 ∷ 48 ∷ 45 ∷ 49 ∷ []
unfolding digits
clipped_name = refl

clipped_front : says (clipped None) second (1 ∷ 2 ∷ 3 ∷ 4 ∷ []) ≡ Err (Chunk (ChunkLength 2 1))
clipped_front = refl

-- chunks of two bytes each, of which the second is too long
abbrev both_long : List ℕ
both_long = numbers (4 ∷ 52 ∷ []) ++ 10 ∷ 11 ∷ 12 ∷ 13 ∷ numbers (0 ∷ 1 ∷ 0 ∷ 0 ∷ 2 ∷ 2 ∷ [])

clipped_0 : says (clipped (Some plain)) first both_long ≡ Ok (Some (10 ∷ 11 ∷ []))
unfolding found entry_of number_at eight pairs
clipped_0 = refl

clipped_1 : says (clipped (Some plain)) second both_long ≡ Err (Shard (ChunkTooLong 2 1))
unfolding found entry_of number_at eight pairs
clipped_1 = refl

-- what a reader asks for: of an object of its own as much as for the longest chunk, of a shard the chunk as it is found
cost_clipped : cost_by None (clipped None) second None ≡ 3
cost_clipped = refl

cost_clipped_0 : cost_by (Some plain) (clipped (Some plain)) first (Some both_long) ≡ 66
unfolding found entry_of number_at eight pairs
cost_clipped_0 = refl

cost_clipped_1 : cost_by (Some plain) (clipped (Some plain)) second (Some both_long) ≡ 64
unfolding found entry_of number_at eight pairs
cost_clipped_1 = refl

-- segmentations of four bytes in blocks of 2 by 2 voxels: the second chunk is clipped to 1 by 2
abbrev clipped_segments : Scale
clipped_segments = unsharded 4 1 (3 ∷ 2 ∷ 1 ∷ []) no_offset (2 ∷ 2 ∷ 1 ∷ []) (Seg (2 ∷ 2 ∷ 1 ∷ [])) refl

-- 3 above 5, which is number 2 of its block: the words 1, 0x01000003, 2, 4, 3 and 5
abbrev three_five : List ℕ
three_five = 1 ∷ 0 ∷ 0 ∷ 0 ∷ 3 ∷ 0 ∷ 0 ∷ 1 ∷ 2 ∷ 0 ∷ 0 ∷ 0 ∷ 4 ∷ 0 ∷ 0 ∷ 0 ∷ 3 ∷ 0 ∷ 0 ∷ 0 ∷ 5 ∷ 0 ∷ 0 ∷ 0 ∷ []

three_five_encoded : encoded clipped_segments second (3 ∷ 0 ∷ 0 ∷ 0 ∷ 5 ∷ 0 ∷ 0 ∷ 0 ∷ []) ≡ three_five
unfolding seg_bytes channel_start values_place owner table in_chunk
three_five_encoded = refl

three_five_says : says clipped_segments second three_five ≡ Ok (Some three_five)
unfolding seg_fault word field in_chunk
three_five_says = refl

three_five_value : value_of clipped_segments second (says clipped_segments second three_five) (pos 2 ∷ pos 1 ∷ pos 0 ∷ []) 0 ≡ Ok 5
unfolding seg_fault word field in_chunk entry
three_five_value = refl

-- the same cells in blocks of one voxel: the second one, of 1 by 2 voxels, has a smaller limit than the first
abbrev fine_segments : Scale
fine_segments = unsharded 4 1 (3 ∷ 2 ∷ 1 ∷ []) no_offset (2 ∷ 2 ∷ 1 ∷ []) (Seg ones) refl

first_limit : cell_limit fine_segments first ≡ 68
first_limit = refl

second_limit : cell_limit fine_segments second ≡ 36
second_limit = refl

-- 7af.shard and 03.shard
long_name : shard_file 11 1967 ≡ 55 ∷ 97 ∷ 102 ∷ 46 ∷ 115 ∷ 104 ∷ 97 ∷ 114 ∷ 100 ∷ []
long_name = refl

filled_name : shard_file 5 3 ≡ 48 ∷ 51 ∷ 46 ∷ 115 ∷ 104 ∷ 97 ∷ 114 ∷ 100 ∷ []
filled_name = refl
