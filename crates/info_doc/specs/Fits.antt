-- What steps without a fault leave: each value is within its limits (this project's).
use Rattle.std.specs.Prelude.{◌≡◌, ◌⊎◌, ℕ, ◌+◌, ◌<◌, ◌≤◌, ◌^◌, ◌==◌, ◌||◌, ◌&&◌, not, nat_lt, nat_le, zero, suc, ℤ, pos, neg_ℤ, ◌≤ℤ◌, nat_abs, Bool, true, false, codes, List, [], ◌∷◌, drop, length, map, slice_get, slice_index, slice_index_or, Option, Some, None, IfSome, is_some, is_none, option_and_then, option_map, unwrap_or, if◌then◌else◌, refl}
use Rattle.std.specs.List.{All, find, list_all, list_any}
use Rattle.std.proofs.Common.{arith, inl, inr, subst}
use Rattle.std.proofs.lemmas.Bool.Decides.{nat_tests}
use Rattle.std.proofs.lemmas.Int.{ints}
use Rattle.vol_base.specs.Grids.{AreSizes, pairs}
use Rattle.vol_spec.specs.Limits.{IsWidth, AreOffsets, IsSeg, AreBlocks, FitsChunk, first_bytes, cell_counts, padded_of}
use Rattle.vol_spec.specs.declared.encoding.Encoding.{Encoding}
use Rattle.vol_spec.specs.declared.encoding.Encoding.TheVariants.{Raw, Seg}
use Rattle.serde_json.specs.Data.{Data}
use Rattle.serde_json.specs.Find.{get}
use Rattle.info_doc.specs.declared.fault.InfoFault.{InfoFault}
use Rattle.info_doc.specs.declared.fault.Item.{Item}
use Rattle.info_doc.specs.declared.fault.Item.TheVariants as items
use Rattle.info_doc.specs.declared.volume.Volume.{Volume}
use Rattle.info_doc.specs.declared.shape.Shape.{Shape}
use Rattle.info_doc.specs.Faults.{first}
use Rattle.info_doc.specs.Json.{whole, signed, three, triple, elements}
use Rattle.info_doc.specs.Steps.{triple_fault, sizes_fault, sizes_in, has_zero, passes, width_of, width_in, data_type_fault, is_unread_type, is_like, text_fault, text_in, number_fault, channels_fault, number_in, has_key, scale_of_key, key_fault, offset_fault, offsets_in, passes_either_way, chunks_fault, chunk_in, more_in, list_in, list_fault, is_sharded, has_many_bytes, has_many_voxels, encoding_fault, is_seg, only_if, block_fault, preshift_fault, minishard_fault, shard_fault, bytes_fault, codes_fault, padded_fault}
use Rattle.info_doc.specs.Groups.{volume_steps, volume_fault, volume_in, shape_steps, shape_fault, shape_in, coding_fault, encoding_in, part, parts_steps, parts_fault, limit_steps, limit_fault}

-- ---- rows and steps without a fault

clear : (b : Bool) (fault : InfoFault) (rest : Option InfoFault) → (if b then Some fault else rest) ≡ None →
    (b ≡ false) × (rest ≡ None)
clear true fault rest e = cc
clear false fault rest e = (refl, e)

abbrev pub AreClear : List (Option InfoFault) → Type 0
AreClear [] = Unit {0}
AreClear (step ∷ steps) = (step ≡ None) × AreClear steps

pub all_clear : (steps : List (Option InfoFault)) → first steps ≡ None → AreClear steps
all_clear [] e = tt
all_clear (None ∷ steps) e = (refl, all_clear steps e)
all_clear (Some fault ∷ steps) e = cc

neither : (a b : Bool) → a || b ≡ false → (a ≡ false) × (b ≡ false)
neither true b e = cc
neither false b e = (refl, e)

no_place : (test : ℕ → Bool) (xs : List ℕ) → list_any test xs ≡ false → (k : ℕ) → k < length xs →
    test (slice_index xs k) ≡ false
no_place test [] e k h = absurd (omega arith)
no_place test (x ∷ xs) e zero h = (neither (test x) _ e).0
no_place test (x ∷ xs) e (suc k) h = no_place test xs (neither (test x) _ e).1 k (omega arith)

some_size : (n : ℕ) → (n == 0) ≡ false → 1 ≤ n
some_size n e = grind (arith, nat_tests)

not_past : (limit n : ℕ) → nat_lt limit n ≡ false → n ≤ limit
not_past limit n e = grind (arith, nat_tests)

-- ---- sizes

within : (limit : ℕ) (s : List ℕ) → length s ≡ 3 → has_zero s ≡ false → passes limit s ≡ false → (axis : ℕ) →
    axis < 3 → (1 ≤ slice_index s axis) × (slice_index s axis ≤ limit)
within limit s l some small axis h =
    let inside : axis < length s = omega arith in (
      some_size _ (no_place (λ n. n == 0) s some axis inside),
      not_past limit _
          (no_place (λ n. nat_lt limit n) s small axis inside),
    )

all_read : {A : Type 0} (a b c : Option A) → IfSome
    (option_and_then (λ x. option_and_then (λ y. option_map (λ z. x ∷ y ∷ z ∷ []) c) b) a) (λ s. length s ≡ 3)
all_read None b c = tt
all_read (Some x) None c = tt
all_read (Some x) (Some y) None = tt
all_read (Some x) (Some y) (Some z) = refl

three_long : {A : Type 0} (f : Data → Option A) (ds : List Data) → IfSome (three f ds) (λ s. length s ≡ 3)
three_long f [] = tt
three_long f (x ∷ []) = tt
three_long f (x ∷ y ∷ []) = tt
three_long f (x ∷ y ∷ z ∷ []) = all_read (f x) (f y) (f z)
three_long f (x ∷ y ∷ z ∷ w ∷ ds) = tt

read_long : {A : Type 0} (f : Data → Option A) (ds : Option (List Data)) →
    IfSome (option_and_then (three f) ds) (λ s. length s ≡ 3)
read_long f None = tt
read_long f (Some ds) = three_long f ds

triple_long : {A : Type 0} (f : Data → Option A) (member : Option Data) →
    IfSome (option_and_then (triple f) member) (λ s. length s ≡ 3)
triple_long f None = tt
triple_long f (Some d) = read_long f (elements d)

long_by : (sizes : Option (List ℕ)) → IfSome sizes (λ s. length s ≡ 3) → is_none sizes ≡ false →
    length (unwrap_or sizes []) ≡ 3
long_by None long e = cc
long_by (Some s) long e = long

-- three sizes that were read are three
sizes_long : (member : Option Data) → is_none (option_and_then (triple whole) member) ≡ false →
    length (sizes_in member) ≡ 3
sizes_long member e = long_by (option_and_then (triple whole) member) (triple_long whole member) e

pub sizes_fit : (item : Item) (limit : ℕ) (member : Option Data) → sizes_fault item limit member ≡ None →
    (axis : ℕ) → axis < 3 → (1 ≤ slice_index (sizes_in member) axis) ×
    (slice_index (sizes_in member) axis ≤ limit)
unfolding sizes_fault triple_fault
sizes_fit item limit member none =
    let steps = all_clear (triple_fault item member ∷ _ ∷ []) none in
    let present = clear (is_none member) _ _ steps.0 in
    let long = clear (is_none (option_and_then (triple whole) member)) _ None present.1 in
    let some = clear (has_zero (sizes_in member)) _ _ steps.1.0 in
    let small = clear (passes limit (sizes_in member)) _ None some.1 in
    within limit (sizes_in member) (sizes_long member long.0) some.0 small.0

-- ---- the volume

abbrev width_at : Bool → Bool → Bool → Bool → Option ℕ
width_at a b c d = if a then Some 1 else (if b then Some 2
    else (if c then Some 4 else (if d then Some 8 else None)))

width_by : (a b c d : Bool) → is_none (width_at a b c d) ≡ false → IsWidth (unwrap_or (width_at a b c d) 0)
width_by true b c d e = inl refl
width_by false true c d e = inr (inl refl)
width_by false false true d e = inr (inr (inl refl))
width_by false false false true e = inr (inr (inr refl))
width_by false false false false e = cc

-- the two parts of a step
both : (a b : Option InfoFault) → first (a ∷ b ∷ []) ≡ None → (a ≡ None) × (b ≡ None)
both None None e = (refl, refl)
both None (Some b) e = cc
both (Some a) b e = cc

pub width_fits : (member : Option Data) → data_type_fault member ≡ None → ∥ IsWidth (width_in member) ∥₁
unfolding data_type_fault width_of
width_fits member none =
    let steps = both (text_fault items.DataType member) _ none in
    let read = clear (is_unread_type (text_in member)) _ _ steps.1 in
    let known = clear (is_none (width_of (text_in member))) _ None read.1 in
    ∣ width_by (is_like (codes "uint8") (text_in member)) (is_like (codes "uint16") (text_in member))
    (is_like (codes "uint32") (text_in member)) (is_like (codes "uint64") (text_in member)) known.0 ∣₁

pub channels_fit : (segmentation : Bool) (member : Option Data) → channels_fault segmentation member ≡ None →
    (1 ≤ number_in member) × (number_in member ≤ 1024)
unfolding channels_fault
channels_fit segmentation member none =
    let steps = both (number_fault items.NumChannels member) _ none in
    let some = clear (number_in member == 0) _ _ steps.1 in
    let one = clear (segmentation && not (number_in member == 1)) _ _ some.1 in
    let few = clear (nat_lt 1024 (number_in member)) _ None one.1 in
    (some_size _ some.0, not_past 1024 _ few.0)

-- ---- the key

key_by : (b : Bool) (key : List ℕ) (found : Option Data) → nat_le (length key) 200 ≡ b →
    key_fault (if b then found else None) ≡ None → length key ≤ 200
unfolding key_fault
key_by true key found short e = grind (arith, nat_tests)
key_by false key found short e = cc

-- a scale was found only for a short key
pub key_fits : (key : List ℕ) (scales : List Data) → key_fault (scale_of_key key scales) ≡ None →
    length key ≤ 200
unfolding scale_of_key
key_fits key scales none = key_by (nat_le (length key) 200) key (find (has_key key) scales) refl none

-- ---- the shape

no_offset : (limit : ℕ) (offsets : List ℤ) → passes_either_way limit offsets ≡ false → (k : ℕ) →
    nat_abs (slice_index_or offsets k (pos 0)) ≤ limit
no_offset limit [] e k = omega (arith, ints)
no_offset limit (x ∷ xs) e zero = not_past limit _ (neither (nat_lt limit (nat_abs x)) _ e).0
no_offset limit (x ∷ xs) e (suc k) = no_offset limit xs (neither (nat_lt limit (nat_abs x)) _ e).1 k

either_way : (z : ℤ) → nat_abs z ≤ 2 ^ 40 → (neg_ℤ (pos (2 ^ 40)) ≤ℤ z) × (z ≤ℤ pos (2 ^ 40))
either_way z h = (omega (arith, ints), omega (arith, ints))

pub offsets_fit : (member : Option Data) → offset_fault member ≡ None → AreOffsets (offsets_in member)
unfolding offset_fault
offsets_fit member none axis h =
    let kind = clear (is_some member && is_none (option_and_then (triple signed) member)) _ _ none in
    let near = clear (passes_either_way (2 ^ 40) (offsets_in member)) _ None kind.1 in
    either_way _ (no_offset (2 ^ 40) (offsets_in member) near.0 axis)

both_true : (a b : Bool) → not (a && b) ≡ false → a ≡ true
both_true true b e = refl
both_true false b e = cc

is_there : (b : Option (List ℕ)) → is_some b ≡ true → is_none b ≡ false
is_there None e = cc
is_there (Some s) e = refl

-- ---- chunk sizes

chunk_by : (ds : List Data) → not (list_all (λ d. is_some (triple whole d)) ds) ≡ false →
    (length ds == 0) ≡ false → list_any (λ d. has_zero (sizes_in (Some d))) ds ≡ false
    → list_any (λ d. passes (2 ^ 40) (sizes_in (Some d))) ds ≡ false → AreSizes (sizes_in (slice_get ds 0))
chunk_by [] kinds some full small = cc
chunk_by (d ∷ ds) kinds some full small =
    within (2 ^ 40) (sizes_in (Some d)) (sizes_long (Some d)
    (is_there (triple whole d) (both_true (is_some (triple whole d)) _ kinds)))
    (neither (has_zero (sizes_in (Some d))) _ full).0
    (neither (passes (2 ^ 40) (sizes_in (Some d))) _ small).0

pub chunk_fits : (sharded : Bool) (member : Option Data) → chunks_fault sharded member ≡ None →
    AreSizes (chunk_in member)
unfolding chunks_fault
chunk_fits sharded member none =
    let steps = both (list_fault items.ChunkSizes member) _ none in
    let kinds = clear (not (list_all (λ d. is_some (triple whole d)) (list_in member))) _ _ steps.1 in
    let some = clear (length (list_in member) == 0) _ _ kinds.1 in
    let full = clear (list_any (λ d. has_zero (sizes_in (Some d))) (list_in member)) _ _ some.1 in
    let small = clear (list_any (λ d. passes (2 ^ 40) (sizes_in (Some d))) (list_in member)) _ _ full.1 in
    chunk_by (list_in member) kinds.0 some.0 full.0 small.0

is_true : (b : Bool) → not b ≡ false → b ≡ true
is_true true e = refl
is_true false e = cc

true_parts : (a b : Bool) → a && b ≡ true → (a ≡ true) × (b ≡ true)
true_parts true b e = (refl, e)
true_parts false b e = cc

sizes_at : (ds : List Data) → list_all (λ d. is_some (triple whole d)) ds ≡ true
    → list_any (λ d. has_zero (sizes_in (Some d))) ds ≡ false
    → list_any (λ d. passes (2 ^ 40) (sizes_in (Some d))) ds ≡ false → (k : ℕ) (x : List ℕ)
    → k < length (map (λ d. sizes_in (Some d)) ds) → AreSizes (slice_index_or (map (λ d. sizes_in (Some d)) ds) k x)
sizes_at [] kinds full small k x l = absurd (omega arith)
sizes_at (d ∷ ds) kinds full small zero x l =
    within (2 ^ 40) (sizes_in (Some d)) (sizes_long (Some d)
    (is_there (triple whole d) (true_parts (is_some (triple whole d)) _ kinds).0))
    (neither (has_zero (sizes_in (Some d))) _ full).0
    (neither (passes (2 ^ 40) (sizes_in (Some d))) _ small).0
sizes_at (d ∷ ds) kinds full small (suc k) x l = sizes_at ds
    (true_parts (is_some (triple whole d)) _ kinds).1
    (neither (has_zero (sizes_in (Some d))) _ full).1
    (neither (passes (2 ^ 40) (sizes_in (Some d))) _ small).1 k x (omega arith)

more_by : (ds : List Data) → list_all (λ d. is_some (triple whole d)) ds ≡ true
    → list_any (λ d. has_zero (sizes_in (Some d))) ds ≡ false
    → list_any (λ d. passes (2 ^ 40) (sizes_in (Some d))) ds ≡ false
    → All AreSizes (map (λ d. sizes_in (Some d)) (drop 1 ds))
more_by [] kinds full small k x l = absurd (omega arith)
more_by (d ∷ ds) kinds full small k x l = sizes_at ds
    (true_parts (is_some (triple whole d)) _ kinds).1
    (neither (has_zero (sizes_in (Some d))) _ full).1
    (neither (passes (2 ^ 40) (sizes_in (Some d))) _ small).1 k x l

-- an array of chunk sizes without a fault: how many it has, each of three numbers
pub record AreChunks (sharded : Bool) (ds : List Data) : Type 0 where
  pub some : 0 < length ds
  pub few : length ds ≤ 8
  pub triples : list_all (λ d. is_some (triple whole d)) ds ≡ true
  pub full : list_any (λ d. has_zero (sizes_in (Some d))) ds ≡ false
  pub small : list_any (λ d. passes (2 ^ 40) (sizes_in (Some d))) ds ≡ false
  pub alone : sharded ≡ true → length ds ≤ 1

alone_by : (sharded : Bool) (n : ℕ) → sharded && nat_lt 1 n ≡ false → sharded ≡ true → n ≤ 1
alone_by true n e is = not_past 1 n e
alone_by false n e is = cc

pub chunks_are : (sharded : Bool) (member : Option Data) → chunks_fault sharded member ≡ None →
    AreChunks sharded (list_in member)
unfolding chunks_fault
chunks_are sharded member none =
    let steps = both (list_fault items.ChunkSizes member) _ none in
    let kinds = clear (not (list_all (λ d. is_some (triple whole d)) (list_in member))) _ _ steps.1 in
    let some = clear (length (list_in member) == 0) _ _ kinds.1 in
    let full = clear (list_any (λ d. has_zero (sizes_in (Some d))) (list_in member)) _ _ some.1 in
    let small = clear (list_any (λ d. passes (2 ^ 40) (sizes_in (Some d))) (list_in member)) _ _ full.1 in
    let few = clear (nat_lt 8 (length (list_in member))) _ _ small.1 in
    let alone = clear (sharded && nat_lt 1 (length (list_in member))) _ None few.1 in
    record {
      some = some_size _ some.0;
      few = not_past 8 _ few.0;
      triples = is_true _ kinds.0;
      full = full.0;
      small = small.0;
      alone = alone_by sharded (length (list_in member)) alone.0;
    }

more_fits : (sharded : Bool) (member : Option Data) → chunks_fault sharded member ≡ None →
    All AreSizes (more_in member)
more_fits sharded member none =
    let are = chunks_are sharded member none in
    more_by (list_in member) are.triples are.full are.small

none_more : (ds : List Data) → length ds ≤ 1 → length (map (λ d. sizes_in (Some d)) (drop 1 ds)) ≡ 0
none_more [] h = refl
none_more (d ∷ []) h = refl
none_more (d ∷ e ∷ ds) h = absurd (omega arith)

-- ---- the encoding

wide_by : (seg : Bool) (width : ℕ) → seg && not (width == 4 || width == 8) ≡ false → seg ≡ true →
    (width ≡ 4) ⊎ (width ≡ 8)
wide_by true width e s = grind (arith, nat_tests)
wide_by false width e s = cc

seg_by : (seg : Bool) (size block : List ℕ) → (if seg then Seg size else Raw) ≡ Seg block → (seg ≡ true) ×
    (size ≡ block)
seg_by true size block e = (refl, cc)
seg_by false size block e = cc

pub wide_fits : (width : ℕ) (scale : Data) → coding_fault width scale ≡ None → (block : List ℕ) →
    IsSeg (encoding_in scale) block → ∥ (width ≡ 4) ⊎ (width ≡ 8) ∥₁
unfolding coding_fault encoding_fault
wide_fits width scale none block seg =
    let member = get (codes "encoding") scale in
    let steps = both (encoding_fault width member) _ none in
    let parts = both (text_fault items.Encoding member) _ steps.0 in
    let known = clear (not (is_like (codes "raw") (text_in member) || is_seg member)) _ _ parts.1 in
    let wide = clear (is_seg member && not (width == 4 || width == 8)) _ None known.1 in
    ∣ wide_by (is_seg member) width wide.0 (seg_by (is_seg member) _ block seg).0 ∣₁

where_true : (b : Bool) (fault : Option InfoFault) → only_if b fault ≡ None → b ≡ true → fault ≡ None
where_true true fault e t = e
where_true false fault e t = cc

pub blocks_fit : (width : ℕ) (scale : Data) → coding_fault width scale ≡ None → (block : List ℕ) →
    IsSeg (encoding_in scale) block → AreBlocks block
unfolding coding_fault block_fault
blocks_fit width scale none block seg =
    let steps = both (encoding_fault width (get (codes "encoding") scale)) _ none in
    let same = seg_by (is_seg (get (codes "encoding") scale)) _ block seg in
    let clean = where_true (is_seg (get (codes "encoding") scale)) _ steps.1 same.0 in
    subst AreBlocks same.1 (sizes_fit items.BlockSize (2 ^ 24)
    (get (codes "compressed_segmentation_block_size") scale) clean)

-- ---- the sharding

pub preshift_fits : (sharding : Option Data) → parts_fault sharding ≡ None →
    number_in (part (codes "preshift_bits") sharding) ≤ 64
unfolding parts_fault preshift_fault
preshift_fits sharding none =
    let member = part (codes "preshift_bits") sharding in
    let step : preshift_fault member ≡ None = (all_clear (parts_steps sharding) none).1.1.0 in
    let bits = both (number_fault items.PreshiftBits member) _ step in
    not_past 64 _ (clear (nat_lt 64 (number_in member)) _ None bits.1).0

pub minishard_fits : (sharding : Option Data) → parts_fault sharding ≡ None →
    number_in (part (codes "minishard_bits") sharding) ≤ 24
unfolding parts_fault minishard_fault
minishard_fits sharding none =
    let member = part (codes "minishard_bits") sharding in
    let step : minishard_fault member ≡ None = (all_clear (parts_steps sharding) none).1.1.1.1.0 in
    let bits = both (number_fault items.MinishardBits member) _ step in
    not_past 24 _ (clear (nat_lt 24 (number_in member)) _ None bits.1).0

pub shard_fits : (sharding : Option Data) → parts_fault sharding ≡ None →
    number_in (part (codes "minishard_bits") sharding) + number_in (part (codes "shard_bits") sharding) ≤ 64
unfolding parts_fault shard_fault
shard_fits sharding none =
    let member = part (codes "shard_bits") sharding in
    let minishard = number_in (part (codes "minishard_bits") sharding) in
    let step : shard_fault minishard member ≡ None = (all_clear (parts_steps sharding) none).1.1.1.1.1.0 in
    let bits = both (number_fault items.ShardBits member) _ step in
    not_past 64 _ (clear (nat_lt 64 (minishard + number_in member)) _ None bits.1).0

-- ---- the limits

no_many_bytes : (volume : Volume) (shape : Shape) (encoding : Encoding) (sharded : Bool) →
    limit_fault volume shape encoding sharded ≡ None →
    list_any (has_many_bytes volume.width volume.channels shape.size) (shape.chunk ∷ shape.more) ≡ false
unfolding limit_fault bytes_fault
no_many_bytes volume shape encoding sharded none =
    let step : bytes_fault volume.width volume.channels shape.size (shape.chunk ∷ shape.more) ≡ None =
    (all_clear (limit_steps volume shape encoding sharded) none).0 in
    (clear (list_any (has_many_bytes volume.width volume.channels shape.size) (shape.chunk ∷ shape.more)) _ None
    step).0

no_many_voxels : (volume : Volume) (shape : Shape) (encoding : Encoding) (sharded : Bool) →
    limit_fault volume shape encoding sharded ≡ None →
    list_any (has_many_voxels encoding volume.channels shape.size) (shape.chunk ∷ shape.more) ≡ false
unfolding limit_fault padded_fault
no_many_voxels volume shape encoding sharded none =
    let step : padded_fault encoding volume.channels shape.size (shape.chunk ∷ shape.more) ≡ None =
    (all_clear (limit_steps volume shape encoding sharded) none).1.1.0 in
    (clear (list_any (has_many_voxels encoding volume.channels shape.size) (shape.chunk ∷ shape.more)) _ None
    step).0

pub bytes_fit : (volume : Volume) (shape : Shape) (encoding : Encoding) (sharded : Bool) →
    limit_fault volume shape encoding sharded ≡ None →
    first_bytes volume.width volume.channels shape.size shape.chunk ≤ 2 ^ 27
bytes_fit volume shape encoding sharded none = not_past (2 ^ 27) _
    (neither (has_many_bytes volume.width volume.channels shape.size shape.chunk) _
    (no_many_bytes volume shape encoding sharded none)).0

pub codes_fit : (volume : Volume) (shape : Shape) (encoding : Encoding) (sharded : Bool) →
    limit_fault volume shape encoding sharded ≡ None → sharded ≡ true →
    length (pairs (cell_counts shape.size shape.chunk)) ≤ 64
unfolding limit_fault codes_fault
codes_fit volume shape encoding sharded none is =
    let step : only_if sharded (codes_fault shape.size shape.chunk) ≡ None =
    (all_clear (limit_steps volume shape encoding sharded) none).1.0 in
    not_past 64 _ (clear (nat_lt 64 (length (pairs (cell_counts shape.size shape.chunk)))) _ None
    (where_true sharded _ step is)).0

pub padded_fits : (volume : Volume) (shape : Shape) (encoding : Encoding) (sharded : Bool) →
    limit_fault volume shape encoding sharded ≡ None →
    padded_of encoding volume.channels shape.size shape.chunk ≤ 2 ^ 24
padded_fits volume shape encoding sharded none = not_past (2 ^ 24) _
    (neither (has_many_voxels encoding volume.channels shape.size shape.chunk) _
    (no_many_voxels volume shape encoding sharded none)).0

none_at : {X : Type 0} (test : X → Bool) (xs : List X) → list_any test xs ≡ false → (k : ℕ) (d : X) →
    k < length xs → test (slice_index_or xs k d) ≡ false
none_at test [] e k d h = absurd (omega arith)
none_at test (x ∷ xs) e zero d h = (neither (test x) _ e).0
none_at test (x ∷ xs) e (suc k) d h = none_at test xs (neither (test x) _ e).1 k d (omega arith)

-- the limits of the further chunk sizes
pub more_fit : (volume : Volume) (shape : Shape) (encoding : Encoding) (sharded : Bool) →
    limit_fault volume shape encoding sharded ≡ None → All AreSizes shape.more →
    All (FitsChunk volume.width volume.channels shape.size encoding) shape.more
more_fit volume shape encoding sharded none sizes k d l = (
  sizes k d l,
  not_past (2 ^ 27) _ (none_at (has_many_bytes volume.width volume.channels shape.size) shape.more
      (neither (has_many_bytes volume.width volume.channels shape.size shape.chunk) _
      (no_many_bytes volume shape encoding sharded none)).1 k d l),
  not_past (2 ^ 24) _ (none_at (has_many_voxels encoding volume.channels shape.size) shape.more
      (neither (has_many_voxels encoding volume.channels shape.size shape.chunk) _
      (no_many_voxels volume shape encoding sharded none)).1 k d l),
)

-- ---- the same for a whole volume or scale

pub volume_width : (volume : Data) → volume_fault volume ≡ None → ∥ IsWidth (volume_in volume).width ∥₁
unfolding volume_fault
volume_width volume none = width_fits (get (codes "data_type") volume)
    (all_clear (volume_steps volume) none).1.1.1.0

pub volume_channels : (volume : Data) → volume_fault volume ≡ None → (1 ≤ (volume_in volume).channels) ×
    ((volume_in volume).channels ≤ 1024)
unfolding volume_fault
volume_channels volume none = channels_fit _ (get (codes "num_channels") volume)
    (all_clear (volume_steps volume) none).1.1.1.1.0

pub shape_size : (scale : Data) → shape_fault scale ≡ None → AreSizes (shape_in scale).size
unfolding shape_fault
shape_size scale none = sizes_fit items.Size (2 ^ 40) (get (codes "size") scale)
    (all_clear (shape_steps scale) none).0

pub shape_offset : (scale : Data) → shape_fault scale ≡ None → AreOffsets (shape_in scale).offset
unfolding shape_fault
shape_offset scale none = offsets_fit (get (codes "voxel_offset") scale)
    (all_clear (shape_steps scale) none).1.0

pub shape_chunk : (scale : Data) → shape_fault scale ≡ None → AreSizes (shape_in scale).chunk
unfolding shape_fault
shape_chunk scale none = chunk_fits (is_sharded (get (codes "sharding") scale)) (get (codes "chunk_sizes") scale)
    (all_clear (shape_steps scale) none).1.1.0

pub shape_more : (scale : Data) → shape_fault scale ≡ None → All AreSizes (shape_in scale).more
unfolding shape_fault
shape_more scale none = more_fits (is_sharded (get (codes "sharding") scale)) (get (codes "chunk_sizes") scale)
    (all_clear (shape_steps scale) none).1.1.0

-- there are none with a sharding
pub shape_alone : (scale : Data) → shape_fault scale ≡ None → is_sharded (get (codes "sharding") scale) ≡ true →
    length (shape_in scale).more ≡ 0
unfolding shape_fault
shape_alone scale none is =
    let are = chunks_are (is_sharded (get (codes "sharding") scale)) (get (codes "chunk_sizes") scale)
    (all_clear (shape_steps scale) none).1.1.0 in
    none_more (list_in (get (codes "chunk_sizes") scale)) (are.alone is)
