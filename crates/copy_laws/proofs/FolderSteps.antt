-- A name tells the folder of its scale: what stands behind its last `/` is a file's name.
use Rattle.std.proofs.Common.{◌≡◌, ◌≢◌, ℕ, zero, suc, ◌+◌, ◌-◌, ◌/◌, ◌%◌, ◌^◌, ◌<◌, ◌≤◌, ◌==◌, List, [], ◌∷◌, ◌++◌, Bool, true, false, length, length-append, get_or, drop, map, Option, Some, None, refl, ap, ◌∙◌, sym, subst, arith}
use Rattle.std.specs.Prelude.{ℤ, pos, negsuc, All, Ok, filter, if◌then◌else◌, nat_lt, slice_index}
use Rattle.std.specs.FinMap as fin
use Rattle.std.specs.Fmt.{decimal, digit_glyph, digits, digits_onto, signed_decimal}
use Rattle.std.specs.List.{range_with_len}
use Rattle.std.proofs.lemmas.Bool.{ltb-true}
use Rattle.std.proofs.lemmas.List.{get_or_at, length-map}
use Rattle.std.proofs.lemmas.List.Elements.{All-nil, All-cons, All-append, All-map, All-weaker, filter_passes}
use Rattle.vol_base.specs.declared.boxes.Box3.{Box3}
use Rattle.vol_base.specs.Boxes.{at, end}
use Rattle.vol_base.specs.Outside.{Objects, any_under}
use Rattle.vol_spec.proofs.PlacedSteps.{length-in_order}
use Rattle.vol_spec.proofs.PutSteps.{put_in-other}
use Rattle.vol_spec.specs.CellNames.{box_name, cell_name, folder_of, joined, span_text}
use Rattle.vol_spec.specs.Chunks.{chunk_in, judged}
use Rattle.vol_spec.specs.Encodings.{encoded}
use Rattle.vol_spec.specs.Grid.{cell_box}
use Rattle.vol_spec.specs.Places.{id_of, shard_of}
use Rattle.vol_spec.specs.ShardNames.{filled_hex, hex_at, hex_len, shard_bits_of, shard_file, suffix}
use Rattle.vol_spec.specs.StoredBytes.{object_by, object_of}
use Rattle.vol_spec.specs.StoredCells.{put_in}
use Rattle.vol_spec.specs.StoredLists.{encoded_chunks, listed_by, stored_list}
use Rattle.vol_spec.specs.StoredShards.{chunk_of, has_chunk, in_shard, key_of, placed, shard_object}
use Rattle.vol_spec.specs.declared.scale.Scale.{Scale}
use Rattle.vol_spec.specs.declared.sharding.Sharding.{Sharding}
use Rattle.chunk_laws.proofs.Law.{empty_bytes}

-- a byte that isn't `/`
abbrev IsPlain : ℕ → Type 0
IsPlain b = b ≢ 47

abbrev ArePlain : List ℕ → Type 0
ArePlain text = All IsPlain text

plain_cons : (b : ℕ) (text : List ℕ) → IsPlain b → ArePlain text → ArePlain (b ∷ text)
plain_cons b text h k = All-cons IsPlain b text h k

plain_append : (a b : List ℕ) → ArePlain a → ArePlain b → ArePlain (a ++ b)
plain_append a b h k = All-append IsPlain a b h k

-- digits
glyph_by : (small : Bool) (d : ℕ) → IsPlain (if small then 48 + d else 87 + d)
glyph_by true d e = omega arith
glyph_by false d e = omega arith

glyph_plain : (d : ℕ) → IsPlain (digit_glyph false d)
glyph_plain d = glyph_by (nat_lt d 10) d

either_plain : (b : Bool) (xs ys : List ℕ) → ArePlain xs → ArePlain ys → ArePlain (if b then xs else ys)
either_plain true xs ys h k = h
either_plain false xs ys h k = k

onto_plain : (k n : ℕ) (acc : List ℕ) → ArePlain acc → ArePlain (digits_onto k 10 false n acc)
onto_plain zero n acc h = h
onto_plain (suc k) n acc h =
    let more : ArePlain (digit_glyph false (n % 10) ∷ acc) = plain_cons (digit_glyph false (n % 10)) acc (glyph_plain (n % 10)) h in
    either_plain (n / 10 == 0) (digit_glyph false (n % 10) ∷ acc) (digits_onto k 10 false (n / 10) (digit_glyph false (n % 10) ∷ acc))
    more (onto_plain k (n / 10) (digit_glyph false (n % 10) ∷ acc) more)

decimal_plain : (n : ℕ) → ArePlain (decimal n)
unfolding digits
decimal_plain n = onto_plain 64 n [] (All-nil IsPlain)

signed_plain : (z : ℤ) → ArePlain (signed_decimal z)
signed_plain (pos n) = decimal_plain n
signed_plain (negsuc n) = plain_cons 45 (decimal (suc n)) (λ e. omega arith) (decimal_plain (suc n))

-- the names of files
span_plain : (b : Box3) (axis : ℕ) → ArePlain (span_text b axis)
span_plain b axis =
    plain_append (signed_decimal (at b.begin axis)) (45 ∷ signed_decimal (end b axis)) (signed_plain (at b.begin axis))
    (plain_cons 45 (signed_decimal (end b axis)) (λ e. omega arith) (signed_plain (end b axis)))

box_plain : (b : Box3) → ArePlain (box_name b)
box_plain b =
    plain_append (span_text b 0) (95 ∷ (span_text b 1 ++ 95 ∷ span_text b 2)) (span_plain b 0)
    (plain_cons 95 (span_text b 1 ++ 95 ∷ span_text b 2) (λ e. omega arith)
    (plain_append (span_text b 1) (95 ∷ span_text b 2) (span_plain b 1) (plain_cons 95 (span_text b 2) (λ e. omega arith) (span_plain b 2))))

hex_plain : (n : ℕ) (count : ℕ) (xs : List ℕ) → ArePlain (map (λ i. hex_at n (count - 1 - i)) xs)
hex_plain n count [] = All-nil IsPlain
hex_plain n count (x ∷ xs) = plain_cons (hex_at n (count - 1 - x)) (map (λ i. hex_at n (count - 1 - i)) xs) (glyph_plain _) (hex_plain n count xs)

suffix_plain : ArePlain suffix
suffix_plain =
    plain_cons 46 (115 ∷ 104 ∷ 97 ∷ 114 ∷ 100 ∷ []) (λ e. omega arith) (plain_cons 115 (104 ∷ 97 ∷ 114 ∷ 100 ∷ []) (λ e. omega arith)
    (plain_cons 104 (97 ∷ 114 ∷ 100 ∷ []) (λ e. omega arith) (plain_cons 97 (114 ∷ 100 ∷ []) (λ e. omega arith)
    (plain_cons 114 (100 ∷ []) (λ e. omega arith) (plain_cons 100 [] (λ e. omega arith) (All-nil IsPlain))))))

shard_plain : (bits shard : ℕ) → ArePlain (shard_file bits shard)
shard_plain bits shard = plain_append (filled_hex shard (hex_len bits)) suffix (hex_plain shard (hex_len bits) (range_with_len 0 (hex_len bits))) suffix_plain

-- so a name is read in one way
behind : (a g b : List ℕ) → ArePlain a → a ≡ joined g b → ⊥
behind a g b h e =
    let stop : get_or (joined g b) (length g) 0 ≡ 47 = get_or_at g 47 b 0 (length g) refl in
    subst ArePlain e h (length g) 0 (omega (arith, length-append g (47 ∷ b))) stop

pub same_folder : (f g a b : List ℕ) → ArePlain a → ArePlain b → joined f a ≡ joined g b → f ≡ g
same_folder [] [] a b ha hb e = refl
same_folder [] (y ∷ g) a b ha hb e = absurd (behind a g b ha (ap (drop 1) e))
same_folder (x ∷ f) [] a b ha hb e = absurd (behind b f a hb (sym (ap (drop 1) e)))
same_folder (x ∷ f) (y ∷ g) a b ha hb e =
    let heads : x ≡ y = ap (λ l. get_or l 0 0) e in
    let tails : f ≡ g = same_folder f g a b ha hb (ap (drop 1) e) in
    cc

-- the file of a cell in its scale's folder
abbrev file_by : Option Sharding → Scale → List ℕ → List ℕ
file_by None s cell = box_name (cell_box s cell)
file_by (Some sharding) s cell = shard_file (shard_bits_of s) (shard_of sharding (id_of s cell))

object_by-joined : (o : Option Sharding) (dataset : List ℕ) (s : Scale) (cell : List ℕ) → object_by o dataset s cell ≡ joined (folder_of dataset s) (file_by o s cell)
object_by-joined None dataset s cell = refl
object_by-joined (Some sharding) dataset s cell = refl

file_plain : (o : Option Sharding) (s : Scale) (cell : List ℕ) → ArePlain (file_by o s cell)
file_plain None s cell = box_plain (cell_box s cell)
file_plain (Some sharding) s cell = shard_plain (shard_bits_of s) (shard_of sharding (id_of s cell))

-- scales with different folders share no name, also where one folder lies in the other
pub folders_apart : (dataset other : List ℕ) (s t : Scale) (a b : List ℕ) → folder_of dataset s ≢ folder_of other t → object_of dataset s a ≢ object_of other t b
folders_apart dataset other s t a b apart e =
    apart (same_folder (folder_of dataset s) (folder_of other t) (file_by s.sharding s a) (file_by t.sharding t b) (file_plain s.sharding s a) (file_plain t.sharding t b)
    (sym (object_by-joined s.sharding dataset s a) ∙ e ∙ object_by-joined t.sharding other t b))

-- so each cell is absent where no object is under the folder
pub all_absent : (m : Objects) (dataset : List ℕ) (s : Scale) (cell : List ℕ) → any_under m (folder_of dataset s) ≡ false → chunk_in m dataset s cell ≡ Ok None
unfolding chunk_in
all_absent m dataset s cell none = ap (judged s cell) (empty_bytes m dataset s cell none)

-- what chunks are stored as are files in the scale's folder, and there is none where there is no chunk
abbrev IsFileOf : List ℕ → List (List ℕ × List ℕ) → List ℕ × List ℕ → Type 0
IsFileOf folder chunks object = (file : List ℕ) × (0 < length chunks) × ArePlain file × (object.0 ≡ joined folder file)

some_left : {X : Type 0} (p : X → Bool) (xs : List X) → 0 < length (filter p xs) → 0 < length xs
some_left p [] h = h
some_left p (x ∷ xs) h = omega arith

some_placed : (s : Scale) (sharding : Sharding) (chunks : List (List ℕ × List ℕ)) (shard : ℕ) → has_chunk (placed s sharding chunks) shard ≡ true → 0 < length chunks
some_placed s sharding chunks shard has =
    let key : List ℕ × List ℕ → List ℕ × List ℕ = λ c. (key_of s sharding c.0, c.1) in
    let inside : List ℕ × List ℕ → Bool = λ e. slice_index e.0 0 == shard in
    let some : 0 < length (map chunk_of (filter inside (placed s sharding chunks))) = ltb-true 0 (length (in_shard (placed s sharding chunks) shard)) has in
    let held : 0 < length (filter inside (placed s sharding chunks)) = subst (λ n. 0 < n) (length-map (filter inside (placed s sharding chunks)) chunk_of) some in
    let all : 0 < length (placed s sharding chunks) = some_left inside (placed s sharding chunks) held in
    let few : length (placed s sharding chunks) ≤ length (map key chunks) = length-in_order (map key chunks) in
    let count : length (map key chunks) ≡ length chunks = length-map chunks key in
    omega (arith, all, few, count)

files_by : (o : Option Sharding) (dataset : List ℕ) (s : Scale) (chunks : List (List ℕ × List ℕ)) → All (IsFileOf (folder_of dataset s) chunks) (listed_by o dataset s chunks)
files_by None dataset s chunks =
    All-map (IsFileOf (folder_of dataset s) chunks) (λ chunk. (cell_name dataset s chunk.0, chunk.1)) chunks
    (λ k d l. (box_name (cell_box s (get_or chunks k d).0), omega arith, box_plain (cell_box s (get_or chunks k d).0), refl))
files_by (Some sharding) dataset s chunks =
    let found : ℕ → Bool = has_chunk (placed s sharding chunks) in
    let shards : List ℕ = range_with_len 0 (2 ^ sharding.shard_bits) in
    All-map (IsFileOf (folder_of dataset s) chunks) (shard_object dataset s sharding (placed s sharding chunks)) (filter found shards)
    (All-weaker (λ n. found n ≡ true) (λ n. IsFileOf (folder_of dataset s) chunks (shard_object dataset s sharding (placed s sharding chunks) n))
    (λ n has. (shard_file (shard_bits_of s) n, some_placed s sharding chunks n has, shard_plain (shard_bits_of s) n, refl)) (filter found shards) (filter_passes found shards))

stored_files : (dataset : List ℕ) (s : Scale) (chunks : List (List ℕ × List ℕ)) → All (IsFileOf (folder_of dataset s) chunks) (stored_list dataset s chunks)
unfolding stored_list
stored_files dataset s chunks =
    let count : length (encoded_chunks s chunks) ≡ length chunks = length-map chunks (λ chunk. (chunk.0, encoded s chunk.0 chunk.1)) in
    All-weaker (IsFileOf (folder_of dataset s) (encoded_chunks s chunks)) (IsFileOf (folder_of dataset s) chunks) (λ object file. (file.0, subst (λ n. 0 < n) count file.1, file.2, file.3))
    (listed_by s.sharding dataset s (encoded_chunks s chunks)) (files_by s.sharding dataset s (encoded_chunks s chunks))

-- so where some are stored in another folder, each name of a scale keeps its object, or has none
pub stored_apart : (m : Objects) (dataset other : List ℕ) (s t : Scale) (chunks : List (List ℕ × List ℕ)) (cell : List ℕ) → (0 < length chunks → folder_of dataset s ≢ folder_of other t)
    → fin.get (put_in m (stored_list other t chunks)) (object_of dataset s cell) ≡ fin.get m (object_of dataset s cell)
stored_apart m dataset other s t chunks cell apart =
    put_in-other m (stored_list other t chunks) (object_of dataset s cell)
    (All-weaker (IsFileOf (folder_of other t) chunks) (λ object. object.0 ≢ object_of dataset s cell)
    (λ object file same.
    apart file.1
    (same_folder (folder_of dataset s) (folder_of other t) (file_by s.sharding s cell) file.0 (file_plain s.sharding s cell) file.2
    (sym (object_by-joined s.sharding dataset s cell) ∙ sym same ∙ file.3)))
    (stored_list other t chunks) (stored_files other t chunks))
