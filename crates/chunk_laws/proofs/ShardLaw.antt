-- What is found of a cell in a sharded scale, once the shards of chunks are put in.
use Rattle.std.proofs.Common.{◌≡◌, ◌≢◌, ℕ, zero, suc, ◌+◌, ◌^◌, ◌<◌, ◌≤◌, Bool, true, false, cond, if◌then◌else◌, ◌==◌, ◌&&◌, List, [], ◌∷◌, length, get_or, slice_index, map, Option, Some, None, refl, ap, ◌∙◌, sym, subst, arith, nat_lt, ⊎_elim, ◌/◌}
use Rattle.std.specs.Prelude.{All, Contains, filter, Result, Ok, slice_get}
use Rattle.std.specs.FinMap as fin
use Rattle.std.specs.List.{range_with_len}
use Rattle.std.specs.Ordering.{eq_by_cmp}
use Rattle.std.proofs.lemmas.Bool.{cases_eq}
use Rattle.std.proofs.lemmas.Bool.Decides.{nat_tests}
use Rattle.std.proofs.lemmas.List.{get_or-map, length-map}
use Rattle.std.proofs.lemmas.List.Elements.{All-contains, All-contains_itself, All-filter, All-head, All-map, All-tail, All-weaker, filter_passes}
use Rattle.std.proofs.lemmas.Nat.{mod_below, pow_pos}
use Rattle.std.proofs.lemmas.Option.{get_or_from_slice_get, slice_get-get_or}
use Rattle.std.proofs.Math.Pow.{pow_mono}
use Rattle.vol_base.specs.Grids.{pairs}
use Rattle.vol_base.specs.Outside.{Objects}
use Rattle.vol_base.specs.declared.faults.Fault.{Fault}
use Rattle.vol_spec.specs.Codes.{IsInGrid}
use Rattle.vol_spec.specs.Encodings.{cell_limit}
use Rattle.vol_spec.specs.Entries.{base_of}
use Rattle.vol_spec.specs.FoundChunks.{found, rows_in}
use Rattle.vol_spec.specs.Grid.{IsCell}
use Rattle.vol_spec.specs.IndexBytes.{ids as ids_of, stored}
use Rattle.vol_spec.specs.Limits.{cell_counts}
use Rattle.vol_spec.specs.Places.{hashed, id_of, minishard_of, shard_of}
use Rattle.vol_spec.specs.ShardNames.{shard_name}
use Rattle.vol_spec.specs.Shards.{Chunk, of, rows_of, shard_bytes, start_of}
use Rattle.vol_spec.specs.StoredBytes.{held_by, object_by, spanned, stored_bytes}
use Rattle.vol_spec.specs.StoredCells.{put_in}
use Rattle.vol_spec.specs.StoredShards.{chunk_of, has_chunk, in_shard, key_of, objects_in, placed}
use Rattle.vol_spec.specs.declared.scale.Scale.{Scale}
use Rattle.vol_spec.specs.declared.sharding.Sharding.{Sharding}
use Rattle.vol_spec.specs.declared.row.Row.{Row}
use Rattle.chunk_grid.proofs.GridSteps.{AreSizes-counts}
use Rattle.chunk_grid.proofs.ListingSteps.{Contains-filter}
use Rattle.minishard.specs.Numbers.{AreIds}
use Rattle.minishard.proofs.ReadBack.{columns_back, judged_stored}
use Rattle.vol_spec.specs.BoxValues.{first_some}
use Rattle.vol_spec.specs.Rows.{columns_of, judged_row}
use Rattle.vol_spec.specs.Verdicts.{Wrong, belongs, row_wrong, rows_wrong}
use Rattle.vol_spec.specs.Verdicts.Wrong.{Misplaced}
use Rattle.morton_code.proofs.Steps.{number-below}
use Rattle.chunk_laws.proofs.Ascending.{nothing, row_is, rows_ok}
use Rattle.chunk_laws.proofs.CodeSteps.{code_of-tells}
use Rattle.chunk_laws.proofs.FoundAgain.{chunk_found, empty_absent, empty_rows, id_absent, index_found, rows_found}
use Rattle.vol_spec.proofs.PlacedSteps.{All-in_order, Contains-in_order, Entry, by_key, equal_keys, keys_equal, length-in_order, sorted-in_order}
use Rattle.chunk_laws.proofs.PutShards.{get-kept_shard, get-put_shard}
use Rattle.chunk_laws.proofs.ShardSteps.{IsTriple, Rises, before_short, chosen_in, chosen_rises, chunk_part, rises-next}

-- two cells have two ids
codes_cell : (s : Scale) (cell : List ℕ) → IsCell s cell → IsInGrid (cell_counts s.size s.chunk) cell
codes_cell s cell h = record { axes = h.axes; below = h.below }

pub id_of-tells : (s : Scale) (a b : List ℕ) → IsCell s a → IsCell s b → id_of s a ≡ id_of s b → a ≡ b
id_of-tells s a b ha hb e = code_of-tells (cell_counts s.size s.chunk) a b (AreSizes-counts s.size s.chunk s.size_ok s.chunk_ok) (codes_cell s a ha) (codes_cell s b hb) e

-- lists
pub Contains-map : {X Y : Type 0} (f : X → Y) (xs : List X) (x : X) → Contains xs x → Contains (map f xs) (f x)
Contains-map f xs x (k, l, e) = (k, omega (arith, l, length-map xs f), get_or-map f xs k x (f x) l ∙ ap f e)

length-filter-le : {X : Type 0} (p : X → Bool) (xs : List X) → length (filter p xs) ≤ length xs
length-filter-le p [] = omega arith
length-filter-le p (x ∷ xs) = by (p x) (length-filter-le p xs)
  where
    by : (b : Bool) → length (filter p xs) ≤ length xs → length (if b then x ∷ filter p xs else filter p xs) ≤ suc (length xs)
    by true h = omega arith
    by false h = omega arith

equal_true : (m n : ℕ) → m ≡ n → (m == n) ≡ true
equal_true m n e = grind (arith, nat_tests)

is_equal : (a b : ℕ) → (a == b) ≡ true → a ≡ b
is_equal a b e = grind (arith, nat_tests)

some_true : (n : ℕ) → 0 < n → nat_lt 0 n ≡ true
some_true n h = grind (arith, nat_tests)

some_from : (n : ℕ) → nat_lt 0 n ≡ true → 0 < n
some_from n h = grind (arith, nat_tests)

-- what a shard's object has of a cell
abbrev by_shard : Sharding → Scale → List ℕ → Option (List ℕ) → Result (Option (List ℕ)) Fault
by_shard sharding s cell None = Ok None
by_shard sharding s cell (Some object) = spanned object (found object sharding (cell_limit s cell) (id_of s cell))

abbrev by_choice : Option Sharding → Scale → List ℕ → Option (List ℕ) → Result (Option (List ℕ)) Fault
by_choice o s cell None = Ok None
by_choice o s cell (Some object) = held_by o s cell object

module _ (s : Scale) (sharding : Sharding) (is : s.sharding ≡ Some sharding) where
  pub id_small : (cell : List ℕ) → id_of s cell < 2 ^ 64
  id_small cell =
      let few : length (pairs (cell_counts s.size s.chunk)) ≤ 64 = s.codes_ok sharding is in
      let low = number-below cell (pairs (cell_counts s.size s.chunk)) in
      let up : 2 ^ length (pairs (cell_counts s.size s.chunk)) ≤ 2 ^ 64 = pow_mono few in
      omega arith

  pub sharded : (m : Objects) (dataset cell : List ℕ) → stored_bytes m dataset s cell ≡ by_shard sharding s cell (fin.get m (shard_name dataset s (shard_of sharding (id_of s cell))))
  unfolding stored_bytes
  sharded m dataset cell =
      subst (λ (o : Option Sharding). by_choice o s cell (fin.get m (object_by o dataset s cell)) ≡ by_shard sharding s cell (fin.get m (shard_name dataset s (shard_of sharding (id_of s cell))))) (sym is) refl

  module _ (cells : List (List ℕ)) (bytes : List ℕ → List ℕ) (each : All (IsCell s) cells) (few : length cells ≤ 2 ^ 22) (small : All (λ cell. length (bytes cell) ≤ 2 ^ 27) cells) where
    abbrev pairs_of : List (List ℕ × List ℕ)
    pairs_of = map (λ cell. (cell, bytes cell)) cells

    abbrev key_entry : List ℕ × List ℕ → Entry
    key_entry c = (key_of s sharding c.0, c.1)

    abbrev in_place : List Entry
    in_place = placed s sharding pairs_of

    -- each entry is that of a cell
    record IsKeyed (e : Entry) : Type 0 where
      cell : List ℕ
      listed : Contains cells cell
      key : e.0 ≡ key_of s sharding cell
      has : e.1 ≡ bytes cell

    record IsChunkOf (c : Chunk) : Type 0 where
      cell : List ℕ
      listed : Contains cells cell
      id : c.id ≡ id_of s cell
      has : c.bytes ≡ bytes cell

    keyed_cell : (cell : List ℕ) → Contains cells cell → IsKeyed (key_entry (cell, bytes cell))
    keyed_cell cell h = record { cell = cell; listed = h; key = refl; has = refl }

    all_keyed : All IsKeyed in_place
    all_keyed =
        All-in_order IsKeyed (map key_entry pairs_of)
        (All-map IsKeyed key_entry pairs_of (All-map (λ c. IsKeyed (key_entry c)) (λ cell. (cell, bytes cell)) cells (All-weaker (Contains cells) (λ cell. IsKeyed (key_entry (cell, bytes cell))) keyed_cell cells (All-contains_itself cells))))

    triple : (e : Entry) → IsKeyed e → IsTriple e
    triple e h = ap length h.key

    chunk_is : (e : Entry) → IsKeyed e → IsChunkOf (chunk_of e)
    chunk_is e h = record { cell = h.cell; listed = h.listed; id = ap (λ k. slice_index k 2) h.key; has = h.has }

    all_chunks : (k : ℕ) → All IsChunkOf (in_shard in_place k)
    all_chunks k = All-map IsChunkOf chunk_of (filter (λ (e : Entry). slice_index e.0 0 == k) in_place) (All-filter (λ (e : Entry). slice_index e.0 0 == k) (λ e. IsChunkOf (chunk_of e)) in_place (All-weaker IsKeyed (λ e. IsChunkOf (chunk_of e)) chunk_is in_place all_keyed))

    chosen_chunks : (k m : ℕ) → All IsChunkOf (chosen_in in_place k m)
    chosen_chunks k m = All-filter (λ (c : Chunk). c.minishard == m) IsChunkOf (in_shard in_place k) (all_chunks k)

    short_chunk : (c : Chunk) → IsChunkOf c → length c.bytes ≤ 2 ^ 27
    short_chunk c h = let l = All-contains (λ cell. length (bytes cell) ≤ 2 ^ 27) cells h.cell small h.listed in omega (arith, ap length h.has, l)

    all_short : (k : ℕ) → All (λ (c : Chunk). length c.bytes ≤ 2 ^ 27) (in_shard in_place k)
    all_short k = All-weaker IsChunkOf (λ (c : Chunk). length c.bytes ≤ 2 ^ 27) short_chunk (in_shard in_place k) (all_chunks k)

    count : (k : ℕ) → length (in_shard in_place k) ≤ 2 ^ 22
    count k =
        let a = length-map (filter (λ (e : Entry). slice_index e.0 0 == k) in_place) chunk_of in
        let b = length-filter-le (λ (e : Entry). slice_index e.0 0 == k) in_place in
        let c = length-in_order (map key_entry pairs_of) in
        let d = length-map pairs_of key_entry in
        let f = length-map cells (λ cell. (let p : List ℕ × List ℕ = (cell, bytes cell) in p)) in
        omega (arith, a, b, c, d, f, few)

    count_in : (k m : ℕ) → length (chosen_in in_place k m) ≤ 2 ^ 22
    count_in k m = let a = length-filter-le (λ (c : Chunk). c.minishard == m) (in_shard in_place k) in let b = count k in omega arith

    rises : (k m : ℕ) → Rises (chosen_in in_place k m)
    rises k m = chosen_rises in_place k m (All-weaker IsKeyed IsTriple triple in_place all_keyed) (sorted-in_order (map key_entry pairs_of))

    small_ids : (k m : ℕ) → AreIds (rows_of (in_shard in_place k) m)
    small_ids k m r h =
        let l : r < length (chosen_in in_place k m) = omega (arith, h, length-map (chosen_in in_place k m) (λ (c : Chunk). row_of_it c)) in
        let at = row_is (in_shard in_place k) m r (λ (row : Row). row.id) l in
        let c : IsChunkOf (get_or (chosen_in in_place k m) r nothing) = chosen_chunks k m r nothing l in
        let low = id_small c.cell in
        omega (arith, at, c.id, low)
      where
        row_of_it : Chunk → Row
        row_of_it c = record { id = c.id; start = start_of (in_shard in_place k) c; size = length c.bytes }

    -- a listed cell's entry is the first of its key
    same_cell : (a b : List ℕ) → IsCell s a → IsCell s b → key_of s sharding a ≡ key_of s sharding b → a ≡ b
    same_cell a b ha hb e = id_of-tells s a b ha hb (ap (λ k. slice_index k 2) e)

    first_found : (xs : List (List ℕ)) (cell : List ℕ) → All (IsCell s) xs → IsCell s cell → Contains xs cell
        → fin.find by_key (key_of s sharding cell) (map key_entry (map (λ x. (x, bytes x)) xs)) ≡ Some (bytes cell)
    first_found [] cell all h (k, l, e) = absurd (omega arith)
    first_found (x ∷ xs) cell all h c =
        by (eq_by_cmp by_key (key_of s sharding cell) (key_of s sharding x)) refl c (λ d. first_found xs cell (All-tail (IsCell s) x xs all) h d)
      where
        by : (b : Bool) → eq_by_cmp by_key (key_of s sharding cell) (key_of s sharding x) ≡ b → Contains (x ∷ xs) cell
            → (Contains xs cell → fin.find by_key (key_of s sharding cell) (map key_entry (map (λ x. (x, bytes x)) xs)) ≡ Some (bytes cell))
            → cond b (Some (bytes x)) (fin.find by_key (key_of s sharding cell) (map key_entry (map (λ x. (x, bytes x)) xs))) ≡ Some (bytes cell)
        by true t d rest = ap (λ q. Some (bytes q)) (sym (same_cell cell x h (All-head (IsCell s) x xs all) (equal_keys (key_of s sharding cell) (key_of s sharding x) t)))
        by false t (zero, l, e) rest =
            let tied : eq_by_cmp by_key (key_of s sharding cell) (key_of s sharding x) ≡ true =
            ap (λ q. eq_by_cmp by_key (key_of s sharding cell) (key_of s sharding q)) e ∙ keys_equal (key_of s sharding cell) in
            absurd (cc (t, tied))
        by false t (suc k, l, e) rest = rest (k, omega arith, e)

    shard_for : List ℕ → ℕ
    shard_for cell = shard_of sharding (id_of s cell)

    chunk_for : List ℕ → Chunk
    chunk_for cell = chunk_of (key_entry (cell, bytes cell))

    listed_in_shard : (cell : List ℕ) → IsCell s cell → Contains cells cell → Contains (in_shard in_place (shard_of sharding (id_of s cell))) (chunk_of (key_entry (cell, bytes cell)))
    listed_in_shard cell h c =
        let k : ℕ = shard_of sharding (id_of s cell) in
        let in_all : Contains in_place (key_of s sharding cell, bytes cell) = Contains-in_order (map key_entry pairs_of) (key_of s sharding cell) (bytes cell) (first_found cells cell each h c) in
        Contains-map chunk_of (filter (λ (e : Entry). slice_index e.0 0 == k) in_place) (key_of s sharding cell, bytes cell)
        (Contains-filter (λ (e : Entry). slice_index e.0 0 == k) in_place (key_of s sharding cell, bytes cell) in_all (equal_true k k refl))

    -- its shard has a chunk,
    pub listed_has : (cell : List ℕ) → IsCell s cell → Contains cells cell → has_chunk in_place (shard_of sharding (id_of s cell)) ≡ true
    listed_has cell h c = let in_it = listed_in_shard cell h c in some_true (length (in_shard in_place (shard_of sharding (id_of s cell)))) (omega (arith, in_it.1))

    -- and each chunk is that of a listed cell
    pub has_listed : (k : ℕ) → has_chunk in_place k ≡ true → (cell : List ℕ) × Contains cells cell × (shard_of sharding (id_of s cell) ≡ k)
    has_listed k e =
        let some : 0 < length (in_shard in_place k) = some_from (length (in_shard in_place k)) e in
        let l : 0 < length (filter (λ (x : Entry). slice_index x.0 0 == k) in_place) = omega (arith, some, length-map (filter (λ (x : Entry). slice_index x.0 0 == k) in_place) chunk_of) in
        let keyed : IsKeyed (get_or (filter (λ (x : Entry). slice_index x.0 0 == k) in_place) 0 ([], [])) =
        All-filter (λ (x : Entry). slice_index x.0 0 == k) IsKeyed in_place all_keyed 0 ([], []) l in
        let passes : (slice_index (get_or (filter (λ (x : Entry). slice_index x.0 0 == k) in_place) 0 ([], [])).0 0 == k) ≡ true =
        filter_passes (λ (x : Entry). slice_index x.0 0 == k) in_place 0 ([], []) l in
        (keyed.cell, keyed.listed, sym (ap (λ q. slice_index q 0) keyed.key) ∙ is_equal _ k passes)

    below_bits : (cell : List ℕ) → shard_of sharding (id_of s cell) < 2 ^ sharding.shard_bits
    below_bits cell = mod_below (hashed sharding (id_of s cell) / 2 ^ sharding.minishard_bits) (2 ^ sharding.shard_bits) (pow_pos sharding.shard_bits)

    abbrev objects : List ℕ → Objects → Objects
    objects dataset m = put_in m (objects_in dataset s sharding in_place (range_with_len 0 (2 ^ sharding.shard_bits)))

    -- where a shard is put, each listed cell is found in it
    found_in : (dataset cell : List ℕ) → IsCell s cell → Contains cells cell → length (bytes cell) ≤ cell_limit s cell
        → spanned (shard_bytes sharding.minishard_bits (in_shard in_place (shard_of sharding (id_of s cell)))) (found (shard_bytes sharding.minishard_bits (in_shard in_place (shard_of sharding (id_of s cell)))) sharding (cell_limit s cell) (id_of s cell)) ≡ Ok (Some (bytes cell))
    found_in dataset cell h listed fits =
        let k : ℕ = shard_of sharding (id_of s cell) in
        let m : ℕ = minishard_of sharding (id_of s cell) in
        let cs : List Chunk = in_shard in_place (shard_of sharding (id_of s cell)) in
        let c : Chunk = chunk_of (key_entry (cell, bytes cell)) in
        let in_it : Contains (of cs m) c = Contains-filter (λ (d : Chunk). d.minishard == m) cs c (listed_in_shard cell h listed) (equal_true m m refl) in
        let r : ℕ = in_it.0 in
        let at : slice_get (of cs m) r ≡ Some c = slice_get-get_or (of cs m) r c in_it.1 ∙ ap Some in_it.2 in
        let here : get_or (of cs m) r nothing ≡ c = get_or_from_slice_get (of cs m) r c nothing at in
        let within : m < 2 ^ sharding.minishard_bits = mod_below (hashed sharding (id_of s cell)) (2 ^ sharding.minishard_bits) (pow_pos sharding.minishard_bits) in
        let is_found : found (shard_bytes sharding.minishard_bits cs) sharding (cell_limit s cell) (id_of s cell) ≡ Ok (Some (record { start = base_of sharding + start_of cs c; len = length (bytes cell) })) =
        chunk_found cs sharding (cell_limit s cell) r c at refl (rises-next (of cs m) (rises k m)) (small_ids k m) (count_in k m) (before_short cs (m + 1) (all_short k) (count k)) fits in
        ap (spanned (shard_bytes sharding.minishard_bits cs)) is_found
        ∙ ap (λ bs. Ok (Some bs)) (chunk_part cs sharding.minishard_bits r c within (rises k m) in_it.1 here)

    absent_in : (cell : List ℕ) → IsCell s cell → (Contains cells cell → ⊥)
        → found (shard_bytes sharding.minishard_bits (in_shard in_place (shard_of sharding (id_of s cell)))) sharding (cell_limit s cell) (id_of s cell) ≡ Ok None
    absent_in cell h none =
        let k : ℕ = shard_of sharding (id_of s cell) in
        let m : ℕ = minishard_of sharding (id_of s cell) in
        let cs : List Chunk = in_shard in_place (shard_of sharding (id_of s cell)) in
        ⊎_elim
        (λ (z : length (of cs m) ≡ 0). empty_absent cs sharding (cell_limit s cell) (id_of s cell) z)
        (λ (n : length (of cs m) ≢ 0). id_absent cs sharding (cell_limit s cell) (id_of s cell) (positive (length (of cs m)) n) (rises-next (of cs m) (rises k m)) (small_ids k m) (count_in k m) (before_short cs (m + 1) (all_short k) (count k)) (others k m))
        (cases_eq (length (of cs m)) 0)
      where
        positive : (n : ℕ) → n ≢ 0 → 0 < n
        positive n d = omega (arith, d)

        others : (k m r : ℕ) → r < length (rows_of (in_shard in_place k) m) → slice_index (ids_of (rows_of (in_shard in_place k) m)) r ≢ id_of s cell
        others k m r l e =
            let lr : r < length (chosen_in in_place k m) = omega (arith, l, length-map (chosen_in in_place k m) (λ (c : Chunk). (let row : Row = record { id = c.id; start = start_of (in_shard in_place k) c; size = length c.bytes } in row))) in
            let at = row_is (in_shard in_place k) m r (λ (row : Row). row.id) lr in
            let c : IsChunkOf (get_or (chosen_in in_place k m) r nothing) = chosen_chunks k m r nothing lr in
            let same : c.cell ≡ cell = id_of-tells s c.cell cell (All-contains (IsCell s) cells c.cell each c.listed) h (sym c.id ∙ sym at ∙ e) in
            none (subst (Contains cells) same c.listed)

    pub there : (m : Objects) (dataset cell : List ℕ) → IsCell s cell → Contains cells cell → length (bytes cell) ≤ cell_limit s cell → stored_bytes (objects dataset m) dataset s cell ≡ Ok (Some (bytes cell))
    there m dataset cell h listed fits =
        sharded (objects dataset m) dataset cell
        ∙ ap (by_shard sharding s cell) (get-put_shard dataset s sharding in_place is m (shard_of sharding (id_of s cell)) (below_bits cell) (listed_has cell h listed))
        ∙ found_in dataset cell h listed fits

    pub absent : (m : Objects) (dataset cell : List ℕ) → IsCell s cell → (Contains cells cell → ⊥) → has_chunk in_place (shard_of sharding (id_of s cell)) ≡ true
        → stored_bytes (objects dataset m) dataset s cell ≡ Ok None
    absent m dataset cell h none has =
        sharded (objects dataset m) dataset cell
        ∙ ap (by_shard sharding s cell) (get-put_shard dataset s sharding in_place is m (shard_of sharding (id_of s cell)) (below_bits cell) has)
        ∙ ap (spanned (shard_bytes sharding.minishard_bits (in_shard in_place (shard_of sharding (id_of s cell))))) (absent_in cell h none)

    pub kept : (m : Objects) (dataset cell : List ℕ) → has_chunk in_place (shard_of sharding (id_of s cell)) ≡ false → stored_bytes (objects dataset m) dataset s cell ≡ stored_bytes m dataset s cell
    kept m dataset cell none =
        sharded (objects dataset m) dataset cell
        ∙ ap (by_shard sharding s cell) (get-kept_shard dataset s sharding in_place is m (shard_of sharding (id_of s cell)) (below_bits cell) none)
        ∙ sym (sharded m dataset cell)

    -- each row of an index is that of a cell whose id belongs there
    record IsOwn (k : ℕ) (c : Chunk) : Type 0 where
      cell : List ℕ
      id : c.id ≡ id_of s cell
      place : c.minishard ≡ minishard_of sharding (id_of s cell)
      home : shard_of sharding (id_of s cell) ≡ k

    own_chunks : (k : ℕ) → All (IsOwn k) (in_shard in_place k)
    own_chunks k =
        All-map (IsOwn k) chunk_of (filter (λ (e : Entry). slice_index e.0 0 == k) in_place)
        (λ i d l.
        let keyed : IsKeyed (get_or (filter (λ (e : Entry). slice_index e.0 0 == k) in_place) i d) = All-filter (λ (e : Entry). slice_index e.0 0 == k) IsKeyed in_place all_keyed i d l in
        let passes : (slice_index (get_or (filter (λ (e : Entry). slice_index e.0 0 == k) in_place) i d).0 0 == k) ≡ true = filter_passes (λ (e : Entry). slice_index e.0 0 == k) in_place i d l in
        record {
          cell = keyed.cell;
          id = ap (λ q. slice_index q 2) keyed.key;
          place = ap (λ q. slice_index q 1) keyed.key;
          home = sym (ap (λ q. slice_index q 0) keyed.key) ∙ is_equal _ k passes;
        })

    belongs_true : (k m id : ℕ) → shard_of sharding id ≡ k → minishard_of sharding id ≡ m → belongs sharding k m id ≡ true
    belongs_true k m id a b = both (shard_of sharding id == k) (minishard_of sharding id == m) (equal_true _ _ a) (equal_true _ _ b)
      where
        both : (x y : Bool) → x ≡ true → y ≡ true → (x && y) ≡ true
        both true y ex ey = ey
        both false y ex ey = ex

    row_belongs : (k m r : ℕ) → r < length (chosen_in in_place k m) → belongs sharding k m (slice_index (ids_of (rows_of (in_shard in_place k) m)) r) ≡ true
    row_belongs k m r l =
        let at = row_is (in_shard in_place k) m r (λ (row : Row). row.id) l in
        let own : IsOwn k (get_or (chosen_in in_place k m) r nothing) = All-filter (λ (c : Chunk). c.minishard == m) (IsOwn k) (in_shard in_place k) (own_chunks k) r nothing l in
        let mini : (get_or (chosen_in in_place k m) r nothing).minishard ≡ m = is_equal _ m (filter_passes (λ (c : Chunk). c.minishard == m) (in_shard in_place k) r nothing l) in
        ap (belongs sharding k m) (at ∙ own.id) ∙ belongs_true k m (id_of s own.cell) own.home (sym own.place ∙ mini)

    none_wrong : (f : ℕ → Option Wrong) (a n : ℕ) → ((r : ℕ) → r < a + n → f r ≡ None) → first_some (map f (range_with_len a n)) ≡ None
    none_wrong f a zero h = refl
    none_wrong f a (suc n) h = ap (λ o. first_some (o ∷ map f (range_with_len (a + 1) n))) (h a (omega arith)) ∙ none_wrong f (a + 1) n (λ r l. h r (omega arith))

    -- so nothing is wrong with the index of a minishard
    pub index_sound : (k m : ℕ) → m < 2 ^ sharding.minishard_bits
        → rows_wrong (shard_bytes sharding.minishard_bits (in_shard in_place k)) sharding k m (rows_in (shard_bytes sharding.minishard_bits (in_shard in_place k)) sharding m) ≡ None
    index_sound k m h =
        ⊎_elim
        (λ (z : length (of (in_shard in_place k) m) ≡ 0). ap (rows_wrong object sharding k m) (empty_rows (in_shard in_place k) sharding m h z))
        (λ (n : length (of (in_shard in_place k) m) ≢ 0). some (positive (length (of (in_shard in_place k) m)) n))
        (cases_eq (length (of (in_shard in_place k) m)) 0)
      where
        object : List ℕ
        object = shard_bytes sharding.minishard_bits (in_shard in_place k)

        positive : (n : ℕ) → n ≢ 0 → 0 < n
        positive n d = omega (arith, d)

        some : 0 < length (of (in_shard in_place k) m)
            → rows_wrong (shard_bytes sharding.minishard_bits (in_shard in_place k)) sharding k m (rows_in (shard_bytes sharding.minishard_bits (in_shard in_place k)) sharding m) ≡ None
        some l =
            let cs : List Chunk = in_shard in_place k in
            let rows : List Row = rows_of cs m in
            let n : ℕ = length (of cs m) in
            let short = before_short cs (m + 1) (all_short k) (count k) in
            let are = rows_ok cs m (rises-next (of cs m) (rises k m)) short in
            ap (rows_wrong (shard_bytes sharding.minishard_bits cs) sharding k m) (rows_found cs sharding m h l (count_in k m) short)
            ∙ ap (λ bs. first_some (map (λ r. row_wrong sharding k m (judged_row (columns_of bs) r)) (range_with_len 0 n))) (index_found cs sharding m h l short)
            ∙ ap (λ c. first_some (map (λ r. row_wrong sharding k m (judged_row c r)) (range_with_len 0 n))) (columns_back rows are (small_ids k m))
            ∙ none_wrong (λ r. row_wrong sharding k m (judged_row (stored rows) r)) 0 n
            (λ r lr.
            let at : r < length rows = omega (arith, lr, length-map (of cs m) (λ (c : Chunk). (let row : Row = record { id = c.id; start = start_of cs c; size = length c.bytes } in row))) in
            ap (row_wrong sharding k m) (judged_stored rows are (small_ids k m) r at)
            ∙ ap (λ (b : Bool). if b then None else Some (Misplaced k m (slice_index (ids_of rows) r))) (row_belongs k m r (omega arith)))
