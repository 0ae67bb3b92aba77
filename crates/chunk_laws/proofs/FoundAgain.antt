-- The chunk of a cell is found again in the bytes of its shard.
use Rattle.std.proofs.Common.{◌≡◌, ◌≢◌, ℕ, ◌+◌, ◌-◌, ◌*◌, ◌/◌, ◌%◌, ◌≤◌, ◌<◌, ◌^◌, Bool, true, false, if◌then◌else◌, zero, suc, List, [], ◌∷◌, ◌++◌, length, length-append, take, drop, append_assoc, get_or, slice_index, slice_get, Some, None, Ok, Err, arith, refl, ap, ◌∙◌, sym, subst, add-one, nat_lt}
use Rattle.std.specs.Prelude.{flat_map, ◌==◌}
use Rattle.std.specs.List.{range_with_len}
use Rattle.std.proofs.lemmas.Bool.Decides.{nat_tests}
use Rattle.std.proofs.lemmas.List.{drop_at, take_at}
use Rattle.std.proofs.lemmas.Nat.{mod_below, pow_pos}
use Rattle.byteorder.specs.Endian.{little_bytes}
use Rattle.byteorder.specs.Numbers.{length-bytes_low_first}
use Rattle.vol_base.specs.Outside.{part}
use Rattle.shard_index.proofs.EntrySteps.{entry_again}
use Rattle.vol_spec.specs.Entries.{base_of, entry_bytes, entry_of, judged_entry}
use Rattle.vol_spec.specs.FoundChunks.{◌>>=◌, entry_in, found, index_in, of_index, of_shard, row_in, rows_in, span_of}
use Rattle.vol_spec.specs.Places.{hashed, minishard_of}
use Rattle.vol_spec.specs.Rows.{columns_of, find_in}
use Rattle.vol_base.specs.declared.faults.ShardFault.TheVariants.{ShortIndex}
use Rattle.std.specs.Option.{option_map}
use Rattle.std.proofs.lemmas.Option.{get_or_from_slice_get, slice_get-map, slice_get_within}
use Rattle.minishard.specs.Numbers.{AreIds}
use Rattle.minishard.proofs.ReadBack.{absent_back, found_back}
use Rattle.vol_spec.specs.declared.row.Row.{Row}
use Rattle.chunk_laws.proofs.Ascending.{nothing, rows_ok, within}
use Rattle.vol_spec.specs.IndexBytes.{ids as ids_of, index_bytes, stored}
use Rattle.vol_spec.specs.Shards.{Chunk, before, of, bodies, entries, entry_at, row_of, rows_of, start_of, index_start, shard_bytes}
use Rattle.vol_spec.specs.declared.entry.Entry.{Entry}
use Rattle.vol_spec.specs.declared.sharding.Sharding.{Sharding}
use Rattle.chunk_laws.proofs.Next.{before_next, length_bodies}
use Rattle.chunk_laws.proofs.Sums.{pieces_more}
use Rattle.chunk_laws.proofs.Spots.{flat_split, index_at}

length_entry : (e : Entry) → length (entry_bytes e) ≡ 16
unfolding entry_bytes
length_entry e = omega (arith, length-append (little_bytes 8 e.start) (little_bytes 8 e.end), length-bytes_low_first 0 8 e.start, length-bytes_low_first 0 8 e.end)

abbrev one_entry : List Chunk → ℕ → List ℕ
one_entry cs m = entry_bytes (entry_at cs m)

pub length_entries : (cs : List Chunk) (n : ℕ) → length (entries cs n) ≡ 16 * n
length_entries cs zero = refl
length_entries cs (suc n) =
    let rest = length_entries cs n in
    let one_on : length (entries cs n ++ one_entry cs n) ≡ length (entries cs (n + 1)) = ap length (pieces_more [] (one_entry cs) n) in
    let next : length (entries cs (n + 1)) ≡ 16 * (n + 1) = omega (arith, length-append (entries cs n) (one_entry cs n), length_entry (entry_at cs n)) in
    let P : ℕ → Type 0 = λ k. length (entries cs k) ≡ 16 * k in
    subst P (add-one n) next

before_more : (cs : List Chunk) (m d : ℕ) → before cs m ≤ before cs (m + d)
before_more cs m zero = let e : m + 0 ≡ m = omega arith in let f : before cs (m + 0) ≡ before cs m = ap (before cs) e in omega arith
before_more cs m (suc d) =
    let rest = before_more cs m d in
    let e : m + d + 1 ≡ m + suc d = omega arith in
    let f : before cs (m + d + 1) ≡ before cs (m + suc d) = ap (before cs) e in
    let g = before_next cs (m + d) in omega arith

pub before_le : (cs : List Chunk) (m n : ℕ) → m ≤ n → before cs m ≤ before cs n
before_le cs m n h = let e : m + (n - m) ≡ n = omega arith in let f : before cs (m + (n - m)) ≡ before cs n = ap (before cs) e in let g = before_more cs m (n - m) in omega arith

-- the bytes of the entry of a minishard
pub entry_part : (cs : List Chunk) (bits m : ℕ) → m < 2 ^ bits → part (shard_bytes bits cs) (16 * m) 16 ≡ entry_bytes (entry_at cs m)
unfolding shard_bytes
entry_part cs bits m h =
    let n : ℕ = 2 ^ bits in
    let rest : List ℕ = flat_map (one_entry cs) (range_with_len (0 + m + 1) (2 ^ bits - m - 1)) in
    let e : 0 + m ≡ m = omega arith in
    let split : entries cs (2 ^ bits) ≡ entries cs m ++ (one_entry cs m ++ rest) = flat_split (one_entry cs) 0 m (2 ^ bits) h ∙ ap (λ k. entries cs m ++ (one_entry cs k ++ rest)) e in
    let whole : entries cs (2 ^ bits) ++ bodies cs (2 ^ bits) ≡ entries cs m ++ (one_entry cs m ++ (rest ++ bodies cs (2 ^ bits))) =
    ap (λ t. t ++ bodies cs (2 ^ bits)) split ∙ append_assoc (entries cs m) (one_entry cs m ++ rest) (bodies cs (2 ^ bits)) ∙ ap (λ t. entries cs m ++ t) (append_assoc (one_entry cs m) rest (bodies cs (2 ^ bits))) in
    ap (λ bs. take 16 (drop (16 * m) bs)) whole
    ∙ ap (take 16) (drop_at (entries cs m) (one_entry cs m ++ (rest ++ bodies cs (2 ^ bits))) (16 * m) (length_entries cs m))
    ∙ take_at (one_entry cs m) (rest ++ bodies cs (2 ^ bits)) 16 (length_entry (entry_at cs m))

-- its index
pub index_part : (cs : List Chunk) (bits m : ℕ) → m < 2 ^ bits
    → part (shard_bytes bits cs) (16 * 2 ^ bits + index_start cs m) (24 * length (of cs m)) ≡ index_bytes (stored (rows_of cs m))
unfolding shard_bytes
index_part cs bits m h = ap (take (24 * length (of cs m))) (drop_over (entries cs (2 ^ bits)) (bodies cs (2 ^ bits)) (16 * 2 ^ bits) (index_start cs m) (length_entries cs (2 ^ bits))) ∙ index_at cs (2 ^ bits) m h
  where
    drop_over : (xs ys : List ℕ) (k d : ℕ) → length xs ≡ k → drop (k + d) (xs ++ ys) ≡ drop d ys
    drop_over [] ys k d e = let f : k + d ≡ d = omega arith in ap (λ j. drop j ys) f
    drop_over (x ∷ xs) ys zero d e = absurd (omega arith)
    drop_over (x ∷ xs) ys (suc k) d e = let f : suc k + d ≡ suc (k + d) = omega arith in ap (λ j. drop j (x ∷ (xs ++ ys))) f ∙ drop_over xs ys k d (omega arith)

pub judged : (s k base len : ℕ) → 0 < k → k ≤ 2 ^ 22 → base + (s + 24 * k) ≤ len → judged_entry (record { start = s; end = s + 24 * k }) base len ≡ Ok k
judged s k base len some few fits =
    let bytes : s + 24 * k - s ≡ 24 * k = omega arith in
    let rows : 24 * k / 24 ≡ k = omega arith in
    let whole : 24 * k % 24 ≡ 0 = omega arith in
    grind (arith, nat_tests)

-- so it has rows
some_rows : (cs : List Chunk) (m : ℕ) → 0 < length (of cs m) → entry_at cs m ≡ record { start = index_start cs m; end = index_start cs m + 24 * length (of cs m) }
some_rows cs m h = by (length (of cs m) == 0) refl
  where
    by : (b : Bool) → (length (of cs m) == 0) ≡ b
        → (let e : Entry = record { start = 0; end = 0 } in let f : Entry = record { start = index_start cs m; end = index_start cs m + 24 * length (of cs m) } in if b then e else f)
        ≡ record { start = index_start cs m; end = index_start cs m + 24 * length (of cs m) }
    by true e = absurd (let z : length (of cs m) ≡ 0 = grind (arith, nat_tests) in omega arith)
    by false e = refl

shard_len : (cs : List Chunk) (bits : ℕ) → length (shard_bytes bits cs) ≡ 16 * 2 ^ bits + before cs (2 ^ bits)
unfolding shard_bytes
shard_len cs bits = omega (arith, length-append (entries cs (2 ^ bits)) (bodies cs (2 ^ bits)), length_entries cs (2 ^ bits), length_bodies cs (2 ^ bits))

pub entry_found : (cs : List Chunk) (bits m : ℕ) → m < 2 ^ bits → 0 < length (of cs m) → before cs (m + 1) < 2 ^ 64
    → entry_in (shard_bytes bits cs) m ≡ record { start = index_start cs m; end = index_start cs m + 24 * length (of cs m) }
entry_found cs bits m h some small =
    let next = before_next cs m in
    ap entry_of (entry_part cs bits m h ∙ ap entry_bytes (some_rows cs m some))
    ∙ entry_again (record { start = index_start cs m; end = index_start cs m + 24 * length (of cs m) }) (omega arith) (omega arith)

pub rows_found : (cs : List Chunk) (sharding : Sharding) (m : ℕ) → m < 2 ^ sharding.minishard_bits → 0 < length (of cs m) → length (of cs m) ≤ 2 ^ 22 → before cs (m + 1) < 2 ^ 64
    → rows_in (shard_bytes sharding.minishard_bits cs) sharding m ≡ Ok (length (of cs m))
rows_found cs sharding m h some few small =
    let object : List ℕ = shard_bytes sharding.minishard_bits cs in
    let len = shard_len cs sharding.minishard_bits in
    let next = before_next cs m in
    let le = before_le cs (m + 1) (2 ^ sharding.minishard_bits) (omega arith) in
    let enough : nat_lt (length object) (16 * m + 16) ≡ false = (let l : 16 * m + 16 ≤ length object = omega arith in grind (arith, nat_tests)) in
    ap (λ b. if b then Err ShortIndex else judged_entry (entry_in object m) (base_of sharding) (length object)) enough
    ∙ ap (λ e. judged_entry e (base_of sharding) (length object)) (entry_found cs sharding.minishard_bits m h some small)
    ∙ judged (index_start cs m) (length (of cs m)) (base_of sharding) (length object) some few (omega arith)

pub index_found : (cs : List Chunk) (sharding : Sharding) (m : ℕ) → m < 2 ^ sharding.minishard_bits → 0 < length (of cs m) → before cs (m + 1) < 2 ^ 64
    → index_in (shard_bytes sharding.minishard_bits cs) sharding m (length (of cs m)) ≡ index_bytes (stored (rows_of cs m))
index_found cs sharding m h some small =
    ap (λ (e : Entry). part (shard_bytes sharding.minishard_bits cs) (base_of sharding + e.start) (24 * length (of cs m))) (entry_found cs sharding.minishard_bits m h some small)
    ∙ index_part cs sharding.minishard_bits m h

-- a minishard without chunks has no rows, so no id is found in it
empty_entry : (cs : List Chunk) (m : ℕ) → length (of cs m) ≡ 0 → entry_at cs m ≡ record { start = 0; end = 0 }
empty_entry cs m h = by (length (of cs m) == 0) refl
  where
    by : (b : Bool) → (length (of cs m) == 0) ≡ b
        → (let e : Entry = record { start = 0; end = 0 } in let f : Entry = record { start = index_start cs m; end = index_start cs m + 24 * length (of cs m) } in if b then e else f)
        ≡ record { start = 0; end = 0 }
    by true e = refl
    by false e = absurd (let z : length (of cs m) ≢ 0 = grind (arith, nat_tests) in z h)

no_rows : (base len : ℕ) → judged_entry (record { start = 0; end = 0 }) base len ≡ Ok 0
no_rows base len = refl

pub empty_rows : (cs : List Chunk) (sharding : Sharding) (m : ℕ) → m < 2 ^ sharding.minishard_bits → length (of cs m) ≡ 0 → rows_in (shard_bytes sharding.minishard_bits cs) sharding m ≡ Ok 0
empty_rows cs sharding m h none =
    let object : List ℕ = shard_bytes sharding.minishard_bits cs in
    let len = shard_len cs sharding.minishard_bits in
    let entry : entry_in (shard_bytes sharding.minishard_bits cs) m ≡ record { start = 0; end = 0 } =
    ap entry_of (entry_part cs sharding.minishard_bits m h ∙ ap entry_bytes (empty_entry cs m none))
    ∙ entry_again (record { start = 0; end = 0 }) (omega arith) (omega arith) in
    let enough : nat_lt (length object) (16 * m + 16) ≡ false = (let l : 16 * m + 16 ≤ length object = omega arith in grind (arith, nat_tests)) in
    ap (λ b. if b then Err ShortIndex else judged_entry (entry_in object m) (base_of sharding) (length object)) enough
    ∙ ap (λ e. judged_entry e (base_of sharding) (length object)) entry
    ∙ no_rows (base_of sharding) (length object)

pub empty_absent : (cs : List Chunk) (sharding : Sharding) (limit id : ℕ) → length (of cs (minishard_of sharding id)) ≡ 0 → found (shard_bytes sharding.minishard_bits cs) sharding limit id ≡ Ok None
unfolding found
empty_absent cs sharding limit id none =
    let object : List ℕ = shard_bytes sharding.minishard_bits cs in
    let h : minishard_of sharding id < 2 ^ sharding.minishard_bits = mod_below (hashed sharding id) (2 ^ sharding.minishard_bits) (pow_pos sharding.minishard_bits) in
    ap (λ n. of_shard n >>= (λ n. of_index (row_in object sharding (minishard_of sharding id) id n) >>= (λ o. of_shard (span_of (base_of sharding) (length object) limit o)))) (empty_rows cs sharding (minishard_of sharding id) h none)

-- the chunk at position r of its minishard
pub chunk_found : (cs : List Chunk) (sharding : Sharding) (limit r : ℕ) (c : Chunk) → slice_get (of cs c.minishard) r ≡ Some c → c.minishard ≡ minishard_of sharding c.id
    → ((k : ℕ) → k + 1 < length (of cs c.minishard) → (get_or (of cs c.minishard) k nothing).id < (get_or (of cs c.minishard) (k + 1) nothing).id)
    → AreIds (rows_of cs c.minishard) → length (of cs c.minishard) ≤ 2 ^ 22 → before cs (c.minishard + 1) < 2 ^ 64 → length c.bytes ≤ limit
    → found (shard_bytes sharding.minishard_bits cs) sharding limit c.id ≡ Ok (Some (record { start = base_of sharding + start_of cs c; len = length c.bytes }))
unfolding found
chunk_found cs sharding limit r c at place ascend ids few small fits =
    let m : ℕ = c.minishard in
    let object : List ℕ = shard_bytes sharding.minishard_bits cs in
    let l : r < length (of cs c.minishard) = slice_get_within (of cs c.minishard) r c at in
    let h : c.minishard < 2 ^ sharding.minishard_bits = (let b = mod_below (hashed sharding c.id) (2 ^ sharding.minishard_bits) (pow_pos sharding.minishard_bits) in omega (arith, place, b)) in
    let rows = rows_found cs sharding c.minishard h (omega arith) few small in
    let index = index_found cs sharding c.minishard h (omega arith) small in
    let are = rows_ok cs c.minishard ascend small in
    let row = found_back (rows_of cs c.minishard) are ids r (row_of cs c) (row_at r) in
    let le = before_le cs (c.minishard + 1) (2 ^ sharding.minishard_bits) (omega arith) in
    let len = shard_len cs sharding.minishard_bits in
    let next = before_next cs c.minishard in
    let inner = within (of cs c.minishard) r l in
    let same : get_or (of cs c.minishard) r nothing ≡ c = get_or_from_slice_get (of cs c.minishard) r c nothing at in
    let low : start_of cs c + length c.bytes ≤ before cs (c.minishard + 1) = (let x = rw same at inner in omega arith) in
    ap (λ k. of_shard (rows_in object sharding k) >>= (λ n. of_index (row_in object sharding k c.id n) >>= (λ o. of_shard (span_of (base_of sharding) (length object) limit o)))) (sym place)
    ∙ ap (λ n. of_shard n >>= (λ n. of_index (row_in object sharding c.minishard c.id n) >>= (λ o. of_shard (span_of (base_of sharding) (length object) limit o)))) rows
    ∙ ap (λ bs. of_index (find_in (columns_of bs) c.id) >>= (λ o. of_shard (span_of (base_of sharding) (length object) limit o))) index
    ∙ ap (λ o. of_index o >>= (λ o. of_shard (span_of (base_of sharding) (length object) limit o))) row
    ∙ ap of_shard (span_there (base_of sharding) (length object) limit (row_of cs c) fits (omega arith))
  where
    row_at : (k : ℕ) → slice_get (rows_of cs c.minishard) r ≡ Some (row_of cs c)
    row_at k = slice_get-map (row_of cs) (of cs c.minishard) r ∙ ap (option_map (row_of cs)) at

    span_there : (base len limit : ℕ) (row : Row) → row.size ≤ limit → base + row.start + row.size ≤ len
        → span_of base len limit (Some row) ≡ Ok (Some (record { start = base + row.start; len = row.size }))
    span_there base len limit row a b = grind (arith, nat_tests)

-- an id that no chunk of its minishard has
pub id_absent : (cs : List Chunk) (sharding : Sharding) (limit id : ℕ) → 0 < length (of cs (minishard_of sharding id))
    → ((k : ℕ) → k + 1 < length (of cs (minishard_of sharding id)) → (get_or (of cs (minishard_of sharding id)) k nothing).id < (get_or (of cs (minishard_of sharding id)) (k + 1) nothing).id)
    → AreIds (rows_of cs (minishard_of sharding id)) → length (of cs (minishard_of sharding id)) ≤ 2 ^ 22 → before cs (minishard_of sharding id + 1) < 2 ^ 64
    → ((k : ℕ) → k < length (rows_of cs (minishard_of sharding id)) → slice_index (ids_of (rows_of cs (minishard_of sharding id))) k ≢ id)
    → found (shard_bytes sharding.minishard_bits cs) sharding limit id ≡ Ok None
unfolding found
id_absent cs sharding limit id some ascend ids few small other =
    let object : List ℕ = shard_bytes sharding.minishard_bits cs in
    let m : ℕ = minishard_of sharding id in
    let h : minishard_of sharding id < 2 ^ sharding.minishard_bits = mod_below (hashed sharding id) (2 ^ sharding.minishard_bits) (pow_pos sharding.minishard_bits) in
    ap (λ n. of_shard n >>= (λ n. of_index (row_in object sharding (minishard_of sharding id) id n) >>= (λ o. of_shard (span_of (base_of sharding) (length object) limit o)))) (rows_found cs sharding (minishard_of sharding id) h some few small)
    ∙ ap (λ bs. of_index (find_in (columns_of bs) id) >>= (λ o. of_shard (span_of (base_of sharding) (length object) limit o))) (index_found cs sharding (minishard_of sharding id) h some small)
    ∙ ap (λ o. of_index o >>= (λ o. of_shard (span_of (base_of sharding) (length object) limit o))) (absent_back (rows_of cs (minishard_of sharding id)) (rows_ok cs (minishard_of sharding id) ascend small) ids id other)
