-- What objects say of a cell, once chunks are stored in them: for every form of scale.
use Rattle.std.proofs.Common.{◌≡◌, ◌≢◌, ℕ, ◌+◌, ◌^◌, ◌<◌, ◌≤◌, ◌++◌, Bool, true, false, List, [], ◌∷◌, length, get_or, map, take, Option, Some, None, refl, ap, ◌∙◌, sym, subst, arith}
use Rattle.std.specs.Prelude.{All, Contains, Result, Ok, filter, ℤ}
use Rattle.std.specs.FinMap as fin
use Rattle.std.specs.List.{range_with_len}
use Rattle.std.proofs.lemmas.List.{take_all}
use Rattle.std.proofs.lemmas.List.Elements.{All-contains, All-contains_itself, All-map, All-weaker}
use Rattle.vol_base.specs.Boxes.{Covers}
use Rattle.vol_base.specs.Outside.{Objects, any_under, is_under}
use Rattle.vol_base.specs.declared.faults.Fault.{Fault}
use Rattle.vol_spec.proofs.PutSteps.{get-none_under, put_in-other}
use Rattle.vol_base.specs.Bytes.{AreBytes}
use Rattle.vol_spec.specs.Chunks.{chunk_in, judged, unless, value_of}
use Rattle.vol_spec.specs.CellNames.{cell_name, folder_of, box_name}
use Rattle.vol_spec.specs.Encodings.{cell_limit, chunk_fault, encoded, raw_size, value_at}
use Rattle.vol_spec.specs.Grid.{IsCell, cell_box}
use Rattle.vol_spec.specs.Places.{id_of, shard_of}
use Rattle.vol_spec.specs.Raw.{raw_at}
use Rattle.vol_spec.specs.ShardNames.{shard_bits_of, shard_file, shard_name}
use Rattle.vol_spec.specs.StoredBytes.{held_by, object_by, object_of, stored_bytes}
use Rattle.vol_spec.specs.StoredCells.{object_list, put_in}
use Rattle.vol_spec.specs.StoredLists.{encoded_chunks, listed_by, stored_list}
use Rattle.vol_spec.specs.StoredShards.{has_chunk, objects_in, placed, shard_object}
use Rattle.vol_spec.specs.declared.scale.Scale.{Scale}
use Rattle.vol_spec.specs.declared.sharding.Sharding.{Sharding}
use Rattle.chunk_grid.proofs.NameSteps.{cell_name-injective, is_under-joined}
use Rattle.chunk_grid.proofs.StoredSteps.{cell_objects, get-listed, get-unlisted}
use Rattle.chunk_laws.proofs.EncodedSteps.{encoded-short, encoded-sound, encoded-value, limit-short}
use Rattle.chunk_laws.proofs.PutShards.{same_shard}
use Rattle.chunk_laws.proofs.ShardLaw as law
use Rattle.chunk_laws.specs.Storable.{AreElsewhere, AreStorable, with_bytes}

-- what an object of its own has of a cell
abbrev by_own : Scale → List ℕ → Option (List ℕ) → Result (Option (List ℕ)) Fault
by_own s cell None = Ok None
by_own s cell (Some object) = Ok (Some (take (cell_limit s cell + 1) object))

abbrev by_choice : Option Sharding → Scale → List ℕ → Option (List ℕ) → Result (Option (List ℕ)) Fault
by_choice o s cell None = Ok None
by_choice o s cell (Some object) = held_by o s cell object

unsharded : (s : Scale) → s.sharding ≡ None → (m : Objects) (dataset cell : List ℕ) → stored_bytes m dataset s cell ≡ by_own s cell (fin.get m (cell_name dataset s cell))
unfolding stored_bytes
unsharded s is m dataset cell = subst (λ (o : Option Sharding). by_choice o s cell (fin.get m (object_by o dataset s cell)) ≡ by_own s cell (fin.get m (cell_name dataset s cell))) (sym is) refl

-- each object of a scale is under its folder
object_under : (dataset : List ℕ) (s : Scale) (cell : List ℕ) → is_under (folder_of dataset s) (object_of dataset s cell) ≡ true
object_under dataset s cell = by s.sharding
  where
    by : (o : Option Sharding) → is_under (folder_of dataset s) (object_by o dataset s cell) ≡ true
    by None = is_under-joined (folder_of dataset s) (box_name (cell_box s cell))
    by (Some sharding) = is_under-joined (folder_of dataset s) (shard_file (shard_bits_of s) (shard_of sharding (id_of s cell)))

-- so none has a chunk where no object is under the folder
pub empty_bytes : (m : Objects) (dataset : List ℕ) (s : Scale) (cell : List ℕ) → any_under m (folder_of dataset s) ≡ false → stored_bytes m dataset s cell ≡ Ok None
unfolding stored_bytes
empty_bytes m dataset s cell none = ap (by_choice s.sharding s cell) (get-none_under m (folder_of dataset s) (object_of dataset s cell) none (object_under dataset s cell))

module _ (dataset : List ℕ) (s : Scale) (raw : List ℕ → List ℕ) (cells : List (List ℕ)) (h : AreStorable s raw cells) where
  abbrev as_stored : List ℕ → List ℕ
  as_stored cell = encoded s cell (raw cell)

  abbrev list : List (List ℕ × List ℕ)
  list = stored_list dataset s (with_bytes raw cells)

  encoded_are : (xs : List (List ℕ)) → encoded_chunks s (with_bytes raw xs) ≡ map (λ cell. (cell, encoded s cell (raw cell))) xs
  encoded_are [] = refl
  encoded_are (x ∷ xs) = ap (λ cs. (x, encoded s x (raw x)) ∷ cs) (encoded_are xs)

  own_objects : (xs : List (List ℕ)) → object_list dataset s (map (λ cell. (cell, encoded s cell (raw cell))) xs) ≡ cell_objects dataset s as_stored xs
  own_objects [] = refl
  own_objects (x ∷ xs) = ap (λ os. (cell_name dataset s x, encoded s x (raw x)) ∷ os) (own_objects xs)

  pub list_by : (o : Option Sharding) → s.sharding ≡ o → stored_list dataset s (with_bytes raw cells) ≡ listed_by o dataset s (map (λ cell. (cell, encoded s cell (raw cell))) cells)
  unfolding stored_list
  list_by o is = ap (λ p. listed_by p dataset s (encoded_chunks s (with_bytes raw cells))) is ∙ ap (listed_by o dataset s) (encoded_are cells)

  object_is : (o : Option Sharding) → s.sharding ≡ o → (cell : List ℕ) → object_of dataset s cell ≡ object_by o dataset s cell
  object_is o is cell = ap (λ p. object_by p dataset s cell) is

  short : (cell : List ℕ) → Contains cells cell → length (as_stored cell) ≤ cell_limit s cell
  short cell c = encoded-short s cell (raw cell) (All-contains (IsCell s) cells cell h.order.each c) h.writable (All-contains (λ cell. length (raw cell) ≡ raw_size s cell) cells cell h.lens c)

  pub small : All (λ cell. length (as_stored cell) ≤ 2 ^ 27) cells
  small =
      All-weaker (Contains cells) (λ cell. length (as_stored cell) ≤ 2 ^ 27)
      (λ cell c.
      let a = short cell c in
      let b = limit-short s cell (raw cell) (All-contains (IsCell s) cells cell h.order.each c) h.writable (All-contains (λ cell. length (raw cell) ≡ raw_size s cell) cells cell h.lens c) in
      omega arith)
      cells (All-contains_itself cells)

  is_cell : (cell : List ℕ) → Contains cells cell → IsCell s cell
  is_cell cell c = All-contains (IsCell s) cells cell h.order.each c

  has : Sharding → ℕ → Bool
  has sharding k = has_chunk (placed s sharding (map (λ cell. (cell, encoded s cell (raw cell))) cells)) k

  -- a listed cell has its bytes,
  pub bytes_there : (m : Objects) (cell : List ℕ) → Contains cells cell → stored_bytes (put_in m (stored_list dataset s (with_bytes raw cells))) dataset s cell ≡ Ok (Some (encoded s cell (raw cell)))
  bytes_there m cell c = by s.sharding refl
    where
      by : (o : Option Sharding) → s.sharding ≡ o → stored_bytes (put_in m (stored_list dataset s (with_bytes raw cells))) dataset s cell ≡ Ok (Some (encoded s cell (raw cell)))
      by None is =
          ap (λ os. stored_bytes (put_in m os) dataset s cell) (list_by None is ∙ own_objects cells)
          ∙ unsharded s is (put_in m (cell_objects dataset s as_stored cells)) dataset cell
          ∙ ap (by_own s cell) (get-listed m dataset s as_stored cells cell h.order c)
          ∙ ap (λ bs. Ok (Some bs)) (take_all (cell_limit s cell + 1) (as_stored cell) (let l = short cell c in omega arith))
      by (Some sharding) is =
          ap (λ os. stored_bytes (put_in m os) dataset s cell) (list_by (Some sharding) is)
          ∙ law.there s sharding is cells as_stored h.order.each h.few small m dataset cell (is_cell cell c) c (short cell c)

  -- a cell with another object has what it had,
  pub bytes_kept : (m : Objects) (cell : List ℕ) → IsCell s cell → AreElsewhere dataset s cells cell → stored_bytes (put_in m (stored_list dataset s (with_bytes raw cells))) dataset s cell ≡ stored_bytes m dataset s cell
  bytes_kept m cell is_one apart = by s.sharding refl
    where
      unlisted : Contains cells cell → ⊥
      unlisted c = All-contains (λ d. object_of dataset s d ≢ object_of dataset s cell) cells cell apart c refl

      by : (o : Option Sharding) → s.sharding ≡ o → stored_bytes (put_in m (stored_list dataset s (with_bytes raw cells))) dataset s cell ≡ stored_bytes m dataset s cell
      by None is =
          ap (λ os. stored_bytes (put_in m os) dataset s cell) (list_by None is ∙ own_objects cells)
          ∙ unsharded s is (put_in m (cell_objects dataset s as_stored cells)) dataset cell
          ∙ ap (by_own s cell) (get-unlisted m dataset s as_stored cells cell h.order is_one unlisted)
          ∙ sym (unsharded s is m dataset cell)
      by (Some sharding) is =
          ap (λ os. stored_bytes (put_in m os) dataset s cell) (list_by (Some sharding) is)
          ∙ law.kept s sharding is cells as_stored h.order.each h.few small m dataset cell (none (has_chunk (placed s sharding (map (λ cell. (cell, as_stored cell)) cells)) (shard_of sharding (id_of s cell))) refl)
        where
          none : (b : Bool) → has_chunk (placed s sharding (map (λ cell. (cell, as_stored cell)) cells)) (shard_of sharding (id_of s cell)) ≡ b
              → has_chunk (placed s sharding (map (λ cell. (cell, as_stored cell)) cells)) (shard_of sharding (id_of s cell)) ≡ false
          none false e = e
          none true e =
              let (c, listed, same) = law.has_listed s sharding is cells as_stored h.order.each h.few small (shard_of sharding (id_of s cell)) e in
              absurd (All-contains (λ d. object_of dataset s d ≢ object_of dataset s cell) cells c apart listed
              (object_is (Some sharding) is c ∙ ap (shard_name dataset s) same ∙ sym (object_is (Some sharding) is cell)))

  -- and another cell with an object that was put is absent
  pub bytes_absent : (m : Objects) (cell c : List ℕ) → IsCell s cell → (Contains cells cell → ⊥) → Contains cells c → object_of dataset s c ≡ object_of dataset s cell
      → stored_bytes (put_in m (stored_list dataset s (with_bytes raw cells))) dataset s cell ≡ Ok None
  bytes_absent m cell c is_one unlisted listed same = by s.sharding refl
    where
      by : (o : Option Sharding) → s.sharding ≡ o → stored_bytes (put_in m (stored_list dataset s (with_bytes raw cells))) dataset s cell ≡ Ok None
      by None is =
          let names : cell_name dataset s c ≡ cell_name dataset s cell = sym (object_is None is c) ∙ same ∙ object_is None is cell in
          absurd (unlisted (subst (Contains cells) (cell_name-injective dataset s c cell (is_cell c listed) is_one names) listed))
      by (Some sharding) is =
          let names : shard_name dataset s (shard_of sharding (id_of s c)) ≡ shard_name dataset s (shard_of sharding (id_of s cell)) = sym (object_is (Some sharding) is c) ∙ same ∙ object_is (Some sharding) is cell in
          let shards : shard_of sharding (id_of s c) ≡ shard_of sharding (id_of s cell) = same_shard dataset s sharding is (id_of s c) (id_of s cell) names in
          let some = law.listed_has s sharding is cells as_stored h.order.each h.few small c (is_cell c listed) listed in
          ap (λ os. stored_bytes (put_in m os) dataset s cell) (list_by (Some sharding) is)
          ∙ law.absent s sharding is cells as_stored h.order.each h.few small m dataset cell is_one unlisted
          (subst (λ k. has_chunk (placed s sharding (map (λ cell. (cell, as_stored cell)) cells)) k ≡ true) shards some)

  -- in a folder that had no object every cell that isn't listed is absent
  pub bytes_empty : (m : Objects) (cell : List ℕ) → any_under m (folder_of dataset s) ≡ false → IsCell s cell → (Contains cells cell → ⊥)
      → stored_bytes (put_in m (stored_list dataset s (with_bytes raw cells))) dataset s cell ≡ Ok None
  bytes_empty m cell none is_one unlisted = by s.sharding refl
    where
      by : (o : Option Sharding) → s.sharding ≡ o → stored_bytes (put_in m (stored_list dataset s (with_bytes raw cells))) dataset s cell ≡ Ok None
      by None is =
          ap (λ os. stored_bytes (put_in m os) dataset s cell) (list_by None is ∙ own_objects cells)
          ∙ unsharded s is (put_in m (cell_objects dataset s as_stored cells)) dataset cell
          ∙ ap (by_own s cell) (get-unlisted m dataset s as_stored cells cell h.order is_one unlisted)
          ∙ sym (unsharded s is m dataset cell)
          ∙ empty_bytes m dataset s cell none
      by (Some sharding) is =
          ap (λ os. stored_bytes (put_in m os) dataset s cell) (list_by (Some sharding) is)
          ∙ either (has_chunk (placed s sharding (map (λ cell. (cell, as_stored cell)) cells)) (shard_of sharding (id_of s cell))) refl
        where
          either : (b : Bool) → has_chunk (placed s sharding (map (λ cell. (cell, as_stored cell)) cells)) (shard_of sharding (id_of s cell)) ≡ b
              → stored_bytes (put_in m (objects_in dataset s sharding (placed s sharding (map (λ cell. (cell, as_stored cell)) cells)) (range_with_len 0 (2 ^ sharding.shard_bits)))) dataset s cell ≡ Ok None
          either true e = law.absent s sharding is cells as_stored h.order.each h.few small m dataset cell is_one unlisted e
          either false e = law.kept s sharding is cells as_stored h.order.each h.few small m dataset cell e ∙ empty_bytes m dataset s cell none

  -- the same of the chunks, which have no fault
  sound : (cell : List ℕ) → Contains cells cell → chunk_fault s cell (encoded s cell (raw cell)) ≡ None
  sound cell c = encoded-sound s cell (raw cell) (is_cell cell c) h.writable (All-contains (λ cell. length (raw cell) ≡ raw_size s cell) cells cell h.lens c)

  pub chunk_there : (m : Objects) (cell : List ℕ) → Contains cells cell → chunk_in (put_in m (stored_list dataset s (with_bytes raw cells))) dataset s cell ≡ Ok (Some (encoded s cell (raw cell)))
  unfolding chunk_in
  chunk_there m cell c = ap (judged s cell) (bytes_there m cell c) ∙ ap (λ f. unless f (encoded s cell (raw cell))) (sound cell c)

  pub chunk_kept : (m : Objects) (cell : List ℕ) → IsCell s cell → AreElsewhere dataset s cells cell → chunk_in (put_in m (stored_list dataset s (with_bytes raw cells))) dataset s cell ≡ chunk_in m dataset s cell
  unfolding chunk_in
  chunk_kept m cell is_one apart = ap (judged s cell) (bytes_kept m cell is_one apart)

  pub chunk_absent : (m : Objects) (cell c : List ℕ) → IsCell s cell → (Contains cells cell → ⊥) → Contains cells c → object_of dataset s c ≡ object_of dataset s cell
      → chunk_in (put_in m (stored_list dataset s (with_bytes raw cells))) dataset s cell ≡ Ok None
  unfolding chunk_in
  chunk_absent m cell c is_one unlisted listed same = ap (judged s cell) (bytes_absent m cell c is_one unlisted listed same)

  pub chunk_empty : (m : Objects) (cell : List ℕ) → any_under m (folder_of dataset s) ≡ false → IsCell s cell → (Contains cells cell → ⊥)
      → chunk_in (put_in m (stored_list dataset s (with_bytes raw cells))) dataset s cell ≡ Ok None
  unfolding chunk_in
  chunk_empty m cell none is_one unlisted = ap (judged s cell) (bytes_empty m cell none is_one unlisted)

  -- each value of a listed cell is that of its raw bytes
  pub value_back : (cell : List ℕ) (p : List ℤ) (c : ℕ) → Contains cells cell → AreBytes (raw cell) → Covers (cell_box s cell) p → c < s.channels
      → value_at s cell (encoded s cell (raw cell)) p c ≡ raw_at (cell_box s cell) s.width (raw cell) p c
  value_back cell p c listed bytes covered l =
      encoded-value s cell (raw cell) (is_cell cell listed) h.writable (All-contains (λ cell. length (raw cell) ≡ raw_size s cell) cells cell h.lens listed) p c bytes covered l

  pub value_there : (m : Objects) (cell : List ℕ) (p : List ℤ) (c : ℕ) → Contains cells cell → AreBytes (raw cell) → Covers (cell_box s cell) p → c < s.channels
      → value_of s cell (chunk_in (put_in m (stored_list dataset s (with_bytes raw cells))) dataset s cell) p c ≡ Ok (raw_at (cell_box s cell) s.width (raw cell) p c)
  value_there m cell p c listed bytes covered l =
      ap (λ chunk. value_of s cell chunk p c) (chunk_there m cell listed)
      ∙ ap Ok (value_back cell p c listed bytes covered l)

-- no object outside the folder is another, whatever the chunks
pub stored_outside : (m : Objects) (dataset : List ℕ) (s : Scale) (chunks : List (List ℕ × List ℕ)) (name : List ℕ) → is_under (folder_of dataset s) name ≡ false
    → fin.get (put_in m (stored_list dataset s chunks)) name ≡ fin.get m name
unfolding stored_list
stored_outside m dataset s chunks name outside = put_in-other m (listed_by s.sharding dataset s (encoded_chunks s chunks)) name (by s.sharding)
  where
    other : (file : List ℕ) → folder_of dataset s ++ 47 ∷ file ≢ name
    other file e =
        let under = is_under-joined (folder_of dataset s) file in
        let same : is_under (folder_of dataset s) (folder_of dataset s ++ 47 ∷ file) ≡ is_under (folder_of dataset s) name = ap (is_under (folder_of dataset s)) e in
        let same_it = same in absurd (cc (under, outside))

    by : (o : Option Sharding) → All (λ o. o.0 ≢ name) (listed_by o dataset s (encoded_chunks s chunks))
    by None = All-map (λ o. o.0 ≢ name) (λ chunk. (cell_name dataset s chunk.0, chunk.1)) (encoded_chunks s chunks) (λ k d l. other (box_name (cell_box s (get_or (encoded_chunks s chunks) k d).0)))
    by (Some sharding) =
        All-map (λ o. o.0 ≢ name) (shard_object dataset s sharding (placed s sharding (encoded_chunks s chunks))) (filter (has_chunk (placed s sharding (encoded_chunks s chunks))) (range_with_len 0 (2 ^ sharding.shard_bits)))
        (λ k d l. other (shard_file (shard_bits_of s) (get_or (filter (has_chunk (placed s sharding (encoded_chunks s chunks))) (range_with_len 0 (2 ^ sharding.shard_bits))) k d)))
