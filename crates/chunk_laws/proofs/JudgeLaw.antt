-- Nothing is wrong with a scale whose folder had no object, once chunks are stored in it.
use Rattle.std.proofs.Common.{◌≡◌, ℕ, ◌/◌, ◌^◌, ◌<◌, ◌≤◌, Bool, true, false, List, [], ◌∷◌, length, map, Option, Some, None, refl, ap, ◌∙◌, sym}
use Rattle.std.specs.FinMap as fin
use Rattle.std.specs.List.{range_with_len}
use Rattle.std.proofs.lemmas.List.Elements.{All-weaker}
use Rattle.std.proofs.lemmas.Nat.{mod_below, pow_pos}
use Rattle.vol_base.specs.Outside.{Objects, any_under}
use Rattle.vol_base.specs.declared.boxes.Box3.{Box3}
use Rattle.vol_spec.proofs.PutSteps.{get-none_under}
use Rattle.vol_spec.specs.BoxValues.{first_some}
use Rattle.vol_spec.specs.CellNames.{folder_of}
use Rattle.vol_spec.specs.Chunks.{fault_in}
use Rattle.vol_spec.specs.Encodings.{encoded}
use Rattle.vol_spec.specs.Grid.{IsCell, cells_in}
use Rattle.vol_spec.specs.LastWrite.{zeros}
use Rattle.vol_spec.specs.Places.{hashed, id_of, minishard_of, shard_of}
use Rattle.vol_spec.specs.ShardNames.{shard_name, shard_bits_of, shard_file}
use Rattle.vol_spec.specs.StoredBytes.{object_by, object_of}
use Rattle.vol_spec.specs.StoredCells.{chunks_of, met_cells, put_in, written_raw}
use Rattle.vol_spec.specs.StoredLists.{stored_list}
use Rattle.vol_spec.specs.StoredShards.{has_chunk, objects_in, placed}
use Rattle.vol_spec.specs.Verdicts.{Sound, damage, index_wrong, judge}
use Rattle.vol_spec.specs.declared.scale.Scale.{Scale}
use Rattle.vol_spec.specs.declared.sharding.Sharding.{Sharding}
use Rattle.vol_spec.specs.Writable.{IsWritable}
use Rattle.chunk_grid.proofs.ListingSteps.{cells_in-IsCell}
use Rattle.chunk_grid.proofs.NameSteps.{is_under-joined}
use Rattle.chunk_laws.proofs.Law.{list_by, small}
use Rattle.chunk_laws.proofs.PutShards.{get-kept_shard, get-put_shard}
use Rattle.chunk_laws.proofs.ShardLaw as law
use Rattle.chunk_laws.proofs.WrittenSteps.{chunks_are, storable, written_sound}
use Rattle.chunk_laws.specs.Storable.{AreStorable, with_bytes}

module _ (dataset : List ℕ) (s : Scale) (raw : List ℕ → List ℕ) (cells : List (List ℕ)) (h : AreStorable s raw cells) (m : Objects) (empty : any_under m (folder_of dataset s) ≡ false) where
  index_none : (cell : List ℕ) → index_wrong s.sharding (id_of s cell) (fin.get (put_in m (stored_list dataset s (with_bytes raw cells))) (object_of dataset s cell)) ≡ None
  index_none cell = by s.sharding refl
    where
      by : (o : Option Sharding) → s.sharding ≡ o → index_wrong s.sharding (id_of s cell) (fin.get (put_in m (stored_list dataset s (with_bytes raw cells))) (object_of dataset s cell)) ≡ None
      by None is = ap (λ p. index_wrong p (id_of s cell) (fin.get (put_in m (stored_list dataset s (with_bytes raw cells))) (object_of dataset s cell))) is
      by (Some sharding) is =
          ap (λ p. index_wrong p (id_of s cell) (fin.get (put_in m (stored_list dataset s (with_bytes raw cells))) (object_by p dataset s cell))) is
          ∙ ap (λ os. index_wrong (Some sharding) (id_of s cell) (fin.get (put_in m os) (shard_name dataset s (shard_of sharding (id_of s cell))))) (list_by dataset s raw cells h (Some sharding) is)
          ∙ shard (has_chunk (placed s sharding (map (λ cell. (cell, encoded s cell (raw cell))) cells)) (shard_of sharding (id_of s cell))) refl
        where
          below : shard_of sharding (id_of s cell) < 2 ^ sharding.shard_bits
          below = mod_below (hashed sharding (id_of s cell) / 2 ^ sharding.minishard_bits) (2 ^ sharding.shard_bits) (pow_pos sharding.shard_bits)

          within : minishard_of sharding (id_of s cell) < 2 ^ sharding.minishard_bits
          within = mod_below (hashed sharding (id_of s cell)) (2 ^ sharding.minishard_bits) (pow_pos sharding.minishard_bits)

          shard : (b : Bool) → has_chunk (placed s sharding (map (λ cell. (cell, encoded s cell (raw cell))) cells)) (shard_of sharding (id_of s cell)) ≡ b
              → index_wrong (Some sharding) (id_of s cell) (fin.get (put_in m (objects_in dataset s sharding (placed s sharding (map (λ cell. (cell, encoded s cell (raw cell))) cells)) (range_with_len 0 (2 ^ sharding.shard_bits)))) (shard_name dataset s (shard_of sharding (id_of s cell)))) ≡ None
          shard true e =
              ap (index_wrong (Some sharding) (id_of s cell)) (get-put_shard dataset s sharding (placed s sharding (map (λ cell. (cell, encoded s cell (raw cell))) cells)) is m (shard_of sharding (id_of s cell)) below e)
              ∙ law.index_sound s sharding is cells (λ cell. encoded s cell (raw cell)) h.order.each h.few (small dataset s raw cells h) (shard_of sharding (id_of s cell)) (minishard_of sharding (id_of s cell)) within
          shard false e =
              ap (index_wrong (Some sharding) (id_of s cell))
              (get-kept_shard dataset s sharding (placed s sharding (map (λ cell. (cell, encoded s cell (raw cell))) cells)) is m (shard_of sharding (id_of s cell)) below e
              ∙ get-none_under m (folder_of dataset s) (shard_name dataset s (shard_of sharding (id_of s cell))) empty (is_under-joined (folder_of dataset s) (shard_file (shard_bits_of s) (shard_of sharding (id_of s cell)))))

  -- where a cell has no fault
  pub stored_judged : (cell : List ℕ) → fault_in (put_in m (stored_list dataset s (with_bytes raw cells))) dataset s cell ≡ None → judge (put_in m (stored_list dataset s (with_bytes raw cells))) dataset s cell ≡ None
  unfolding judge
  stored_judged cell none =
      ap (λ o. first_some (o ∷ damage (fault_in (put_in m (stored_list dataset s (with_bytes raw cells))) dataset s cell) ∷ [])) (index_none cell)
      ∙ ap (λ f. first_some (None ∷ damage f ∷ [])) none

-- so what writes are stored as is sound in every box
pub written_whole : (s : Scale) (writes : List (Box3 × List ℕ)) (m : Objects) (dataset : List ℕ) (b : Box3) → length (met_cells s writes) ≤ 2 ^ 22 → IsWritable s
    → any_under m (folder_of dataset s) ≡ false → Sound (put_in m (stored_list dataset s (chunks_of s zeros writes))) dataset s b
written_whole s writes m dataset b few can empty =
    All-weaker (IsCell s) (λ cell. judge (put_in m (stored_list dataset s (chunks_of s zeros writes))) dataset s cell ≡ None)
    (λ cell is.
    ap (λ cs. judge (put_in m (stored_list dataset s cs)) dataset s cell) (chunks_are s zeros writes)
    ∙ stored_judged dataset s (written_raw s zeros writes) (met_cells s writes) (storable s zeros writes few can) m empty cell
    (ap (λ cs. fault_in (put_in m (stored_list dataset s cs)) dataset s cell) (sym (chunks_are s zeros writes)) ∙ written_sound s zeros writes few can m dataset cell empty is))
    (cells_in s b) (cells_in-IsCell s b)
