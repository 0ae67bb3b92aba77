-- The values of writes, over what was there.
use Rattle.std.proofs.Common.{◌≡◌, ℕ, zero, suc, ◌*◌, ◌/◌, ◌^◌, ◌<◌, ◌≤◌, ◌++◌, Bool, true, false, if◌then◌else◌, List, [], ◌∷◌, length, get_or, Some, None, refl, ap, ◌∙◌, sym, lit<}
use Rattle.std.specs.Prelude.{All, Ok, ℤ, flat_map}
use Rattle.std.specs.List.{range_with_len}
use Rattle.std.proofs.lemmas.List.Elements.{All-from_get_or}
use Rattle.std.proofs.lemmas.Nat.{mod_below}
use Rattle.vol_base.specs.Boxes.{Covers, voxels}
use Rattle.vol_base.specs.Outside.{Objects, any_under}
use Rattle.vol_base.specs.declared.boxes.Box3.{Box3}
use Rattle.vol_spec.proofs.RawSteps.{length-written_raw, raw_at-written_raw}
use Rattle.vol_base.specs.Bytes.{AreBytes}
use Rattle.vol_spec.specs.Chunks.{chunk_in, fault_in, fault_of, value_in, value_of}
use Rattle.vol_spec.specs.CellNames.{folder_of}
use Rattle.vol_spec.specs.BoxValues.{bytes_of, channel_of, position_of}
use Rattle.vol_spec.specs.Encodings.{encoded, raw_size}
use Rattle.vol_spec.specs.Grid.{IsCell, cell_at, cell_box, whole}
use Rattle.vol_spec.specs.StoredCells.{chunks_of, met, met_cells, put_in, raw_bytes, written_raw}
use Rattle.vol_spec.specs.StoredLists.{stored_list}
use Rattle.vol_spec.specs.LastWrite.{AreValues, Before, last}
use Rattle.vol_spec.specs.declared.scale.Scale.{Scale}
use Rattle.vol_spec.specs.Writable.{IsWritable}
use Rattle.chunk_grid.proofs.GridSteps.{cell_at-Covers, cell_at-IsCell}
use Rattle.chunk_grid.proofs.OrderSteps.{AreInOrder-met_cells}
use Rattle.chunk_grid.proofs.StoredSteps.{Contains-met_cells, last_unmet, met-listed}
use Rattle.chunk_laws.proofs.Law.{chunk_empty, chunk_there, value_there}
use Rattle.chunk_laws.specs.Storable.{AreStorable, with_bytes}

-- bytes
byte_parts : (w n : ℕ) → AreBytes (bytes_of w n)
byte_parts zero n i = lit< tt
byte_parts (suc w) n zero = mod_below n 256 (lit< tt)
byte_parts (suc w) n (suc i) = byte_parts w (n / 256) i

joined_bytes : (xs ys : List ℕ) → AreBytes xs → AreBytes ys → AreBytes (xs ++ ys)
joined_bytes [] ys hx hy i = hy i
joined_bytes (x ∷ xs) ys hx hy zero = hx 0
joined_bytes (x ∷ xs) ys hx hy (suc i) = joined_bytes xs ys (λ j. hx (suc j)) hy i

all_bytes : (g : ℕ → List ℕ) (ns : List ℕ) → ((n : ℕ) → AreBytes (g n)) → AreBytes (flat_map g ns)
all_bytes g [] h i = lit< tt
all_bytes g (n ∷ ns) h i = joined_bytes (g n) (flat_map g ns) (h n) (all_bytes g ns h) i

pub AreBytes-raw_bytes : (b : Box3) (channels w : ℕ) (f : List ℤ → ℕ → ℕ) → AreBytes (raw_bytes b channels w f)
AreBytes-raw_bytes b channels w f = all_bytes (λ n. bytes_of w (f (position_of b n) (channel_of b n))) (range_with_len 0 (voxels b * channels)) (λ n. byte_parts w (f (position_of b n) (channel_of b n)))

-- the bytes of a cell's values
pub AreBytes-written : (s : Scale) (before : Before) (writes : List (Box3 × List ℕ)) (cell : List ℕ) → AreBytes (written_raw s before writes cell)
unfolding written_raw
AreBytes-written s before writes cell = AreBytes-raw_bytes (cell_box s cell) s.channels s.width (last s.width before writes)

pub chunks_are : (s : Scale) (before : Before) (writes : List (Box3 × List ℕ)) → chunks_of s before writes ≡ with_bytes (written_raw s before writes) (met_cells s writes)
unfolding chunks_of
chunks_are s before writes = refl

module _ (s : Scale) (before : Before) (writes : List (Box3 × List ℕ)) (few : length (met_cells s writes) ≤ 2 ^ 22) (can : IsWritable s) where
  pub storable : AreStorable s (written_raw s before writes) (met_cells s writes)
  storable = record {
    order = AreInOrder-met_cells s writes;
    lens = All-from_get_or (λ cell. length (written_raw s before writes cell) ≡ raw_size s cell) (met_cells s writes) [] (λ i l. length-written_raw s before writes (get_or (met_cells s writes) i []));
    few = few;
    writable = can;
  }

  -- in an empty folder a cell has a chunk where some write meets it, and else none
  pub written_chunk : (m : Objects) (dataset cell : List ℕ) → any_under m (folder_of dataset s) ≡ false → IsCell s cell
      → chunk_in (put_in m (stored_list dataset s (chunks_of s before writes))) dataset s cell ≡ Ok (if met s writes cell then Some (encoded s cell (written_raw s before writes cell)) else None)
  written_chunk m dataset cell none is =
      ap (λ cs. chunk_in (put_in m (stored_list dataset s cs)) dataset s cell) (chunks_are s before writes)
      ∙ by (met s writes cell) refl
    where
      by : (b : Bool) → met s writes cell ≡ b
          → chunk_in (put_in m (stored_list dataset s (with_bytes (written_raw s before writes) (met_cells s writes)))) dataset s cell ≡ Ok (if b then Some (encoded s cell (written_raw s before writes cell)) else None)
      by true e = chunk_there dataset s (written_raw s before writes) (met_cells s writes) storable m cell (Contains-met_cells s writes cell is e)
      by false e = chunk_empty dataset s (written_raw s before writes) (met_cells s writes) storable m cell none is (λ c. let met_too = met-listed s writes cell c in absurd (cc (met_too, e)))

  -- no cell has a fault,
  pub written_sound : (m : Objects) (dataset cell : List ℕ) → any_under m (folder_of dataset s) ≡ false → IsCell s cell → fault_in (put_in m (stored_list dataset s (chunks_of s before writes))) dataset s cell ≡ None
  written_sound m dataset cell none is = ap fault_of (written_chunk m dataset cell none is)

  -- and each value is that of the last write that covers it, else what was there, where that is 0 in cells that no write meets
  pub written_value : (m : Objects) (dataset : List ℕ) (p : List ℤ) (c : ℕ) → AreValues s.width before → All (λ write. AreBytes write.1) writes → any_under m (folder_of dataset s) ≡ false → Covers (whole s) p → c < s.channels
      → (met s writes (cell_at s p) ≡ false → before p c ≡ 0)
      → value_in (put_in m (stored_list dataset s (chunks_of s before writes))) dataset s p c ≡ Ok (last s.width before writes p c)
  written_value m dataset p c are small none inside l blank = by (met s writes (cell_at s p)) refl
    where
      is : IsCell s (cell_at s p)
      is = cell_at-IsCell s p inside

      by : (b : Bool) → met s writes (cell_at s p) ≡ b → value_in (put_in m (stored_list dataset s (chunks_of s before writes))) dataset s p c ≡ Ok (last s.width before writes p c)
      by true e =
          ap (λ cs. value_in (put_in m (stored_list dataset s cs)) dataset s p c) (chunks_are s before writes)
          ∙ value_there dataset s (written_raw s before writes) (met_cells s writes) storable m (cell_at s p) p c (Contains-met_cells s writes (cell_at s p) is e) (AreBytes-written s before writes (cell_at s p)) (cell_at-Covers s p inside) l
          ∙ ap Ok (raw_at-written_raw s before writes (cell_at s p) p c are small (cell_at-Covers s p inside) l)
      by false e =
          ap (λ chunk. value_of s (cell_at s p) chunk p c) (written_chunk m dataset (cell_at s p) none is ∙ ap (λ b. Ok (if b then Some (encoded s (cell_at s p) (written_raw s before writes (cell_at s p))) else None)) e)
          ∙ ap Ok (sym (last_unmet s before writes p c inside e ∙ blank e))
