-- After writes every cutout is theirs.
use Rattle.std.proofs.Common.{◌≡◌, ℕ, ◌+◌, ◌*◌, ◌^◌, ◌<◌, ◌≤◌, false, List, [], ◌∷◌, length, map, Option, None, Ok, refl, ap, ◌∙◌, arith, lit<}
use Rattle.std.specs.Prelude.{All, flat_map}
use Rattle.std.specs.List.{range_with_len}
use Rattle.std.specs.Option.{option_map}
use Rattle.std.proofs.lemmas.List.Elements.{All-head, All-tail, All-weaker}
use Rattle.vol_base.specs.Boxes.{size, voxels}
use Rattle.vol_base.specs.Outside.{Objects, any_under}
use Rattle.vol_base.specs.declared.boxes.Box3.{Box3}
use Rattle.vol_spec.proofs.CutSteps.{flat_map-map, in_channels, none_faulty, position_covered}
use Rattle.vol_spec.proofs.RawSteps.{zeros_are}
use Rattle.vol_spec.specs.BoxValues.{bytes_of, channel_of, first_some, position_of}
use Rattle.vol_base.specs.Bytes.{AreBytes}
use Rattle.vol_spec.specs.CellNames.{folder_of}
use Rattle.vol_spec.specs.Chunks.{value_in}
use Rattle.vol_spec.specs.Cut.{cut, faulty, first_fault}
use Rattle.vol_spec.specs.Grid.{Inside, IsCell, cells_in}
use Rattle.vol_spec.specs.LastWrite.{last, zeros}
use Rattle.vol_spec.specs.StoredCells.{chunks_of, met_cells, put_in, raw_bytes}
use Rattle.vol_spec.specs.StoredLists.{stored_list}
use Rattle.vol_spec.specs.declared.scale.Scale.{Scale}
use Rattle.vol_spec.specs.Writable.{IsWritable}
use Rattle.chunk_grid.proofs.ListingSteps.{cells_in-IsCell}
use Rattle.chunk_laws.proofs.WrittenSteps.{written_sound, written_value}

none_first : {X Y : Type 0} (f : X → Option Y) (xs : List X) → All (λ x. f x ≡ None) xs → first_some (map f xs) ≡ None
none_first f [] h = refl
none_first f (x ∷ xs) h = ap (λ o. first_some (o ∷ map f xs)) (All-head (λ x. f x ≡ None) x xs h) ∙ none_first f xs (All-tail (λ x. f x ≡ None) x xs h)

module _ (s : Scale) (writes : List (Box3 × List ℕ)) (few : length (met_cells s writes) ≤ 2 ^ 22) (can : IsWritable s)
    (m : Objects) (dataset : List ℕ) (none : any_under m (folder_of dataset s) ≡ false) where
  -- no cell of a box has a fault
  pub written_faultless : (b : Box3) → first_fault (put_in m (stored_list dataset s (chunks_of s zeros writes))) dataset s b ≡ None
  unfolding first_fault
  written_faultless b =
      none_first (faulty (put_in m (stored_list dataset s (chunks_of s zeros writes))) dataset s) (cells_in s b)
      (All-weaker (IsCell s) (λ cell. faulty (put_in m (stored_list dataset s (chunks_of s zeros writes))) dataset s cell ≡ None)
      (λ cell is. ap (option_map (λ fault. (cell, fault))) (written_sound s zeros writes few can m dataset cell none is)) (cells_in s b) (cells_in-IsCell s b))

  -- and its cutout is the bytes of the last write at each voxel and channel, none missing
  pub written_cut : (b : Box3) → Inside s b → All (λ write. AreBytes write.1) writes
      → cut (put_in m (stored_list dataset s (chunks_of s zeros writes))) dataset s b ≡ raw_bytes b s.channels s.width (last s.width zeros writes)
  unfolding cut
  written_cut b inside small =
      let told : (i : ℕ) → i < voxels b * s.channels → value_in (put_in m (stored_list dataset s (chunks_of s zeros writes))) dataset s (position_of b (0 + i)) (channel_of b (0 + i)) ≡ Ok (last s.width zeros writes (position_of b (0 + i)) (channel_of b (0 + i))) = λ i h.
      let z : 0 + i ≡ i = omega arith in
      let c : channel_of b (0 + i) < s.channels = in_channels (size b 0) (size b 1) (size b 2) s.channels (0 + i) (inside.some 0 (lit< tt)) (inside.some 1 (lit< tt)) (inside.some 2 (lit< tt)) (omega arith) in
      written_value s zeros writes few can m dataset (position_of b (0 + i)) (channel_of b (0 + i)) (zeros_are s.width) small none (inside.within (position_of b (0 + i)) (position_covered b (0 + i) inside.some)) c (λ e. refl) in
      ap (flat_map (bytes_of s.width))
      (none_faulty (λ n. value_in (put_in m (stored_list dataset s (chunks_of s zeros writes))) dataset s (position_of b n) (channel_of b n)) (λ n. last s.width zeros writes (position_of b n) (channel_of b n)) 0 (voxels b * s.channels) told)
      ∙ flat_map-map (bytes_of s.width) (λ n. last s.width zeros writes (position_of b n) (channel_of b n)) (range_with_len 0 (voxels b * s.channels))
