-- What a scale of any form says, once it is stored in each of its views.
use Rattle.std.proofs.Common.{◌≡◌, ℕ, ◌+◌, ◌*◌, ◌^◌, ◌<◌, ◌≤◌, ◌++◌, false, List, [], ◌∷◌, length, map, Option, Some, None, Ok, refl, ap, ◌∙◌, sym, subst, arith, lit<}
use Rattle.std.specs.Prelude.{All, flat_map}
use Rattle.std.specs.FinMap as fin
use Rattle.std.specs.List.{range_with_len}
use Rattle.std.specs.Option.{option_map}
use Rattle.std.proofs.lemmas.List.{append-nil}
use Rattle.std.proofs.lemmas.List.Concat.{flat_map-cons}
use Rattle.std.proofs.lemmas.List.Elements.{All-cons, All-head, All-map, All-nil, All-tail, All-weaker}
use Rattle.vol_base.specs.Boxes.{size, voxels}
use Rattle.vol_base.specs.Outside.{Objects, is_under}
use Rattle.vol_base.specs.declared.boxes.Box3.{Box3}
use Rattle.vol_spec.proofs.CutSteps.{flat_map-map, in_channels, none_faulty, position_covered}
use Rattle.vol_spec.proofs.PutSteps.{put_in-append}
use Rattle.vol_spec.proofs.RawSteps.{zeros_are}
use Rattle.vol_spec.specs.BoxValues.{bytes_of, channel_of, first_some, position_of}
use Rattle.vol_spec.specs.CellNames.{folder_of}
use Rattle.vol_spec.specs.Chunks.{chunk_in, fault_of, value_in, value_of}
use Rattle.vol_spec.specs.Cut.{cut, faulty, first_fault}
use Rattle.vol_spec.specs.Grid.{Inside, IsCell, cell_at, cells_in}
use Rattle.vol_spec.specs.LastWrite.{last, zeros}
use Rattle.vol_spec.specs.StoredCells.{chunks_of, met_cells, put_in, raw_bytes}
use Rattle.vol_spec.specs.StoredLists.{stored_list}
use Rattle.vol_spec.specs.Types.{Cell, Name, Writes}
use Rattle.vol_spec.specs.Verdicts.{Sound}
use Rattle.vol_spec.specs.Views.{view}
use Rattle.vol_spec.specs.Writable.{IsWritable}
use Rattle.vol_spec.specs.declared.scale.Scale.{Scale}
use Rattle.vol_spec.specs.declared.sharding.Sharding.{Sharding}
use Rattle.chunk_grid.proofs.GridSteps.{cell_at-IsCell}
use Rattle.chunk_grid.proofs.ListingSteps.{cells_in-IsCell}
use Rattle.chunk_laws.proofs.JudgeLaw.{written_whole}
use Rattle.chunk_laws.proofs.Law.{stored_outside}
use Rattle.chunk_laws.proofs.WrittenSteps.{written_sound, written_value}
use Rattle.chunk_laws.specs.Told.{HasLastWrites, HasNoFault, ReadsBack}
use Rattle.size_laws.proofs.Law.{as_alone, written_all_sound}
use Rattle.size_laws.proofs.ViewLaws.{can_write, none_further}
use Rattle.size_laws.specs.Further.{CanStore, all_views, further, written_views}
use Rattle.size_laws.specs.Sizes.{Agrees, AllSound, stored_all}

-- a sharded scale is stored as its one view
one_list : (dataset : Name) (s : Scale) (writes : Writes) (sharding : Sharding) → s.sharding ≡ Some sharding → stored_all dataset (all_views s) writes ≡ stored_list dataset s (chunks_of s zeros writes)
one_list dataset s writes sharding is =
    ap (λ vs. stored_all dataset (s ∷ vs) writes) (none_further s sharding is)
    ∙ flat_map-cons (λ v. stored_list dataset v (chunks_of v zeros writes)) s []
    ∙ append-nil (stored_list dataset s (chunks_of s zeros writes))

none_first : {X Y : Type 0} (f : X → Option Y) (xs : List X) → All (λ x. f x ≡ None) xs → first_some (map f xs) ≡ None
none_first f [] h = refl
none_first f (x ∷ xs) h = ap (λ o. first_some (o ∷ map f xs)) (All-head (λ x. f x ≡ None) x xs h) ∙ none_first f xs (All-tail (λ x. f x ≡ None) x xs h)

-- no cell of a box has a fault,
pub none_in : (now : Objects) (dataset : Name) (s : Scale) (b : Box3) → HasNoFault now dataset s → first_fault now dataset s b ≡ None
unfolding first_fault
none_in now dataset s b none =
    none_first (faulty now dataset s) (cells_in s b)
    (All-weaker (IsCell s) (λ cell. faulty now dataset s cell ≡ None) (λ cell is. ap (option_map (λ fault. (cell, fault))) (none cell is)) (cells_in s b) (cells_in-IsCell s b))

-- and its cutout is the bytes of the last write at each voxel and channel, none missing
pub cut_written : (now : Objects) (dataset : Name) (s : Scale) (writes : Writes) (b : Box3) → HasLastWrites now dataset s writes → Inside s b
    → cut now dataset s b ≡ raw_bytes b s.channels s.width (last s.width zeros writes)
unfolding cut
cut_written now dataset s writes b values inside =
    let told : (i : ℕ) → i < voxels b * s.channels → value_in now dataset s (position_of b (0 + i)) (channel_of b (0 + i)) ≡ Ok (last s.width zeros writes (position_of b (0 + i)) (channel_of b (0 + i))) = λ i h.
    let z : 0 + i ≡ i = omega arith in
    let c : channel_of b (0 + i) < s.channels = in_channels (size b 0) (size b 1) (size b 2) s.channels (0 + i) (inside.some 0 (lit< tt)) (inside.some 1 (lit< tt)) (inside.some 2 (lit< tt)) (omega arith) in
    values (position_of b (0 + i)) (channel_of b (0 + i)) (inside.within (position_of b (0 + i)) (position_covered b (0 + i) inside.some)) c in
    ap (flat_map (bytes_of s.width))
    (none_faulty (λ n. value_in now dataset s (position_of b n) (channel_of b n)) (λ n. last s.width zeros writes (position_of b n) (channel_of b n)) 0 (voxels b * s.channels) told)
    ∙ flat_map-map (bytes_of s.width) (λ n. last s.width zeros writes (position_of b n) (channel_of b n)) (range_with_len 0 (voxels b * s.channels))

module _ (m : Objects) (dataset : Name) (s : Scale) (writes : Writes) (h : CanStore m dataset s writes) where
  few : length (met_cells s writes) ≤ 2 ^ 22
  few = All-head (λ v. length (met_cells v writes) ≤ 2 ^ 22) s (further s) h.few

  can : IsWritable s
  can = All-head IsWritable s (further s) h.writable

  -- each cell is as if the scale alone was stored,
  chunk_alone : (o : Option Sharding) → s.sharding ≡ o → (cell : Cell) → IsCell s cell
      → chunk_in (written_views m dataset s writes) dataset s cell ≡ chunk_in (put_in m (stored_list dataset s (chunks_of s zeros writes))) dataset s cell
  chunk_alone None is cell at = as_alone m dataset s (all_views s) writes (can_write m dataset s writes is h) s (0, omega arith, refl) cell at
  chunk_alone (Some sharding) is cell at = ap (λ list. chunk_in (put_in m list) dataset s cell) (one_list dataset s writes sharding is)

  -- so none has a fault,
  pub none_faulted : HasNoFault (written_views m dataset s writes) dataset s
  none_faulted cell at = ap fault_of (chunk_alone s.sharding refl cell at) ∙ written_sound s zeros writes few can m dataset cell h.empty at

  -- and each value is the last write
  pub last_values : HasLastWrites (written_views m dataset s writes) dataset s writes
  last_values p c inside l =
      ap (λ chunk. value_of s (cell_at s p) chunk p c) (chunk_alone s.sharding refl (cell_at s p) (cell_at-IsCell s p inside))
      ∙ written_value s zeros writes few can m dataset p c (zeros_are s.width) h.bytes h.empty inside l (λ e. refl)

  pub views_sound : (b : Box3) → Inside s b → AllSound (written_views m dataset s writes) dataset s (further s) b
  views_sound b inside = by s.sharding refl
    where
      by : (o : Option Sharding) → s.sharding ≡ o → AllSound (written_views m dataset s writes) dataset s (further s) b
      by None is = written_all_sound m dataset s s (further s) writes b (can_write m dataset s writes is h) inside
      by (Some sharding) is = record {
        first_sound = subst (λ list. Sound (put_in m list) dataset s b) (sym (one_list dataset s writes sharding is)) (written_whole s writes m dataset b few can h.empty);
        others = subst (All (λ v. Agrees (written_views m dataset s writes) dataset s v b)) (sym (none_further s sharding is)) (All-nil (λ v. Agrees (written_views m dataset s writes) dataset s v b));
      }

  pub box_back : (b : Box3) → Inside s b → ReadsBack (written_views m dataset s writes) dataset s writes b
  box_back b inside = record {
    faultless = none_in (written_views m dataset s writes) dataset s b none_faulted;
    values = cut_written (written_views m dataset s writes) dataset s writes b last_values inside;
    sound = (views_sound b inside).first_sound;
  }

-- no object outside the folder changes
outside_of : (m : Objects) (dataset : Name) (s : Scale) (vs : List Scale) (writes : Writes) (name : List ℕ) → All (λ v. v.key ≡ s.key) vs → is_under (folder_of dataset s) name ≡ false
    → fin.get (put_in m (stored_all dataset vs writes)) name ≡ fin.get m name
outside_of m dataset s [] writes name alike outside = refl
outside_of m dataset s (v ∷ vs) writes name alike outside =
    ap (λ list. fin.get (put_in m list) name) (flat_map-cons (λ v. stored_list dataset v (chunks_of v zeros writes)) v vs)
    ∙ ap (λ objects. fin.get objects name) (put_in-append m (stored_list dataset v (chunks_of v zeros writes)) (stored_all dataset vs writes))
    ∙ outside_of (put_in m (stored_list dataset v (chunks_of v zeros writes))) dataset s vs writes name (All-tail (λ v. v.key ≡ s.key) v vs alike) outside
    ∙ stored_outside m dataset v (chunks_of v zeros writes) name (ap (λ key. is_under (dataset ++ 47 ∷ key) name) (All-head (λ v. v.key ≡ s.key) v vs alike) ∙ outside)

keys_of : (s : Scale) → All (λ v. v.key ≡ s.key) (all_views s)
unfolding view
keys_of s = All-cons (λ v. v.key ≡ s.key) s (further s) refl (All-map (λ v. v.key ≡ s.key) (view s) (range_with_len 1 (length s.more)) (λ k d l. refl))

pub views_outside : (m : Objects) (dataset : Name) (s : Scale) (writes : Writes) (name : List ℕ) → is_under (folder_of dataset s) name ≡ false
    → fin.get (written_views m dataset s writes) name ≡ fin.get m name
views_outside m dataset s writes name outside = outside_of m dataset s (all_views s) writes name (keys_of s) outside
