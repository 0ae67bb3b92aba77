-- After a copy each box of the target reads as the source.
use Rattle.std.proofs.Common.{◌≡◌, ℕ, zero, suc, ◌+◌, ◌*◌, ◌^◌, ◌<◌, ◌≤◌, List, ◌∷◌, length, map, false, None, Result, refl, ap, ◌∙◌, sym, subst, arith, lit<}
use Rattle.std.specs.Prelude.{ℤ, flat_map}
use Rattle.std.specs.List.{range_with_len}
use Rattle.std.proofs.lemmas.List.{length-map}
use Rattle.std.proofs.lemmas.List.Elements.{All-weaker}
use Rattle.vol_base.specs.Boxes.{Covers, size, voxels}
use Rattle.vol_base.specs.Outside.{Objects, any_under}
use Rattle.vol_base.specs.declared.boxes.Box3.{Box3}
use Rattle.vol_base.specs.declared.faults.Fault.{Fault}
use Rattle.vol_spec.specs.BoxValues.{before_fault, bytes_of, channel_of, position_of}
use Rattle.vol_spec.specs.CellNames.{folder_of}
use Rattle.vol_spec.specs.Chunks.{fault_in, value_in}
use Rattle.vol_spec.specs.Copies.{AreOfOneVolume, copied_cells, copied_raw, copy}
use Rattle.vol_spec.specs.Cut.{cut}
use Rattle.vol_spec.specs.Grid.{Inside, IsCell, cells_in, whole}
use Rattle.vol_spec.specs.StoredCells.{put_in}
use Rattle.vol_spec.specs.StoredLists.{stored_list}
use Rattle.vol_spec.specs.Verdicts.{Sound, judge}
use Rattle.vol_spec.specs.Writable.{IsWritable}
use Rattle.vol_spec.specs.declared.scale.Scale.{Scale}
use Rattle.vol_spec.proofs.CutSteps.{in_channels, position_covered}
use Rattle.chunk_grid.proofs.ListingSteps.{cells_in-IsCell}
use Rattle.chunk_laws.proofs.JudgeLaw.{stored_judged}
use Rattle.chunk_laws.specs.Told.{HasNoFault}
use Rattle.copy_laws.proofs.AgreeSteps.{same_cut}
use Rattle.copy_laws.proofs.CopyLaw.{copy_is, copy_storable}
use Rattle.copy_laws.proofs.CopySteps.{are_apart}
use Rattle.copy_laws.proofs.CopyValues.{none_anywhere}
use Rattle.copy_laws.proofs.FolderSteps.{stored_apart}
use Rattle.copy_laws.specs.Agreement.{Agree}
use Rattle.copy_laws.specs.Copied.{KeepsValues, ReadsAsSource, copied_in}

-- two functions that agree on a range
map-alike : {X : Type 0} (f g : ℕ → X) (a n : ℕ) → ((i : ℕ) → i < n → f (a + i) ≡ g (a + i)) → map f (range_with_len a n) ≡ map g (range_with_len a n)
map-alike f g a zero same = refl
map-alike f g a (suc n) same =
    let at_a : a + 0 ≡ a = omega arith in
    let first : f a ≡ g a = ap f (sym at_a) ∙ same 0 (omega arith) ∙ ap g at_a in
    let rest = map-alike f g (a + 1) n (λ i h.
    let m : a + (i + 1) ≡ (a + 1) + i = omega arith in
    ap f (sym m) ∙ same (i + 1) (omega arith) ∙ ap g m) in
    rw first (ap (λ xs. g a ∷ xs) rest)

-- where each value of a scale is that of another of the same volume, so is each cutout
cut-alike : (m now : Objects) (dataset other : List ℕ) (from to : Scale) (b : Box3) → AreOfOneVolume from to → Inside to b
    → ((p : List ℤ) (c : ℕ) → Covers (whole to) p → c < to.channels → value_in now other to p c ≡ value_in m dataset from p c) → cut now other to b ≡ cut m dataset from b
unfolding cut
cut-alike m now dataset other from to b volume inside same =
    let source : ℕ → Result ℕ Fault = λ n. value_in m dataset from (position_of b n) (channel_of b n) in
    let target : ℕ → Result ℕ Fault = λ n. value_in now other to (position_of b n) (channel_of b n) in
    let told : (i : ℕ) → i < voxels b * to.channels → target (0 + i) ≡ source (0 + i) = λ i h.
    same (position_of b (0 + i)) (channel_of b (0 + i)) (inside.within (position_of b (0 + i)) (position_covered b (0 + i) inside.some))
    (in_channels (size b 0) (size b 1) (size b 2) to.channels (0 + i) (inside.some 0 (lit< tt)) (inside.some 1 (lit< tt)) (inside.some 2 (lit< tt)) (omega arith)) in
    ap (λ values. flat_map (bytes_of to.width) (before_fault values)) (map-alike target source 0 (voxels b * to.channels) told)
    ∙ ap (λ channels. flat_map (bytes_of to.width) (before_fault (map source (range_with_len 0 (voxels b * channels))))) (sym volume.channel_counts)
    ∙ ap (λ width. flat_map (bytes_of width) (before_fault (map source (range_with_len 0 (voxels b * from.channels))))) (sym volume.widths)

module _ (m : Objects) (dataset other : List ℕ) (from to : Scale) (volume : AreOfOneVolume from to) (few : length (copied_cells m dataset from to) ≤ 2 ^ 22)
    (can : IsWritable to) (none : any_under m (folder_of other to) ≡ false) (target : HasNoFault (copied_in m dataset from other to) other to) where
  -- nothing is wrong with a cell of a copy that has no fault
  copied_judged : (cell : List ℕ) → IsCell to cell → judge (copied_in m dataset from other to) other to cell ≡ None
  copied_judged cell is =
      ap (λ cs. judge (put_in m (stored_list other to cs)) other to cell) (copy_is m dataset from to)
      ∙ stored_judged other to (copied_raw m dataset from to) (copied_cells m dataset from to) (copy_storable m dataset other from to volume few can none) m none cell
      (ap (λ cs. fault_in (put_in m (stored_list other to cs)) other to cell) (sym (copy_is m dataset from to)) ∙ target cell is)

  copied_whole : (b : Box3) → Sound (copied_in m dataset from other to) other to b
  copied_whole b = All-weaker (IsCell to) (λ cell. judge (copied_in m dataset from other to) other to cell ≡ None) copied_judged (cells_in to b) (cells_in-IsCell to b)

  -- no object that is put is one of the source's
  source_stays : Agree dataset from (copied_in m dataset from other to) m
  source_stays cell =
      let count : length (copy m dataset from to) ≡ length (copied_cells m dataset from to) = ap length (copy_is m dataset from to) ∙ length-map (copied_cells m dataset from to) (λ cell. (cell, copied_raw m dataset from to cell)) in
      stored_apart m dataset other from to (copy m dataset from to) cell (λ some. are_apart m dataset other from to none (subst (λ n. 0 < n) count some))

  -- each box reads as the source
  pub reads_as_source : (b : Box3) → KeepsValues m dataset from other to → Inside to b → ReadsAsSource m (copied_in m dataset from other to) dataset from other to b
  reads_as_source b kept inside = record {
    faultless = none_anywhere (copied_in m dataset from other to) other to b target;
    values = cut-alike m (copied_in m dataset from other to) dataset other from to b volume inside kept;
    sound = copied_whole b;
    source = same_cut dataset from (copied_in m dataset from other to) m source_stays b;
  }
