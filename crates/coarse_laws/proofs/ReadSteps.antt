-- After a reduction each box of the target reads as the reduced source.
use Rattle.std.proofs.Common.{◌≡◌, ℕ, ℤ, ◌+◌, ◌*◌, ◌^◌, ◌<◌, ◌≤◌, List, length, false, None, Ok, ap, ◌∙◌, sym, arith, lit<}
use Rattle.std.specs.Prelude.{flat_map}
use Rattle.std.specs.List.{range_with_len}
use Rattle.std.proofs.lemmas.List.Elements.{All-weaker}
use Rattle.vol_base.specs.Boxes.{Covers, size, voxels}
use Rattle.vol_base.specs.Outside.{Objects, any_under}
use Rattle.vol_base.specs.declared.boxes.Box3.{Box3}
use Rattle.vol_spec.specs.BoxValues.{bytes_of, channel_of, position_of}
use Rattle.vol_spec.specs.CellNames.{folder_of}
use Rattle.vol_spec.specs.Chunks.{fault_in, value_in}
use Rattle.vol_spec.specs.Cut.{cut}
use Rattle.vol_spec.specs.Grid.{Inside, IsCell, cells_in, whole}
use Rattle.vol_spec.specs.StoredCells.{put_in, raw_bytes}
use Rattle.vol_spec.specs.StoredLists.{stored_list}
use Rattle.vol_spec.specs.Verdicts.{Sound, judge}
use Rattle.vol_spec.specs.Writable.{IsWritable}
use Rattle.vol_spec.specs.declared.scale.Scale.{Scale}
use Rattle.vol_spec.proofs.CutSteps.{flat_map-map, in_channels, none_faulty, position_covered}
use Rattle.chunk_grid.proofs.ListingSteps.{cells_in-IsCell}
use Rattle.chunk_laws.proofs.JudgeLaw.{stored_judged}
use Rattle.copy_laws.proofs.AgreeSteps.{same_cut}
use Rattle.copy_laws.proofs.CopyValues.{none_anywhere}
use Rattle.reduce_laws.specs.Reduced.{IsNext, reduced, reduced_cells, reduced_raw}
use Rattle.reduce_laws.specs.declared.method.Method.{Method}
use Rattle.coarse_laws.specs.Coarse.{HasReduced, ReadsAsReduced, reduced_in}
use Rattle.coarse_laws.proofs.CoarseLaw.{chunks_are, reduced_sound, reduced_storable, source_stays}

-- a box whose values are known is cut out as these
pub cut_valued : (m : Objects) (dataset : List ℕ) (s : Scale) (b : Box3) (values : List ℤ → ℕ → ℕ) → Inside s b
    → ((p : List ℤ) (c : ℕ) → Covers (whole s) p → c < s.channels → value_in m dataset s p c ≡ Ok (values p c)) → cut m dataset s b ≡ raw_bytes b s.channels s.width values
unfolding cut
cut_valued m dataset s b values inside known =
    let told : (i : ℕ) → i < voxels b * s.channels → value_in m dataset s (position_of b (0 + i)) (channel_of b (0 + i)) ≡ Ok (values (position_of b (0 + i)) (channel_of b (0 + i))) = λ i h.
    known (position_of b (0 + i)) (channel_of b (0 + i)) (inside.within (position_of b (0 + i)) (position_covered b (0 + i) inside.some))
    (in_channels (size b 0) (size b 1) (size b 2) s.channels (0 + i) (inside.some 0 (lit< tt)) (inside.some 1 (lit< tt)) (inside.some 2 (lit< tt)) (omega arith)) in
    ap (flat_map (bytes_of s.width)) (none_faulty (λ n. value_in m dataset s (position_of b n) (channel_of b n)) (λ n. values (position_of b n) (channel_of b n)) 0 (voxels b * s.channels) told)
    ∙ flat_map-map (bytes_of s.width) (λ n. values (position_of b n) (channel_of b n)) (range_with_len 0 (voxels b * s.channels))

module _ (method : Method) (m : Objects) (dataset : List ℕ) (from to : Scale) (next : IsNext from to) (few : length (reduced_cells m dataset from to) ≤ 2 ^ 22) (can : IsWritable to)
    (none : any_under m (folder_of dataset to) ≡ false) where
  -- nothing is wrong with a cell of the target
  reduced_judged : (cell : List ℕ) → IsCell to cell → judge (reduced_in method m dataset from to) dataset to cell ≡ None
  reduced_judged cell is =
      ap (λ cs. judge (put_in m (stored_list dataset to cs)) dataset to cell) (chunks_are method m dataset from to next)
      ∙ stored_judged dataset to (reduced_raw method m dataset from to) (reduced_cells m dataset from to) (reduced_storable method m dataset from to next dataset few can none) m none cell
      (ap (λ cs. fault_in (put_in m (stored_list dataset to cs)) dataset to cell) (sym (chunks_are method m dataset from to next)) ∙ reduced_sound method m dataset from to next dataset few can none cell is)

  reduced_whole : (b : Box3) → Sound (reduced_in method m dataset from to) dataset to b
  reduced_whole b = All-weaker (IsCell to) (λ cell. judge (reduced_in method m dataset from to) dataset to cell ≡ None) reduced_judged (cells_in to b) (cells_in-IsCell to b)

  pub reads_reduced : HasReduced method m dataset from to → (b : Box3) → Inside to b → ReadsAsReduced method m (reduced_in method m dataset from to) dataset from to b
  reads_reduced known b inside = record {
    faultless = none_anywhere (reduced_in method m dataset from to) dataset to b (λ cell is. reduced_sound method m dataset from to next dataset few can none cell is);
    values = cut_valued (reduced_in method m dataset from to) dataset to b (reduced method m dataset from) inside known;
    sound = reduced_whole b;
    source = λ part. same_cut dataset from (reduced_in method m dataset from to) m (source_stays method m dataset dataset from to none) part;
  }
