-- What is stored once for each view is found again in each of them.
use Rattle.std.proofs.Common.{◌≡◌, ◌≢◌, ℕ, ◌^◌, ◌<◌, ◌≤◌, ◌++◌, ◌==◌, Bool, true, false, if◌then◌else◌, List, [], ◌∷◌, length, get_or, Some, None, suc, zero, refl, ap, ◌∙◌, sym, subst, arith, lit<}
use Rattle.std.specs.Prelude.{All, Contains, Ok, ℤ}
use Rattle.std.specs.FinMap as fin
use Rattle.std.specs.List.{list_all, list_any}
use Rattle.std.proofs.lemmas.List.{append-nil}
use Rattle.std.proofs.lemmas.List.Concat.{flat_map-cons}
use Rattle.std.proofs.lemmas.List.Elements.{All-contains, All-contains_itself, All-head, All-map, All-tail, All-weaker, Contains-get_or}
use Rattle.vol_base.specs.Boxes.{Covers}
use Rattle.vol_base.specs.Outside.{Objects, any_under, is_under}
use Rattle.vol_base.specs.declared.boxes.Box3.{Box3}
use Rattle.vol_spec.proofs.PutSteps.{put_in-append, put_in-other}
use Rattle.vol_spec.proofs.RawSteps.{zeros_are}
use Rattle.vol_spec.specs.BoxValues.{first_some}
use Rattle.vol_spec.specs.CellNames.{cell_name, folder_of}
use Rattle.vol_spec.specs.Chunks.{chunk_in, fault_in, fault_of, judged, value_in, value_of}
use Rattle.vol_spec.specs.Encodings.{blocks_of, by_encoding, encoded}
use Rattle.vol_spec.specs.Grid.{Inside, IsCell, cell_at, cell_box, cells_in, meets_on, whole}
use Rattle.vol_spec.specs.LastWrite.{last, zeros}
use Rattle.vol_spec.specs.Places.{id_of}
use Rattle.vol_spec.specs.SegWritten.{seg_bytes}
use Rattle.vol_spec.specs.StoredBytes.{held, object_by, object_of, stored_bytes}
use Rattle.vol_spec.specs.StoredCells.{chunks_of, met, met_cells, object_list, put_in, raw_bytes, written_raw}
use Rattle.vol_spec.specs.StoredLists.{encoded_chunks, listed_by, stored_list}
use Rattle.vol_spec.specs.Verdicts.{damage, index_wrong, judge}
use Rattle.vol_spec.specs.Writable.{IsWritable}
use Rattle.vol_spec.specs.declared.encoding.Encoding.{Encoding}
use Rattle.vol_spec.specs.declared.scale.Scale.{Scale}
use Rattle.chunk_grid.proofs.GridSteps.{cell_at-IsCell}
use Rattle.chunk_grid.proofs.ListingSteps.{cells_in-IsCell}
use Rattle.chunk_grid.proofs.NameSteps.{cell_name-box, get-absent_cell}
use Rattle.chunk_grid.proofs.OrderSteps.{AreInOrder-met_cells}
use Rattle.chunk_grid.proofs.StoredSteps.{Contains-met_cells, cell_objects, met-listed}
use Rattle.chunk_laws.proofs.Law.{stored_outside}
use Rattle.chunk_laws.proofs.ShardLaw.{Contains-map}
use Rattle.chunk_laws.proofs.WrittenSteps.{chunks_are, written_sound, written_value}
use Rattle.chunk_laws.specs.Storable.{with_bytes}
use Rattle.chunk_laws.specs.Told.{HasLastWrites, HasNoFault}
use Rattle.size_laws.proofs.PutAgain.{All-flat_map, Contains-flat_map, Tells, put_in-told}
use Rattle.size_laws.specs.Sizes.{Agrees, AllSound, CanWriteViews, IsView, stored_all}

-- the bytes that the values of a box are stored as, and whether some write meets it: both hang on the box alone
abbrev pub box_bytes : Encoding → ℕ → ℕ → List (Box3 × List ℕ) → Box3 → List ℕ
box_bytes encoding channels width writes b =
    let raw = raw_bytes b channels width (last width zeros writes) in
    by_encoding encoding raw (seg_bytes (record { size = b.size; block = blocks_of encoding; channels = channels; wide = width == 8 }) raw)

abbrev box_met : List (Box3 × List ℕ) → Box3 → Bool
box_met writes b = list_any (λ (write : Box3 × List ℕ). list_all (meets_on b write.0) (0 ∷ 1 ∷ 2 ∷ [])) writes

as_boxes : (v : Scale) (writes : List (Box3 × List ℕ)) (cell : List ℕ) → encoded v cell (written_raw v zeros writes cell) ≡ box_bytes v.encoding v.channels v.width writes (cell_box v cell)
unfolding written_raw
as_boxes v writes cell = refl

met_as_boxes : (v : Scale) (writes : List (Box3 × List ℕ)) (cell : List ℕ) → met v writes cell ≡ box_met writes (cell_box v cell)
met_as_boxes v writes cell = refl

-- the objects of one unsharded scale
abbrev pub view_objects : List ℕ → Scale → List (Box3 × List ℕ) → List (List ℕ × List ℕ)
view_objects dataset v writes = cell_objects dataset v (λ cell. encoded v cell (written_raw v zeros writes cell)) (met_cells v writes)

own_objects : (dataset : List ℕ) (v : Scale) (raw : List ℕ → List ℕ) (cells : List (List ℕ)) → object_list dataset v (encoded_chunks v (with_bytes raw cells)) ≡ cell_objects dataset v (λ cell. encoded v cell (raw cell)) cells
own_objects dataset v raw [] = refl
own_objects dataset v raw (cell ∷ cells) = ap (λ os. (cell_name dataset v cell, encoded v cell (raw cell)) ∷ os) (own_objects dataset v raw cells)

pub list_of_view : (dataset : List ℕ) (v : Scale) (writes : List (Box3 × List ℕ)) → v.sharding ≡ None → stored_list dataset v (chunks_of v zeros writes) ≡ view_objects dataset v writes
unfolding stored_list
list_of_view dataset v writes is =
    ap (λ cs. stored_list dataset v cs) (chunks_are v zeros writes)
    ∙ ap (λ p. listed_by p dataset v (encoded_chunks v (with_bytes (written_raw v zeros writes) (met_cells v writes)))) is
    ∙ own_objects dataset v (written_raw v zeros writes) (met_cells v writes)

-- what objects say of a cell hangs on its object alone
chunk_from : (m now : Objects) (dataset : List ℕ) (v : Scale) (cell : List ℕ) → v.sharding ≡ None → fin.get now (cell_name dataset v cell) ≡ fin.get m (cell_name dataset v cell)
    → chunk_in now dataset v cell ≡ chunk_in m dataset v cell
unfolding chunk_in stored_bytes
chunk_from m now dataset v cell is same =
    let name : object_of dataset v cell ≡ cell_name dataset v cell = ap (λ p. object_by p dataset v cell) is in
    ap (λ o. judged v cell (held v cell o)) (ap (fin.get now) name ∙ same ∙ sym (ap (fin.get m) name))

module _ (m : Objects) (dataset : List ℕ) (s : Scale) (writes : List (Box3 × List ℕ)) (empty : any_under m (folder_of dataset s) ≡ false) where
  abbrev pub bytes_in : Box3 → List ℕ
  bytes_in b = box_bytes s.encoding s.channels s.width writes b

  bytes_of_view : (v : Scale) (cell : List ℕ) → IsView s v → encoded v cell (written_raw v zeros writes cell) ≡ bytes_in (cell_box v cell)
  bytes_of_view v cell h = as_boxes v writes cell ∙ (λ i. box_bytes (h.encodings i) (h.channel_counts i) (h.widths i) writes (cell_box v cell))

  empty_too : (v : Scale) → IsView s v → any_under m (folder_of dataset v) ≡ false
  empty_too v h = ap (λ key. any_under m (dataset ++ 47 ∷ key)) h.keys ∙ empty

  is_one : (v : Scale) (k : ℕ) (d : List ℕ) → k < length (met_cells v writes) → IsCell v (get_or (met_cells v writes) k d)
  is_one v k d l = (AreInOrder-met_cells v writes).each k d l

  -- an object of one view with the name of a cell of another has the bytes of that cell's box,
  one_bytes : (u v : Scale) (cell : List ℕ) → IsView s u → IsView s v → IsCell v cell → All (Tells (cell_name dataset v cell) (bytes_in (cell_box v cell))) (stored_list dataset u (chunks_of u zeros writes))
  one_bytes u v cell hu hv is =
      subst (All (Tells (cell_name dataset v cell) (bytes_in (cell_box v cell)))) (sym (list_of_view dataset u writes hu.unsharded))
      (All-map (Tells (cell_name dataset v cell) (bytes_in (cell_box v cell))) (λ cell. (cell_name dataset u cell, encoded u cell (written_raw u zeros writes cell))) (met_cells u writes)
      (λ k d l e.
      bytes_of_view u (get_or (met_cells u writes) k d) hu
      ∙ ap bytes_in (cell_name-box dataset u v (get_or (met_cells u writes) k d) cell (hu.keys ∙ sym hv.keys) (is_one u k d l) is e)))

  -- and there is none where no write meets it
  none_named : (u v : Scale) (cell : List ℕ) → IsView s u → IsView s v → IsCell v cell → met v writes cell ≡ false → All (λ o. o.0 ≢ cell_name dataset v cell) (stored_list dataset u (chunks_of u zeros writes))
  none_named u v cell hu hv is unmet =
      subst (All (λ o. o.0 ≢ cell_name dataset v cell)) (sym (list_of_view dataset u writes hu.unsharded))
      (All-map (λ o. o.0 ≢ cell_name dataset v cell) (λ cell. (cell_name dataset u cell, encoded u cell (written_raw u zeros writes cell))) (met_cells u writes)
      (λ k d l e.
      let there : met u writes (get_or (met_cells u writes) k d) ≡ true = met-listed u writes (get_or (met_cells u writes) k d) (Contains-get_or (met_cells u writes) k d l) in
      let same : met u writes (get_or (met_cells u writes) k d) ≡ met v writes cell = ap (box_met writes) (cell_name-box dataset u v (get_or (met_cells u writes) k d) cell (hu.keys ∙ sym hv.keys) (is_one u k d l) is e) in
      cc))

  module _ (views : List Scale) (alike : All (IsView s) views) where
    -- so each cell of each view has the bytes of its box where some write meets it, and else none
    pub get_of_view : (v : Scale) (cell : List ℕ) → Contains views v → IsCell v cell
        → fin.get (put_in m (stored_all dataset views writes)) (cell_name dataset v cell) ≡ (if met v writes cell then Some (bytes_in (cell_box v cell)) else None)
    get_of_view v cell there is = by (met v writes cell) refl
      where
        hv : IsView s v
        hv = All-contains (IsView s) views v alike there

        by : (b : Bool) → met v writes cell ≡ b → fin.get (put_in m (stored_all dataset views writes)) (cell_name dataset v cell) ≡ (if b then Some (bytes_in (cell_box v cell)) else None)
        by true e =
            put_in-told m (stored_all dataset views writes) (cell_name dataset v cell) (bytes_in (cell_box v cell))
            (All-flat_map (Tells (cell_name dataset v cell) (bytes_in (cell_box v cell))) (λ u. stored_list dataset u (chunks_of u zeros writes)) views
            (All-weaker (IsView s) (λ u. All (Tells (cell_name dataset v cell) (bytes_in (cell_box v cell))) (stored_list dataset u (chunks_of u zeros writes))) (λ u hu. one_bytes u v cell hu hv is) views alike))
            (Contains-flat_map (λ u. stored_list dataset u (chunks_of u zeros writes)) views v (cell_name dataset v cell, bytes_in (cell_box v cell)) there
            (subst (λ list. Contains list (cell_name dataset v cell, bytes_in (cell_box v cell))) (sym (list_of_view dataset v writes hv.unsharded))
            (subst (λ bytes. Contains (view_objects dataset v writes) (cell_name dataset v cell, bytes)) (bytes_of_view v cell hv)
            (Contains-map (λ cell. (cell_name dataset v cell, encoded v cell (written_raw v zeros writes cell))) (met_cells v writes) cell (Contains-met_cells v writes cell is e)))))
        by false e =
            put_in-other m (stored_all dataset views writes) (cell_name dataset v cell)
            (All-flat_map (λ o. o.0 ≢ cell_name dataset v cell) (λ u. stored_list dataset u (chunks_of u zeros writes)) views
            (All-weaker (IsView s) (λ u. All (λ o. o.0 ≢ cell_name dataset v cell) (stored_list dataset u (chunks_of u zeros writes))) (λ u hu. none_named u v cell hu hv is e) views alike))
            ∙ get-absent_cell m dataset v cell (empty_too v hv)

  -- as if it alone was stored
  one_alone : (v : Scale) → stored_all dataset (v ∷ []) writes ≡ stored_list dataset v (chunks_of v zeros writes)
  one_alone v = flat_map-cons (λ u. stored_list dataset u (chunks_of u zeros writes)) v [] ∙ append-nil (stored_list dataset v (chunks_of v zeros writes))

  only : (v : Scale) → IsView s v → All (IsView s) (v ∷ [])
  only v h k d l = one k l
    where
      one : (k : ℕ) → k < 1 → IsView s (get_or (v ∷ []) k d)
      one zero l = h
      one (suc k) l = absurd (omega arith)

-- each view says of its cells what it would say if it alone was stored,
module _ (m : Objects) (dataset : List ℕ) (s : Scale) (views : List Scale) (writes : List (Box3 × List ℕ)) (h : CanWriteViews m dataset s views writes) (v : Scale) (there : Contains views v) where
  hv : IsView s v
  hv = All-contains (IsView s) views v h.alike there

  few : length (met_cells v writes) ≤ 2 ^ 22
  few = All-contains (λ v. length (met_cells v writes) ≤ 2 ^ 22) views v h.few there

  can : IsWritable v
  can = All-contains IsWritable views v h.writable there

  none : any_under m (folder_of dataset v) ≡ false
  none = empty_too m dataset s writes h.empty v hv

  pub as_alone : (cell : List ℕ) → IsCell v cell → chunk_in (put_in m (stored_all dataset views writes)) dataset v cell ≡ chunk_in (put_in m (stored_list dataset v (chunks_of v zeros writes))) dataset v cell
  as_alone cell is =
      chunk_from (put_in m (stored_list dataset v (chunks_of v zeros writes))) (put_in m (stored_all dataset views writes)) dataset v cell hv.unsharded
      (get_of_view m dataset s writes h.empty views h.alike v cell there is
      ∙ sym (get_of_view m dataset s writes h.empty (v ∷ []) (only m dataset s writes h.empty v hv) v cell (0, lit< tt, refl) is)
      ∙ ap (λ list. fin.get (put_in m list) (cell_name dataset v cell)) (one_alone m dataset s writes h.empty v))

  -- so none of them has a fault,
  pub all_faultless : HasNoFault (put_in m (stored_all dataset views writes)) dataset v
  all_faultless cell is = ap fault_of (as_alone cell is) ∙ written_sound v zeros writes few can m dataset cell none is

  -- and each value is that of the last write, else 0
  pub own_values : HasLastWrites (put_in m (stored_all dataset views writes)) dataset v writes
  own_values p c inside l =
      ap (λ chunk. value_of v (cell_at v p) chunk p c) (as_alone (cell_at v p) (cell_at-IsCell v p inside))
      ∙ written_value v zeros writes few can m dataset p c (zeros_are v.width) h.bytes none inside l (λ e. refl)

  all_values : (p : List ℤ) (c : ℕ) → Covers (whole s) p → c < s.channels → value_in (put_in m (stored_all dataset views writes)) dataset v p c ≡ Ok (last s.width zeros writes p c)
  all_values p c inside l =
      own_values p c (subst (λ (b : Box3). Covers b p) (λ i. record { begin = sym hv.offsets i; size = sym hv.sizes i }) inside) (subst (λ n. c < n) (sym hv.channel_counts) l)
      ∙ ap (λ w. Ok (last w zeros writes p c)) hv.widths

  -- nothing is wrong with a cell
  pub all_judged : (cell : List ℕ) → IsCell v cell → judge (put_in m (stored_all dataset views writes)) dataset v cell ≡ None
  unfolding judge
  all_judged cell is =
      ap (λ p. first_some (index_wrong p (id_of v cell) (fin.get (put_in m (stored_all dataset views writes)) (object_of dataset v cell)) ∷ damage (fault_in (put_in m (stored_all dataset views writes)) dataset v cell) ∷ [])) hv.unsharded
      ∙ ap (λ f. first_some (None ∷ damage f ∷ [])) (all_faultless cell is)

-- so all views are sound together
pub written_all_sound : (m : Objects) (dataset : List ℕ) (s first : Scale) (further : List Scale) (writes : List (Box3 × List ℕ)) (b : Box3) → CanWriteViews m dataset s (first ∷ further) writes → Inside s b
    → AllSound (put_in m (stored_all dataset (first ∷ further) writes)) dataset first further b
written_all_sound m dataset s first further writes b h inside = record {
  first_sound =
      All-weaker (IsCell first) (λ cell. judge (put_in m (stored_all dataset (first ∷ further) writes)) dataset first cell ≡ None)
      (λ cell is. all_judged m dataset s (first ∷ further) writes h first (0, omega arith, refl) cell is) (cells_in first b) (cells_in-IsCell first b);
  others =
      All-weaker (Contains further) (λ v. Agrees (put_in m (stored_all dataset (first ∷ further) writes)) dataset first v b)
      (λ v (k, l, e).
      let there : Contains (first ∷ further) v = (suc k, omega arith, e) in
      record {
        faultless = All-weaker (IsCell v) (λ cell. fault_in (put_in m (stored_all dataset (first ∷ further) writes)) dataset v cell ≡ None) (λ cell is. all_faultless m dataset s (first ∷ further) writes h v there cell is) (cells_in v b) (cells_in-IsCell v b);
        values = λ p c covered l.
            let channels : c < s.channels = subst (λ n. c < n) (All-head (IsView s) first further h.alike).channel_counts l in
            all_values m dataset s (first ∷ further) writes h v there p c (inside.within p covered) channels
            ∙ sym (all_values m dataset s (first ∷ further) writes h first (0, omega arith, refl) p c (inside.within p covered) channels);
      })
      further (All-contains_itself further);
}

-- no object outside the folder changes
pub all_outside : (m : Objects) (dataset : List ℕ) (s : Scale) (views : List Scale) (writes : List (Box3 × List ℕ)) (name : List ℕ) → All (IsView s) views → is_under (folder_of dataset s) name ≡ false
    → fin.get (put_in m (stored_all dataset views writes)) name ≡ fin.get m name
all_outside m dataset s [] writes name alike outside = refl
all_outside m dataset s (v ∷ views) writes name alike outside =
    ap (λ list. fin.get (put_in m list) name) (flat_map-cons (λ v. stored_list dataset v (chunks_of v zeros writes)) v views)
    ∙ ap (λ objects. fin.get objects name) (put_in-append m (stored_list dataset v (chunks_of v zeros writes)) (stored_all dataset views writes))
    ∙ all_outside (put_in m (stored_list dataset v (chunks_of v zeros writes))) dataset s views writes name (All-tail (IsView s) v views alike) outside
    ∙ stored_outside m dataset v (chunks_of v zeros writes) name (ap (λ key. is_under (dataset ++ 47 ∷ key) name) (All-head (IsView s) v views alike).keys ∙ outside)
