-- Which cells are copied, with which bytes, and where there is a fault.
use Rattle.std.proofs.Common.{◌≡◌, ℕ, ◌+◌, ◌*◌, ◌<◌, List, [], ◌∷◌, true, false, ◌||◌, length, get_or, map, Option, Some, None, refl, ap, ◌∙◌, sym, subst}
use Rattle.std.specs.Prelude.{All, Contains, Result, Ok, Err, ℤ, filter, flat_map}
use Rattle.std.specs.List.{list_any, range_with_len}
use Rattle.std.specs.Option.{option_map}
use Rattle.std.proofs.lemmas.List.Elements.{All-nil, All-cons, All-contains, All-head, All-tail, All-weaker}
use Rattle.std.proofs.lemmas.List.Folds.{list_any_at}
use Rattle.vol_base.specs.declared.boxes.Box3.{Box3}
use Rattle.vol_base.specs.declared.faults.Fault.{Fault}
use Rattle.vol_base.specs.Boxes.{Covers, num, voxels}
use Rattle.vol_base.specs.Outside.{Objects}
use Rattle.vol_spec.specs.BoxValues.{bytes_of, channel_of, first_some, position_of}
use Rattle.vol_spec.specs.Chunks.{chunk_in, fault_in, fault_of, judged, unless, value_in, value_of}
use Rattle.vol_spec.specs.Encodings.{chunk_fault}
use Rattle.vol_base.specs.declared.faults.ChunkFault.{ChunkFault}
use Rattle.vol_spec.specs.Cut.{cut, faulty, first_fault}
use Rattle.vol_spec.specs.Grid.{Inside, IsCell, cell_at, cell_box, cells_in, cells_on, meets, numbers_on, whole}
use Rattle.vol_base.specs.Bytes.{AreBytes}
use Rattle.vol_spec.specs.Raw.{digit, raw_len}
use Rattle.vol_spec.specs.StoredBytes.{stored_bytes}
use Rattle.vol_spec.specs.StoredCells.{AreInOrder, met, met_cells, raw_bytes}
use Rattle.vol_spec.specs.declared.scale.Scale.{Scale}
use Rattle.vol_spec.proofs.CutSteps.{flat_map-map, none_faulty, position_covered}
use Rattle.vol_spec.proofs.RawSteps.{is_raw_bytes, length-raw_bytes}
use Rattle.chunk_grid.proofs.GridSteps.{Covers-begin, cell_at-Covers, cell_at-IsCell, cell_at-only, cell_box-Inside, cell_box-IsSome, cell_box-Within}
use Rattle.chunk_grid.proofs.ListingSteps.{Contains-filter, Contains-numbers_on, cells_in-IsCell, cells_in-covered, cells_in-Contains, meets-true}
use Rattle.chunk_grid.proofs.OrderSteps.{AreInOrder-filter, AreInOrder-numbers_on}
use Rattle.vol_spec.specs.Copies.{AreOfOneVolume, cells_there, copied_cells, copied_raw, is_copied, is_there, or_zero}

-- a cell is there exactly where bytes are held for it, or a fault
there_unless : (fault : Option ChunkFault) (bytes : List ℕ) → is_there (unless fault bytes) ≡ true
there_unless None bytes = refl
there_unless (Some fault) bytes = refl

there_judged : (s : Scale) (cell : List ℕ) (seen : Result (Option (List ℕ)) Fault) → is_there (judged s cell seen) ≡ is_there seen
there_judged s cell (Ok None) = refl
there_judged s cell (Ok (Some bytes)) = there_unless (chunk_fault s cell bytes) bytes
there_judged s cell (Err fault) = refl

pub there_held : (m : Objects) (dataset : List ℕ) (s : Scale) (cell : List ℕ) → is_there (chunk_in m dataset s cell) ≡ is_there (stored_bytes m dataset s cell)
unfolding chunk_in
there_held m dataset s cell = there_judged s cell (stored_bytes m dataset s cell)

there_faulty : (seen : Result (Option (List ℕ)) Fault) (fault : Fault) → fault_of seen ≡ Some fault → is_there seen ≡ true
there_faulty (Ok chunk) fault e = absurd (cc e)
there_faulty (Err found) fault e = refl

absent_value : (s : Scale) (cell : List ℕ) (seen : Result (Option (List ℕ)) Fault) (p : List ℤ) (c : ℕ) → is_there seen ≡ false → value_of s cell seen p c ≡ Ok 0
absent_value s cell (Ok None) p c e = refl
absent_value s cell (Ok (Some bytes)) p c e = absurd (cc e)
absent_value s cell (Err fault) p c e = absurd (cc e)

-- where a cell isn't there, its values are 0
pub value_absent : (m : Objects) (dataset : List ℕ) (s : Scale) (p : List ℤ) (c : ℕ) → is_there (chunk_in m dataset s (cell_at s p)) ≡ false → value_in m dataset s p c ≡ Ok 0
value_absent m dataset s p c e = absent_value s (cell_at s p) (chunk_in m dataset s (cell_at s p)) p c e

sound_by : (s : Scale) (cell : List ℕ) (seen : Result (Option (List ℕ)) Fault) (p : List ℤ) (c : ℕ) → fault_of seen ≡ None → value_of s cell seen p c ≡ Ok (or_zero (value_of s cell seen p c))
sound_by s cell (Ok None) p c e = refl
sound_by s cell (Ok (Some bytes)) p c e = refl
sound_by s cell (Err fault) p c e = absurd (cc e)

-- where a cell has no fault, its values are none
pub value_sound : (m : Objects) (dataset : List ℕ) (s : Scale) (p : List ℤ) (c : ℕ) → fault_in m dataset s (cell_at s p) ≡ None → value_in m dataset s p c ≡ Ok (or_zero (value_in m dataset s p c))
value_sound m dataset s p c e = sound_by s (cell_at s p) (chunk_in m dataset s (cell_at s p)) p c e

-- the first fault of a list
heads : {Y : Type 0} (o : Option Y) (rest : List (Option Y)) → first_some (o ∷ rest) ≡ None → (o ≡ None) × (first_some rest ≡ None)
heads None rest e = (refl, e)
heads (Some y) rest e = absurd (cc e)

none_each : {X Y : Type 0} (f : X → Option Y) (xs : List X) → first_some (map f xs) ≡ None → All (λ x. f x ≡ None) xs
none_each f [] e = All-nil (λ x. f x ≡ None)
none_each f (x ∷ xs) e = let parts = heads (f x) (map f xs) e in All-cons (λ x. f x ≡ None) x xs parts.0 (none_each f xs parts.1)

none_first : {X Y : Type 0} (f : X → Option Y) (xs : List X) → All (λ x. f x ≡ None) xs → first_some (map f xs) ≡ None
none_first f [] h = refl
none_first f (x ∷ xs) h = ap (λ o. first_some (o ∷ map f xs)) (All-head (λ x. f x ≡ None) x xs h) ∙ none_first f xs (All-tail (λ x. f x ≡ None) x xs h)

not_told : (cell : List ℕ) (o : Option Fault) → option_map (λ (fault : Fault). (let x : List ℕ × Fault = (cell, fault) in x)) o ≡ None → o ≡ None
not_told cell None e = refl
not_told cell (Some fault) e = absurd (cc e)

-- where a box has no first fault, no cell that meets it has one
pub none_in : (m : Objects) (dataset : List ℕ) (s : Scale) (b : Box3) (cell : List ℕ) → first_fault m dataset s b ≡ None → Contains (cells_in s b) cell → fault_in m dataset s cell ≡ None
unfolding first_fault
none_in m dataset s b cell e listed =
    not_told cell (fault_in m dataset s cell) (All-contains (λ cell. faulty m dataset s cell ≡ None) (cells_in s b) cell (none_each (faulty m dataset s) (cells_in s b) e) listed)

-- and where no cell of the scale has one, no box has
pub none_anywhere : (m : Objects) (dataset : List ℕ) (s : Scale) (b : Box3) → ((cell : List ℕ) → IsCell s cell → fault_in m dataset s cell ≡ None) → first_fault m dataset s b ≡ None
unfolding first_fault
none_anywhere m dataset s b sound =
    none_first (faulty m dataset s) (cells_in s b)
    (All-weaker (IsCell s) (λ cell. faulty m dataset s cell ≡ None)
    (λ cell is. ap (option_map (λ (fault : Fault). (let x : List ℕ × Fault = (cell, fault) in x))) (sound cell is)) (cells_in s b) (cells_in-IsCell s b))

module _ (from to : Scale) (same : AreOfOneVolume from to) where
  pub whole_same : whole from ≡ whole to
  whole_same = λ i. record { begin = same.offsets i; size = same.sizes i }

  inside_same : (b : Box3) → Inside to b → Inside from b
  inside_same b h = record { some = h.some; within = λ p c. subst (λ w. Covers w p) (sym whole_same) (h.within p c) }

  -- a job's box lies in the source
  pub job_inside : (cell : List ℕ) (b : Box3) → IsCell to cell → b ≡ cell_box to cell → Inside from b
  job_inside cell b is e = subst (Inside from) (sym e) (inside_same (cell_box to cell) (cell_box-Inside to cell is))

  module _ (m : Objects) (dataset : List ℕ) where
    -- a job without a fault is cut from the source
    pub cut_is_copied : (cell : List ℕ) → IsCell to cell → first_fault m dataset from (cell_box to cell) ≡ None → cut m dataset from (cell_box to cell) ≡ copied_raw m dataset from to cell
    unfolding cut copied_raw
    cut_is_copied cell is none =
        let b : Box3 = cell_box to cell in
        let inside : Inside from b = inside_same b (cell_box-Inside to cell is) in
        let told : (i : ℕ) → i < voxels b * from.channels → value_in m dataset from (position_of b (0 + i)) (channel_of b (0 + i)) ≡ Ok (or_zero (value_in m dataset from (position_of b (0 + i)) (channel_of b (0 + i)))) = λ i h.
        value_sound m dataset from (position_of b (0 + i)) (channel_of b (0 + i))
        (none_in m dataset from b (cell_at from (position_of b (0 + i))) none (cells_in-covered from b (position_of b (0 + i)) inside (position_covered b (0 + i) inside.some))) in
        ap (flat_map (bytes_of from.width))
        (none_faulty (λ n. value_in m dataset from (position_of b n) (channel_of b n)) (λ n. or_zero (value_in m dataset from (position_of b n) (channel_of b n))) 0 (voxels b * from.channels) told)
        ∙ flat_map-map (bytes_of from.width) (λ n. or_zero (value_in m dataset from (position_of b n) (channel_of b n))) (range_with_len 0 (voxels b * from.channels))
        ∙ (λ i. raw_bytes b (same.channel_counts i) (same.widths i) (λ p c. or_zero (value_in m dataset from p c)))

    -- the cell of a position whose source cell is there is copied
    pub position_copied : (p : List ℤ) → Covers (whole to) p → is_there (chunk_in m dataset from (cell_at from p)) ≡ true → is_copied m dataset from to (cell_at to p) ≡ true
    position_copied p inside there =
        let source : Covers (whole from) p = subst (λ w. Covers w p) (sym whole_same) inside in
        let (k, l, e) = Contains-filter (λ cell. is_there (chunk_in m dataset from cell)) (numbers_on (cells_on from)) (cell_at from p) (Contains-numbers_on from (cell_at from p) (cell_at-IsCell from p source)) there in
        let meets_it : meets to (cell_box from (cell_at from p)) (cell_at to p) ≡ true =
        meets-true to (cell_box from (cell_at from p)) (cell_at to p) (p, cell_at-Covers to p inside, cell_at-Covers from p source) in
        list_any_at (λ cell. meets to (cell_box from cell) (cell_at to p)) (cells_there m dataset from) k (cell_at from p) l (ap (λ cell. meets to (cell_box from cell) (cell_at to p)) e ∙ meets_it)

    pub Contains-copied : (cell : List ℕ) → IsCell to cell → is_copied m dataset from to cell ≡ true → Contains (copied_cells m dataset from to) cell
    unfolding copied_cells
    Contains-copied cell is e = Contains-filter (is_copied m dataset from to) (numbers_on (cells_on to)) cell (Contains-numbers_on to cell is) e

    -- where no job has a fault, no cell of the source has one
    pub fault_found : All (λ cell. first_fault m dataset from (cell_box to cell) ≡ None) (copied_cells m dataset from to) → (cell : List ℕ) → IsCell from cell → fault_in m dataset from cell ≡ None
    fault_found none cell is = by (fault_in m dataset from cell) refl
      where
        p : List ℤ
        p = (cell_box from cell).begin

        covered : Covers (cell_box from cell) p
        covered = Covers-begin (cell_box from cell) (cell_box-IsSome from cell is)

        inside : Covers (whole to) p
        inside = subst (λ w. Covers w p) whole_same (cell_box-Within from cell p covered)

        here : cell ≡ cell_at from p
        here = cell_at-only from p cell is.axes covered

        by : (o : Option Fault) → fault_in m dataset from cell ≡ o → fault_in m dataset from cell ≡ None
        by None e = e
        by (Some fault) e =
            let there : is_there (chunk_in m dataset from (cell_at from p)) ≡ true = ap (λ c. is_there (chunk_in m dataset from c)) (sym here) ∙ there_faulty (chunk_in m dataset from cell) fault e in
            let job : Contains (copied_cells m dataset from to) (cell_at to p) = Contains-copied (cell_at to p) (cell_at-IsCell to p inside) (position_copied p inside there) in
            let first : first_fault m dataset from (cell_box to (cell_at to p)) ≡ None = All-contains (λ cell. first_fault m dataset from (cell_box to cell) ≡ None) (copied_cells m dataset from to) (cell_at to p) none job in
            none_in m dataset from (cell_box to (cell_at to p)) cell first (cells_in-Contains from (cell_box to (cell_at to p)) cell is (p, covered, cell_at-Covers to p inside))

-- and where none has one, no job has
pub jobs_sound : (m : Objects) (dataset : List ℕ) (from to : Scale) → ((cell : List ℕ) → IsCell from cell → fault_in m dataset from cell ≡ None)
    → All (λ cell. first_fault m dataset from (cell_box to cell) ≡ None) (copied_cells m dataset from to)
jobs_sound m dataset from to sound = λ i d l. none_anywhere m dataset from (cell_box to (get_or (copied_cells m dataset from to) i d)) sound

-- what is copied is in the order of the grid, and its bytes are as many as the values of its cells
pub AreInOrder-copied_cells : (m : Objects) (dataset : List ℕ) (from to : Scale) → AreInOrder to (copied_cells m dataset from to)
unfolding copied_cells
AreInOrder-copied_cells m dataset from to = AreInOrder-filter to (is_copied m dataset from to) (numbers_on (cells_on to)) (AreInOrder-numbers_on to)

pub length-copied_raw : (m : Objects) (dataset : List ℕ) (from to : Scale) (cell : List ℕ) → length (copied_raw m dataset from to cell) ≡ raw_len (cell_box to cell) to.channels to.width
unfolding copied_raw
length-copied_raw m dataset from to cell = length-raw_bytes (cell_box to cell) to.channels to.width (λ p c. or_zero (value_in m dataset from p c))

-- bytes that a reader leaves, with the value of each voxel of a job's box, are these
pub read_is_copied : (m : Objects) (dataset : List ℕ) (from to : Scale) (cell out : List ℕ) → AreOfOneVolume from to → IsCell to cell → AreBytes out → length out ≡ raw_len (cell_box to cell) to.channels to.width
    → ((p : List ℤ) (c : ℕ) → Covers (cell_box to cell) p → c < from.channels → value_in m dataset from p c ≡ Ok (digit out from.width (num (cell_box to cell) p c)))
    → out ≡ copied_raw m dataset from to cell
unfolding copied_raw
read_is_copied m dataset from to cell out same is bytes len values =
    is_raw_bytes (cell_box to cell) to.channels to.width (λ p c. or_zero (value_in m dataset from p c)) out (cell_box-IsSome to cell is) len bytes
    (λ p c covered h.
    let first : value_in m dataset from p c ≡ Ok (digit out from.width (num (cell_box to cell) p c)) = values p c covered (subst (λ n. c < n) (sym same.channel_counts) h) in
    ap (λ w. digit out w (num (cell_box to cell) p c)) (sym same.widths) ∙ sym (ap or_zero first))

-- the cells that are copied are those that the boxes of the source's cells meet, as those of writes
boxes_any : (to : Scale) (cell : List ℕ) (box : List ℕ → Box3) (xs : List (List ℕ)) → list_any (λ source. meets to (box source) cell) xs ≡ met to (map (λ source. (box source, [])) xs) cell
boxes_any to cell box [] = refl
boxes_any to cell box (x ∷ xs) = ap (λ b. meets to (box x) cell || b) (boxes_any to cell box xs)

pub copied_are_met : (m : Objects) (dataset : List ℕ) (from to : Scale) → copied_cells m dataset from to ≡ met_cells to (map (λ source. (cell_box from source, [])) (cells_there m dataset from))
unfolding copied_cells met_cells
copied_are_met m dataset from to = ap (λ f. filter f (numbers_on (cells_on to))) (λ i cell. boxes_any to cell (cell_box from) (cells_there m dataset from) i)
