-- A cell of a view, as far as it lies in a part.
use Rattle.std.proofs.Common.{◌≡◌, ℕ, ◌+◌, ◌*◌, ◌^◌, ◌≤◌, ◌<◌, pos, ◌+ℤ◌, ◌≤ℤ◌, IfSome, lit<, Bool, true, List, [], ◌∷◌, map, take, Option, Some, None, Result, Ok, Err, refl, ap, ◌∙◌, sym, subst, arith}
use Rattle.std.specs.Prelude.{Contains, ⊤, ℤ}
use Rattle.std.specs.FinMap as fin
use Rattle.std.specs.Option.{is_some, option_map}
use Rattle.std.proofs.lemmas.Int.{ints}
use Rattle.std.proofs.lemmas.List.Elements.{All-contains}
use Rattle.std.proofs.lemmas.Nat.{mul-le}
use Rattle.vol_base.specs.declared.boxes.Box3.{Box3}
use Rattle.vol_base.specs.declared.faults.ChunkFault.{ChunkFault}
use Rattle.vol_base.specs.declared.faults.Fault.{Fault}
use Rattle.vol_base.specs.Boxes.{Covers, Within, size}
use Rattle.vol_base.specs.Causes.{HasCauseOf, Rose}
use Rattle.vol_base.specs.Outside.{Objects}
use Rattle.vol_spec.specs.BoxValues.{first_some}
use Rattle.vol_spec.specs.CellNames.{cell_name}
use Rattle.vol_spec.specs.Chunks.{chunk_in, fault_in, fault_of, judged, unless}
use Rattle.vol_spec.specs.Cut.{first_fault}
use Rattle.vol_spec.specs.Encodings.{cell_limit, chunk_fault}
use Rattle.vol_spec.specs.Grid.{Inside, IsCell, Meets, cell_box, cells_in}
use Rattle.vol_spec.specs.Limits.{first_bytes}
use Rattle.vol_spec.specs.Places.{id_of}
use Rattle.vol_spec.specs.Raw.{raw_len}
use Rattle.vol_spec.proofs.Told.{from_told, in_told}
use Rattle.vol_spec.specs.StoredBytes.{held, held_by, object_by, object_of, stored_bytes}
use Rattle.vol_spec.specs.Types.{Bytes, Cell, Name}
use Rattle.vol_spec.specs.Verdicts.{Sound, damage, index_wrong, judge}
use Rattle.vol_spec.specs.declared.scale.Scale.{Scale}
use Rattle.voxel_raw.proofs.Parts.{lies_in}
use Rattle.chunk_grid.proofs.GridSteps.{cell_at-only, cell_box-short}
use Rattle.chunk_grid.proofs.ListingSteps.{Contains-cons, cells_in-Contains, cells_in-IsCell, cells_in-Meets}
use Rattle.cutout.specs.Opened.{Opened}
use Rattle.copy_laws.proofs.CopyValues.{none_in}
use Rattle.size_laws.specs.Findings.{Finding, common, difference_in, finding_in}
use Rattle.size_laws.specs.Findings.Finding.{Damaged}
use Rattle.view_judge.specs.Answers.{HasStored, JudgesBox, JudgesCell}
use Rattle.view_judge.specs.Further.{IsBeside, IsHeld}
use Rattle.view_judge.specs.Judging.{pair_cost}
use Rattle.view_judge.specs.declared.fault.ViewFault.{ViewFault}
use Rattle.view_judge.specs.declared.fault.ViewFault.TheVariants as fault
use Rattle.view_judge.proofs.SharedSteps.{common_covers, common_left, common_right, common_some}
use Rattle.view_judge.proofs.SumSteps.{first_two}

-- a first fault is one of its cell, which is listed
pub record IsOf (f : Cell → Option Fault) (cells : List Cell) (cell : Cell) (found : Fault) : Type 0 where
  pub listed : Contains cells cell
  pub faulty : f cell ≡ Some found

cell_in : Cell → Option (Cell × Fault) → Cell
cell_in d None = d
cell_in d (Some both) = both.0

fault_from : Fault → Option (Cell × Fault) → Fault
fault_from d None = d
fault_from d (Some both) = both.1

module _ (f : Cell → Option Fault) where
  abbrev with_cell : Cell → Option (Cell × Fault)
  with_cell cell = option_map (λ found. (cell, found)) (f cell)

  listed_first : (cells : List Cell) (cell : Cell) (found : Fault) → first_some (map with_cell cells) ≡ Some (cell, found) → IsOf f cells cell found
  unfolding cell_in fault_from
  listed_first [] cell found e = absurd (cc e)
  listed_first (x ∷ xs) cell found e = by (f x) refl (listed_first xs cell found) e
    where
      by : (o : Option Fault) → f x ≡ o → (first_some (map with_cell xs) ≡ Some (cell, found) → IsOf f xs cell found) → first_some (option_map (λ found. (x, found)) o ∷ map with_cell xs) ≡ Some (cell, found) → IsOf f (x ∷ xs) cell found
      by None is behind e = let rest : IsOf f xs cell found = behind e in record { listed = Contains-cons x xs cell rest.listed; faulty = rest.faulty }
      by (Some own) is behind e =
          let same : x ≡ cell = ap (cell_in x) e in
          let same_fault : own ≡ found = ap (fault_from own) e in
          record { listed = (0, omega arith, same); faulty = ap f (sym same) ∙ is ∙ ap (λ k. Some k) same_fault }

first_of : (m : Objects) (dataset : Name) (s : Scale) (b : Box3) (cell : Cell) (found : Fault) → first_fault m dataset s b ≡ Some (cell, found) → IsOf (fault_in m dataset s) (cells_in s b) cell found
unfolding first_fault
first_of m dataset s b cell found e = listed_first (fault_in m dataset s) (cells_in s b) cell found e

-- nothing wrong with a cell, so no fault
judge_fault : (m : Objects) (dataset : Name) (s : Scale) (cell : Cell) → judge m dataset s cell ≡ None → fault_in m dataset s cell ≡ None
unfolding judge
judge_fault m dataset s cell e =
    let rest = (first_two (index_wrong s.sharding (id_of s cell) (fin.get m (object_of dataset s cell))) (damage (fault_in m dataset s cell) ∷ []) e).1 in
    undamaged (fault_in m dataset s cell) (first_two (damage (fault_in m dataset s cell)) [] rest).0
  where
    undamaged : (o : Option Fault) → damage o ≡ None → o ≡ None
    undamaged None e = refl
    undamaged (Some found) e = absurd (cc e)

-- a fault of a box in a part is one of the part
pub in_part : (m : Objects) (dataset : Name) (s : Scale) (b part : Box3) (at : Cell) (found : Fault) → Within b part → first_fault m dataset s b ≡ Some (at, found) → IsOf (fault_in m dataset s) (cells_in s part) at found
in_part m dataset s b part at found within e =
    let first = first_of m dataset s b at found e in
    let (p, own, covered) = All-contains (λ c. Meets s c b) (cells_in s b) at (cells_in-Meets s b) first.listed in
    let grid : IsCell s at = All-contains (IsCell s) (cells_in s b) at (cells_in-IsCell s b) first.listed in
    record { listed = cells_in-Contains s part at grid (p, own, within p covered); faulty = first.faulty }

-- so the part isn't sound
pub unsound : (m : Objects) (dataset : Name) (s : Scale) (b part : Box3) (at : Cell) (found : Fault) → Within b part → first_fault m dataset s b ≡ Some (at, found) → Sound m dataset s part → ⊥
unsound m dataset s b part at found within e sound =
    let first = in_part m dataset s b part at found within e in
    let none = judge_fault m dataset s at (All-contains (λ c. judge m dataset s c ≡ None) (cells_in s part) at sound first.listed) in
    cc (none, first.faulty)

-- whether a chunk without a fault is stored
has_unless : (o : Option ChunkFault) (bytes : Bytes) → fault_of (unless o bytes) ≡ None → HasStored true (unless o bytes)
has_unless None bytes e = record { stored_is = refl; absent_is = refl }
has_unless (Some found) bytes e = absurd (cc e)

has_held : (v : Scale) (cell : Cell) (o : Option Bytes) → v.sharding ≡ None → fault_of (judged v cell (held v cell o)) ≡ None → HasStored (is_some o) (judged v cell (held v cell o))
has_held v cell None is e = record { stored_is = refl; absent_is = refl }
has_held v cell (Some object) is e =
    let own : held_by v.sharding v cell object ≡ Ok (Some (take (cell_limit v cell + 1) object)) = ap (λ o. held_by o v cell object) is in
    subst (λ seen. fault_of (judged v cell seen) ≡ None → HasStored true (judged v cell seen)) (sym own)
    (has_unless (chunk_fault v cell (take (cell_limit v cell + 1) object)) (take (cell_limit v cell + 1) object)) e

has_chunk : (m : Objects) (dataset : Name) (v : Scale) (cell : Cell) → v.sharding ≡ None → fault_in m dataset v cell ≡ None → HasStored (is_some (fin.get m (object_of dataset v cell))) (chunk_in m dataset v cell)
unfolding chunk_in stored_bytes
has_chunk m dataset v cell is e = has_held v cell (fin.get m (object_of dataset v cell)) is e

pub has_stored : (m : Objects) (dataset : Name) (v : Scale) (cell : Cell) (stored : Bool) → v.sharding ≡ None → stored ≡ is_some (fin.get m (cell_name dataset v cell)) → fault_in m dataset v cell ≡ None
    → HasStored stored (chunk_in m dataset v cell)
has_stored m dataset v cell stored is e none =
    let name : object_of dataset v cell ≡ cell_name dataset v cell = ap (λ o. object_by o dataset v cell) is in
    subst (λ b. HasStored b (chunk_in m dataset v cell)) (ap (λ n. is_some (fin.get m n)) name ∙ sym e) (has_chunk m dataset v cell is none)

module _ (v : Scale) (part : Box3) (cell : Cell) (inside : Inside v part) (is : IsCell v cell) (meets : Meets v cell part) where
  abbrev shared : Box3
  shared = common (cell_box v cell) part

  -- the box of what is common lies in the view,
  pub shared_inside : Inside v shared
  shared_inside = record {
    some = common_some (cell_box v cell) part meets.0 meets.1 meets.2;
    within = λ p covered. inside.within p (common_right (cell_box v cell) part p covered);
  }

  -- and meets no other cell of it
  shared_listed : Contains (cells_in v shared) cell
  shared_listed = cells_in-Contains v shared cell is (meets.0, meets.1, common_covers (cell_box v cell) part meets.0 meets.1 meets.2)

  only : (other : Cell) → Contains (cells_in v shared) other → other ≡ cell
  only other listed =
      let (p, own, covered) = All-contains (λ c. Meets v c shared) (cells_in v shared) other (cells_in-Meets v shared) listed in
      let grid : IsCell v other = All-contains (IsCell v) (cells_in v shared) other (cells_in-IsCell v shared) listed in
      cell_at-only v p other grid.axes own ∙ sym (cell_at-only v p cell is.axes (common_left (cell_box v cell) part p covered))

  module _ (m : Objects) (dataset : Name) (s : Scale) (view : ℕ) where
    -- so its fault is the cell's
    none_of : first_fault m dataset v shared ≡ None → fault_in m dataset v cell ≡ None
    none_of none = none_in m dataset v shared cell none shared_listed

    fault_is : (at : Cell) (found : Fault) → first_fault m dataset v shared ≡ Some (at, found) → (at ≡ cell) × (fault_in m dataset v cell ≡ Some found)
    fault_is at found e =
        let first = first_of m dataset v shared at found e in
        let same = only at first.listed in
        (same, ap (fault_in m dataset v) (sym same) ∙ first.faulty)

    abbrev found_as : Option Fault → Option Finding → Option Finding
    found_as o rest = first_some (option_map (Damaged view cell) o ∷ rest ∷ [])

    damaged : (k : ℕ) (at : Cell) (found : Fault) → k ≡ view → first_fault m dataset v shared ≡ Some (at, found) → finding_in m dataset s view v part cell ≡ Some (Damaged k at found)
    damaged k at found e first =
        let (same, own) = fault_is at found first in
        ap (λ o. found_as o (difference_in m dataset s view v shared)) own ∙ (λ i. Some (Damaged (sym e i) (sym same i) found))

    pub behind_fault : (o : Option Finding) → fault_in m dataset v cell ≡ None → difference_in m dataset s view v shared ≡ o → finding_in m dataset s view v part cell ≡ o
    behind_fault o none e = (λ i. found_as (none i) (e i)) ∙ alone o
      where
        alone : (o : Option Finding) → first_some (o ∷ []) ≡ o
        alone None = refl
        alone (Some a) = refl

    -- what judging the box answers is what judging the cell does
    pub cell_refused : (why : ViewFault) → JudgesBox (Err why) m dataset s view v shared → JudgesCell (Err why) m dataset s view v part cell
    cell_refused (fault.Damaged k at found) h = damaged k at found h.0 h.1
    cell_refused (fault.Differs k place c u w) h = behind_fault _ (none_of h.0) h.1
    cell_refused (fault.First at found) h = unsound m dataset s shared part at found (common_right (cell_box v cell) part) h
    cell_refused fault.StoreFault h = tt

    pub cell_sound : (done : ⊤) (stored : Bool) → v.sharding ≡ None → stored ≡ is_some (fin.get m (cell_name dataset v cell)) → JudgesBox (Ok done) m dataset s view v shared
        → JudgesCell (Ok stored) m dataset s view v part cell
    cell_sound done stored alone e h = (behind_fault None (none_of h.0) h.1, has_stored m dataset v cell stored alone e (none_of h.0))

-- a box of one scale is one of the other
pub beside_inside : (s v : Scale) (b : Box3) → IsBeside s v → Inside v b → Inside s b
beside_inside s v b beside h = record { some = h.some; within = λ p covered. subst (λ w. Covers w p) beside.boxes (h.within p covered) }

pub beside_inside_back : (s v : Scale) (b : Box3) → IsBeside s v → Inside s b → Inside v b
beside_inside_back s v b beside h = record { some = h.some; within = λ p covered. subst (λ w. Covers w p) (sym beside.boxes) (h.within p covered) }

-- the box of what is common has no more bytes than the cell, so no more than a chunk
less_on : (a b : ℤ) (n m : ℕ) → b ≤ℤ a → (a +ℤ pos n) ≤ℤ (b +ℤ pos m) → n ≤ m
less_on a b n m h k = omega (arith, ints)

shorter : (x y z c w x' y' z' : ℕ) → x ≤ x' → y ≤ y' → z ≤ z' → x * y * z * c * w ≤ x' * y' * z' * c * w
shorter x y z c w x' y' z' hx hy hz = mul-le (x * y * z * c) w (x' * y' * z' * c) w (mul-le (x * y * z) c (x' * y' * z') c (mul-le (x * y) z (x' * y') z' (mul-le x y x' y' hx hy) hz) (omega arith)) (omega arith)

pub shared_short : (v : Scale) (part : Box3) (cell : Cell) → Meets v cell part → raw_len (common (cell_box v cell) part) v.channels v.width ≤ first_bytes v.width v.channels v.size v.chunk
shared_short v part cell meets =
    let some = common_some (cell_box v cell) part meets.0 meets.1 meets.2 in
    let lies = lies_in (common (cell_box v cell) part) (cell_box v cell) some (common_left (cell_box v cell) part) in
    let less : (axis : ℕ) → axis < 3 → size (common (cell_box v cell) part) axis ≤ size (cell_box v cell) axis = λ axis l. less_on _ _ _ _ (lies axis l).0 (lies axis l).1 in
    let all = shorter _ _ _ v.channels v.width _ _ _ (less 0 (lit< tt)) (less 1 (lit< tt)) (less 2 (lit< tt)) in
    let short = cell_box-short v cell in
    omega (arith, all, short)

-- so a room for a chunk has place for it
pub record IsShort (v : Scale) (b : Box3) : Type 0 where
  pub room : raw_len b v.channels v.width ≤ first_bytes v.width v.channels v.size v.chunk
  pub few : raw_len b v.channels v.width ≤ 2 ^ 30

pub is_short : (v : Scale) (part : Box3) (cell : Cell) (b : Box3) → Meets v cell part → b ≡ common (cell_box v cell) part → IsShort v b
is_short v part cell b meets e =
    let short : raw_len b v.channels v.width ≤ first_bytes v.width v.channels v.size v.chunk = subst (λ x. raw_len x v.channels v.width ≤ first_bytes v.width v.channels v.size v.chunk) (sym e) (shared_short v part cell meets) in
    let most = v.first_ok in
    record { room = short; few = omega (arith, short, most) }

-- the box of what is common, of the view as it is held, is that of the view
pub own_box : (v held : Scale) (part : Box3) (cell : Cell) (b : Box3) → v ≡ held → b ≡ common (cell_box held cell) part → b ≡ common (cell_box v cell) part
own_box v held part cell b is_held e = e ∙ ap (λ (s : Scale). common (cell_box s cell) part) (sym is_held)

-- the same where the objects may be untold, of the view as it is held
module _ (o same : Option Objects) (dataset : Name) (s : Scale) (view : ℕ) (v held : Scale) (part : Box3) (cell : Cell) (b : Box3) (inside : Inside v part) (is : IsCell v cell) (meets : Meets v cell part) (is_held : v ≡ held)
    (e : b ≡ common (cell_box held cell) part) (kept : same ≡ o) where
  told_of : (P : Objects → Scale → Box3 → Type 0) → IfSome same (λ m. P m held b) → (m : Objects) → o ≡ Some m → P m v (common (cell_box v cell) part)
  told_of P h m told = subst (P m v) (own_box v held part cell b is_held e) (subst (λ x. P m x b) (sym is_held) (from_told same _ m (kept ∙ told) h))

  pub refused_told : (why : ViewFault) → IfSome same (λ m. JudgesBox (Err why) m dataset s view held b) → IfSome o (λ m. JudgesCell (Err why) m dataset s view v part cell)
  refused_told why h = in_told o _ (λ m told. cell_refused v part cell inside is meets m dataset s view why (told_of (λ m x box. JudgesBox (Err why) m dataset s view x box) h m told))

  pub sound_told : (done : ⊤) (stored : Bool) (own : Name) → own ≡ dataset → held.sharding ≡ None → IfSome o (λ m. stored ≡ is_some (fin.get m (cell_name own held cell))) → IfSome same (λ m. JudgesBox (Ok done) m dataset s view held b)
      → IfSome o (λ m. JudgesCell (Ok stored) m dataset s view v part cell)
  sound_told done stored own is_own alone found h =
      in_told o _ (λ m told.
      cell_sound v part cell inside is meets m dataset s view done stored (ap (λ (x : Scale). x.sharding) is_held ∙ alone)
      (from_told o _ m told found ∙ (λ i. is_some (fin.get m (cell_name (is_own i) (sym is_held i) cell)))) (told_of (λ m x box. JudgesBox (Ok done) m dataset s view x box) h m told))

  pub asked_cell : (was between now : ℕ) → between ≡ was → IfSome same (λ m. now ≤ between + pair_cost m dataset s held b) → IfSome o (λ m. now ≤ was + pair_cost m dataset s v (common (cell_box v cell) part))
  asked_cell was between now stands h =
      in_told o _ (λ m told.
      let own : now ≤ between + pair_cost m dataset s v (common (cell_box v cell) part) = told_of (λ m x box. now ≤ between + pair_cost m dataset s x box) h m told in
      omega (arith, own, stands))

-- its reader is as before
pub held_again : (dataset : Name) (v : Scale) (reader now : Opened) → IsHeld dataset v reader → now ≡ reader → IsHeld dataset v now
held_again dataset v reader now h e = record { unsharded = h.unsharded; reads = e ∙ h.reads }

-- what failed, and what didn't, after a call that didn't
pub cause_again : (why : ViewFault) (before between now : ℕ) → between ≡ before → HasCauseOf {T = ⊤} fault.StoreFault between now (Err why) → HasCauseOf {T = Bool} fault.StoreFault before now (Err why)
cause_again why before between now same h =
    let later = h.later in
    record { later = omega (arith, later, same); failed = λ is. subst (λ n. Rose n now) same (h.failed (ap (λ e. Err e) (err_same why is))); stands = tt }
  where
    err_same : (why : ViewFault) → ◌≡◌ {A = Result Bool ViewFault} (Err why) (Err fault.StoreFault) → why ≡ fault.StoreFault
    err_same why is = cc

pub stood_again : (stored : Bool) (before between now : ℕ) → between ≡ before → now ≡ between → HasCauseOf fault.StoreFault before now (Ok stored)
stood_again stored before between now same also = record { later = omega (arith, same, also); failed = λ is. absurd (cc is); stands = also ∙ same }
