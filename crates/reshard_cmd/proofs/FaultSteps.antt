-- Where the first fault of a copy is.
use Rattle.std.proofs.Common.{◌≡◌, ◌∙◌, ℕ, List, [], ◌∷◌, map, Option, Some, None, refl, ap, sym, subst, arith}
use Rattle.std.specs.Prelude.{All, Contains}
use Rattle.std.specs.Option.{option_map}
use Rattle.std.proofs.lemmas.List.Elements.{All-cons, All-contains, All-contains_itself, All-nil, All-weaker}
use Rattle.vol_base.specs.Outside.{Objects}
use Rattle.vol_base.specs.declared.boxes.Box3.{Box3}
use Rattle.vol_base.specs.declared.faults.Fault.{Fault}
use Rattle.vol_spec.specs.BoxValues.{first_some}
use Rattle.vol_spec.specs.Chunks.{fault_in}
use Rattle.vol_spec.specs.Copies.{AreOfOneVolume, copied_cells}
use Rattle.vol_spec.specs.Cut.{faulty, first_fault}
use Rattle.vol_spec.specs.Grid.{IsCell, cell_box, cells_in}
use Rattle.vol_spec.specs.StoredLists.{in_key_order}
use Rattle.vol_spec.specs.declared.scale.Scale.{Scale}
use Rattle.chunk_grid.proofs.ListingSteps.{Contains-cons, cells_in-IsCell}
use Rattle.chunk_laws.specs.Told.{HasNoFault}
use Rattle.copy_laws.proofs.CopyValues.{AreInOrder-copied_cells, fault_found}
use Rattle.write_plan.proofs.KeySteps.{to_key_order}
use Rattle.reshard_cmd.specs.Resharding.{copy_fault}
use Rattle.reshard_cmd.specs.Copies.{IsFirstFault}

-- the first of a list is of one of its elements
pub first_of : {X Y : Type 0} (f : X → Option Y) (xs : List X) (y : Y) → first_some (map f xs) ≡ Some y → (x : X) × Contains xs x × (f x ≡ Some y)
first_of f [] y e = absurd (cc e)
first_of {X} {Y} f (x ∷ xs) y e = by (f x) refl (first_of f xs y) e
  where
    by : (o : Option Y) → f x ≡ o → (first_some (map f xs) ≡ Some y → (z : X) × Contains xs z × (f z ≡ Some y)) → first_some (o ∷ map f xs) ≡ Some y
        → (z : X) × Contains (x ∷ xs) z × (f z ≡ Some y)
    by None is later h = let (z, c, at) = later h in (z, Contains-cons x xs z c, at)
    by (Some w) is later h = (x, (0, omega arith, refl), is ∙ h)

heads : {Y : Type 0} (o : Option Y) (rest : List (Option Y)) → first_some (o ∷ rest) ≡ None → (o ≡ None) × (first_some rest ≡ None)
heads None rest e = (refl, e)
heads (Some y) rest e = absurd (cc e)

pub none_each : {X Y : Type 0} (f : X → Option Y) (xs : List X) → first_some (map f xs) ≡ None → All (λ x. f x ≡ None) xs
none_each f [] e = All-nil (λ x. f x ≡ None)
none_each f (x ∷ xs) e = let parts = heads (f x) (map f xs) e in All-cons (λ x. f x ≡ None) x xs parts.0 (none_each f xs parts.1)

-- the fault of a cell, with the cell
told_cell : (cell at : List ℕ) (o : Option Fault) (fault : Fault) → option_map (λ (fault : Fault). (let x : List ℕ × Fault = (cell, fault) in x)) o ≡ Some (at, fault) → (cell ≡ at) × (o ≡ Some fault)
told_cell cell at None fault e = absurd (cc e)
told_cell cell at (Some found) fault e =
    let same : (let x : List ℕ × Fault = (cell, found) in x) ≡ (at, fault) = cc e in
    (ap (λ (x : List ℕ × Fault). x.0) same, ap (λ (x : List ℕ × Fault). Some x.1) same)

pub box_fault : (m : Objects) (dataset : List ℕ) (s : Scale) (b : Box3) (cell : List ℕ) (fault : Fault) → first_fault m dataset s b ≡ Some (cell, fault) → IsCell s cell × (fault_in m dataset s cell ≡ Some fault)
unfolding first_fault
box_fault m dataset s b cell fault e =
    let (at, listed, is) = first_of (faulty m dataset s) (cells_in s b) (cell, fault) e in
    let told = told_cell at cell (fault_in m dataset s at) fault is in (
      subst (IsCell s) told.0 (All-contains (IsCell s) (cells_in s b) at (cells_in-IsCell s b) listed),
      ap (fault_in m dataset s) (sym told.0) ∙ told.1,
    )

-- the first fault of boxes that are read one after the other is one of a cell,
pub first_in : (m : Objects) (dataset : List ℕ) (s : Scale) (box : List ℕ → Box3) (jobs : List (List ℕ)) (cell : List ℕ) (fault : Fault) → first_some (map (λ job. first_fault m dataset s (box job)) jobs) ≡ Some (cell, fault)
    → IsCell s cell × (fault_in m dataset s cell ≡ Some fault)
first_in m dataset s box jobs cell fault e = let (job, listed, is) = first_of (λ job. first_fault m dataset s (box job)) jobs (cell, fault) e in box_fault m dataset s (box job) cell fault is

-- and where there is none, none of the boxes has a fault
pub none_in_each : (m : Objects) (dataset : List ℕ) (s : Scale) (box : List ℕ → Box3) (to : Scale) (cells : List (List ℕ)) → All (IsCell to) cells → first_some (map (λ job. first_fault m dataset s (box job)) (in_key_order to cells)) ≡ None
    → All (λ job. first_fault m dataset s (box job) ≡ None) cells
none_in_each m dataset s box to cells are e =
    let keyed = none_each (λ job. first_fault m dataset s (box job)) (in_key_order to cells) e in
    All-weaker (Contains cells) (λ job. first_fault m dataset s (box job) ≡ None)
    (λ job c. All-contains (λ job. first_fault m dataset s (box job) ≡ None) (in_key_order to cells) job keyed (to_key_order to cells job are c)) cells (All-contains_itself cells)

pub first_is : (m : Objects) (dataset : List ℕ) (from to : Scale) (cell : List ℕ) (fault : Fault) → copy_fault m dataset from to ≡ Some (cell, fault) → IsFirstFault m dataset from to cell fault
first_is m dataset from to cell fault e =
    let told = first_in m dataset from (cell_box to) (in_key_order to (copied_cells m dataset from to)) cell fault e in
    record { first = e; of_source = told.0; its_own = told.1 }

-- where there is none, the source has none
pub none_is : (m : Objects) (dataset : List ℕ) (from to : Scale) → AreOfOneVolume from to → copy_fault m dataset from to ≡ None → HasNoFault m dataset from
none_is m dataset from to same e cell is =
    fault_found from to same m dataset (none_in_each m dataset from (cell_box to) to (copied_cells m dataset from to) (AreInOrder-copied_cells m dataset from to).each e) cell is
