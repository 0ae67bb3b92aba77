-- What a copy reads isn't what it writes.
use Rattle.std.proofs.Common.{◌≡◌, ℕ, ◌<◌, List, [], ◌∷◌, true, false, length, get_or, refl, ap, ◌∙◌}
use Rattle.std.specs.Prelude.{All, filter}
use Rattle.std.specs.List.{list_any}
use Rattle.std.specs.FinMap as fin
use Rattle.std.proofs.lemmas.List.Elements.{filter_passes}
use Rattle.vol_base.specs.Outside.{Objects, any_under}
use Rattle.vol_base.specs.declared.boxes.Box3.{Box3}
use Rattle.vol_spec.specs.CellNames.{folder_of}
use Rattle.vol_spec.specs.Chunks.{chunk_in}
use Rattle.vol_spec.specs.Copies.{copied_cells, copied_raw, is_copied, is_there, or_zero}
use Rattle.vol_spec.specs.Cut.{first_fault}
use Rattle.vol_spec.specs.Grid.{cell_box, cells_on, meets, numbers_on}
use Rattle.vol_spec.specs.StoredBytes.{object_of}
use Rattle.vol_spec.specs.StoredCells.{raw_bytes}
use Rattle.vol_spec.specs.declared.scale.Scale.{Scale}
use Rattle.vol_spec.proofs.PutSteps.{insert-other}
use Rattle.copy_laws.specs.Agreement.{Agree, AreApart}
use Rattle.copy_laws.proofs.AgreeSteps.{same_chunks, same_first_fault, same_values}
use Rattle.copy_laws.proofs.FolderSteps.{all_absent, folders_apart}

-- an object of another folder leaves a scale as it is
pub put_apart : (dataset other : List ℕ) (s t : Scale) (m : Objects) (cell bytes : List ℕ) → AreApart dataset s other t → Agree dataset s (fin.insert m (object_of other t cell) bytes) m
put_apart dataset other s t m cell bytes apart each = insert-other m (object_of other t cell) bytes (object_of dataset s each) (folders_apart dataset other s t each cell apart)

-- so what is copied stays,
pub same_raw : (dataset : List ℕ) (from to : Scale) (m n : Objects) (cell : List ℕ) → Agree dataset from m n → copied_raw m dataset from to cell ≡ copied_raw n dataset from to cell
unfolding copied_raw
same_raw dataset from to m n cell agree = ap (λ f. raw_bytes (cell_box to cell) to.channels to.width (λ p c. or_zero (f p c))) (same_values dataset from m n agree)

pub raw_apart : (dataset other : List ℕ) (from to s : Scale) (m : Objects) (put bytes cell : List ℕ) → AreApart dataset from other s
    → copied_raw (fin.insert m (object_of other s put) bytes) dataset from to cell ≡ copied_raw m dataset from to cell
raw_apart dataset other from to s m put bytes cell apart =
    same_raw dataset from to (fin.insert m (object_of other s put) bytes) m cell (put_apart dataset other from s m put bytes apart)

-- and each first fault
pub fault_apart : (dataset other : List ℕ) (from s : Scale) (m : Objects) (put bytes : List ℕ) (b : Box3) → AreApart dataset from other s
    → first_fault (fin.insert m (object_of other s put) bytes) dataset from b ≡ first_fault m dataset from b
fault_apart dataset other from s m put bytes b apart =
    same_first_fault dataset from (fin.insert m (object_of other s put) bytes) m (put_apart dataset other from s m put bytes apart) b

-- and which cells are copied
pub same_copied : (dataset : List ℕ) (from to : Scale) (m n : Objects) → Agree dataset from m n → copied_cells m dataset from to ≡ copied_cells n dataset from to
unfolding copied_cells
same_copied dataset from to m n agree =
    ap (λ f. filter (λ cell. list_any (λ source. meets to (cell_box from source) cell) (filter (λ source. is_there (f source)) (numbers_on (cells_on from)))) (numbers_on (cells_on to))) (same_chunks dataset from m n agree)

-- where no cell is there, no cell is copied
none_there : (m : Objects) (dataset : List ℕ) (s : Scale) (cells : List (List ℕ)) → any_under m (folder_of dataset s) ≡ false → filter (λ cell. is_there (chunk_in m dataset s cell)) cells ≡ []
none_there m dataset s [] none = refl
none_there m dataset s (cell ∷ cells) none = rw (all_absent m dataset s cell none) (none_there m dataset s cells none)

pub none_copied : (m : Objects) (dataset : List ℕ) (from to : Scale) (cell : List ℕ) → any_under m (folder_of dataset from) ≡ false → is_copied m dataset from to cell ≡ false
none_copied m dataset from to cell none = ap (list_any (λ source. meets to (cell_box from source) cell)) (none_there m dataset from (numbers_on (cells_on from)) none)

listed_are_copied : (m : Objects) (dataset : List ℕ) (from to : Scale) → All (λ cell. is_copied m dataset from to cell ≡ true) (copied_cells m dataset from to)
unfolding copied_cells
listed_are_copied m dataset from to = filter_passes (is_copied m dataset from to) (numbers_on (cells_on to))

-- so where a cell is copied and no object is in the other scale's folder, the folders are apart
pub are_apart : (m : Objects) (dataset other : List ℕ) (from to : Scale) → any_under m (folder_of other to) ≡ false → 0 < length (copied_cells m dataset from to) → AreApart dataset from other to
are_apart m dataset other from to none some same =
    let cell : List ℕ = get_or (copied_cells m dataset from to) 0 [] in
    let copied : is_copied m dataset from to cell ≡ true = listed_are_copied m dataset from to 0 [] some in
    let not : is_copied m dataset from to cell ≡ false = none_copied m dataset from to cell (ap (any_under m) same ∙ none) in
    cc
