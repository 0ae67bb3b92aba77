-- What the objects of a scale's chunks say of its cells and voxels, once they are put in.
use Rattle.std.proofs.Common.{◌≡◌, ◌≢◌, ℕ, zero, suc, ◌<◌, List, [], ◌∷◌, ◌++◌, Bool, true, false, cond, ◌&&◌, length, get_or, map, Some, refl, ap, ◌∙◌, sym, arith, lit<}
use Rattle.std.specs.Prelude.{ℤ, ◌≤ℤ◌, ◌<ℤ◌, int_le, int_lt, All, Contains, filter, reverse, if◌then◌else◌}
use Rattle.std.specs.FinMap as fin
use Rattle.std.proofs.lemmas.Bool.{and_from, and_parts}
use Rattle.std.proofs.lemmas.Grind.{reverse_onto}
use Rattle.std.proofs.lemmas.List.{append-nil, get_or-map, length-map}
use Rattle.std.proofs.lemmas.List.Elements.{All-contains, All-map, filter-append, filter_passes, All-head, All-tail}
use Rattle.std.proofs.lemmas.List.Folds.{list_any_at}
use Rattle.vol_base.specs.declared.boxes.Box3.{Box3}
use Rattle.vol_base.specs.Boxes.{at, end, num, Covers}
use Rattle.vol_base.specs.Outside.{Objects, is_under}
use Rattle.vol_spec.specs.CellNames.{folder_of, cell_name}
use Rattle.vol_spec.specs.Grid.{whole, cells_on, IsCell, cell_box, cell_at, meets, numbers_on}
use Rattle.vol_spec.specs.LastWrite.{Before, covers_on, covers, last, newest}
use Rattle.vol_spec.specs.Raw.{digit}
use Rattle.vol_spec.specs.StoredCells.{AreInOrder, met, met_cells, written_raw, chunks_of, object_list, put_in}
use Rattle.vol_spec.specs.declared.scale.Scale.{Scale}
use Rattle.vol_spec.proofs.PutSteps.{put_in-other, put_in-Contains, AreApart, not_true_is}
use Rattle.vol_spec.proofs.RawSteps.{All-reverse}
use Rattle.vol_base.proofs.Axes.{by_axis}
use Rattle.chunk_grid.proofs.GridSteps.{cell_at-Covers}
use Rattle.chunk_grid.proofs.ListingSteps.{meets-true, Contains-filter, Contains-numbers_on}
use Rattle.chunk_grid.proofs.MeetSteps.{int_le-from, int_le-true, int_lt-from, int_lt-true}
use Rattle.chunk_grid.proofs.NameSteps.{cell_name-injective, names_apart, is_under-cell_name}

-- the objects of cells, with bytes for each
abbrev pub cell_objects : List ℕ → Scale → (List ℕ → List ℕ) → List (List ℕ) → List (List ℕ × List ℕ)
cell_objects dataset s bytes cells = map (λ cell. (cell_name dataset s cell, bytes cell)) cells

Contains-map : {X Y : Type 0} (f : X → Y) (xs : List X) (x : X) → Contains xs x → Contains (map f xs) (f x)
Contains-map f xs x (k, l, e) = (k, omega (arith, l, length-map xs f), get_or-map f xs k x (f x) l ∙ ap f e)

objects_apart : (dataset : List ℕ) (s : Scale) (bytes : List ℕ → List ℕ) (cells : List (List ℕ)) → AreInOrder s cells → AreApart (cell_objects dataset s bytes cells)
objects_apart dataset s bytes cells order i j d l m e =
    let len : length (cell_objects dataset s bytes cells) ≡ length cells = length-map cells (λ cell. (cell_name dataset s cell, bytes cell)) in
    let hj : j < length cells = omega arith in
    let hi : i < length cells = omega arith in
    let at_i : (get_or (cell_objects dataset s bytes cells) i d).0 ≡ cell_name dataset s (get_or cells i []) = ap (λ o. o.0) (get_or-map (λ cell. (cell_name dataset s cell, bytes cell)) cells i [] d hi) in
    let at_j : (get_or (cell_objects dataset s bytes cells) j d).0 ≡ cell_name dataset s (get_or cells j []) = ap (λ o. o.0) (get_or-map (λ cell. (cell_name dataset s cell, bytes cell)) cells j [] d hj) in
    names_apart dataset s cells order i j [] l hj (sym at_i ∙ e ∙ at_j)

-- a listed cell has its bytes, and any other cell what it had
pub get-listed : (m : Objects) (dataset : List ℕ) (s : Scale) (bytes : List ℕ → List ℕ) (cells : List (List ℕ)) (cell : List ℕ) → AreInOrder s cells → Contains cells cell
    → fin.get (put_in m (cell_objects dataset s bytes cells)) (cell_name dataset s cell) ≡ Some (bytes cell)
get-listed m dataset s bytes cells cell order c =
    put_in-Contains m (cell_objects dataset s bytes cells) (cell_name dataset s cell, bytes cell) (objects_apart dataset s bytes cells order)
    (Contains-map (λ cell. (cell_name dataset s cell, bytes cell)) cells cell c)

pub get-unlisted : (m : Objects) (dataset : List ℕ) (s : Scale) (bytes : List ℕ → List ℕ) (cells : List (List ℕ)) (cell : List ℕ) → AreInOrder s cells → IsCell s cell → (Contains cells cell → ⊥)
    → fin.get (put_in m (cell_objects dataset s bytes cells)) (cell_name dataset s cell) ≡ fin.get m (cell_name dataset s cell)
get-unlisted m dataset s bytes cells cell order is none =
    put_in-other m (cell_objects dataset s bytes cells) (cell_name dataset s cell)
    (All-map (λ o. o.0 ≢ cell_name dataset s cell) (λ cell. (cell_name dataset s cell, bytes cell)) cells
    (λ k d l e. none (k, l, other_default cells k cell d l (cell_name-injective dataset s (get_or cells k d) cell (order.each k d l) is e))))
  where
    other_default : (cells : List (List ℕ)) (k : ℕ) (x d : List ℕ) → k < length cells → get_or cells k d ≡ x → get_or cells k x ≡ x
    other_default [] k x d l e = absurd (omega arith)
    other_default (c ∷ cells) zero x d l e = e
    other_default (c ∷ cells) (suc k) x d l e = other_default cells k x d (omega arith) e

-- the chunks that writes give, as objects of cells
objects_are : (dataset : List ℕ) (s : Scale) (bytes : List ℕ → List ℕ) (cells : List (List ℕ)) → object_list dataset s (map (λ cell. (cell, bytes cell)) cells) ≡ cell_objects dataset s bytes cells
objects_are dataset s bytes [] = refl
objects_are dataset s bytes (cell ∷ cells) = ap (λ os. (cell_name dataset s cell, bytes cell) ∷ os) (objects_are dataset s bytes cells)

pub object_list-chunks_of : (dataset : List ℕ) (s : Scale) (before : Before) (writes : List (Box3 × List ℕ)) → object_list dataset s (chunks_of s before writes) ≡ cell_objects dataset s (written_raw s before writes) (met_cells s writes)
unfolding chunks_of
object_list-chunks_of dataset s before writes = objects_are dataset s (written_raw s before writes) (met_cells s writes)

pub Contains-met_cells : (s : Scale) (writes : List (Box3 × List ℕ)) (cell : List ℕ) → IsCell s cell → met s writes cell ≡ true → Contains (met_cells s writes) cell
unfolding met_cells
Contains-met_cells s writes cell is e = Contains-filter (met s writes) (numbers_on (cells_on s)) cell (Contains-numbers_on s cell is) e

pub met-listed : (s : Scale) (writes : List (Box3 × List ℕ)) (cell : List ℕ) → Contains (met_cells s writes) cell → met s writes cell ≡ true
unfolding met_cells
met-listed s writes cell c = All-contains (λ cell. met s writes cell ≡ true) (filter (met s writes) (numbers_on (cells_on s))) cell (filter_passes (met s writes) (numbers_on (cells_on s))) c

-- no object outside the folder is another
pub stored_others : (m : Objects) (dataset : List ℕ) (s : Scale) (chunks : List (List ℕ × List ℕ)) (name : List ℕ) → is_under (folder_of dataset s) name ≡ false
    → fin.get (put_in m (object_list dataset s chunks)) name ≡ fin.get m name
stored_others m dataset s chunks name outside =
    put_in-other m (object_list dataset s chunks) name
    (All-map (λ o. o.0 ≢ name) (λ chunk. (cell_name dataset s chunk.0, chunk.1)) chunks
    (λ k d l e.
    let under = is_under-cell_name dataset s (get_or chunks k d).0 in
    let same : is_under (folder_of dataset s) (cell_name dataset s (get_or chunks k d).0) ≡ is_under (folder_of dataset s) name = ap (is_under (folder_of dataset s)) e in
    cc))

-- a position in no write has what was there
covers_on-true : (b p e : ℤ) → b ≤ℤ p → p <ℤ e → (int_le b p && int_lt p e) ≡ true
covers_on-true b p e low high = and_from _ _ (int_le-true b p low) (int_lt-true p e high)

covers_on-from : (b p e : ℤ) → (int_le b p && int_lt p e) ≡ true → (b ≤ℤ p) × (p <ℤ e)
covers_on-from b p e is = let parts = and_parts _ _ is in (int_le-from b p parts.0, int_lt-from p e parts.1)

pub covers-true : (b : Box3) (p : List ℤ) → Covers b p → covers b p ≡ true
covers-true b p h =
    let on : (axis : ℕ) → axis < 3 → covers_on b p axis ≡ true = λ axis l. covers_on-true (at b.begin axis) (at p axis) (end b axis) (h axis l).0 (h axis l).1 in
    and_from _ _ (on 0 (lit< tt)) (and_from _ _ (on 1 (lit< tt)) (and_from _ _ (on 2 (lit< tt)) refl))

pub Covers-from : (b : Box3) (p : List ℤ) → covers b p ≡ true → Covers b p
Covers-from b p e =
    let first = and_parts _ _ e in
    let second = and_parts _ _ first.1 in
    let third = and_parts _ _ second.1 in
    by_axis (λ axis. (at b.begin axis ≤ℤ at p axis) × (at p axis <ℤ end b axis))
    (covers_on-from (at b.begin 0) (at p 0) (end b 0) first.0)
    (covers_on-from (at b.begin 1) (at p 1) (end b 1) second.0)
    (covers_on-from (at b.begin 2) (at p 2) (end b 2) third.0)

newest_none : (w : ℕ) (before : Before) (writes : List (Box3 × List ℕ)) (p : List ℤ) (c : ℕ) → All (λ write. covers write.0 p ≡ false) writes → newest w before writes p c ≡ before p c
newest_none w before [] p c out = refl
newest_none w before (write ∷ older) p c out =
    ap (λ b. if b then digit write.1 w (num write.0 p c) else newest w before older p c) (All-head (λ (write : Box3 × List ℕ). covers write.0 p ≡ false) write older out)
    ∙ newest_none w before older p c (All-tail (λ (write : Box3 × List ℕ). covers write.0 p ≡ false) write older out)

unmet : (s : Scale) (writes : List (Box3 × List ℕ)) (p : List ℤ) → Covers (whole s) p → met s writes (cell_at s p) ≡ false → All (λ write. covers write.0 p ≡ false) writes
unmet s writes p inside none k d l =
    not_true_is (covers (get_or writes k d).0 p) (λ e.
    let meets_it : meets s (get_or writes k d).0 (cell_at s p) ≡ true = meets-true s (get_or writes k d).0 (cell_at s p) (p, cell_at-Covers s p inside, Covers-from (get_or writes k d).0 p e) in
    let some : met s writes (cell_at s p) ≡ true = list_any_at (λ (write : Box3 × List ℕ). meets s write.0 (cell_at s p)) writes k d l meets_it in
    cc)

pub last_unmet : (s : Scale) (before : Before) (writes : List (Box3 × List ℕ)) (p : List ℤ) (c : ℕ) → Covers (whole s) p → met s writes (cell_at s p) ≡ false → last s.width before writes p c ≡ before p c
last_unmet s before writes p c inside none =
    newest_none s.width before (reverse writes) p c (All-reverse (λ (write : Box3 × List ℕ). covers write.0 p ≡ false) writes (unmet s writes p inside none))

-- a position of a cell has the value that the writes that meet the cell give, as they stand
filter-reverse : {X : Type 0} (p : X → Bool) (xs : List X) → filter p (reverse xs) ≡ reverse (filter p xs)
filter-reverse p [] = refl
filter-reverse {X} p (x ∷ xs) =
    ap (filter p) (reverse_onto xs x [])
    ∙ filter-append p (reverse xs) (x ∷ [])
    ∙ ap (λ ys. ys ++ filter p (x ∷ [])) (filter-reverse p xs)
    ∙ turned_back (p x) x (filter p xs)
  where
    turned_back : {X : Type 0} (b : Bool) (x : X) (ys : List X) → reverse ys ++ cond b (x ∷ []) [] ≡ reverse (cond b (x ∷ ys) ys)
    turned_back true x ys = sym (reverse_onto ys x [])
    turned_back false x ys = append-nil (reverse ys)

kept_or_out : (b t : Bool) (m n k : ℕ) → (b ≡ true → t ≡ true) → n ≡ k → (if t then (if b then m else n) else n) ≡ (if b then m else k)
kept_or_out true true m n k f e = refl
kept_or_out true false m n k f e = absurd (cc (f refl))
kept_or_out false true m n k f e = e
kept_or_out false false m n k f e = e

newest_kept : (w : ℕ) (before : Before) (test : Box3 × List ℕ → Bool) (writes : List (Box3 × List ℕ)) (p : List ℤ) (c : ℕ) → ((write : Box3 × List ℕ) → covers write.0 p ≡ true → test write ≡ true)
    → newest w before (filter test writes) p c ≡ newest w before writes p c
newest_kept w before test [] p c kept = refl
newest_kept w before test (write ∷ older) p c kept =
    in_front (test write)
    ∙ kept_or_out (covers write.0 p) (test write) (digit write.1 w (num write.0 p c)) (newest w before (filter test older) p c) (newest w before older p c) (kept write) (newest_kept w before test older p c kept)
  where
    in_front : (t : Bool) → newest w before (cond t (write ∷ filter test older) (filter test older)) p c
        ≡ (if t then (if covers write.0 p then digit write.1 w (num write.0 p c) else newest w before (filter test older) p c) else newest w before (filter test older) p c)
    in_front true = refl
    in_front false = refl

pub last-met : (s : Scale) (before : Before) (writes : List (Box3 × List ℕ)) (cell : List ℕ) (p : List ℤ) (c : ℕ) → Covers (cell_box s cell) p
    → last s.width before (filter (λ write. meets s write.0 cell) writes) p c ≡ last s.width before writes p c
last-met s before writes cell p c own =
    ap (λ ws. newest s.width before ws p c) (sym (filter-reverse (λ (write : Box3 × List ℕ). meets s write.0 cell) writes))
    ∙ newest_kept s.width before (λ write. meets s write.0 cell) (reverse writes) p c (λ write e. meets-true s write.0 cell (p, own, Covers-from write.0 p e))
