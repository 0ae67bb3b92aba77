-- Judging the cells of a part, one cell on.
use Rattle.std.proofs.Common.{◌≡◌, ◌↔◌, ◌≤◌, ◌+◌, Bool, true, false, List, [], ◌∷◌, ◌++◌, map, filter, length, Option, Some, None, Result, Ok, Err, refl, ap, ◌∙◌, sym, subst, arith}
use Rattle.std.specs.Prelude.{All, Contains}
use Rattle.std.specs.List.{AllByRecursion}
use Rattle.std.specs.Option.{option_map}
use Rattle.std.proofs.lemmas.List.{length-append, map-append}
use Rattle.std.proofs.lemmas.List.Elements.{All-contains, All-contains_itself, All-from_recursion, All-push, All-weaker, filter-append, recursion_from_All}
use Rattle.vol_base.specs.declared.boxes.Box3.{Box3}
use Rattle.vol_base.specs.Boxes.{Within}
use Rattle.vol_base.specs.Outside.{Objects}
use Rattle.chunk_grid.proofs.ListingSteps.{cells_in-Contains, cells_in-IsCell, cells_in-Meets}
use Rattle.vol_spec.proofs.Firsts.{first_some-append}
use Rattle.vol_spec.specs.BoxValues.{first_some}
use Rattle.vol_spec.specs.Chunks.{chunk_in, fault_in}
use Rattle.vol_spec.specs.Cut.{faulty, first_fault}
use Rattle.vol_spec.specs.Grid.{IsCell, Meets, cells_in}
use Rattle.vol_spec.specs.Types.{Cell, Name}
use Rattle.vol_spec.specs.Verdicts.{Sound, Wrong, judge}
use Rattle.vol_spec.specs.Verdicts.Wrong.{Damaged as DamagedBy, Misplaced as MisplacedAt}
use Rattle.vol_spec.specs.declared.scale.Scale.{Scale}
use Rattle.index_judge.specs.declared.fault.JudgeFault.{JudgeFault}
use Rattle.index_judge.specs.declared.fault.JudgeFault.TheVariants.{NotRead, Damaged, Misplaced}
use Rattle.verify_cmd.specs.Counting.{counted}
use Rattle.verify_cmd.specs.Verified.{IsUndamaged}
use Rattle.view_judge.specs.Judging.{is_absent, is_stored}
use Rattle.verify_cmd.specs.Verifying.{first_wrong, flawed}
use Rattle.verify_cmd.specs.Parts.{IsCellReport, JudgesCell, JudgesCells, found_at}
use Rattle.verify_cmd.specs.declared.fault.VerifyFault.{VerifyFault}
use Rattle.verify_cmd.specs.declared.report.Report.{Report}
use Rattle.verify_cmd.proofs.JudgeSteps.{sound_chunk}

module _ {A B : Type 0} (f : A → Option B) where
  abbrev with_it : A → Option (A × B)
  with_it x = option_map (λ b. (x, b)) (f x)

  none_first : (xs : List A) → AllByRecursion (λ x. f x ≡ None) xs → first_some (map with_it xs) ≡ None
  none_first [] all = refl
  none_first (x ∷ xs) all = ap (λ o. first_some (option_map (λ b. (x, b)) o ∷ map with_it xs)) all.0 ∙ none_first xs all.1

  split : (x : A) (o : Option B) (rest : List (Option (A × B))) → first_some (option_map (λ b. (x, b)) o ∷ rest) ≡ None → (o ≡ None) × (first_some rest ≡ None)
  split x None rest h = (refl, h)
  split x (Some b) rest h = absurd (cc h)

  all_none : (xs : List A) → first_some (map with_it xs) ≡ None → AllByRecursion (λ x. f x ≡ None) xs
  all_none [] h = tt
  all_none (x ∷ xs) h = let both = split x (f x) (map with_it xs) h in (both.0, all_none xs both.1)

  -- there is no first exactly where there is none of each
  pub no_first : (xs : List A) → All (λ x. f x ≡ None) xs → first_some (map with_it xs) ≡ None
  no_first xs all = none_first xs (recursion_from_All (λ x. f x ≡ None) xs all)

  pub none_at_all : (xs : List A) → first_some (map with_it xs) ≡ None → All (λ x. f x ≡ None) xs
  none_at_all xs h = All-from_recursion (λ x. f x ≡ None) xs (all_none xs h)

  -- the first, behind some that have none
  pub first_behind : (xs rest : List A) (x : A) (b : B) → All (λ x. f x ≡ None) xs → f x ≡ Some b → first_some (map with_it (xs ++ x ∷ rest)) ≡ Some (x, b)
  first_behind xs rest x b all here =
      ap first_some (map-append with_it xs (x ∷ rest)) ∙ first_some-append (map with_it xs) (with_it x ∷ map with_it rest) (no_first xs all)
      ∙ ap (λ o. first_some (option_map (λ b. (x, b)) o ∷ map with_it rest)) here

module _ {A : Type 0} (p : A → Bool) where
  both : (xs : List A) (x : A) → length (filter p (xs ++ x ∷ [])) ≡ length (filter p xs) + length (filter p (x ∷ []))
  both xs x = ap length (filter-append p xs (x ∷ [])) ∙ length-append (filter p xs) (filter p (x ∷ []))

  one_more : (xs : List A) (x : A) → p x ≡ true → length (filter p (xs ++ x ∷ [])) ≡ length (filter p xs) + 1
  one_more xs x h = let e : length (filter p (x ∷ [])) ≡ 1 = rw h refl in let all = both xs x in omega (arith, all, e)

  no_more : (xs : List A) (x : A) → p x ≡ false → length (filter p (xs ++ x ∷ [])) ≡ length (filter p xs)
  no_more xs x h = let e : length (filter p (x ∷ [])) ≡ 0 = rw h refl in let all = both xs x in omega (arith, all, e)

-- some cells are sound, and so many of their chunks are stored, and absent
pub record SoundSoFar (m : Objects) (dataset : Name) (s : Scale) (cells : List Cell) (report : Report) : Type 0 where
  pub sound : All (λ cell. judge m dataset s cell ≡ None) cells
  pub stored : report.stored ≡ length (filter (λ cell. is_stored (chunk_in m dataset s cell)) cells)
  pub absent : report.absent ≡ length (filter (λ cell. is_absent (chunk_in m dataset s cell)) cells)

pub none_yet : (m : Objects) (dataset : Name) (s : Scale) (report : Report) → report ≡ record { cells = 0; stored = 0; absent = 0 } → SoundSoFar m dataset s [] report
none_yet m dataset s report is = subst (SoundSoFar m dataset s []) (sym is) (record { sound = All-from_recursion (λ cell. judge m dataset s cell ≡ None) [] tt; stored = refl; absent = refl })

cell_more : (m : Objects) (dataset : Name) (s : Scale) (cells : List Cell) (cell : Cell) (report : Report) (stored : Bool) → SoundSoFar m dataset s cells report → JudgesCell (Ok stored) m dataset s cell
    → SoundSoFar m dataset s (cells ++ cell ∷ []) (counted report stored)
cell_more m dataset s cells cell report true was one = record {
  sound = All-push (λ c. judge m dataset s c ≡ None) cells cell was.sound one.0;
  stored = ap (λ n. n + 1) was.stored ∙ sym (one_more (λ c. is_stored (chunk_in m dataset s c)) cells cell (ap is_stored one.1.1));
  absent = was.absent ∙ sym (no_more (λ c. is_absent (chunk_in m dataset s c)) cells cell (ap is_absent one.1.1));
}
cell_more m dataset s cells cell report false was one = record {
  sound = All-push (λ c. judge m dataset s c ≡ None) cells cell was.sound one.0;
  stored = was.stored ∙ sym (no_more (λ c. is_stored (chunk_in m dataset s c)) cells cell (ap is_stored one.1));
  absent = ap (λ n. n + 1) was.absent ∙ sym (one_more (λ c. is_absent (chunk_in m dataset s c)) cells cell (ap is_absent one.1));
}

-- one cell more
pub sound_more : (m : Objects) (dataset : Name) (s : Scale) (cells : List Cell) (cell : Cell) (old new : Report) (stored : Bool) (r : Result Bool JudgeFault) → r ≡ Ok stored → new ≡ counted old stored
    → SoundSoFar m dataset s cells old → JudgesCell r m dataset s cell → SoundSoFar m dataset s (cells ++ cell ∷ []) new
sound_more m dataset s cells cell old new stored r ok is was one =
    subst (SoundSoFar m dataset s (cells ++ cell ∷ [])) (sym is) (cell_more m dataset s cells cell old stored was (subst (λ x. JudgesCell x m dataset s cell) ok one))

-- the first cell with which something is wrong
wrong_first : (m : Objects) (dataset : Name) (s : Scale) (b : Box3) (cells left rest : List Cell) (cell : Cell) (wrong : Wrong) → All (λ c. judge m dataset s c ≡ None) cells → left ≡ cell ∷ rest → cells ++ left ≡ cells_in s b
    → judge m dataset s cell ≡ Some wrong → first_wrong m dataset s b ≡ Some (cell, wrong)
wrong_first m dataset s b cells left rest cell wrong all e is here =
    ap (λ xs. first_some (map (flawed m dataset s) xs)) (sym is ∙ ap (λ r. cells ++ r) e) ∙ first_behind (judge m dataset s) cells rest cell wrong all here

by_cell : (m : Objects) (dataset : Name) (s : Scale) (b : Box3) (cells left rest : List Cell) (cell : Cell) (fault : JudgeFault) → All (λ c. judge m dataset s c ≡ None) cells → left ≡ cell ∷ rest → cells ++ left ≡ cells_in s b
    → JudgesCell (Err fault) m dataset s cell → JudgesCells (Err (found_at cell fault)) m dataset s b
by_cell m dataset s b cells left rest cell NotRead all e is h = tt
by_cell m dataset s b cells left rest cell (Damaged fault) all e is h = wrong_first m dataset s b cells left rest cell (DamagedBy fault) all e is h
by_cell m dataset s b cells left rest cell (Misplaced shard k id) all e is h = (cell, wrong_first m dataset s b cells left rest cell (MisplacedAt shard k id) all e is h)

pub cell_refused : (m : Objects) (dataset : Name) (s : Scale) (b : Box3) (cells left rest : List Cell) (cell : Cell) (report : Report) (r : Result Bool JudgeFault) (fault : JudgeFault) (told : VerifyFault) → r ≡ Err fault → told ≡ found_at cell fault
    → SoundSoFar m dataset s cells report → left ≡ cell ∷ rest → cells ++ left ≡ cells_in s b → JudgesCell r m dataset s cell → JudgesCells (Err told) m dataset s b
cell_refused m dataset s b cells left rest cell report r fault told err as_told was e is h =
    subst (λ t. JudgesCells (Err t) m dataset s b) (sym as_told) (by_cell m dataset s b cells left rest cell fault was.sound e is (subst (λ x. JudgesCell x m dataset s cell) err h))

-- the whole part is sound
pub part_sound : (m : Objects) (dataset : Name) (s : Scale) (b : Box3) (cells : List Cell) (report : Report) → cells ≡ cells_in s b → report.cells ≡ length cells → SoundSoFar m dataset s cells report → IsCellReport m dataset s b report
part_sound m dataset s b cells report all count was =
    let whole : SoundSoFar m dataset s (cells_in s b) report = subst (λ xs. SoundSoFar m dataset s xs report) all was in
    record { sound = whole.sound; cells = count ∙ ap length all; stored = whole.stored; absent = whole.absent }

-- counts
pub counted_cells : (old new : Report) (stored : Bool) → new ≡ counted old stored → new.cells ≡ old.cells + 1
counted_cells old new true is = ap (λ (r : Report). r.cells) is
counted_cells old new false is = ap (λ (r : Report). r.cells) is

pub counted_both : (old new : Report) (stored : Bool) → new ≡ counted old stored → new.stored + new.absent ≡ old.stored + old.absent + 1
counted_both old new true is = ap (λ (r : Report). r.stored + r.absent) is ∙ omega arith
counted_both old new false is = ap (λ (r : Report). r.stored + r.absent) is ∙ omega arith

pub fewer : (done left all : List Cell) → done ++ left ≡ all → length done ≤ length all
fewer done left all is = let e : length done + length left ≡ length all = sym (length-append done left) ∙ ap length is in omega (arith, e)

-- a part is sound exactly where there is no first cell with which something is wrong
pub sound_first : (m : Objects) (dataset : Name) (s : Scale) (b : Box3) → Sound m dataset s b ↔ (first_wrong m dataset s b ≡ None)
sound_first m dataset s b = (no_first (judge m dataset s) (cells_in s b), none_at_all (judge m dataset s) (cells_in s b))

first_fault-is : (m : Objects) (dataset : Name) (s : Scale) (b : Box3) → first_fault m dataset s b ≡ first_some (map (faulty m dataset s) (cells_in s b))
unfolding first_fault
first_fault-is m dataset s b = refl

-- and then none is damaged
sound_whole : (m : Objects) (dataset : Name) (s : Scale) (b : Box3) → Sound m dataset s b → first_fault m dataset s b ≡ None
sound_whole m dataset s b sound =
    first_fault-is m dataset s b
    ∙ no_first (fault_in m dataset s) (cells_in s b) (All-weaker (λ cell. judge m dataset s cell ≡ None) (λ cell. fault_in m dataset s cell ≡ None) (λ cell. sound_chunk m dataset s cell) (cells_in s b) sound)

-- each box inside a part that is sound is so too
sound_inside : (m : Objects) (dataset : Name) (s : Scale) (part b : Box3) → Within b part → Sound m dataset s part → Sound m dataset s b
sound_inside m dataset s part b within sound =
    All-weaker (Contains (cells_in s b)) (λ cell. judge m dataset s cell ≡ None)
    (λ cell here.
    let meets : Meets s cell b = All-contains (λ c. Meets s c b) (cells_in s b) cell (cells_in-Meets s b) here in
    All-contains (λ c. judge m dataset s c ≡ None) (cells_in s part) cell sound
    (cells_in-Contains s part cell (All-contains (IsCell s) (cells_in s b) cell (cells_in-IsCell s b) here) (meets.0, meets.1, within meets.0 meets.2)))
    (cells_in s b) (All-contains_itself (cells_in s b))

pub sound_undamaged : (m : Objects) (dataset : Name) (s : Scale) (part : Box3) → Sound m dataset s part → IsUndamaged m dataset s part
sound_undamaged m dataset s part sound = λ b within. sound_whole m dataset s b (sound_inside m dataset s part b within sound)
