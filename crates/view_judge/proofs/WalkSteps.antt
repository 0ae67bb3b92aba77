-- The cells of a view, one after the other.
use Rattle.std.proofs.Common.{◌≡◌, ◌≤◌, ℕ, ◌+◌, Bool, true, false, List, [], ◌∷◌, ◌++◌, length, Option, Some, Ok, Err, IfSome, if◌then◌else◌, refl, ap, ◌∙◌, sym, subst, arith}
use Rattle.std.specs.Prelude.{filter, not}
use Rattle.std.specs.List.{sum_by}
use Rattle.std.proofs.lemmas.List.{length-append}
use Rattle.std.proofs.lemmas.List.Elements.{filter-append}
use Rattle.std.proofs.lemmas.List.Sums.{sum_by_push}
use Rattle.vol_base.specs.declared.boxes.Box3.{Box3}
use Rattle.vol_base.specs.Outside.{Objects}
use Rattle.vol_spec.specs.Chunks.{chunk_in}
use Rattle.vol_spec.specs.Grid.{cells_in}
use Rattle.vol_spec.specs.Types.{Cell, Name}
use Rattle.vol_spec.specs.declared.scale.Scale.{Scale}
use Rattle.vol_spec.proofs.Told.{from_told, in_told}
use Rattle.cutout.specs.Opened.{Opened}
use Rattle.size_laws.specs.Findings.{finding_in}
use Rattle.view_judge.specs.Answers.{AreCells, AreNamed, JudgesCell, JudgesView, is_named}
use Rattle.view_judge.specs.Judging.{is_absent, is_stored}
use Rattle.view_judge.specs.declared.fault.ViewFault.{ViewFault}
use Rattle.view_judge.specs.declared.fault.ViewFault.TheVariants as fault
use Rattle.view_judge.specs.declared.report.ViewsReport.{ViewsReport}
use Rattle.view_judge.proofs.SumSteps.{none_more, some_next, sum_front, sum_next}

-- one element more that passes a test, or doesn't
count_one : {A : Type 0} (p : A → Bool) (xs : List A) (x : A) (b : Bool) → p x ≡ b → length (filter p (xs ++ x ∷ [])) ≡ length (filter p xs) + (if b then 1 else 0)
count_one p xs x b h =
    let both : length (filter p (xs ++ x ∷ [])) ≡ length (filter p xs) + length (filter p (x ∷ [])) = ap length (filter-append p xs (x ∷ [])) ∙ length-append (filter p xs) (filter p (x ∷ [])) in
    both ∙ ap (λ n. length (filter p xs) + n) (one b h)
  where
    one : (b : Bool) → p x ≡ b → length (filter p (x ∷ [])) ≡ (if b then 1 else 0)
    one true h = rw h refl
    one false h = rw h refl

-- a report with the cells of another
pub record IsSum (report more new : ViewsReport) : Type 0 where
  pub cells : new.cells ≡ report.cells + more.cells
  pub stored : new.stored ≡ report.stored + more.stored
  pub absent : new.absent ≡ report.absent + more.absent

-- one of one cell
pub record IsOne (is : Bool) (report : ViewsReport) : Type 0 where
  pub cells : report.cells ≡ 1
  pub stored : report.stored ≡ (if is then 1 else 0)
  pub absent : report.absent ≡ (if is then 0 else 1)

turned : (b : Bool) → ◌≡◌ {A = ℕ} (if not b then 1 else 0) (if b then 0 else 1)
turned true = refl
turned false = refl

one_together : (b : Bool) → ◌≡◌ {A = ℕ} ((if b then 1 else 0) + (if b then 0 else 1)) 1
one_together true = refl
one_together false = refl

pub both_more : (report more new : ViewsReport) (is : Bool) → IsSum report more new → IsOne is more → report.stored + report.absent ≡ report.cells → new.stored + new.absent ≡ new.cells
both_more report more new is sum one both =
    let a = sum.cells in
    let b = sum.stored in
    let c = sum.absent in
    let d = one.cells in
    let e = one.stored in
    let f = one.absent in
    let g = one_together is in
    omega (arith, a, b, c, d, e, f, g, both)

pub both_add : (report more new : ViewsReport) → IsSum report more new → report.stored + report.absent ≡ report.cells → more.stored + more.absent ≡ more.cells → new.stored + new.absent ≡ new.cells
both_add report more new sum h k =
    let a = sum.cells in
    let b = sum.stored in
    let c = sum.absent in
    omega (arith, a, b, c, h, k)

pub named_more : (m : Objects) (dataset : Name) (v : Scale) (done : List Cell) (cell : Cell) (report more new : ViewsReport) (is : Bool) → IsSum report more new → IsOne is more
    → AreNamed m dataset v done report → is ≡ is_named m dataset v cell → AreNamed m dataset v (done ++ cell ∷ []) new
named_more m dataset v done cell report more new is sum one so_far e = record {
  stored = sum.stored ∙ (λ i. so_far.stored i + one.stored i) ∙ sym (count_one (is_named m dataset v) done cell is (sym e));
  absent = sum.absent ∙ (λ i. so_far.absent i + (one.absent ∙ sym (turned is)) i) ∙ sym (count_one (λ c. not (is_named m dataset v c)) done cell (not is) (ap not (sym e)));
}

module _ (m : Objects) (dataset : Name) (s : Scale) (view : ℕ) (v : Scale) (part : Box3) where
  abbrev stored_one : Cell → Bool
  stored_one cell = is_stored (chunk_in m dataset v cell)

  abbrev absent_one : Cell → Bool
  absent_one cell = is_absent (chunk_in m dataset v cell)

  pub cells_more : (done : List Cell) (cell : Cell) (report more new : ViewsReport) (is : Bool) → IsSum report more new → IsOne is more
      → AreCells m dataset s view v part done report → JudgesCell (Ok is) m dataset s view v part cell → AreCells m dataset s view v part (done ++ cell ∷ []) new
  cells_more done cell report more new is sum one so_far here = record {
    agree = none_more (finding_in m dataset s view v part) done cell so_far.agree here.0;
    stored = sum.stored ∙ (λ i. so_far.stored i + one.stored i) ∙ sym (count_one stored_one done cell is here.1.stored_is);
    absent = sum.absent ∙ (λ i. so_far.absent i + (one.absent ∙ sym (turned is)) i) ∙ sym (count_one absent_one done cell (not is) here.1.absent_is);
  }

  pub cell_stops : (done left rest : List Cell) (cell : Cell) (report : ViewsReport) (why : ViewFault) → left ≡ cell ∷ rest → done ++ left ≡ cells_in v part → AreCells m dataset s view v part done report
      → JudgesCell (Err why) m dataset s view v part cell → JudgesView (Err why) m dataset s view v part (cells_in v part)
  cell_stops done left rest cell report (fault.Damaged k at found) e is so_far h = some_next (finding_in m dataset s view v part) done left rest (cells_in v part) cell _ e is so_far.agree h
  cell_stops done left rest cell report (fault.Differs k place c u w) e is so_far h = some_next (finding_in m dataset s view v part) done left rest (cells_in v part) cell _ e is so_far.agree h
  cell_stops done left rest cell report (fault.First at found) e is so_far h = h
  cell_stops done left rest cell report fault.StoreFault e is so_far h = tt

-- what is asked for
module _ {X : Type 0} (o : Option Objects) (f : Objects → X → ℕ) where
  pub asked_none : (begin : ℕ) → IfSome o (λ m. begin ≤ begin + sum_by (f m) [])
  asked_none begin = in_told o _ (λ m told. omega arith)

  pub asked_more : (same : Option Objects) (done : List X) (x : X) (begin was now : ℕ) → same ≡ o → IfSome o (λ m. was ≤ begin + sum_by (f m) done)
      → IfSome same (λ m. now ≤ was + f m x) → IfSome o (λ m. now ≤ begin + sum_by (f m) (done ++ x ∷ []))
  asked_more same done x begin was now e h one =
      in_told o _ (λ m told.
      let so_far = from_told o _ m told h in
      let more = from_told same _ m (e ∙ told) one in
      let sum = sum_by_push (f m) done x in
      omega (arith, so_far, more, sum))

  pub asked_all : (done rest all : List X) (begin now : ℕ) → done ++ rest ≡ all → IfSome o (λ m. now ≤ begin + sum_by (f m) done) → IfSome o (λ m. now ≤ begin + sum_by (f m) all)
  asked_all done rest all begin now is h =
      in_told o _ (λ m told.
      let so_far = from_told o _ m told h in
      let front = sum_front (f m) done rest all is in
      omega (arith, so_far, front))

  pub asked_next : (same : Option Objects) (done left rest all : List X) (x : X) (begin was now : ℕ) → same ≡ o → left ≡ x ∷ rest → done ++ left ≡ all
      → IfSome o (λ m. was ≤ begin + sum_by (f m) done) → IfSome same (λ m. now ≤ was + f m x) → IfSome o (λ m. now ≤ begin + sum_by (f m) all)
  asked_next same done left rest all x begin was now e first is h one =
      in_told o _ (λ m told.
      let so_far = from_told o _ m told h in
      let more = from_told same _ m (e ∙ told) one in
      let next = sum_next (f m) done left rest all x first is in
      omega (arith, so_far, more, next))

-- what is said of what is as before
pub moved : (P : Objects → Opened → Opened → Type 0) (o same : Option Objects) (first : Opened) (self : Opened) (was_first : Opened) (was_self : Opened) → same ≡ o → first ≡ was_first → self ≡ was_self → IfSome same (λ m. P m first self)
    → (m : Objects) → o ≡ Some m → P m was_first was_self
moved P o same first self was_first was_self kept ef es h m told = subst (λ x. P m x was_self) ef (subst (λ y. P m first y) es (from_told same _ m (kept ∙ told) h))

pub moved_told : (P : Objects → Opened → Opened → Type 0) (o same : Option Objects) (first : Opened) (self : Opened) (was_first : Opened) (was_self : Opened) → same ≡ o → first ≡ was_first → self ≡ was_self → IfSome same (λ m. P m first self)
    → IfSome o (λ m. P m was_first was_self)
moved_told P o same first self was_first was_self kept ef es h = in_told o _ (λ m told. moved P o same first self was_first was_self kept ef es h m told)
