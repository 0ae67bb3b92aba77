-- The regions of a scale: nothing is wrong with any where nothing is wrong with a cell, and the other way round.
use Rattle.std.proofs.Common.{◌≡◌, ◌≤◌, ◌<◌, ◌*◌, ◌^◌, ℕ, Bool, List, [], ◌∷◌, length, get_or, map, Option, Some, None, Ok, Err, refl, ap, ◌∙◌, sym, subst, lit<}
use Rattle.std.specs.Prelude.{All, cond, filter, not}
use Rattle.std.specs.Option.{option_map}
use Rattle.std.proofs.lemmas.List.Elements.{All-contains, All-head, All-tail, All-weaker}
use Rattle.vol_base.specs.declared.boxes.Box3.{Box3}
use Rattle.vol_base.specs.Boxes.{Covers, IsSome, Within, at, num, on_axes, size, voxels}
use Rattle.vol_base.specs.declared.faults.Fault.{Fault}
use Rattle.vol_base.specs.Outside.{Objects}
use Rattle.vol_spec.specs.BoxValues.{channel_of, first_some, position_of}
use Rattle.vol_spec.specs.Chunks.{chunk_in, fault_in}
use Rattle.vol_spec.specs.Grid.{Inside, IsCell, Meets, cell_at, cell_box, cells_in}
use Rattle.vol_spec.specs.Limits.{first_bytes}
use Rattle.vol_spec.specs.Raw.{raw_len}
use Rattle.vol_spec.specs.Types.{Cell, Name, Position}
use Rattle.vol_spec.specs.declared.scale.Scale.{Scale}
use Rattle.vol_spec.proofs.CutSteps.{in_channels, position_covered}
use Rattle.vol_spec.specs.Verdicts.{Sound}
use Rattle.vol_spec.proofs.RawSteps.{channel_of-num, num-lt, position_of-num}
use Rattle.chunk_grid.proofs.GridSteps.{cell_at-Covers}
use Rattle.chunk_grid.proofs.ListingSteps.{cells_in-Contains, cells_in-IsCell, cells_in-Meets, cells_in-covered}
use Rattle.copy_laws.proofs.CopyValues.{none_in}
use Rattle.size_laws.proofs.FindingLaw.{none_each, none_first}
use Rattle.size_laws.specs.Findings.{common, difference_in, differs_at, finding_in}
use Rattle.size_laws.specs.Findings.Finding.{Damaged}
use Rattle.view_judge.specs.Answers.{Agree, AreCells, AreNamed, HasStored, JudgesBox, is_named}
use Rattle.view_judge.specs.Further.{IsBeside}
use Rattle.view_judge.specs.Judging.{FindsViews, is_absent, is_stored}
use Rattle.view_judge.specs.Regions.{own_regions, regions}
use Rattle.view_judge.specs.declared.fault.ViewFault.{ViewFault}
use Rattle.view_judge.specs.declared.fault.ViewFault.TheVariants as fault
use Rattle.view_judge.specs.declared.report.ViewsReport.{ViewsReport}
use Rattle.view_judge.proofs.CellSteps.{behind_fault, beside_inside, beside_inside_back, has_stored, in_part, is_short, own_box, shared_inside, unsound}
use Rattle.view_judge.proofs.SharedSteps.{common_covers, common_right, common_some}
use Rattle.view_judge.proofs.SumSteps.{first_two, no_number, none_at}

-- the regions of a scale have its box
pub regions_beside : (s : Scale) → IsBeside s (regions s)
unfolding regions
regions_beside s = record { boxes = refl; widths = refl; channel_counts = refl }

pub own_beside : (s v : Scale) → IsBeside v (own_regions s v)
unfolding own_regions
own_beside s v = record { boxes = refl; widths = refl; channel_counts = refl }

-- two scales beside another one are beside one another
pub beside_each : (s v w : Scale) → IsBeside s v → IsBeside s w → IsBeside v w
beside_each s v w h k = record { boxes = k.boxes ∙ sym h.boxes; widths = k.widths ∙ sym h.widths; channel_counts = k.channel_counts ∙ sym h.channel_counts }

-- the box of a region, as far as it lies in a part: it lies in the view, and its values have room
pub record IsShared (v grid : Scale) (b : Box3) : Type 0 where
  pub inside : Inside v b
  pub room : raw_len b v.channels v.width ≤ first_bytes grid.width grid.channels grid.size grid.chunk
  pub few : raw_len b v.channels v.width ≤ 2 ^ 30

pub is_shared : (v grid : Scale) (part : Box3) (region : Cell) (b : Box3) → IsBeside v grid → Inside v part → IsCell grid region → Meets grid region part → b ≡ common (cell_box grid region) part → IsShared v grid b
is_shared v grid part region b beside inside is meets e =
    let short = is_short grid part region b meets e in
    let same : raw_len b grid.channels grid.width ≡ raw_len b v.channels v.width = λ i. raw_len b (beside.channel_counts i) (beside.widths i) in
    record {
      inside = beside_inside v grid b beside (subst (Inside grid) (sym e) (shared_inside grid part region (beside_inside_back v grid part beside inside) is meets));
      room = subst (λ n. n ≤ first_bytes grid.width grid.channels grid.size grid.chunk) same short.room;
      few = subst (λ n. n ≤ 2 ^ 30) same short.few;
    }

-- the same of the view as it is held,
pub held_shared : (v held grid : Scale) (part : Box3) (region : Cell) (b : Box3) → v ≡ held → IsBeside v grid → Inside v part → IsCell grid region → Meets grid region part → b ≡ common (cell_box grid region) part → IsShared held grid b
held_shared v held grid part region b same beside inside is meets e = subst (λ s. IsShared s grid b) same (is_shared v grid part region b beside inside is meets e)

-- and of a cell of its own
pub own_shared : (v held : Scale) (part : Box3) (cell : Cell) (b : Box3) → v ≡ held → Inside v part → IsCell v cell → Meets v cell part → b ≡ common (cell_box held cell) part → IsShared held v b
own_shared v held part cell b same inside is meets e =
    let own = own_box v held part cell b same e in
    let short = is_short v part cell b meets own in
    subst (λ s. IsShared s v b) same (record { inside = subst (Inside v) (sym own) (shared_inside v part cell inside is meets); room = short.room; few = short.few })

-- tests that are the same on each element of a list keep the same ones
filter_same : {X : Type 0} (p q : X → Bool) (xs : List X) → All (λ x. p x ≡ q x) xs → filter p xs ≡ filter q xs
filter_same p q [] h = refl
filter_same p q (x ∷ xs) h =
    let rest : filter p xs ≡ filter q xs = filter_same p q xs (All-tail (λ x. p x ≡ q x) x xs h) in
    λ i. cond (All-head (λ x. p x ≡ q x) x xs h i) (x ∷ rest i) (rest i)

-- where no value differs in a cell of a grid, none does in a box of the part
module _ (m : Objects) (dataset : Name) (s : Scale) (view : ℕ) (v grid : Scale) (part : Box3) (inside : Inside grid part)
    (each : All (λ cell. difference_in m dataset s view v (common (cell_box grid cell) part) ≡ None) (cells_in grid part)) where
  same_at : (p : Position) (c : ℕ) → Covers part p → c < s.channels → differs_at m dataset s view v (on_axes (at p)) c ≡ None
  same_at p c covered l =
      let b : Box3 = common (cell_box grid (cell_at grid p)) part in
      let here : Covers b p = common_covers (cell_box grid (cell_at grid p)) part p (cell_at-Covers grid p (inside.within p covered)) covered in
      let none : difference_in m dataset s view v b ≡ None =
      All-contains (λ cell. difference_in m dataset s view v (common (cell_box grid cell) part) ≡ None) (cells_in grid part) (cell_at grid p) each (cells_in-covered grid part p inside covered) in
      (λ i. differs_at m dataset s view v (sym (position_of-num b p c here) i) (sym (channel_of-num b p c here) i))
      ∙ none_at (λ n. differs_at m dataset s view v (position_of b n) (channel_of b n)) (voxels b * s.channels) (num b p c) none (num-lt b p c here s.channels l)

  pub none_within : (b : Box3) → IsSome b → Within b part → difference_in m dataset s view v b ≡ None
  none_within b some within =
      no_number (λ n. differs_at m dataset s view v (position_of b n) (channel_of b n)) (voxels b * s.channels)
      (λ n l. same_at (position_of b n) (channel_of b n) (within (position_of b n) (position_covered b n some))
      (in_channels (size b 0) (size b 1) (size b 2) s.channels n (some 0 (lit< tt)) (some 1 (lit< tt)) (some 2 (lit< tt)) l))

-- where all regions agree, nothing is wrong with a cell
module _ (m : Objects) (dataset : Name) (s : Scale) (view : ℕ) (v grid : Scale) (part : Box3) (beside : IsBeside v grid) (inside : Inside v part) (agree : Agree m dataset s view v grid part (cells_in grid part)) where
  inside_grid : Inside grid part
  inside_grid = beside_inside_back v grid part beside inside

  abbrev AgreesIn : Cell → Type 0
  AgreesIn region = JudgesBox (Ok tt) m dataset s view v (common (cell_box grid region) part)

  faultless : (cell : Cell) → IsCell v cell → Meets v cell part → fault_in m dataset v cell ≡ None
  faultless cell is (p, own, covered) =
      let b : Box3 = common (cell_box grid (cell_at grid p)) part in
      let here : Covers b p = common_covers (cell_box grid (cell_at grid p)) part p (cell_at-Covers grid p (inside_grid.within p covered)) covered in
      let agrees : AgreesIn (cell_at grid p) = All-contains AgreesIn (cells_in grid part) (cell_at grid p) agree (cells_in-covered grid part p inside_grid covered) in
      none_in m dataset v b cell agrees.0 (cells_in-Contains v b cell is (p, own, here))

  cell_none : (cell : Cell) → IsCell v cell → Meets v cell part → finding_in m dataset s view v part cell ≡ None
  cell_none cell is meets =
      let each = All-weaker AgreesIn (λ region. difference_in m dataset s view v (common (cell_box grid region) part) ≡ None) (λ region h. h.1) (cells_in grid part) agree in
      behind_fault v part cell inside is meets m dataset s view None (faultless cell is meets)
      (none_within m dataset s view v grid part inside_grid each (common (cell_box v cell) part) (common_some (cell_box v cell) part meets.0 meets.1 meets.2) (common_right (cell_box v cell) part))

  -- and an object of its own is its chunk
  has_named : v.sharding ≡ None → (cell : Cell) → IsCell v cell → Meets v cell part → HasStored (is_named m dataset v cell) (chunk_in m dataset v cell)
  has_named alone cell is meets = has_stored m dataset v cell (is_named m dataset v cell) alone refl (faultless cell is meets)

  pub agreeing : v.sharding ≡ None → (report : ViewsReport) → AreNamed m dataset v (cells_in v part) report → AreCells m dataset s view v part (cells_in v part) report
  agreeing alone report named =
      let are = cells_in-IsCell v part in
      let meet = cells_in-Meets v part in
      record {
        agree = none_first (finding_in m dataset s view v part) (cells_in v part) (λ k d l. cell_none (get_or (cells_in v part) k d) (are k d l) (meet k d l));
        stored =
            named.stored
            ∙ ap length (filter_same (is_named m dataset v) (λ cell. is_stored (chunk_in m dataset v cell)) (cells_in v part)
            (λ k d l. sym (has_named alone (get_or (cells_in v part) k d) (are k d l) (meet k d l)).stored_is));
        absent =
            named.absent
            ∙ ap length (filter_same (λ cell. not (is_named m dataset v cell)) (λ cell. is_absent (chunk_in m dataset v cell)) (cells_in v part)
            (λ k d l. sym (has_named alone (get_or (cells_in v part) k d) (are k d l) (meet k d l)).absent_is));
      }

-- where nothing is wrong with a cell, nothing is wrong with a box of the part
undamaged : (view : ℕ) (cell : Cell) (o : Option Fault) → option_map (Damaged view cell) o ≡ None → o ≡ None
undamaged view cell None e = refl
undamaged view cell (Some found) e = absurd (cc e)

module _ (m : Objects) (dataset : Name) (s : Scale) (view : ℕ) (v : Scale) (part : Box3) (inside : Inside v part) (none : first_some (map (finding_in m dataset s view v part) (cells_in v part)) ≡ None) where
  each_none : All (λ cell. finding_in m dataset s view v part cell ≡ None) (cells_in v part)
  each_none = none_each (finding_in m dataset s view v part) (cells_in v part) none

  two_none : (cell : Cell) → finding_in m dataset s view v part cell ≡ None → (fault_in m dataset v cell ≡ None) × (difference_in m dataset s view v (common (cell_box v cell) part) ≡ None)
  two_none cell e =
      let two = first_two (option_map (Damaged view cell) (fault_in m dataset v cell)) (difference_in m dataset s view v (common (cell_box v cell) part) ∷ []) e in
      (undamaged view cell (fault_in m dataset v cell) two.0, (first_two (difference_in m dataset s view v (common (cell_box v cell) part)) [] two.1).0)

  each_same : All (λ cell. difference_in m dataset s view v (common (cell_box v cell) part) ≡ None) (cells_in v part)
  each_same = All-weaker (λ cell. finding_in m dataset s view v part cell ≡ None) (λ cell. difference_in m dataset s view v (common (cell_box v cell) part) ≡ None) (λ cell e. (two_none cell e).1) (cells_in v part) each_none

  pub not_here : (b : Box3) → IsSome b → Within b part → (why : ViewFault) → JudgesBox (Err why) m dataset s view v b → Sound m dataset s part → FindsViews (Err why) m dataset s part
  not_here b some within (fault.Damaged k at found) h sound =
      let first = in_part m dataset v b part at found within h.1 in
      let own = (two_none at (All-contains (λ cell. finding_in m dataset s view v part cell ≡ None) (cells_in v part) at each_none first.listed)).0 in
      absurd (cc (own, first.faulty))
  not_here b some within (fault.Differs k place c found wanted) h sound =
      let same = none_within m dataset s view v v part inside each_same b some within in
      absurd (cc (same, h.1))
  not_here b some within (fault.First at found) h sound = unsound m dataset s b part at found within h sound
  not_here b some within fault.StoreFault h sound = tt
