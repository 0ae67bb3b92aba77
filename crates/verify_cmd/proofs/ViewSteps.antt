-- All views of a scale: how many cells meet a part, and what is found in them.
use Rattle.std.proofs.Common.{◌≡◌, ◌↔◌, ◌∙◌, ◌≤◌, ℕ, ◌+◌, ◌*◌, ◌^◌, length, Option, Some, None, IfOk, IfSome, Ok, Err, ap, sym, subst, arith, lit<}
use Rattle.std.specs.Prelude.{All, Result}
use Rattle.std.specs.List.{range_with_len}
use Rattle.std.proofs.lemmas.Nat.{mul-le}
use Rattle.std.proofs.lemmas.List.{length-map}
use Rattle.std.proofs.lemmas.List.Elements.{All-map, All-weaker}
use Rattle.std.proofs.lemmas.List.FromFn.{length-range_with_len}
use Rattle.std.proofs.lemmas.List.Sums.{sum_by-cons, sum_by-le}
use Rattle.vol_base.specs.Boxes.{size}
use Rattle.vol_base.specs.Outside.{Objects}
use Rattle.vol_base.specs.declared.boxes.Box3.{Box3}
use Rattle.vol_spec.proofs.Told.{from_told}
use Rattle.vol_spec.specs.Grid.{Inside, cells_in}
use Rattle.vol_spec.specs.Types.{Name}
use Rattle.vol_spec.specs.Verdicts.{Sound}
use Rattle.vol_spec.specs.Views.{view}
use Rattle.vol_spec.specs.declared.scale.Scale.{Scale}
use Rattle.chunk_grid.proofs.CountSteps.{cells_in-voxels}
use Rattle.chunk_grid.proofs.GridSteps.{Inside-small}
use Rattle.size_laws.proofs.FindingLaw.{sound_from, sound_none}
use Rattle.size_laws.specs.Findings.{first_finding}
use Rattle.size_laws.specs.Further.{all_views, further}
use Rattle.size_laws.specs.Sizes.{AllSound}
use Rattle.view_judge.specs.Judging.{FindsViews, absent_in, cells_of, stored_in}
use Rattle.view_judge.specs.declared.fault.ViewFault.{ViewFault}
use Rattle.view_judge.specs.declared.fault.ViewFault.TheVariants as views
use Rattle.view_judge.specs.declared.report.ViewsReport.{ViewsReport}
use Rattle.verify_cmd.specs.Counting.{joined}
use Rattle.verify_cmd.specs.Verifying.{IsReport, first_wrong}
use Rattle.verify_cmd.specs.Parts.{Counts, IsCellReport, Verifies, found_in}
use Rattle.verify_cmd.specs.declared.fault.VerifyFault.{VerifyFault}
use Rattle.verify_cmd.specs.declared.report.Report.{Report}
use Rattle.verify_cmd.proofs.PartSteps.{sound_first}

-- a part inside a scale is inside each of its views
view_inside : (s : Scale) (k : ℕ) (b : Box3) → Inside s b → Inside (view s k) b
unfolding view
view_inside s k b h = record { some = h.some; within = h.within }

further_inside : (s : Scale) (b : Box3) → Inside s b → All (λ v. Inside v b) (further s)
further_inside s b h = All-map (λ v. Inside v b) (view s) (range_with_len 1 (length s.more)) (λ k d l. view_inside s _ b h)

-- how many cells of all views meet a part
pub all_cells : (s : Scale) (b : Box3) → cells_of (all_views s) b ≡ length (cells_in s b) + cells_of (further s) b
all_cells s b = sum_by-cons (λ v. length (cells_in v b)) s (further s)

-- no side of a part is longer than 2^40, so at most 2^120 cells of each view meet it
volume_small : (x y z : ℕ) → x ≤ 2 ^ 40 → y ≤ 2 ^ 40 → z ≤ 2 ^ 40 → x * y * z ≤ 2 ^ 120
volume_small x y z hx hy hz =
    let row : x * y ≤ 2 ^ 40 * 2 ^ 40 = mul-le x y (2 ^ 40) (2 ^ 40) hx hy in
    let all : x * y * z ≤ 2 ^ 40 * 2 ^ 40 * 2 ^ 40 = mul-le (x * y) z (2 ^ 40 * 2 ^ 40) (2 ^ 40) row hz in
    omega (arith, all)

cells_small : (s : Scale) (b : Box3) → Inside s b → length (cells_in s b) ≤ 2 ^ 120
cells_small s b h =
    let on = Inside-small s b h in
    let box = volume_small (size b 0) (size b 1) (size b 2) (on 0 (lit< tt)).sized (on 1 (lit< tt)).sized (on 2 (lit< tt)).sized in
    let few = cells_in-voxels s b h in
    omega (arith, box, few)

further_length : (s : Scale) → length (further s) ≡ length s.more
further_length s = length-map (range_with_len 1 (length s.more)) (view s) ∙ length-range_with_len 1 (length s.more)

further_small : (s : Scale) (b : Box3) → Inside s b → length s.more ≤ 7 → cells_of (further s) b ≤ 7 * 2 ^ 120
further_small s b h seven =
    let each = sum_by-le (λ v. length (cells_in v b)) (2 ^ 120) (further s) (All-weaker (λ v. Inside v b) (λ v. length (cells_in v b) ≤ 2 ^ 120) (λ v inside. cells_small v b inside) (further s) (further_inside s b h)) in
    let count = further_length s in
    omega (arith, each, count, seven)

pub all_small : (s : Scale) (b : Box3) (x y : ℕ) → Inside s b → length s.more ≤ 7 → x ≡ length (cells_in s b) → y ≡ cells_of (further s) b → x + y ≤ 8 * 2 ^ 120
all_small s b x y h seven ex ey =
    let one = cells_small s b h in
    let others = further_small s b h seven in
    omega (arith, one, others, ex, ey)

-- few cells are in all
pub few_cells : (s : Scale) (b : Box3) (x y : ℕ) → x ≡ length (cells_in s b) → y ≡ cells_of (further s) b → cells_of (all_views s) b ≤ 2 ^ 22 → x + y ≤ 2 ^ 22
few_cells s b x y ex ey few = let all = all_cells s b in omega (arith, all, ex, ey, few)

-- all views are sound exactly where nothing is wrong with the first, and there is no finding in the others
pub all_sound : (m : Objects) (dataset : Name) (s : Scale) (b : Box3) → Inside s b → AllSound m dataset s (further s) b ↔ (first_wrong m dataset s b ≡ None) × (first_finding m dataset s (further s) b ≡ None)
all_sound m dataset s b inside = (
  (λ all. ((sound_first m dataset s b).0 all.first_sound, sound_none m dataset s (further s) b inside (further_inside s b inside) all.first_sound all)),
  (λ none. sound_from m dataset s (further s) b inside (further_inside s b inside) ((sound_first m dataset s b).1 none.0) none.1),
)

-- what the judge of the further views finds in those of a scale
pub found_of : (o same : Option Objects) (m : Objects) (dataset d : Name) (s t : Scale) (b : Box3) (r : Result ViewsReport ViewFault) → same ≡ o → o ≡ Some m → d ≡ dataset → t ≡ s
    → IfSome same (λ m. Sound m d t b → FindsViews r m d t b) → Sound m dataset s b → FindsViews r m dataset s b
found_of o same m dataset d s t b r kept told of_dataset of_scale found sound =
    subst (λ x. Sound m x s b → FindsViews r m x s b) of_dataset (subst (λ x. Sound m d x b → FindsViews r m d x b) of_scale (from_told same _ m (kept ∙ told) found)) sound

module _ (m : Objects) (dataset : Name) (s : Scale) (b : Box3) (inside : Inside s b) (first : Report) (cells : IsCellReport m dataset s b first) where
  -- where nothing is wrong, the numbers are the sums,
  pub joined_sound : (others : ViewsReport) (report : Report) → report ≡ joined first others → others.cells ≡ cells_of (further s) b → FindsViews (Ok others) m dataset s b → IsReport m dataset s b report
  joined_sound others report is count found =
      subst (IsReport m dataset s b) (sym is)
      (record {
        sound = sound_from m dataset s (further s) b inside (further_inside s b inside) cells.sound found.agree;
        cells = ap (λ n. n + others.cells) cells.cells ∙ ap (λ n. length (cells_in s b) + n) count ∙ sym (all_cells s b);
        stored = ap (λ n. n + others.stored) cells.stored ∙ ap (λ n. stored_in m dataset s b + n) found.stored ∙ sym (sum_by-cons (λ v. stored_in m dataset v b) s (further s));
        absent = ap (λ n. n + others.absent) cells.absent ∙ ap (λ n. absent_in m dataset s b + n) found.absent ∙ sym (sum_by-cons (λ v. absent_in m dataset v b) s (further s));
      })

  -- else the first finding is told
  by_view : (fault : ViewFault) → FindsViews (Err fault) m dataset s b → Verifies (Err (found_in fault)) m dataset s b
  by_view views.StoreFault found = tt
  by_view (views.First cell fault) found = absurd found
  by_view (views.Damaged view cell fault) found = ((sound_first m dataset s b).0 cells.sound, found)
  by_view (views.Differs view place channel wrong wanted) found = ((sound_first m dataset s b).0 cells.sound, found)

  pub view_refused : (fault : ViewFault) (told : VerifyFault) → told ≡ found_in fault → FindsViews (Err fault) m dataset s b → Verifies (Err told) m dataset s b
  view_refused fault told is found = subst (λ t. Verifies (Err t) m dataset s b) (sym is) (by_view fault found)

-- the numbers of a report
pub counts_cells : (r : Result Report VerifyFault) (n wanted : ℕ) → n ≡ wanted → IfOk r (Counts n) → IfOk r (λ report. report.cells ≡ wanted)
counts_cells (Ok report) n wanted e h = h.cells ∙ e
counts_cells (Err fault) n wanted e h = tt

pub counts_both : (r : Result Report VerifyFault) (n : ℕ) → IfOk r (Counts n) → IfOk r (λ report. report.stored + report.absent ≡ report.cells)
counts_both (Ok report) n h = h.both
counts_both (Err fault) n h = tt
