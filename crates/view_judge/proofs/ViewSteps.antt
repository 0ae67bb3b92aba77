-- The further views, one after the other.
use Rattle.std.proofs.Common.{lit<, ◌≡◌, ◌≤◌, ◌<◌, ℕ, zero, suc, ◌+◌, ◌*◌, ◌^◌, List, [], ◌∷◌, ◌++◌, length, map, take, get_or, Option, Some, None, Ok, Err, IfSome, refl, ap, ◌∙◌, sym, subst, arith}
use Rattle.std.specs.List.{All, range_with_len, sum_by}
use Rattle.std.proofs.lemmas.List.{length-map, map-append, take_all}
use Rattle.std.proofs.lemmas.List.FromFn.{get_or-map-range_with_len, length-map-range_with_len, map-range_with_len_more}
use Rattle.std.proofs.lemmas.List.Sums.{get_or-le-sum_by, sum_by-cons, sum_by-take-le, sum_by_more, sum_by_more_le}
use Rattle.std.proofs.lemmas.Nat.{mul-le}
use borrow.Author.Count.{below_more}
use Rattle.vol_base.specs.declared.boxes.Box3.{Box3}
use Rattle.vol_base.specs.Boxes.{size, voxels}
use Rattle.vol_base.specs.Outside.{Objects}
use Rattle.vol_spec.specs.Grid.{Inside, cells_in}
use Rattle.vol_spec.specs.Types.{Name}
use Rattle.vol_spec.specs.Verdicts.{Sound}
use Rattle.vol_spec.specs.Views.{view}
use Rattle.vol_spec.specs.declared.scale.Scale.{Scale}
use Rattle.vol_spec.specs.declared.sharding.Sharding.{Sharding}
use Rattle.vol_spec.proofs.Told.{from_told, in_told}
use Rattle.chunk_grid.proofs.CountSteps.{cells_in-voxels}
use Rattle.chunk_grid.proofs.GridSteps.{Inside-small}
use Rattle.chunk_grid.proofs.ListingSteps.{cells_in-covered}
use Rattle.voxel_raw.proofs.Parts.{covers_begin}
use Rattle.cutout.specs.Opened.{Opened}
use Rattle.size_laws.specs.Findings.{Finding, first_finding, view_finding}
use Rattle.size_laws.specs.Further.{further}
use Rattle.view_judge.specs.Answers.{AreCells, JudgesView}
use Rattle.view_judge.specs.Further.{HasRoom, IsBeside, StandsBeside, all_opened, opened}
use Rattle.view_judge.specs.Judging.{FindsViews, absent_in, absent_of, cells_of, stored_in, stored_of}
use Rattle.view_judge.specs.Regions.{own_regions}
use Rattle.view_judge.specs.declared.fault.ViewFault.{ViewFault}
use Rattle.view_judge.specs.declared.fault.ViewFault.TheVariants as fault
use Rattle.view_judge.specs.declared.report.ViewsReport.{ViewsReport}
use Rattle.view_judge.proofs.CellSteps.{beside_inside_back}
use Rattle.view_judge.proofs.SumSteps.{first_number, no_number}
use Rattle.view_judge.proofs.WalkSteps.{IsSum}

-- a further view, by its number
pub further_length : (s : Scale) → length (further s) ≡ length s.more
further_length s = length-map-range_with_len (view s) 1 (length s.more)

pub further_at : (s : Scale) (k j : ℕ) (d : Scale) → k < length s.more → 1 + k ≡ j → get_or (further s) k d ≡ view s j
further_at s k j d l e = get_or-map-range_with_len (view s) 1 (length s.more) k j d l e

view_beside : (s : Scale) (j : ℕ) → IsBeside s (view s j)
unfolding view
view_beside s j = record { boxes = refl; widths = refl; channel_counts = refl }

pub beside_at : (s : Scale) (k : ℕ) → k < length s.more → IsBeside s (get_or (further s) k s)
beside_at s k l = subst (IsBeside s) (sym (further_at s k (1 + k) s l refl)) (view_beside s (1 + k))

pub inside_view : (s : Scale) (j : ℕ) (part : Box3) → Inside s part → Inside (view s j) part
inside_view s j part h = beside_inside_back s (view s j) part (view_beside s j) h

pub inside_at : (s : Scale) (k : ℕ) (part : Box3) → k < length s.more → Inside s part → Inside (get_or (further s) k s) part
inside_at s k part l h = beside_inside_back s (get_or (further s) k s) part (beside_at s k l) h

-- a scale with a further view has no shards
pub no_shards : (s : Scale) (k : ℕ) → k < length s.more → s.sharding ≡ None
no_shards s k l = by s.sharding refl
  where
    by : (o : Option Sharding) → s.sharding ≡ o → o ≡ None
    by None is = refl
    by (Some sharding) is = let none = s.alone_ok sharding is in absurd (omega (arith, none, l))

pub view_unsharded : (s : Scale) (k j : ℕ) → k < length s.more → (view s j).sharding ≡ None
unfolding view
view_unsharded s k j l = no_shards s k l

-- views that are opened
opened_map : (dataset : Name) (vs : List Scale) (k : ℕ) (d : Scale) → get_or (map (opened dataset) vs) k (opened dataset d) ≡ opened dataset (get_or vs k d)
opened_map dataset [] k d = refl
opened_map dataset (v ∷ vs) zero d = refl
opened_map dataset (v ∷ vs) (suc k) d = opened_map dataset vs k d

pub opened_at : (dataset : Name) (s : Scale) (list : List Opened) (k : ℕ) (e d : Opened) → list ≡ all_opened dataset s → k < length list → e ≡ get_or list k d → e ≡ opened dataset (get_or (further s) k s)
opened_at dataset s list k e d is l here =
    here ∙ default list k d (opened dataset s) l ∙ ap (λ xs. get_or xs k (opened dataset s)) is ∙ opened_map dataset (further s) k s
  where
    default : (xs : List Opened) (k : ℕ) (d e : Opened) → k < length xs → get_or xs k d ≡ get_or xs k e
    default [] k d e l = absurd (omega arith)
    default (x ∷ xs) zero d e l = refl
    default (x ∷ xs) (suc k) d e l = default xs k d e (omega arith)

pub opened_length : (dataset : Name) (s : Scale) (list : List Opened) → list ≡ all_opened dataset s → length list ≡ length s.more
opened_length dataset s list is = ap length is ∙ length-map (further s) (opened dataset) ∙ further_length s

pub opened_more : (dataset : Name) (s : Scale) (k j : ℕ) → 1 + k ≡ j → map (opened dataset) (map (view s) (range_with_len 1 (k + 1))) ≡ map (opened dataset) (map (view s) (range_with_len 1 k)) ++ opened dataset (view s j) ∷ []
opened_more dataset s k j e =
    ap (map (opened dataset)) (map-range_with_len_more (view s) 1 k j e) ∙ map-append (opened dataset) (map (view s) (range_with_len 1 k)) (view s j ∷ [])

-- how many cells there are
pub few_at : (s : Scale) (part : Box3) (k : ℕ) → k < length s.more → cells_of (further s) part ≤ 2 ^ 22 → length (cells_in (get_or (further s) k s) part) ≤ 2 ^ 22
few_at s part k l few =
    let n = further_length s in
    let one = get_or-le-sum_by (λ v. length (cells_in v part)) (further s) k s (omega (arith, n, l)) in
    omega (arith, one, few)

pub cells_more : (s : Scale) (part : Box3) (k : ℕ) (report more new : ViewsReport) → k < length s.more → IsSum report more new → report.cells ≡ cells_of (take k (further s)) part
    → more.cells ≡ length (cells_in (get_or (further s) k s) part) → new.cells ≡ cells_of (take (k + 1) (further s)) part
cells_more s part k report more new l sum h one =
    let n = further_length s in
    sum.cells ∙ (λ i. h i + one i) ∙ sym (sum_by_more (λ v. length (cells_in v part)) (further s) k s (omega (arith, n, l)))

pub cells_all : (s : Scale) (part : Box3) (k n : ℕ) → length s.more ≤ k → n ≡ cells_of (take k (further s)) part → n ≡ cells_of (further s) part
cells_all s part k n l h = let len = further_length s in h ∙ ap (λ vs. cells_of vs part) (take_all k (further s) (omega (arith, len, l)))

-- the cells so far, and those of one view more, are within all
pub cells_within : (s : Scale) (part : Box3) (k n more : ℕ) → k < length s.more → n ≡ cells_of (take k (further s)) part → more ≡ length (cells_in (get_or (further s) k s) part) → n + more ≤ cells_of (further s) part
cells_within s part k n more l h one =
    let len = further_length s in
    let both = sum_by_more_le (λ v. length (cells_in v part)) (further s) k s (omega (arith, len, l)) in
    omega (arith, both, h, one)

-- views with which nothing is wrong
abbrev pub nth_finding : Objects → Name → Scale → Box3 → ℕ → Option Finding
nth_finding m dataset s part k = view_finding m dataset s (k + 1) (get_or (further s) k s) part

pub record AreViews (m : Objects) (dataset : Name) (s : Scale) (part : Box3) (k : ℕ) (report : ViewsReport) : Type 0 where
  pub agree : (i : ℕ) → i < k → nth_finding m dataset s part i ≡ None
  pub stored : report.stored ≡ stored_of m dataset (take k (further s)) part
  pub absent : report.absent ≡ absent_of m dataset (take k (further s)) part

module _ (m : Objects) (dataset : Name) (s : Scale) (part : Box3) where
  pub views_more : (k : ℕ) (report more new : ViewsReport) → k < length s.more → IsSum report more new → AreViews m dataset s part k report
      → AreCells m dataset s (k + 1) (get_or (further s) k s) part (cells_in (get_or (further s) k s) part) more → AreViews m dataset s part (k + 1) new
  views_more k report more new l sum so_far here =
      let n = further_length s in
      record {
        agree = below_more (λ i. nth_finding m dataset s part i ≡ None) k so_far.agree here.agree;
        stored = sum.stored ∙ (λ i. so_far.stored i + here.stored i) ∙ sym (sum_by_more (λ v. stored_in m dataset v part) (further s) k s (omega (arith, n, l)));
        absent = sum.absent ∙ (λ i. so_far.absent i + here.absent i) ∙ sym (sum_by_more (λ v. absent_in m dataset v part) (further s) k s (omega (arith, n, l)));
      }

  pub views_all : (k : ℕ) (report : ViewsReport) → length s.more ≤ k → AreViews m dataset s part k report → FindsViews (Ok report) m dataset s part
  views_all k report l h =
      let n = further_length s in
      let all : take k (further s) ≡ further s = take_all k (further s) (omega (arith, n, l)) in
      record {
        agree = no_number (nth_finding m dataset s part) (length (further s)) (λ i j. h.agree i (omega (arith, n, l, j)));
        stored = h.stored ∙ ap (λ vs. stored_of m dataset vs part) all;
        absent = h.absent ∙ ap (λ vs. absent_of m dataset vs part) all;
      }

  found_first : (k : ℕ) (finding : Finding) (report : ViewsReport) → k < length s.more → AreViews m dataset s part k report → nth_finding m dataset s part k ≡ Some finding → first_finding m dataset s (further s) part ≡ Some finding
  found_first k finding report l h e = let n = further_length s in first_number (nth_finding m dataset s part) (length (further s)) k finding (omega (arith, n, l)) h.agree e

  pub view_stops : (k : ℕ) (report : ViewsReport) (why : ViewFault) → k < length s.more → AreViews m dataset s part k report
      → JudgesView (Err why) m dataset s (k + 1) (get_or (further s) k s) part (cells_in (get_or (further s) k s) part) → Sound m dataset s part → FindsViews (Err why) m dataset s part
  view_stops k report (fault.Damaged j at found) l h here sound = found_first k _ report l h here
  view_stops k report (fault.Differs j place c u w) l h here sound = found_first k _ report l h here
  view_stops k report (fault.First at found) l h here sound = here sound
  view_stops k report fault.StoreFault l h here sound = tt

-- what is asked for
module _ (o : Option Objects) (s : Scale) (f : Objects → Scale → ℕ) where
  pub asked_none : (begin : ℕ) → IfSome o (λ m. begin ≤ begin + sum_by (f m) (take 0 (further s)))
  asked_none begin = in_told o _ (λ m told. omega arith)

  pub asked_more : (same : Option Objects) (k begin was now : ℕ) → k < length s.more → same ≡ o → IfSome o (λ m. was ≤ begin + sum_by (f m) (take k (further s)))
      → IfSome same (λ m. now ≤ was + f m (get_or (further s) k s)) → IfSome o (λ m. now ≤ begin + sum_by (f m) (take (k + 1) (further s)))
  asked_more same k begin was now l e h one =
      in_told o _ (λ m told.
      let n = further_length s in
      let so_far = from_told o _ m told h in
      let more = from_told same _ m (e ∙ told) one in
      let sum = sum_by_more (f m) (further s) k s (omega (arith, n, l)) in
      omega (arith, so_far, more, sum))

  pub asked_all : (k begin now : ℕ) → IfSome o (λ m. now ≤ begin + sum_by (f m) (take k (further s))) → IfSome o (λ m. now ≤ begin + sum_by (f m) (further s))
  asked_all k begin now h =
      in_told o _ (λ m told.
      let so_far = from_told o _ m told h in
      let front = sum_by-take-le (f m) (further s) k in
      omega (arith, so_far, front))

  pub asked_next : (same : Option Objects) (k begin was now : ℕ) → k < length s.more → same ≡ o → IfSome o (λ m. was ≤ begin + sum_by (f m) (take k (further s)))
      → IfSome same (λ m. now ≤ was + f m (get_or (further s) k s)) → IfSome o (λ m. now ≤ begin + sum_by (f m) (further s))
  asked_next same k begin was now l e h one =
      in_told o _ (λ m told.
      let n = further_length s in
      let so_far = from_told o _ m told h in
      let more = from_told same _ m (e ∙ told) one in
      let next = sum_by_more_le (f m) (further s) k s (omega (arith, n, l)) in
      omega (arith, so_far, more, next))

-- a view has at most 2^120 cells in a part
pub cells_most : (s : Scale) (b : Box3) → Inside s b → length (cells_in s b) ≤ 2 ^ 120
cells_most s b h =
    let sized : (axis : ℕ) → axis < 3 → size b axis ≤ 2 ^ 40 = λ axis l. (Inside-small s b h axis l).sized in
    let all : voxels b ≤ 2 ^ 40 * 2 ^ 40 * 2 ^ 40 = mul-le _ _ _ _ (mul-le _ _ _ _ (sized 0 (lit< tt)) (sized 1 (lit< tt))) (sized 2 (lit< tt)) in
    let few = cells_in-voxels s b h in
    omega (arith, all, few)

-- what a view's cells are counted with
pub record IsCounted (s : Scale) (part : Box3) (k new : ℕ) : Type 0 where
  pub counted : new ≡ cells_of (take (k + 1) (further s)) part
  pub small : new ≤ (k + 1) * 2 ^ 121

pub counted_more : (s v : Scale) (part : Box3) (k was here : ℕ) → k < length s.more → Inside s part → v ≡ view s (k + 1) → was ≡ cells_of (take k (further s)) part → was ≤ k * 2 ^ 121
    → here ≡ length (cells_in v part) → IsCounted s part k (was + here)
counted_more s v part k was here l inside is h small e =
    let n = further_length s in
    let own : v ≡ get_or (further s) k s = is ∙ sym (further_at s k (k + 1) s l (omega arith)) in
    let sum = sum_by_more (λ w. length (cells_in w part)) (further s) k s (omega (arith, n, l)) in
    let most = cells_most v part (subst (λ w. Inside w part) (sym is) (inside_view s (k + 1) part inside)) in
    record { counted = (λ i. h i + (e ∙ ap (λ w. length (cells_in w part)) own) i) ∙ sym sum; small = omega (arith, small, e, most) }

-- each view has a cell in a part, so there are no more views than cells
pub some_cell : (v : Scale) (part : Box3) → Inside v part → 1 ≤ length (cells_in v part)
some_cell v part inside =
    let listed = cells_in-covered v part part.begin inside (covers_begin part inside.some) in
    let below = listed.1 in
    omega (arith, below)

each_some : (vs : List Scale) (d : Scale) (part : Box3) → ((k : ℕ) → k < length vs → Inside (get_or vs k d) part) → length vs ≤ cells_of vs part
each_some [] d part h = omega arith
each_some (v ∷ vs) d part h =
    let one = some_cell v part (h zero (omega arith)) in
    let rest = each_some vs d part (λ k l. h (suc k) (omega (arith, l))) in
    let sum = sum_by-cons (λ w. length (cells_in w part)) v vs in
    omega (arith, one, rest, sum)

pub views_few : (s : Scale) (part : Box3) → Inside s part → cells_of (further s) part ≤ 2 ^ 22 → length s.more ≤ 2 ^ 22
views_few s part inside few =
    let n = further_length s in
    let all = each_some (further s) s part (λ k l. inside_at s k part (omega (arith, l, n)) inside) in
    omega (arith, all, few, n)

-- the next view of a list of them, beside the first one
module _ (was first : Opened) (list : List Opened) (k : ℕ) (e : Opened) (part : Box3) (same : first ≡ was) (is : list ≡ all_opened was.dataset was.scale) (l : k < length list) where
  abbrev next : Opened
  next = get_or list k e

  pub next_below : k < length was.scale.more
  next_below = let n = opened_length was.dataset was.scale list is in omega (arith, l, n)

  pub next_is : next ≡ opened was.dataset (get_or (further was.scale) k was.scale)
  next_is = opened_at was.dataset was.scale list k next e is l refl

  pub next_beside : IsBeside first.scale next.scale
  next_beside = subst (λ (r : Opened). IsBeside r.scale next.scale) (sym same) (subst (λ (r : Opened). IsBeside was.scale r.scale) (sym next_is) (beside_at was.scale k next_below))

  next_dataset : next.dataset ≡ first.dataset
  next_dataset = ap (λ (r : Opened). r.dataset) next_is ∙ ap (λ (r : Opened). r.dataset) (sym same)

  pub next_inside : Inside was.scale part → Inside next.scale part
  next_inside h = subst (λ (r : Opened). Inside r.scale part) (sym next_is) (inside_at was.scale k part next_below h)

  pub next_stands : Inside was.scale part → StandsBeside first next part
  next_stands h = record { beside = next_beside; same_dataset = next_dataset; inside = next_inside h }

  pub next_few : cells_of (further was.scale) part ≤ 2 ^ 22 → length (cells_in next.scale part) ≤ 2 ^ 22
  next_few h = subst (λ (r : Opened). length (cells_in r.scale part) ≤ 2 ^ 22) (sym next_is) (few_at was.scale part k next_below h)

  pub next_cells : (n : ℕ) → n ≡ length (cells_in next.scale part) → n ≡ length (cells_in (get_or (further was.scale) k was.scale) part)
  next_cells n h = h ∙ ap (λ (r : Opened). length (cells_in r.scale part)) next_is

  pub next_room : (len : ℕ) → All (λ v. HasRoom v len) (further was.scale) → HasRoom next.scale len
  next_room len h = let n = further_length was.scale in subst (λ (r : Opened). HasRoom r.scale len) (sym next_is) (h k was.scale (let below = next_below in omega (arith, n, below)))

  pub next_own : (len : ℕ) → All (λ v. HasRoom (own_regions was.scale v) len) (further was.scale) → HasRoom (own_regions first.scale next.scale) len
  next_own len h =
      let n = further_length was.scale in
      subst (λ (r : Opened). HasRoom (own_regions r.scale next.scale) len) (sym same) (subst (λ (r : Opened). HasRoom (own_regions was.scale r.scale) len) (sym next_is) (h k was.scale (let below = next_below in omega (arith, n, below))))
