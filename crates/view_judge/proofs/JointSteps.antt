-- All further views of a scale, region by region.
use Rattle.std.proofs.Common.{◌≡◌, ◌≤◌, ◌<◌, ◌+◌, ◌-◌, ◌^◌, ℕ, zero, suc, List, [], ◌∷◌, ◌++◌, IfSome, length, length-take, get_or, min, drop, take, Option, Result, Some, Ok, Err, refl, ap, ◌∙◌, sym, subst, arith}
use Rattle.std.specs.Prelude.{⊤}
use Rattle.std.specs.List.{length_refill, refill, sum_by}
use Rattle.std.proofs.lemmas.List.Elements.{All-weaker}
use Rattle.std.proofs.lemmas.List.{append-nil, drop_all, take_all}
use Rattle.std.proofs.lemmas.List.Sums.{sum_by-cons, sum_by_more}
use Rattle.vol_base.specs.declared.boxes.Box3.{Box3}
use Rattle.vol_base.specs.Outside.{Objects}
use Rattle.vol_spec.specs.Costs.{cost}
use Rattle.vol_spec.specs.Grid.{Inside, IsCell, Meets, cell_box, cells_in}
use Rattle.vol_spec.specs.Raw.{raw_len}
use Rattle.vol_spec.specs.Types.{Bytes, Cell, Name}
use Rattle.vol_spec.specs.Verdicts.{Sound}
use Rattle.vol_spec.specs.declared.scale.Scale.{Scale}
use Rattle.vol_spec.proofs.Told.{from_told, in_told}
use Rattle.chunk_pool.specs.Frames.{Filled}
use Rattle.cutout.specs.Opened.{Opened}
use Rattle.cutout.specs.Reading.{HasCut}
use Rattle.cutout.specs.declared.fault.CutFault.{CutFault}
use Rattle.size_laws.specs.Findings.{common}
use Rattle.size_laws.specs.Further.{further}
use Rattle.view_judge.specs.Answers.{Agree, AllAgree, AreAllNamed, AreCells, AreNamed, ComparesBox, IsWrong, JudgesBox, JudgesBoxes, named_in, of_first, unnamed_in, AgreesSo, ComparesAll, JudgesRegions}
use Rattle.view_judge.specs.Further.{HasRoom, HasRooms, IsBeside, IsJudge, all_opened, opened}
use Rattle.view_judge.specs.Judging.{FindsViews, absent_in, cells_cost, cells_of, compare_cost, joint_cost, stored_in, views_cost}
use Rattle.view_judge.specs.Regions.{regions}
use Rattle.view_judge.specs.declared.fault.ViewFault.{ViewFault}
use Rattle.view_judge.specs.declared.report.ViewsReport.{ViewsReport}
use Rattle.view_judge.proofs.BoxSteps.{first_refused}
use Rattle.view_judge.proofs.RegionSteps.{IsShared, agreeing, beside_each, is_shared, not_here, regions_beside}
use Rattle.view_judge.proofs.SharedSteps.{common_right, common_some}
use Rattle.view_judge.proofs.SumSteps.{no_number, none_at}
use Rattle.view_judge.proofs.ViewSteps.{beside_at, few_at, further_at, further_length, inside_at, nth_finding, opened_at, opened_length, view_unsharded}
use Rattle.view_judge.proofs.WalkSteps.{IsSum}

-- sums over the same list of the same numbers
sum_same : {X : Type 0} (f g : X → ℕ) (xs : List X) (d : X) → ((k : ℕ) → k < length xs → f (get_or xs k d) ≡ g (get_or xs k d)) → sum_by f xs ≡ sum_by g xs
sum_same f g [] d h = refl
sum_same f g (x ∷ xs) d h =
    let rest = sum_same f g xs d (λ k l. h (suc k) (omega (arith, l))) in
    sum_by-cons f x xs ∙ (λ i. h zero (omega arith) i + rest i) ∙ sym (sum_by-cons g x xs)

-- where all views agree, each one does
agree_at : (m : Objects) (dataset : Name) (s : Scale) (part : Box3) (cells : List Cell) (k : ℕ) → k < length (further s) → AllAgree m dataset s part cells → Agree m dataset s (k + 1) (get_or (further s) k s) (regions s) part cells
agree_at m dataset s part cells k l h =
    All-weaker (λ region. JudgesBoxes (Ok tt) m dataset s (common (cell_box (regions s) region) part)) (λ region. JudgesBox (Ok tt) m dataset s (k + 1) (get_or (further s) k s) (common (cell_box (regions s) region) part))
    (λ region each. each k l) cells h

pub joint_compares : (m : Objects) (dataset : Name) (s : Scale) (part : Box3) (result : Result ⊤ ViewFault) → JudgesRegions result m dataset s part → ComparesAll result m dataset s part
joint_compares m dataset s part (Ok done) h = λ k below.
    let n = further_length s in
    record {
      grid = regions s;
      beside = beside_each s (get_or (further s) k s) (regions s) (beside_at s k (omega (arith, n, below))) (regions_beside s);
      agree = agree_at m dataset s part (cells_in (regions s) part) k below h;
    }
joint_compares m dataset s part (Err why) h = h

-- so nothing is wrong with any, and there are as many chunks as objects
module _ (m : Objects) (dataset : Name) (s : Scale) (part : Box3) (inside : Inside s part) (agree : (k : ℕ) → k < length (further s) → AgreesSo m dataset s (k + 1) (get_or (further s) k s) part) where
  abbrev nth : ℕ → Scale
  nth k = get_or (further s) k s

  abbrev named : ℕ → ViewsReport
  named k = record { cells = 0; stored = named_in m dataset part (nth k); absent = unnamed_in m dataset part (nth k) }

  are_cells : (k : ℕ) → k < length (further s) → AreCells m dataset s (k + 1) (nth k) part (cells_in (nth k) part) (named k)
  are_cells k below =
      let n = further_length s in
      let l : k < length s.more = omega (arith, n, below) in
      let so = agree k below in
      agreeing m dataset s (k + 1) (nth k) so.grid part so.beside (inside_at s k part l inside) so.agree
      (ap (λ (v : Scale). v.sharding) (further_at s k (1 + k) s l refl) ∙ view_unsharded s k (1 + k) l) (named k) (record { stored = refl; absent = refl })

  pub all_agreeing : (report : ViewsReport) → AreAllNamed m dataset part (further s) report → FindsViews (Ok report) m dataset s part
  all_agreeing report all = record {
    agree = no_number (nth_finding m dataset s part) (length (further s)) (λ k l. (are_cells k l).agree);
    stored = all.stored ∙ sum_same (named_in m dataset part) (λ v. stored_in m dataset v part) (further s) s (λ k l. (are_cells k l).stored);
    absent = all.absent ∙ sum_same (unnamed_in m dataset part) (λ v. absent_in m dataset v part) (further s) s (λ k l. (are_cells k l).absent);
  }

-- a region with which something is wrong
pub wrong_here : (m : Objects) (dataset : Name) (s : Scale) (part : Box3) (region : Cell) (why : ViewFault) → Meets (regions s) region part
    → JudgesBoxes (Err why) m dataset s (common (cell_box (regions s) region) part) → IsWrong m dataset s part why
wrong_here m dataset s part region why meets h = record {
  region = common (cell_box (regions s) region) part;
  some = common_some (cell_box (regions s) region) part meets.0 meets.1 meets.2;
  within = common_right (cell_box (regions s) region) part;
  judged = h;
}

-- there is none where nothing is wrong with a cell
pub not_wrong : (m : Objects) (dataset : Name) (s : Scale) (part : Box3) (report : ViewsReport) (why : ViewFault) → Inside s part → FindsViews (Ok report) m dataset s part → IsWrong m dataset s part why → Sound m dataset s part
    → FindsViews (Err why) m dataset s part
not_wrong m dataset s part report why inside all wrong sound =
    let k = wrong.judged.0 in
    let below = wrong.judged.1 in
    let n = further_length s in
    not_here m dataset s (k + 1) (get_or (further s) k s) part (inside_at s k part (omega (arith, n, below)) inside) (none_at (nth_finding m dataset s part) (length (further s)) k all.agree below)
    wrong.region wrong.some wrong.within why wrong.judged.2 sound

-- boxes of two scales beside one another are as long
pub raw_same : (b : Box3) (s v : Scale) → IsBeside s v → raw_len b s.channels s.width ≡ raw_len b v.channels v.width
raw_same b s v beside = sym (λ i. raw_len b (beside.channel_counts i) (beside.widths i))

-- the box of a region in a part
module _ (s grid : Scale) (part : Box3) (region : Cell) (own b : Box3) (are : grid ≡ regions s) (inside : Inside s part) (is : IsCell grid region) (meets : Meets grid region part) (own_is : own ≡ cell_box grid region) (b_is : b ≡ common own part) where
  shared : IsShared s (regions s) b
  shared =
      is_shared s (regions s) part region b (regions_beside s) inside (subst (λ r. IsCell r region) are is) (subst (λ r. Meets r region part) are meets)
      (b_is ∙ ap (λ x. common x part) own_is ∙ ap (λ r. common (cell_box r region) part) are)

  pub region_inside : Inside s b
  region_inside = shared.inside

  pub region_few : raw_len b s.channels s.width ≤ 2 ^ 30
  region_few = shared.few

  pub region_room : (len : ℕ) → HasRoom grid len → raw_len b s.channels s.width ≤ len
  region_room len h = let room = shared.room in let own_room = subst (λ r. HasRoom r len) are h in omega (arith, room, own_room)

  pub region_len : (len : ℕ) → len ≡ min (raw_len b grid.channels grid.width) (2 ^ 128 - 1) → len ≡ raw_len b s.channels s.width
  region_len len e =
      let same : raw_len b grid.channels grid.width ≡ raw_len b s.channels s.width = ap (λ (r : Scale). raw_len b r.channels r.width) are ∙ sym (raw_same b s (regions s) (regions_beside s)) in
      let few = shared.few in
      omega (arith, e, same, few)

  -- so that many bytes of a buffer are there, and hold the box's values
  pub region_fits : (len most : ℕ) → HasRoom grid most → len ≡ min (raw_len b grid.channels grid.width) (2 ^ 128 - 1) → len ≤ most
  region_fits len most h e = let room = region_room most h in let is = region_len len e in omega (arith, room, is)

  pub region_front : (len : ℕ) (bytes : Bytes) → HasRoom grid (length bytes) → len ≡ min (raw_len b grid.channels grid.width) (2 ^ 128 - 1) → length (take len bytes) ≡ raw_len b s.channels s.width
  region_front len bytes h e = let fits = region_fits len (length bytes) h e in let is = region_len len e in let cut = length-take len bytes in omega (arith, fits, is, cut)

-- the first view wasn't read
pub first_unread : (o : Option Objects) (dataset : Name) (s : Scale) (b : Box3) (out : Bytes) (why : CutFault) (told : ViewFault) → 1 ≤ length (further s) → told ≡ of_first why → IfSome o (λ m. HasCut (Err why) m dataset s b out)
    → IfSome o (λ m. JudgesBoxes (Err told) m dataset s b)
first_unread o dataset s b out why told some e h =
    in_told o _ (λ m is.
    (0, some, subst (λ x. JudgesBox (Err x) m dataset s 1 (get_or (further s) 0 s) b) (sym e) (first_refused m dataset s 1 (get_or (further s) 0 s) b out why (from_told o _ m is h))))

-- a further view beside it
pub compared_next : (o same : Option Objects) (was next : Opened) (k : ℕ) (b : Box3) (wanted : Bytes) (result : Result ⊤ ViewFault) → k < length was.scale.more → same ≡ o → next ≡ opened was.dataset (get_or (further was.scale) k was.scale)
    → IfSome o (λ m. HasCut (Ok tt) m was.dataset was.scale b wanted) → IfSome same (λ m. ComparesBox result m next.dataset (k + 1) next.scale b wanted)
    → (m : Objects) → o ≡ Some m → JudgesBox result m was.dataset was.scale (k + 1) (get_or (further was.scale) k was.scale) b
compared_next o same was next k b wanted result l kept is cut h m told =
    subst (λ (r : Opened). ComparesBox result m r.dataset (k + 1) r.scale b wanted) is (from_told same _ m (kept ∙ told) h) was.scale (beside_at was.scale k l) (from_told o _ m told cut)

-- what a box costs
joint_is : (m : Objects) (dataset : Name) (s : Scale) (b : Box3) (vs : List Scale) → 1 ≤ length vs → joint_cost m dataset s vs b ≡ cost m dataset s b + sum_by (λ v. cost m dataset v b) vs
joint_is m dataset s b [] some = absurd (omega arith)
joint_is m dataset s b (v ∷ vs) some = refl

pub asked_jointly : (o : Option Objects) (dataset : Name) (s : Scale) (b : Box3) (was between now : ℕ) → 1 ≤ length (further s) → IfSome o (λ m. between ≤ was + cost m dataset s b) → IfSome o (λ m. now ≤ between + sum_by (λ v. cost m dataset v b) (further s))
    → IfSome o (λ m. now ≤ was + joint_cost m dataset s (further s) b)
asked_jointly o dataset s b was between now some h k =
    in_told o _ (λ m told.
    let first = from_told o _ m told h in
    let others = from_told o _ m told k in
    let sum = joint_is m dataset s b (further s) some in
    omega (arith, first, others, sum))

-- some views are further ones
pub some_views : (dataset : Name) (s : Scale) (list : List Opened) → list ≡ all_opened dataset s → 1 ≤ length list → 1 ≤ length (further s)
some_views dataset s list is some =
    let n = further_length s in
    let len = opened_length dataset s list is in
    omega (arith, n, len, some)

-- the objects of the cells of one view more
pub named_views : (m : Objects) (dataset : Name) (s : Scale) (part : Box3) (k : ℕ) (report more new : ViewsReport) → k < length s.more → IsSum report more new → AreAllNamed m dataset part (take k (further s)) report
    → AreNamed m dataset (get_or (further s) k s) (cells_in (get_or (further s) k s) part) more → AreAllNamed m dataset part (take (k + 1) (further s)) new
named_views m dataset s part k report more new l sum so_far here =
    let n = further_length s in
    record {
      stored = sum.stored ∙ (λ i. so_far.stored i + here.stored i) ∙ sym (sum_by_more (named_in m dataset part) (further s) k s (omega (arith, n, l)));
      absent = sum.absent ∙ (λ i. so_far.absent i + here.absent i) ∙ sym (sum_by_more (unnamed_in m dataset part) (further s) k s (omega (arith, n, l)));
    }

pub all_named : (m : Objects) (dataset : Name) (s : Scale) (part : Box3) (k : ℕ) (report : ViewsReport) → length s.more ≤ k → AreAllNamed m dataset part (take k (further s)) report → AreAllNamed m dataset part (further s) report
all_named m dataset s part k report l h = let n = further_length s in subst (λ vs. AreAllNamed m dataset part vs report) (take_all k (further s) (omega (arith, n, l))) h

-- an item of a list of the further views
module _ (dataset : Name) (s : Scale) (list : List Opened) (k : ℕ) (e : Opened) (part : Box3) (is : list ≡ all_opened dataset s) (l : k < length list) (here : e ≡ get_or list k e) where
  pub item_below : k < length s.more
  item_below = let len = opened_length dataset s list is in omega (arith, l, len)

  pub item_is : e ≡ opened dataset (get_or (further s) k s)
  item_is = opened_at dataset s list k e e is l here

  pub item_inside : Inside s part → Inside e.scale part
  item_inside h = subst (λ (r : Opened). Inside r.scale part) (sym item_is) (inside_at s k part item_below h)

  pub item_few : cells_of (further s) part ≤ 2 ^ 22 → length (cells_in e.scale part) ≤ 2 ^ 22
  item_few h = subst (λ (r : Opened). length (cells_in r.scale part) ≤ 2 ^ 22) (sym item_is) (few_at s part k item_below h)

  pub item_cells : (n : ℕ) → n ≡ length (cells_in e.scale part) → n ≡ length (cells_in (get_or (further s) k s) part)
  item_cells n h = h ∙ ap (λ (r : Opened). length (cells_in r.scale part)) item_is

  pub item_named : (o same : Option Objects) (report : ViewsReport) → same ≡ o → IfSome same (λ m. AreNamed m e.dataset e.scale (cells_in e.scale part) report) → (m : Objects) → o ≡ Some m
      → AreNamed m dataset (get_or (further s) k s) (cells_in (get_or (further s) k s) part) report
  item_named o same report kept h m told = subst (λ (r : Opened). AreNamed m r.dataset r.scale (cells_in r.scale part) report) item_is (from_told same _ m (kept ∙ told) h)

-- what regions and cells cost
pub asked_besides : (o : Option Objects) (dataset : Name) (s : Scale) (part : Box3) (was between now : ℕ) → IfSome o (λ m. between ≤ was + compare_cost m dataset s part) → IfSome o (λ m. now ≤ between + sum_by (cells_cost m dataset s part) (further s))
    → IfSome o (λ m. now ≤ was + views_cost m dataset s part)
asked_besides o dataset s part was between now h k =
    in_told o _ (λ m told.
    let by_regions = from_told o _ m told h in
    let by_cells = from_told o _ m told k in
    omega (arith, by_regions, by_cells))

-- a judge is as before, once its views and its room were lent
put_back : (old new : List Opened) (len : ℕ) → len ≡ length old → new ≡ old → take len (new ++ drop (length new) old) ≡ old
put_back old new len l e =
    (λ i. take len (e i ++ drop (length (e i)) old)) ∙ ap (λ rest. take len (old ++ rest)) (drop_all (length old) old (omega arith)) ∙ ap (take len) (append-nil old) ∙ take_all len old (omega (arith, l))

pub judge_again : (was first : Opened) (old new : List Opened) (len : ℕ) (scale : Scale) (found wanted : Filled) (new_found new_wanted : Bytes) → IsJudge was old scale found wanted → first ≡ was → new ≡ old → len ≡ length old
    → IsJudge first (take len (new ++ drop (length new) old)) scale (record { bytes = refill (length found.bytes) found.bytes new_found; used = found.used }) (record { bytes = refill (length wanted.bytes) wanted.bytes new_wanted; used = wanted.used })
judge_again was first old new len scale found wanted new_found new_wanted h e f l =
    record {
      views = put_back old new len l f ∙ h.views ∙ (λ i. all_opened (sym e i).dataset (sym e i).scale);
      scale_is = h.scale_is ∙ (λ i. (sym e i).scale);
      room = subst (λ (r : Opened). HasRooms r.scale (length (refill (length found.bytes) found.bytes new_found))) (sym e) (subst (HasRooms was.scale) (length_refill (length found.bytes) found.bytes new_found refl) h.room);
      beside = subst (λ (r : Opened). HasRooms r.scale (length (refill (length wanted.bytes) wanted.bytes new_wanted))) (sym e) (subst (HasRooms was.scale) (length_refill (length wanted.bytes) wanted.bytes new_wanted refl) h.beside);
    }
