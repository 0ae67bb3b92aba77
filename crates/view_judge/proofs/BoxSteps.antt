-- A box of a view that was read, beside the first view.
use Rattle.std.proofs.Common.{◌≡◌, ◌≢◌, ◌≤◌, IfSome, ℕ, ◌+◌, ◌*◌, ◌^◌, ◌<◌, ◌==◌, Bool, true, false, if◌then◌else◌, length, Option, Some, None, Result, Ok, Err, refl, ap, ◌∙◌, sym, subst, arith, eq-eqb, eqb-true, ◌-◌, length-take, min, take}
use Rattle.std.specs.Prelude.{flat_map, ⊤}
use Rattle.std.specs.List.{range_with_len}
use Rattle.vol_base.specs.Causes.{HasCauseOf, Rose}
use Rattle.vol_base.specs.declared.boxes.Box3.{Box3}
use Rattle.vol_base.specs.Boxes.{value, voxels}
use Rattle.vol_base.specs.Outside.{HaveBytes, Objects}
use Rattle.vol_spec.specs.BoxValues.{bytes_of, channel_of, position_of}
use Rattle.vol_spec.specs.Chunks.{value_in}
use Rattle.vol_spec.specs.Copies.{or_zero}
use Rattle.vol_spec.specs.Cut.{cut, first_fault}
use Rattle.vol_spec.specs.Grid.{Inside, cell_at}
use Rattle.vol_spec.specs.Raw.{digit, number}
use Rattle.vol_spec.specs.StoredCells.{raw_bytes}
use Rattle.vol_spec.specs.Types.{Bytes, Name, Position}
use Rattle.vol_spec.specs.declared.scale.Scale.{Scale}
use Rattle.vol_spec.proofs.CutSteps.{flat_map-map, none_faulty, position_covered}
use Rattle.vol_spec.proofs.Told.{from_told, in_told}
use Rattle.vol_spec.specs.Costs.{cost}
use Rattle.vol_spec.proofs.RawSteps.{length-bytes_of, number_again, value-pieces}
use Rattle.chunk_grid.proofs.ListingSteps.{cells_in-covered}
use Rattle.copy_laws.proofs.CopyLaw.{value_in-narrow}
use Rattle.copy_laws.proofs.CopyValues.{none_in, value_sound}
use Rattle.size_laws.specs.Findings.{Finding, difference_in, differs_at, differs_by}
use Rattle.size_laws.specs.Findings.Finding.{Differs}
use Rattle.compare_values.specs.Differences.{IsFirst}
use Rattle.cutout.specs.Opened.{Opened}
use Rattle.cutout.specs.Reading.{HasCut}
use Rattle.cutout.specs.declared.fault.CutFault.{CutFault}
use Rattle.cutout.specs.declared.fault.CutFault.TheVariants as cutting
use Rattle.view_judge.specs.Answers.{Compares, ComparesBox, IsDifference, JudgesBox, of_first, of_view}
use Rattle.view_judge.specs.Further.{IsBeside}
use Rattle.view_judge.specs.Judging.{pair_cost}
use Rattle.view_judge.specs.declared.fault.ViewFault.{ViewFault}
use Rattle.view_judge.specs.declared.fault.ViewFault.TheVariants as fault
use Rattle.view_judge.proofs.CellSteps.{beside_inside}
use Rattle.view_judge.proofs.SumSteps.{first_number, no_number}

-- a box without a fault is cut out as the values of its positions
cut_sound : (m : Objects) (dataset : Name) (s : Scale) (b : Box3) → Inside s b → first_fault m dataset s b ≡ None
    → cut m dataset s b ≡ raw_bytes b s.channels s.width (λ p c. or_zero (value_in m dataset s p c))
unfolding cut
cut_sound m dataset s b inside none =
    let told : (i : ℕ) → i < voxels b * s.channels → value_in m dataset s (position_of b (0 + i)) (channel_of b (0 + i)) ≡ Ok (or_zero (value_in m dataset s (position_of b (0 + i)) (channel_of b (0 + i)))) = λ i h.
    value_sound m dataset s (position_of b (0 + i)) (channel_of b (0 + i))
    (none_in m dataset s b (cell_at s (position_of b (0 + i))) none (cells_in-covered s b (position_of b (0 + i)) inside (position_covered b (0 + i) inside.some))) in
    ap (flat_map (bytes_of s.width))
    (none_faulty (λ n. value_in m dataset s (position_of b n) (channel_of b n)) (λ n. or_zero (value_in m dataset s (position_of b n) (channel_of b n))) 0 (voxels b * s.channels) told)
    ∙ flat_map-map (bytes_of s.width) (λ n. or_zero (value_in m dataset s (position_of b n) (channel_of b n))) (range_with_len 0 (voxels b * s.channels))

-- values that were read: each, as bytes, is what the objects say
pub record AreValues (m : Objects) (dataset : Name) (s : Scale) (b : Box3) (out : Bytes) (n : ℕ) : Type 0 where
  pub told : value_in m dataset s (position_of b n) (channel_of b n) ≡ Ok (digit out s.width n)
  pub bytes : value s.width out n ≡ bytes_of s.width (digit out s.width n)

pub values_cut : (m : Objects) (dataset : Name) (s : Scale) (b : Box3) (out : Bytes) (n : ℕ) → HaveBytes m → Inside s b → first_fault m dataset s b ≡ None → out ≡ cut m dataset s b → n < voxels b * s.channels
    → AreValues m dataset s b out n
values_cut m dataset s b out n have inside none is h =
    let p : Position = position_of b n in
    let c : ℕ = channel_of b n in
    let u : ℕ = or_zero (value_in m dataset s p c) in
    let zero_more : 0 + n ≡ n = omega arith in
    let bytes : value s.width out n ≡ bytes_of s.width u =
    ap (λ xs. value s.width xs n) (is ∙ cut_sound m dataset s b inside none)
    ∙ value-pieces s.width (λ k. bytes_of s.width (or_zero (value_in m dataset s (position_of b k) (channel_of b k)))) 0 (voxels b * s.channels) n (λ k. length-bytes_of s.width _) h
    ∙ ap (λ k. bytes_of s.width (or_zero (value_in m dataset s (position_of b k) (channel_of b k)))) zero_more in
    let same : digit out s.width n ≡ u = ap number bytes ∙ number_again s.width u (value_in-narrow m dataset s p c have) in
    let known : value_in m dataset s p c ≡ Ok u =
    value_sound m dataset s p c (none_in m dataset s b (cell_at s p) none (cells_in-covered s b p inside (position_covered b n inside.some))) in
    record { told = known ∙ ap (λ k. Ok k) (sym same); bytes = bytes ∙ ap (bytes_of s.width) (sym same) }

-- two values beside one another
differs_not : (view : ℕ) (p : Position) (c u w : ℕ) → u ≡ w → differs_by view p c (Ok u) (Ok w) ≡ None
differs_not view p c u w e = ap (λ b. if b then None else Some (Differs view p c u w)) (eq-eqb u w e)

differs_so : (view : ℕ) (p : Position) (c u w : ℕ) → u ≢ w → differs_by view p c (Ok u) (Ok w) ≡ Some (Differs view p c u w)
differs_so view p c u w other = by (u == w) refl
  where
    by : (b : Bool) → u == w ≡ b → (if b then None else Some (Differs view p c u w)) ≡ Some (Differs view p c u w)
    by true is = absurd (other (eqb-true u w is))
    by false is = refl

module _ (m : Objects) (dataset : Name) (s : Scale) (view : ℕ) (v : Scale) (b : Box3) (found wanted : Bytes) (have : HaveBytes m) (widths : v.width ≡ s.width) (counts : v.channels ≡ s.channels)
    (inside_v : Inside v b) (inside_s : Inside s b) (none_v : first_fault m dataset v b ≡ None) (none_s : first_fault m dataset s b ≡ None)
    (found_is : found ≡ cut m dataset v b) (wanted_is : wanted ≡ cut m dataset s b) where
  abbrev here : ℕ → Option Finding
  here n = differs_at m dataset s view v (position_of b n) (channel_of b n)

  in_view : (n : ℕ) → n < voxels b * s.channels → AreValues m dataset v b found n
  in_view n h = values_cut m dataset v b found n have inside_v none_v found_is (subst (λ k. n < voxels b * k) (sym counts) h)

  in_first : (n : ℕ) → n < voxels b * s.channels → AreValues m dataset s b wanted n
  in_first n h = values_cut m dataset s b wanted n have inside_s none_s wanted_is h

  told : (n : ℕ) → n < voxels b * s.channels → here n ≡ differs_by view (position_of b n) (channel_of b n) (Ok (digit found v.width n)) (Ok (digit wanted s.width n))
  told n h = λ i. differs_by view (position_of b n) (channel_of b n) ((in_view n h).told i) ((in_first n h).told i)

  -- no difference where the bytes are equal,
  pub same_box : found ≡ wanted → difference_in m dataset s view v b ≡ None
  same_box e =
      no_number here (voxels b * s.channels)
      (λ n h. told n h ∙ differs_not view (position_of b n) (channel_of b n) (digit found v.width n) (digit wanted s.width n) (λ i. digit (e i) (widths i) n))

  -- and the first one where they differ first
  pub other_box : (n : ℕ) → n < voxels b * s.channels → IsFirst v.width found wanted n
      → difference_in m dataset s view v b ≡ Some (Differs view (position_of b n) (channel_of b n) (digit found v.width n) (digit wanted v.width n))
  other_box n h first =
      let other : digit found v.width n ≢ digit wanted s.width n = λ e.
      first.there ((in_view n h).bytes ∙ (λ i. bytes_of (widths i) (e i)) ∙ sym (in_first n h).bytes ∙ ap (λ w. value w wanted n) (sym widths)) in
      first_number here (voxels b * s.channels) n _ h
      (λ k l.
      told k (omega (arith, l, h))
      ∙ differs_not view (position_of b k) (channel_of b k) (digit found v.width k) (digit wanted s.width k)
      (ap number (first.before k l) ∙ ap (λ w. digit wanted w k) widths))
      (told n h ∙ differs_so view (position_of b n) (channel_of b n) (digit found v.width n) (digit wanted s.width n) other
      ∙ ap (λ w. Some (Differs view (position_of b n) (channel_of b n) (digit found v.width n) (digit wanted w n))) (sym widths))

  -- so what comparing them answers is what judging the box does
  differing : (k : ℕ) (place : Position) (c u w n : ℕ) → k ≡ view → IsDifference b v.channels v.width found wanted place c u w n → difference_in m dataset s view v b ≡ Some (Differs k place c u w)
  differing k place c u w n e h =
      other_box n (subst (λ l. n < voxels b * l) counts h.within) h.first
      ∙ (λ i. Some (Differs (sym e i) (sym h.place_is i) (sym h.channel_is i) (sym h.found_is i) (sym h.wanted_is i)))

  pub compared : (result : Result ⊤ ViewFault) → Compares result view b v.channels v.width found wanted → JudgesBox result m dataset s view v b
  compared (Ok done) h = (none_v, same_box h)
  compared (Err (fault.Differs k place c u w)) h = (none_v, differing k place c u w h.1 h.0 h.2)
  compared (Err (fault.Damaged k cell found)) h = absurd h
  compared (Err (fault.First cell found)) h = absurd h
  compared (Err fault.StoreFault) h = absurd h

-- a box that wasn't read
pub view_refused : (m : Objects) (dataset : Name) (s : Scale) (view : ℕ) (v : Scale) (b : Box3) (out : Bytes) (why : CutFault) → HasCut (Err why) m dataset v b out → JudgesBox (Err (of_view view why)) m dataset s view v b
view_refused m dataset s view v b out (cutting.Damaged cell found) h = (refl, h)
view_refused m dataset s view v b out cutting.StoreFault h = tt
view_refused m dataset s view v b out cutting.OutsideScale h = tt

pub first_refused : (m : Objects) (dataset : Name) (s : Scale) (view : ℕ) (v : Scale) (b : Box3) (out : Bytes) (why : CutFault) → HasCut (Err why) m dataset s b out → JudgesBox (Err (of_first why)) m dataset s view v b
first_refused m dataset s view v b out (cutting.Damaged cell found) h = h
first_refused m dataset s view v b out cutting.StoreFault h = tt
first_refused m dataset s view v b out cutting.OutsideScale h = tt

-- the same where the objects may be untold, by a reader of the view and one of the first view
module _ (o : Option Objects) (reader first : Opened) (k : ℕ) (v : Scale) (b : Box3) (reads : reader.scale ≡ v) (one : reader.dataset ≡ first.dataset) where
  of_reader : (P : Name → Scale → Type 0) → P reader.dataset reader.scale → P first.dataset v
  of_reader P h = subst (λ s. P first.dataset s) reads (subst (λ d. P d reader.scale) one h)

  pub view_told : (out : Bytes) (why : CutFault) (told : ViewFault) → told ≡ of_view k why → IfSome o (λ m. HasCut (Err why) m reader.dataset reader.scale b out)
      → IfSome o (λ m. JudgesBox (Err told) m first.dataset first.scale k v b)
  view_told out why told e h =
      in_told o _ (λ m is.
      subst (λ x. JudgesBox (Err x) m first.dataset first.scale k v b) (sym e)
      (view_refused m first.dataset first.scale k v b out why (of_reader (λ d s. HasCut (Err why) m d s b out) (from_told o _ m is h))))

  pub first_told : (same : Option Objects) (out : Bytes) (why : CutFault) (told : ViewFault) → same ≡ o → told ≡ of_first why → IfSome same (λ m. HasCut (Err why) m first.dataset first.scale b out)
      → IfSome o (λ m. JudgesBox (Err told) m first.dataset first.scale k v b)
  first_told same out why told kept e h =
      in_told o _ (λ m is.
      subst (λ x. JudgesBox (Err x) m first.dataset first.scale k v b) (sym e) (first_refused m first.dataset first.scale k v b out why (from_told same _ m (kept ∙ is) h)))

  pub compared_told : (same : Option Objects) (found wanted : Bytes) (done also : ⊤) (result : Result ⊤ ViewFault) → same ≡ o → IsBeside first.scale v → Inside v b → IfSome o HaveBytes
      → IfSome o (λ m. HasCut (Ok done) m reader.dataset reader.scale b found) → IfSome same (λ m. HasCut (Ok also) m first.dataset first.scale b wanted)
      → Compares result k b v.channels v.width found wanted → IfSome o (λ m. JudgesBox result m first.dataset first.scale k v b)
  compared_told same found wanted done also result kept beside inside have cut_v cut_s h =
      in_told o _ (λ m is.
      let own : HasCut (Ok done) m first.dataset v b found = of_reader (λ d s. HasCut (Ok done) m d s b found) (from_told o _ m is cut_v) in
      let theirs : HasCut (Ok also) m first.dataset first.scale b wanted = from_told same _ m (kept ∙ is) cut_s in
      compared m first.dataset first.scale k v b found wanted (from_told o _ m is have) beside.widths beside.channel_counts inside (beside_inside first.scale v b beside inside) own.0 theirs.0 own.1 theirs.1 result h)

  pub asked_view : (was now : ℕ) → IfSome o (λ m. now ≤ was + cost m reader.dataset reader.scale b) → IfSome o (λ m. now ≤ was + pair_cost m first.dataset first.scale v b)
  asked_view was now h =
      in_told o _ (λ m is. let own : now ≤ was + cost m first.dataset v b = of_reader (λ d s. now ≤ was + cost m d s b) (from_told o _ m is h) in omega (arith, own))

  pub asked_both : (same : Option Objects) (was between now : ℕ) → same ≡ o → IfSome o (λ m. between ≤ was + cost m reader.dataset reader.scale b) → IfSome same (λ m. now ≤ between + cost m first.dataset first.scale b)
      → IfSome o (λ m. now ≤ was + pair_cost m first.dataset first.scale v b)
  asked_both same was between now kept h l =
      in_told o _ (λ m is.
      let own : between ≤ was + cost m first.dataset v b = of_reader (λ d s. between ≤ was + cost m d s b) (from_told o _ m is h) in
      let more : now ≤ between + cost m first.dataset first.scale b = from_told same _ m (kept ∙ is) l in
      omega (arith, own, more))

-- a box of a view that was read, beside values that may be those of another scale
pub compares : (o : Option Objects) (dataset : Name) (k : ℕ) (v : Scale) (b : Box3) (found wanted : Bytes) (done : ⊤) (result : Result ⊤ ViewFault) → Inside v b → IfSome o HaveBytes
    → IfSome o (λ m. HasCut (Ok done) m dataset v b found) → Compares result k b v.channels v.width found wanted → IfSome o (λ m. ComparesBox result m dataset k v b wanted)
compares o dataset k v b found wanted done result inside have cut_v h =
    in_told o _ (λ m is s beside cut_s.
    let own : HasCut (Ok done) m dataset v b found = from_told o _ m is cut_v in
    compared m dataset s k v b found wanted (from_told o _ m is have) beside.widths beside.channel_counts inside (beside_inside s v b beside inside) own.0 cut_s.0 own.1 cut_s.1 result h)

-- the front of a room, as long as a box's values
pub front_len : (room : Bytes) (raw len : ℕ) → raw ≤ length room → raw ≤ 2 ^ 30 → len ≡ min raw (2 ^ 128 - 1) → length (take len room) ≡ raw
front_len room raw len h few is = let cut = length-take len room in omega (arith, cut, h, few, is)

-- what failed, and what didn't
pub first_cause : (why : CutFault) (told : ViewFault) (before between now : ℕ) → told ≡ of_first why → (why ≡ cutting.OutsideScale → ⊥) → between ≡ before → HasCauseOf {T = ⊤} cutting.StoreFault between now (Err why)
    → HasCauseOf {T = ⊤} fault.StoreFault before now (Err told)
first_cause (cutting.Damaged cell found) told before between now e inside same h = let later = h.later in record { later = omega (arith, later, same); failed = λ is. absurd (cc (e, is)); stands = tt }
first_cause cutting.StoreFault told before between now e inside same h =
    let later = h.later in
    record { later = omega (arith, later, same); failed = λ is. subst (λ n. Rose n now) same (h.failed refl); stands = tt }
first_cause cutting.OutsideScale told before between now e inside same h = absurd (inside refl)

pub compared_cause : (result : Result ⊤ ViewFault) (view : ℕ) (b : Box3) (channels w : ℕ) (found wanted : Bytes) (before now : ℕ) → now ≡ before → Compares result view b channels w found wanted → HasCauseOf fault.StoreFault before now result
compared_cause (Ok done) view b channels w found wanted before now e h = record { later = omega (arith, e); failed = λ is. absurd (cc is); stands = e }
compared_cause (Err (fault.Differs k place c u v)) view b channels w found wanted before now e h = record { later = omega (arith, e); failed = λ is. absurd (cc is); stands = tt }
compared_cause (Err (fault.Damaged k cell why)) view b channels w found wanted before now e h = absurd h
compared_cause (Err (fault.First cell why)) view b channels w found wanted before now e h = absurd h
compared_cause (Err fault.StoreFault) view b channels w found wanted before now e h = absurd h
