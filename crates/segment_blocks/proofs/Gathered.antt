-- The values that stand in a list, without those that equal the one before.
use Rattle.std.proofs.Common.{◌≡◌, ◌≢◌, ℕ, ◌+◌, ◌-◌, ◌<◌, ◌≤◌, List, [], ◌∷◌, ◌++◌, length, slice_index, take, set, arith, refl, ap, ◌∙◌, sym, subst, inl, inr, ⊎_elim, Bool, true, false}
use Rattle.std.specs.Prelude.{if◌then◌else◌, ◌==◌, ◌||◌, not}
use Rattle.std.specs.List.{Contains}
use Rattle.std.proofs.lemmas.Grind.{common_steps}
use Rattle.std.proofs.Math.ListN.{replicate}
use Rattle.std.proofs.lemmas.Bool.{cases_eq}
use Rattle.std.proofs.lemmas.Bool.Decides.{nat_tests}
use Rattle.std.proofs.lemmas.List.{get_or-replicate, get_or-set_other, get_or-set_same, get_or_default, length-set, take_all}
use Rattle.vol_spec.specs.SegWritten.{distinct}
use Rattle.segment_blocks.proofs.Distincts.{again_is, next}
use Rattle.segment_blocks.proofs.Tables.{IsIn, append_in, distinct_in, distinct_rises, in_append, in_distinct, in_take, same_table, take_in}

-- the two ways to say that a value stands in a list
pub in_contains : (v : ℕ) (xs : List ℕ) → Contains xs v → IsIn v xs
in_contains v xs h = subst (λ ys. IsIn v ys) (take_all (length xs) xs (omega arith)) (subst (λ q. IsIn q (take (length xs) xs)) (get_or_default xs h.0 0 v h.1 ∙ h.2) (take_in h.0 (length xs) xs h.1 h.1))

pub contains_in : (v : ℕ) (xs : List ℕ) → IsIn v xs → Contains xs v
contains_in v xs h =
    let t = in_take v (length xs) xs (subst (λ ys. IsIn v ys) (sym (take_all (length xs) xs (omega arith))) h) in
    (t.0, t.2, get_or_default xs t.0 v 0 t.2 ∙ sym t.3)

-- two lists of the same values have one table
pub distinct_same : (xs ys : List ℕ) → ((v : ℕ) → IsIn v xs → IsIn v ys) → ((v : ℕ) → IsIn v ys → IsIn v xs) → distinct xs ≡ distinct ys
distinct_same xs ys to from =
    same_table (distinct xs) (distinct ys) (distinct_rises xs) (distinct_rises ys)
    (λ v i. in_distinct v ys (to v (distinct_in v xs i)))
    (λ v i. in_distinct v xs (from v (distinct_in v ys i)))

-- how far the loop has come
pub record Gathered (old cur : List ℕ) (i kept last : ℕ) : Type 0 where
  pub within : kept ≤ i
  pub from : (v : ℕ) → IsIn v (take kept cur) → IsIn v (take i old)
  pub all : (v : ℕ) → IsIn v (take i old) → IsIn v (take kept cur)
  pub before : (j : ℕ) → j + 1 ≡ i → last ≡ slice_index old j

pub gathered_none : (old cur : List ℕ) → Gathered old cur 0 0 0
gathered_none old cur = record { within = omega arith; from = λ v h. h; all = λ v h. h; before = λ j e. absurd (omega arith) }

-- a list with one item put behind its front
pub put_next : (xs : List ℕ) (k x : ℕ) → k < length xs → take (k + 1) (set xs k x) ≡ take k xs ++ x ∷ []
put_next xs k x h = grind (arith, common_steps)

pub gathered_more : (new : Bool) (old cur cur' : List ℕ) (i kept kept' last x : ℕ) → i < length old → length old ≤ length cur → x ≡ slice_index old i → Gathered old cur i kept last
    → new ≡ (i == 0 || not (x == last)) → cur' ≡ (if new then set cur kept x else cur) → kept' ≡ (if new then kept + 1 else kept) → Gathered old cur' (i + 1) kept' x
gathered_more true old cur cur' i kept kept' last x li len ex g en ec ek =
    let front : take kept' cur' ≡ take kept cur ++ x ∷ [] = ap (λ n. take n cur') ek ∙ ap (take (kept + 1)) ec ∙ put_next cur kept x (omega (arith, g.within)) in
    let more : take (i + 1) old ≡ take i old ++ x ∷ [] = next old i li ∙ ap (λ q. take i old ++ q ∷ []) (sym ex) in
    record {
      within = omega (arith, g.within);
      from = λ v h. subst (IsIn v) (sym more) (append_in v (take i old) x (⊎_elim (λ j. inl (g.from v j)) (λ e. inr e) (in_append v (take kept cur) x (subst (IsIn v) front h))));
      all = λ v h. subst (IsIn v) (sym front) (append_in v (take kept cur) x (⊎_elim (λ j. inl (g.all v j)) (λ e. inr e) (in_append v (take i old) x (subst (IsIn v) more h))));
      before = λ j e. let s : i ≡ j = omega arith in ex ∙ ap (slice_index old) s;
    }
gathered_more false old cur cur' i kept kept' last x li len ex g en ec ek =
    let is = again_is i x last (sym en) in
    let front : take kept' cur' ≡ take kept cur = ap (λ n. take n cur') ek ∙ ap (take kept) ec in
    let more : take (i + 1) old ≡ take i old ++ x ∷ [] = next old i li ∙ ap (λ q. take i old ++ q ∷ []) (sym ex) in
    let here : x ≡ slice_index old (i - 1) = is.1 ∙ g.before (i - 1) (omega (arith, is.0)) in
    let there : IsIn x (take i old) = subst (λ q. IsIn q (take i old)) (sym here) (take_in (i - 1) i old (omega (arith, is.0)) (omega arith)) in
    record {
      within = omega (arith, g.within);
      from = λ v h. subst (IsIn v) (sym more) (append_in v (take i old) x (inl (g.from v (subst (IsIn v) front h))));
      all = λ v h. subst (IsIn v) (sym front) (g.all v (⊎_elim (λ j. j) (λ (e : v ≡ x). subst (λ q. IsIn q (take i old)) (sym e) there) (in_append v (take i old) x (subst (IsIn v) more h))));
      before = λ j e. let s : i ≡ j = omega arith in ex ∙ ap (slice_index old) s;
    }

-- the same where each spot has the last value of those that belong there, or the first of all
pub record Recent (old cur recent : List ℕ) (i kept : ℕ) : Type 0 where
  pub within : kept ≤ i
  pub from : (v : ℕ) → IsIn v (take kept cur) → IsIn v (take i old)
  pub all : (v : ℕ) → IsIn v (take i old) → IsIn v (take kept cur)
  pub seen : (s : ℕ) → s < length recent → IsIn (slice_index recent s) (take kept cur)
  pub spots : length recent ≡ 64

pub recent_begins : (old cur : List ℕ) (x : ℕ) → x ≡ slice_index old 0 → 0 < length old → 0 < length cur → Recent old (set cur 0 x) (replicate 64 x) 1 1
recent_begins old cur x ex lo lc =
    let front : take 1 (set cur 0 x) ≡ x ∷ [] = put_next cur 0 x lc in
    let first : take 1 old ≡ x ∷ [] = next old 0 lo ∙ ap (λ q. q ∷ []) (sym ex) in
    record {
      within = omega arith;
      from = λ v h. subst (IsIn v) (front ∙ sym first) h;
      all = λ v h. subst (IsIn v) (first ∙ sym front) h;
      seen = λ s l. subst (IsIn (slice_index (replicate 64 x) s)) (sym front) (inl (get_or-replicate 64 s x 0 l));
      spots = refl;
    }

was_seen : (x y : ℕ) → not (x == y) ≡ false → x ≡ y
was_seen x y h = grind (arith, nat_tests)

-- the values at the spots, once x is at one of them and all stand in a list
seen_more : (recent front : List ℕ) (spot x : ℕ) → spot < length recent → IsIn x front → ((s : ℕ) → s < length recent → IsIn (slice_index recent s) front)
    → (s : ℕ) → s < length (set recent spot x) → IsIn (slice_index (set recent spot x) s) front
seen_more recent front spot x lp here all s l = ⊎_elim
    (λ (e : s ≡ spot). subst (λ q. IsIn q front) (sym (ap (slice_index (set recent spot x)) e ∙ get_or-set_same recent spot x 0 lp)) here)
    (λ (n : s ≢ spot). subst (λ q. IsIn q front) (sym (get_or-set_other recent spot s x 0 (λ e. n e))) (all s (omega (arith, l, length-set recent spot x))))
    (cases_eq s spot)

pub recent_more : (new : Bool) (old cur cur' recent : List ℕ) (i kept kept' spot x : ℕ) → i < length old → length old ≤ length cur → x ≡ slice_index old i → spot < 64 → Recent old cur recent i kept
    → new ≡ not (x == slice_index recent spot) → cur' ≡ (if new then set cur kept x else cur) → kept' ≡ (if new then kept + 1 else kept) → Recent old cur' (set recent spot x) (i + 1) kept'
recent_more true old cur cur' recent i kept kept' spot x li len ex lp g en ec ek =
    let front : take kept' cur' ≡ take kept cur ++ x ∷ [] = ap (λ n. take n cur') ek ∙ ap (take (kept + 1)) ec ∙ put_next cur kept x (omega (arith, g.within)) in
    let more : take (i + 1) old ≡ take i old ++ x ∷ [] = next old i li ∙ ap (λ q. take i old ++ q ∷ []) (sym ex) in
    let put : (v : ℕ) → IsIn v (take kept cur) → IsIn v (take kept' cur') = λ v h. subst (IsIn v) (sym front) (append_in v (take kept cur) x (inl h)) in
    record {
      within = omega (arith, g.within);
      from = λ v h. subst (IsIn v) (sym more) (append_in v (take i old) x (⊎_elim (λ j. inl (g.from v j)) (λ e. inr e) (in_append v (take kept cur) x (subst (IsIn v) front h))));
      all = λ v h. subst (IsIn v) (sym front) (append_in v (take kept cur) x (⊎_elim (λ j. inl (g.all v j)) (λ e. inr e) (in_append v (take i old) x (subst (IsIn v) more h))));
      seen = seen_more recent (take kept' cur') spot x (omega (arith, lp, g.spots)) (subst (IsIn x) (sym front) (append_in x (take kept cur) x (inr refl))) (λ s l. put (slice_index recent s) (g.seen s l));
      spots = length-set recent spot x ∙ g.spots;
    }
recent_more false old cur cur' recent i kept kept' spot x li len ex lp g en ec ek =
    let front : take kept' cur' ≡ take kept cur = ap (λ n. take n cur') ek ∙ ap (take kept) ec in
    let more : take (i + 1) old ≡ take i old ++ x ∷ [] = next old i li ∙ ap (λ q. take i old ++ q ∷ []) (sym ex) in
    let within : spot < length recent = omega (arith, lp, g.spots) in
    let there : IsIn x (take kept cur) = subst (λ q. IsIn q (take kept cur)) (sym (was_seen x (slice_index recent spot) (sym en))) (g.seen spot within) in
    let same : (v : ℕ) → IsIn v (take kept cur) → IsIn v (take kept' cur') = λ v h. subst (IsIn v) (sym front) h in
    record {
      within = omega (arith, g.within);
      from = λ v h. subst (IsIn v) (sym more) (append_in v (take i old) x (inl (g.from v (subst (IsIn v) front h))));
      all = λ v h. same v (⊎_elim (λ j. g.all v j) (λ (e : v ≡ x). subst (λ q. IsIn q (take kept cur)) (sym e) there) (in_append v (take i old) x (subst (IsIn v) more h)));
      seen = seen_more recent (take kept' cur') spot x within (same x there) (λ s l. same (slice_index recent s) (g.seen s l));
      spots = length-set recent spot x ∙ g.spots;
    }

-- a value that equals the one before
pub recent_again : (old cur recent : List ℕ) (i kept x : ℕ) → i < length old → 0 < i → x ≡ slice_index old i → x ≡ slice_index old (i - 1) → Recent old cur recent i kept → Recent old cur recent (i + 1) kept
recent_again old cur recent i kept x li pi ex ep g =
    let more : take (i + 1) old ≡ take i old ++ x ∷ [] = next old i li ∙ ap (λ q. take i old ++ q ∷ []) (sym ex) in
    let front : take (i - 1 + 1) old ≡ take (i - 1) old ++ x ∷ [] = next old (i - 1) (omega arith) ∙ ap (λ q. take (i - 1) old ++ q ∷ []) (sym ep) in
    let back : i - 1 + 1 ≡ i = omega arith in
    let there : IsIn x (take i old) = subst (λ q. IsIn x (take q old)) back (subst (IsIn x) (sym front) (append_in x (take (i - 1) old) x (inr refl))) in
    record {
      within = omega (arith, g.within);
      from = λ v h. subst (IsIn v) (sym more) (append_in v (take i old) x (inl (g.from v h)));
      all = λ v h. ⊎_elim (λ j. g.all v j) (λ (e : v ≡ x). subst (λ q. IsIn q (take kept cur)) (sym e) (g.all x there)) (in_append v (take i old) x (subst (IsIn v) more h));
      seen = g.seen;
      spots = g.spots;
    }

pub whole_in : (v : ℕ) (xs : List ℕ) (n : ℕ) → length xs ≤ n → IsIn v (take n xs) → IsIn v xs
whole_in v xs n h i = subst (IsIn v) (take_all n xs h) i

pub in_whole : (v : ℕ) (xs : List ℕ) (n : ℕ) → length xs ≤ n → IsIn v xs → IsIn v (take n xs)
in_whole v xs n h i = subst (IsIn v) (sym (take_all n xs h)) i
