-- Files in memory, change by change.
use Rattle.std.proofs.Common.{◌≡◌, ℕ, ◌+◌, ◌-◌, ◌<◌, List, [], ◌∷◌, ◌++◌, length, take, drop, get_or, option_to_list, Bool, true, false, cond, ◌||◌, Option, Some, None, IfSome, Result, Ok, Err, OnErr, string_bytes, refl, ap, sym, subst, ◌∙◌, arith, inl, inr, eq-eqb}
use Rattle.std.specs.List.{AllByRecursion, list_any, filter_map, cons_option}
use Rattle.std.proofs.lemmas.List.{take_all, take_more}
use Rattle.std.proofs.lemmas.List.Elements.{filter_map-append}
use Rattle.std.proofs.lemmas.Bool.{cases_Bool}
use Rattle.std.specs.Option.{unwrap_or}
use Rattle.std.specs.Str.{bytes_eq}
use Rattle.std.specs.FinMap as map
use Rattle.std.specs.Ordering.{nat_cmp, eq_by_cmp}
use Rattle.std.specs.Cmp.Lexicographic.{slice_cmp, nat_list_cmp_total, bytes_decides}
use Rattle.std.proofs.lemmas.Map.Text.{is_eq-slice_cmp}
use Rattle.vol_base.specs.Outside.{is_under}
use Rattle.folder_store.specs.Disks.{Disk, file_at, IsNew}
use Rattle.folder_store.specs.Below.{Below, AtOrBelow, Among, IsLeaf, Lists}
use Rattle.folder_store.specs.Changes.{changed, disk_of, given_lower, told_path, gives_number, gives_below}
use Rattle.folder_store.specs.declared.memory.Change.{Change}
use Rattle.folder_store.specs.declared.memory.Change.TheVariants.{Made, Wrote, Synced, Moved, Removed}
use Rattle.folder_store.proofs.BelowSteps.{tested_below, below_tested}

pub on_err : {T E : Type 0} (r : Result T E) (A : Type 0) → A → OnErr r A
on_err (Ok x) A a = tt
on_err (Err e) A a = a

-- what a change doesn't speak of stays
cond_told : (b : Bool) (x y : Option ℕ) → cond b x y ≡ unwrap_or (cond b (Some x) None) y
cond_told true x y = refl
cond_told false x y = refl

twice_told : (a b : Bool) (x y z : Option ℕ) → cond a x (cond b y z) ≡ unwrap_or (cond a (Some x) (cond b (Some y) None)) z
twice_told true b x y z = refl
twice_told false b x y z = cond_told b y z

pub one_on : (c : Change) (d : Disk) (q : List ℕ) → file_at (changed c d) q ≡ unwrap_or (told_path c q) (file_at d q)
one_on (Made p n) d q =
    map.get-insert nat_list_cmp_total d.files (string_bytes p) n q
    ∙ ap (λ b. cond b (Some n) (file_at d q)) (is_eq-slice_cmp q (string_bytes p))
    ∙ cond_told (bytes_eq q (string_bytes p)) (Some n) (file_at d q)
one_on (Wrote n content) d q = refl
one_on (Synced n) d q = refl
one_on (Moved f t n) d q =
    map.get-insert nat_list_cmp_total (map.remove d.files (string_bytes f)) (string_bytes t) n q
    ∙ ap (cond (eq_by_cmp (slice_cmp nat_cmp) q (string_bytes t)) (Some n)) (map.get-remove nat_list_cmp_total d.files (string_bytes f) q)
    ∙ ap (λ b. cond b (Some n) (cond (eq_by_cmp (slice_cmp nat_cmp) q (string_bytes f)) None (file_at d q))) (is_eq-slice_cmp q (string_bytes t))
    ∙ ap (λ b. cond (bytes_eq q (string_bytes t)) (Some n) (cond b None (file_at d q))) (is_eq-slice_cmp q (string_bytes f))
    ∙ twice_told (bytes_eq q (string_bytes t)) (bytes_eq q (string_bytes f)) (Some n) None (file_at d q)
one_on (Removed p) d q =
    map.get-remove nat_list_cmp_total d.files (string_bytes p) q
    ∙ ap (λ b. cond b None (file_at d q)) (is_eq-slice_cmp q (string_bytes p))
    ∙ cond_told (bytes_eq q (string_bytes p)) None (file_at d q)

pub told_first : (rest : List Change) (first : Change) (q : List ℕ) (found : Option ℕ) → 0 < length rest → first ≡ get_or rest 0 first → told_path first q ≡ Some found → file_at (disk_of rest) q ≡ found
told_first [] first q found h is e = absurd (omega arith)
told_first (c ∷ cs) first q found h is e = one_on c (disk_of cs) q ∙ ap (λ x. unwrap_or (told_path x q) (file_at (disk_of cs) q)) (sym is) ∙ ap (λ o. unwrap_or o (file_at (disk_of cs) q)) e

pub told_later : (rest : List Change) (first : Change) (q : List ℕ) (n : ℕ) → 0 < length rest → first ≡ get_or rest 0 first → told_path first q ≡ None → n ≡ length rest - 1 → file_at (disk_of (take n (drop 1 rest))) q ≡ file_at (disk_of rest) q
told_later [] first q n h is e len = absurd (omega arith)
told_later (c ∷ cs) first q n h is e len =
    ap (λ xs. file_at (disk_of xs) q) (take_all n cs (omega arith))
    ∙ sym (one_on c (disk_of cs) q ∙ ap (λ x. unwrap_or (told_path x q) (file_at (disk_of cs) q)) (sym is) ∙ ap (λ o. unwrap_or o (file_at (disk_of cs) q)) e)

pub none_told : (rest : List Change) (q : List ℕ) → length rest < 1 → file_at (disk_of rest) q ≡ None
none_told [] q h = map.get-empty (slice_cmp nat_cmp) q
none_told (c ∷ cs) q h = absurd (omega arith)

none_some : {X : Type 0} (x : X) → ◌≡◌ {A = Option X} None (Some x) → ⊥
none_some x e = cc

some_none : (n : ℕ) → ◌≡◌ {A = Option (Option ℕ)} (Some None) (Some (Some n)) → ⊥
some_none n e = cc

some_same : (m n : ℕ) → ◌≡◌ {A = Option (Option ℕ)} (Some (Some m)) (Some (Some n)) → m ≡ n
some_same m n e = cc

or_true : (a : Bool) → (a || true) ≡ true
or_true true = refl
or_true false = refl

given_step : (t : Option (Option ℕ)) (o : Option ℕ) (n : ℕ) (b r : Bool) → unwrap_or t o ≡ Some n → (t ≡ Some (Some n) → b ≡ true) → (o ≡ Some n → r ≡ true) → (b || r) ≡ true
given_step None o n b r k f ih = ap (λ x. b || x) (ih k) ∙ or_true b
given_step (Some p) o n b r k f ih = ap (λ x. x || r) (f (ap Some k))

-- a file that stands was given its path by some change
any_given : (test : Change → Bool) (q : List ℕ) (n : ℕ) → ((c : Change) → told_path c q ≡ Some (Some n) → test c ≡ true) → (cs : List Change) → file_at (disk_of cs) q ≡ Some n → list_any test cs ≡ true
any_given test q n f [] h = absurd (none_some n (sym (none_told [] q (omega arith)) ∙ h))
any_given test q n f (c ∷ cs) h = given_step (told_path c q) (file_at (disk_of cs) q) n (test c) (list_any test cs) (sym (one_on c (disk_of cs) q) ∙ h) (f c) (any_given test q n f cs)

not_given : (b : Bool) (n : ℕ) → ◌≡◌ {A = Option (Option ℕ)} (cond b (Some None) None) (Some (Some n)) → ⊥
not_given true n e = some_none n e
not_given false n e = none_some (Some n) e

given_number : (q : List ℕ) (n : ℕ) (c : Change) → told_path c q ≡ Some (Some n) → gives_number n c ≡ true
given_number q n (Made p m) e =
    elim (cases_Bool (bytes_eq q (string_bytes p))) [
      | inl same ↦ eq-eqb m n (some_same m n (sym (ap (λ b. cond b (Some (Some m)) None) same) ∙ e))
      | inr apart ↦ absurd (none_some (Some n) (sym (ap (λ b. cond b (Some (Some m)) None) apart) ∙ e))
    ]
given_number q n (Wrote m content) e = absurd (none_some (Some n) e)
given_number q n (Synced m) e = absurd (none_some (Some n) e)
given_number q n (Moved f t m) e =
    elim (cases_Bool (bytes_eq q (string_bytes t))) [
      | inl same ↦ eq-eqb m n (some_same m n (sym (ap (λ b. cond b (Some (Some m)) (cond (bytes_eq q (string_bytes f)) (Some None) None)) same) ∙ e))
      | inr apart ↦
          let rest : cond (bytes_eq q (string_bytes f)) (Some None) None ≡ Some (Some n) = sym (ap (λ b. cond b (Some (Some m)) (cond (bytes_eq q (string_bytes f)) (Some None) None)) apart) ∙ e in
          absurd (not_given (bytes_eq q (string_bytes f)) n rest)
    ]
given_number q n (Removed p) e = absurd (not_given (bytes_eq q (string_bytes p)) n e)

given_below : (path q : List ℕ) (n : ℕ) → is_under path q ≡ true → (c : Change) → told_path c q ≡ Some (Some n) → gives_below path c ≡ true
given_below path q n u (Made p m) e =
    elim (cases_Bool (bytes_eq q (string_bytes p))) [
      | inl same ↦ ap (is_under path) (sym ((bytes_decides q (string_bytes p)).0 same)) ∙ u
      | inr apart ↦ absurd (none_some (Some n) (sym (ap (λ b. cond b (Some (Some m)) None) apart) ∙ e))
    ]
given_below path q n u (Wrote m content) e = absurd (none_some (Some n) e)
given_below path q n u (Synced m) e = absurd (none_some (Some n) e)
given_below path q n u (Moved f t m) e =
    elim (cases_Bool (bytes_eq q (string_bytes t))) [
      | inl same ↦ ap (is_under path) (sym ((bytes_decides q (string_bytes t)).0 same)) ∙ u
      | inr apart ↦
          let rest : cond (bytes_eq q (string_bytes f)) (Some None) None ≡ Some (Some n) = sym (ap (λ b. cond b (Some (Some m)) (cond (bytes_eq q (string_bytes f)) (Some None) None)) apart) ∙ e in
          absurd (not_given (bytes_eq q (string_bytes f)) n rest)
    ]
given_below path q n u (Removed p) e = absurd (not_given (bytes_eq q (string_bytes p)) n e)

not_both : (b : Bool) → b ≡ true → b ≡ false → ⊥
not_both b e f = cc

pub unused : (cs : List Change) (n : ℕ) (b : Bool) → b ≡ list_any (gives_number n) cs → b ≡ false → IsNew (disk_of cs) n
unused cs n b is not_one q h = not_both b (is ∙ any_given (gives_number n) q n (given_number q n) cs h) not_one

no_file : (o : Option ℕ) → ((n : ℕ) → o ≡ Some n → ⊥) → o ≡ None
no_file None f = refl
no_file (Some n) f = absurd (f n refl)

pub is_leaf : (cs : List Change) (path : List ℕ) (b : Bool) → b ≡ list_any (gives_below path) cs → b ≡ false → IsLeaf (disk_of cs) path
is_leaf cs path b is not_one q low = no_file (file_at (disk_of cs) q) (λ n h. not_both b (is ∙ any_given (gives_below path) q n (given_below path q n (tested_below path q low)) cs h) not_one)

-- the paths that were given below this one
all_with : (P : List ℕ → Type 0) (o : Option (List ℕ)) (xs : List (List ℕ)) → IfSome o P → AllByRecursion P xs → AllByRecursion P (cons_option o xs)
all_with P None xs h k = k
all_with P (Some x) xs h k = (h, k)

among_with : (P : List ℕ → Type 0) (o : Option (List ℕ)) (xs : List (List ℕ)) → Among P xs → Among P (cons_option o xs)
among_with P None xs h = h
among_with P (Some x) xs h = inr h

some_if : (P : List ℕ → Type 0) (b : Bool) (p : List ℕ) → (b ≡ true → P p) → IfSome (cond b (Some p) None) P
some_if P true p f = f refl
some_if P false p f = tt

given_is_below : (path : List ℕ) (c : Change) → IfSome (given_lower path c) (Below path)
given_is_below path (Made p m) = some_if (Below path) (is_under path (string_bytes p)) (string_bytes p) (below_tested path (string_bytes p))
given_is_below path (Wrote m content) = tt
given_is_below path (Synced m) = tt
given_is_below path (Moved f t m) = some_if (Below path) (is_under path (string_bytes t)) (string_bytes t) (below_tested path (string_bytes t))
given_is_below path (Removed p) = tt

given_exact : (path q : List ℕ) (n : ℕ) → is_under path q ≡ true → (c : Change) → told_path c q ≡ Some (Some n) → given_lower path c ≡ Some q
given_exact path q n u (Made p m) e =
    elim (cases_Bool (bytes_eq q (string_bytes p))) [
      | inl same ↦
          let at : string_bytes p ≡ q = sym ((bytes_decides q (string_bytes p)).0 same) in
          ap (λ b. cond b (Some (string_bytes p)) None) (ap (is_under path) at ∙ u) ∙ ap Some at
      | inr apart ↦ absurd (none_some (Some n) (sym (ap (λ b. cond b (Some (Some m)) None) apart) ∙ e))
    ]
given_exact path q n u (Wrote m content) e = absurd (none_some (Some n) e)
given_exact path q n u (Synced m) e = absurd (none_some (Some n) e)
given_exact path q n u (Moved f t m) e =
    elim (cases_Bool (bytes_eq q (string_bytes t))) [
      | inl same ↦
          let at : string_bytes t ≡ q = sym ((bytes_decides q (string_bytes t)).0 same) in
          ap (λ b. cond b (Some (string_bytes t)) None) (ap (is_under path) at ∙ u) ∙ ap Some at
      | inr apart ↦
          let rest : cond (bytes_eq q (string_bytes f)) (Some None) None ≡ Some (Some n) = sym (ap (λ b. cond b (Some (Some m)) (cond (bytes_eq q (string_bytes f)) (Some None) None)) apart) ∙ e in
          absurd (not_given (bytes_eq q (string_bytes f)) n rest)
    ]
given_exact path q n u (Removed p) e = absurd (not_given (bytes_eq q (string_bytes p)) n e)

lists_below : (path : List ℕ) (cs : List Change) → AllByRecursion (Below path) (filter_map (given_lower path) cs)
lists_below path [] = tt
lists_below path (c ∷ cs) = all_with (Below path) (given_lower path c) (filter_map (given_lower path) cs) (given_is_below path c) (lists_below path cs)

listed_step : (q : List ℕ) (t : Option (Option ℕ)) (o : Option ℕ) (n : ℕ) (g : Option (List ℕ)) (xs : List (List ℕ)) → unwrap_or t o ≡ Some n → (t ≡ Some (Some n) → g ≡ Some q) → (o ≡ Some n → Among (λ p. AtOrBelow p q) xs) → Among (λ p. AtOrBelow p q) (cons_option g xs)
listed_step q None o n g xs k f ih = among_with (λ p. AtOrBelow p q) g xs (ih k)
listed_step q (Some p) o n g xs k f ih = subst (λ x. Among (λ y. AtOrBelow y q) (cons_option x xs)) (sym (f (ap Some k))) (inl (inl refl))

lists_all : (path q : List ℕ) (n : ℕ) → is_under path q ≡ true → (cs : List Change) → file_at (disk_of cs) q ≡ Some n → Among (λ p. AtOrBelow p q) (filter_map (given_lower path) cs)
lists_all path q n u [] h = absurd (none_some n (sym (none_told [] q (omega arith)) ∙ h))
lists_all path q n u (c ∷ cs) h = listed_step q (told_path c q) (file_at (disk_of cs) q) n (given_lower path c) (filter_map (given_lower path) cs) (sym (one_on c (disk_of cs) q) ∙ h) (given_exact path q n u c) (lists_all path q n u cs)

pub lists_given : (cs : List Change) (path : List ℕ) (paths : List (List ℕ)) → paths ≡ filter_map (given_lower path) cs → Lists (disk_of cs) path paths
lists_given cs path paths e = subst (Lists (disk_of cs) path) (sym e) (record {
  below = lists_below path cs;
  all = λ q n low h. lists_all path q n (tested_below path q low) cs h;
})

one_kept : (o : Option (List ℕ)) → option_to_list o ≡ cons_option o []
one_kept None = refl
one_kept (Some x) = refl

pub given_more : (path : List ℕ) (cs : List Change) (i : ℕ) (c : Change) (old new : List (List ℕ)) (found : Option (List ℕ)) → i < length cs → c ≡ get_or cs i c → old ≡ filter_map (given_lower path) (take i cs) → found ≡ given_lower path c → new ≡ old ++ option_to_list found → new ≡ filter_map (given_lower path) (take (i + 1) cs)
given_more path cs i c old new found h is e f n =
    n ∙ ap (λ xs. xs ++ option_to_list found) e
    ∙ ap (λ o. filter_map (given_lower path) (take i cs) ++ option_to_list o) f
    ∙ ap (λ xs. filter_map (given_lower path) (take i cs) ++ xs) (one_kept (given_lower path c))
    ∙ sym (filter_map-append (given_lower path) (take i cs) (c ∷ []))
    ∙ ap (filter_map (given_lower path)) (sym (take_more cs i c h ∙ ap (λ x. take i cs ++ x ∷ []) (sym is)))
