-- The search for an object below a folder.
use Rattle.std.proofs.Common.{◌≡◌, ◌≢◌, ℕ, arith, length, List, [], ◌∷◌, ◌++◌, map as map_list, option_to_list, Bool, true, false, Option, Some, None, IfSome, IfOk, Result, Ok, Err, refl, ap, sym, subst, ◌∙◌, inl, inr}
use Rattle.std.proofs.lemmas.List.{append-nil, append_assoc, map-append}
use Rattle.std.specs.Option.{option_map}
use Rattle.std.specs.List.{AllByRecursion}
use Rattle.vol_base.specs.Outside.{any_under}
use Rattle.vol_base.specs.declared.outside.Failed.{Failed}
use Rattle.folder_store.specs.declared.folder.Kind.TheVariants.{File, Folder as FolderKind}
use Rattle.folder_store.specs.declared.folder.Standing.{Standing}
use Rattle.folder_store.specs.declared.directory.Entry.{Entry}
use Rattle.folder_store.specs.declared.directory.Entry.TheVariants.{Object, Folder, Nothing}
use Rattle.folder_store.specs.Disks.{Disk, file_at, bytes_at, StandsAs, is_object, objects_of}
use Rattle.folder_store.specs.Below.{Below, AtOrBelow, Among, IsLeaf, Lists}
use Rattle.folder_store.specs.Searching.{IsObjectAt, HasBelow, IsPassed, ArePassed, Progress, IsSearched, AreLeft, JudgesPath}
use Rattle.folder_store.proofs.BelowSteps.{among_left, among_right, among_cases, all_after, all_front, all_of, all_among, out_of, at_or_lower, any_true, any_false}

none_some : (o : Option ℕ) (n : ℕ) → o ≡ None → o ≡ Some n → ⊥
none_some o n e f = cc

not_both : (b : Bool) → b ≡ true → b ≡ false → ⊥
not_both b e f = cc

-- what an answer of `stat` says
file_there : (d : Disk) (path : List ℕ) (s : Standing) (o : Option ℕ) → StandsAs (option_map d.holds o) s → s.kind ≡ File → (n : ℕ) × (o ≡ Some n)
file_there d path s None h k = absurd (h k)
file_there d path s (Some n) h k = (n, refl)

file_not_folder : (s : Standing) → s.kind ≡ File → s.kind ≡ FolderKind → ⊥
file_not_folder s e f = cc

no_file_there : (d : Disk) (path : List ℕ) (s : Standing) (o : Option ℕ) → StandsAs (option_map d.holds o) s → s.kind ≡ FolderKind → o ≡ None
no_file_there d path s None h k = refl
no_file_there d path s (Some n) h k = absurd (file_not_folder s h.0 k)

judge_ok : (d : Disk) (path : List ℕ) (s : Standing) (r : Result Entry Failed) → StandsAs (bytes_at d path) s → (s.kind ≢ FolderKind → IsLeaf d path) → (r ≡ Ok Object → (s.kind ≡ File) × (is_object path ≡ true)) → (r ≡ Ok Folder → s.kind ≡ FolderKind) → (r ≡ Ok Nothing → (s.kind ≡ File) × (is_object path ≡ false)) → IfOk r (JudgesPath d path)
judge_ok d path s (Err e) stands leaf a b c = tt
judge_ok d path s (Ok Object) stands leaf a b c =
    let is = a refl in
    let file = file_there d path s (file_at d path) stands is.0 in
    record { is = is.1; file = file.0; stands = file.1 }
judge_ok d path s (Ok Folder) stands leaf a b c = no_file_there d path s (file_at d path) stands (b refl)
judge_ok d path s (Ok Nothing) stands leaf a b c =
    let is = c refl in
    (λ o. not_both (is_object path) o.is is.1, leaf (λ k. file_not_folder s is.0 k))

if_ok : (r : Result Entry Failed) → IfOk r (λ x. Unit {0})
if_ok (Ok x) = tt
if_ok (Err e) = tt

pub judge_told : (disk : Option Disk) (path : List ℕ) (s : Standing) (r : Result Entry Failed) → IfSome disk (λ d. StandsAs (bytes_at d path) s) → (s.kind ≢ FolderKind → IfSome disk (λ d. IsLeaf d path)) → (r ≡ Ok Object → (s.kind ≡ File) × (is_object path ≡ true)) → (r ≡ Ok Folder → s.kind ≡ FolderKind) → (r ≡ Ok Nothing → (s.kind ≡ File) × (is_object path ≡ false)) → IfOk r (λ entry. IfSome disk (λ d. JudgesPath d path entry))
judge_told None path s r stands leaf a b c = if_ok r
judge_told (Some d) path s r stands leaf a b c = judge_ok d path s r stands leaf a b c

pub nothing_told : (disk : Option Disk) (path : List ℕ) → IfSome disk (λ d. file_at d path ≡ None) → IfSome disk (λ d. IsLeaf d path) → IfSome disk (λ d. JudgesPath d path Nothing)
nothing_told None path h l = tt
nothing_told (Some d) path h l = (λ o. none_some (file_at d path) o.file h o.stands, l)

-- a folder is put on the list
pub folder_passed : (disk : Option Disk) (path : List ℕ) (old new : List (List ℕ)) → IfSome disk (λ d. JudgesPath d path Folder) → new ≡ old ++ path ∷ [] → IfSome disk (λ d. IsPassed d path old new)
folder_passed None path old new h e = tt
folder_passed (Some d) path old new h e = record {
  more = path ∷ [];
  added = e;
  each = (refl, tt);
  all = λ lower o at. elim at [ inl same ↦ absurd (none_some (file_at d path) o.file h (ap (file_at d) (sym same) ∙ o.stands)) | inr low ↦ inl low ];
}

pub nothing_passed : (disk : Option Disk) (path : List ℕ) (old new : List (List ℕ)) → IfSome disk (λ d. JudgesPath d path Nothing) → new ≡ old → IfSome disk (λ d. IsPassed d path old new)
nothing_passed None path old new h e = tt
nothing_passed (Some d) path old new h e = record {
  more = [];
  added = e ∙ sym (append-nil old);
  each = tt;
  all = λ lower o at. elim at [ inl same ↦ h.0 (subst (IsObjectAt d) same o) | inr low ↦ none_some (file_at d lower) o.file (h.1 lower low) o.stands ];
}

-- path by path
pub progress_none : (disk : Option Disk) (paths fs : List (List ℕ)) → IfSome disk (λ d. Progress d paths paths fs fs)
progress_none None paths fs = tt
progress_none (Some d) paths fs = ([], refl, record { more = []; added = sym (append-nil fs); each = tt; all = λ lower o at. at })

more_passed : (d : Disk) (done : List (List ℕ)) (p : List ℕ) (a b c : List (List ℕ)) → ArePassed d done a b → IsPassed d p b c → ArePassed d (done ++ p ∷ []) a c
more_passed d done p a b c h k = record {
  more = h.more ++ k.more;
  added = k.added ∙ ap (λ xs. xs ++ k.more) h.added ∙ append_assoc a h.more k.more;
  each = all_after (λ f. Among (λ q. f ≡ q) (done ++ p ∷ [])) h.more k.more
      (all_of (λ f. Among (λ q. f ≡ q) done) (λ f. Among (λ q. f ≡ q) (done ++ p ∷ [])) (λ f m. among_left (λ q. f ≡ q) done (p ∷ []) m) h.more h.each)
      (all_of (λ f. f ≡ p) (λ f. Among (λ q. f ≡ q) (done ++ p ∷ [])) (λ f e. among_right (λ q. f ≡ q) done (p ∷ []) (inl e)) k.more k.each);
  all = λ lower o at. elim (among_cases (λ q. AtOrBelow q lower) done (p ∷ []) at) [
    | inl before ↦ among_left (λ f. Below f lower) h.more k.more (h.all lower o before)
    | inr now ↦ elim now [ inl here ↦ among_right (λ f. Below f lower) h.more k.more (k.all lower o here) | inr never ↦ absurd never ]
  ];
}

pub progress_more : (disk now : Option Disk) (paths coming rest : List (List ℕ)) (p : List ℕ) (a b c : List (List ℕ)) → now ≡ disk → IfSome disk (λ d. Progress d paths coming a b) → IfSome now (λ _. coming ≡ p ∷ rest) → IfSome now (λ d. IsPassed d p b c) → IfSome disk (λ d. Progress d paths rest a c)
progress_more None now paths coming rest p a b c same h e k = tt
progress_more (Some d) now paths coming rest p a b c same h e k =
    let here = subst (λ o. IfSome o (λ _. coming ≡ p ∷ rest)) same e in
    (h.0 ++ p ∷ [], h.1 ∙ ap (λ xs. h.0 ++ xs) here ∙ sym (append_assoc h.0 (p ∷ []) rest), more_passed d h.0 p a b c h.2 (subst (λ o. IfSome o (λ x. IsPassed x p b c)) same k))

pub progress_done : (disk now : Option Disk) (paths coming a b : List (List ℕ)) → now ≡ disk → IfSome disk (λ d. Progress d paths coming a b) → IfSome now (λ _. coming ≡ []) → IfSome disk (λ d. ArePassed d paths a b)
progress_done None now paths coming a b same h e = tt
progress_done (Some d) now paths coming a b same h e =
    let here = subst (λ o. IfSome o (λ _. coming ≡ [])) same e in
    subst (λ xs. ArePassed d xs a b) (sym (h.1 ∙ ap (λ xs. h.0 ++ xs) here ∙ append-nil h.0)) h.2

pub progress_found : (disk now : Option Disk) (paths coming rest : List (List ℕ)) (p : List ℕ) (a b : List (List ℕ)) → now ≡ disk → IfSome disk (λ d. Progress d paths coming a b) → IfSome now (λ _. coming ≡ p ∷ rest) → IfSome now (λ d. IsObjectAt d p) → IfSome disk (λ d. Among (IsObjectAt d) paths)
progress_found None now paths coming rest p a b same h e k = tt
progress_found (Some d) now paths coming rest p a b same h e k =
    let here = subst (λ o. IfSome o (λ _. coming ≡ p ∷ rest)) same e in
    subst (Among (IsObjectAt d)) (sym (h.1 ∙ ap (λ xs. h.0 ++ xs) here)) (among_right (IsObjectAt d) h.0 (p ∷ rest) (inl (subst (λ o. IfSome o (λ x. IsObjectAt x p)) same k)))

-- a folder whose names were read
all_found : (P Q A : List ℕ → Type 0) → ((x : List ℕ) → P x → Q x → (y : List ℕ) × A y) → (xs : List (List ℕ)) → AllByRecursion P xs → Among Q xs → (y : List ℕ) × A y
all_found P Q A f [] h k = absurd k
all_found P Q A f (x ∷ xs) h k = elim k [ inl q ↦ f x h.0 q | inr r ↦ all_found P Q A f xs h.1 r ]

pub folder_found : (disk now : Option Disk) (path : List ℕ) (paths : List (List ℕ)) → now ≡ disk → IfSome disk (λ d. Lists d path paths) → IfSome now (λ d. Among (IsObjectAt d) paths) → IfSome disk (λ d. HasBelow d path)
folder_found None now path paths same h k = tt
folder_found (Some d) now path paths same h k =
    let one = all_found (Below path) (IsObjectAt d) (λ y. Below path y × IsObjectAt d y) (λ x b o. (x, (b, o))) paths h.below (subst (λ o. IfSome o (λ x. Among (IsObjectAt x) paths)) same k) in
    (one.0, one.1.0, one.1.1)

pub folder_searched : (disk now : Option Disk) (path : List ℕ) (paths a b : List (List ℕ)) → now ≡ disk → IfSome disk (λ d. Lists d path paths) → IfSome now (λ d. ArePassed d paths a b) → IfSome disk (λ d. IsSearched d path a b)
folder_searched None now path paths a b same h k = tt
folder_searched (Some d) now path paths a b same h k =
    let passed : ArePassed d paths a b = subst (λ o. IfSome o (λ x. ArePassed x paths a b)) same k in
    record {
      more = passed.more;
      added = passed.added;
      each = all_of (λ f. Among (λ q. f ≡ q) paths) (Below path) (λ f m. out_of (Below path f) (λ q. Below path q × (f ≡ q)) (λ q x. subst (Below path) (sym x.1) x.0) paths (all_among (Below path) (λ q. f ≡ q) (λ q. Below path q × (f ≡ q)) (λ q l e. (l, e)) paths h.below m)) passed.more passed.each;
      all = λ lower o low. passed.all lower o (h.all lower o.file low o.stands);
    }

pub folder_absent : (disk : Option Disk) (path : List ℕ) (a b : List (List ℕ)) → IfSome disk (λ d. IsLeaf d path) → b ≡ a → IfSome disk (λ d. IsSearched d path a b)
folder_absent None path a b h e = tt
folder_absent (Some d) path a b h e = record {
  more = [];
  added = e ∙ sym (append-nil a);
  each = tt;
  all = λ lower o low. none_some (file_at d lower) o.file (h lower low) o.stands;
}

-- folder by folder
pub left_first : (disk : Option Disk) (name : List ℕ) (fs : List (List ℕ)) → fs ≡ [] ++ name ∷ [] → IfSome disk (λ d. AreLeft d name fs)
left_first None name fs e = tt
left_first (Some d) name fs e = subst (AreLeft d name) (sym e) (record { each = (inl refl, tt); all = λ lower o low. inl low })

pub left_more : (disk now : Option Disk) (name path : List ℕ) (whole fs gs : List (List ℕ)) → now ≡ disk → IfSome disk (λ d. AreLeft d name whole) → whole ≡ fs ++ path ∷ [] → IfSome now (λ d. IsSearched d path fs gs) → IfSome disk (λ d. AreLeft d name gs)
left_more None now name path whole fs gs same h e k = tt
left_more (Some d) now name path whole fs gs same h e k =
    let searched : IsSearched d path fs gs = subst (λ o. IfSome o (λ x. IsSearched x path fs gs)) same k in
    let left : AreLeft d name (fs ++ path ∷ []) = subst (AreLeft d name) e h in
    let parts = all_front (AtOrBelow name) fs (path ∷ []) left.each in
    subst (AreLeft d name) (sym searched.added) (record {
      each = all_after (AtOrBelow name) fs searched.more parts.0 (all_of (Below path) (AtOrBelow name) (λ f l. inr (at_or_lower name path f parts.1.0 l)) searched.more searched.each);
      all = λ lower o low. elim (among_cases (λ f. Below f lower) fs (path ∷ []) (left.all lower o low)) [
        | inl before ↦ among_left (λ f. Below f lower) fs searched.more before
        | inr now ↦ elim now [ inl here ↦ among_right (λ f. Below f lower) fs searched.more (searched.all lower o here) | inr never ↦ absurd never ]
      ];
    })

pub below_found : (disk now : Option Disk) (name path : List ℕ) (whole fs : List (List ℕ)) → now ≡ disk → IfSome disk (λ d. AreLeft d name whole) → whole ≡ fs ++ path ∷ [] → IfSome now (λ d. HasBelow d path) → IfSome disk (λ d. true ≡ any_under (objects_of d) name)
below_found None now name path whole fs same h e k = tt
below_found (Some d) now name path whole fs same h e k =
    let has : HasBelow d path = subst (λ o. IfSome o (λ x. HasBelow x path)) same k in
    let left : AreLeft d name (fs ++ path ∷ []) = subst (AreLeft d name) e h in
    let parts = all_front (AtOrBelow name) fs (path ∷ []) left.each in
    sym (any_true d name (has.0, at_or_lower name path has.0 parts.1.0 has.1, has.2))

pub none_below : (disk : Option Disk) (name : List ℕ) (whole : List (List ℕ)) → IfSome disk (λ d. AreLeft d name whole) → whole ≡ [] → IfSome disk (λ d. false ≡ any_under (objects_of d) name)
none_below None name whole h e = tt
none_below (Some d) name whole h e = sym (any_false d name (subst (AreLeft d name) e h))

pub popped_paths : {X : Type 0} (f : X → List ℕ) (xs ys : List X) (r : Option X) (p : X) → xs ≡ ys ++ option_to_list r → r ≡ Some p → map_list f xs ≡ map_list f ys ++ f p ∷ []
popped_paths f xs ys r p e s = ap (map_list f) (e ∙ ap (λ o. ys ++ option_to_list o) s) ∙ map-append f ys (p ∷ [])

pub none_popped : {X : Type 0} (f : X → List ℕ) (xs ys : List X) (r : Option X) → length xs ≡ 0 → map_list f xs ≡ []
none_popped f [] ys r h = refl
none_popped f (x ∷ xs) ys r h = absurd (omega arith)
