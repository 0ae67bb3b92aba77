-- What stands below a folder, folder by folder.
use Rattle.std.proofs.Common.{◌≡◌, ◌⊎◌, eqb-true, ℕ, ◌==◌, List, [], ◌∷◌, ◌++◌, length, drop, map as map_list, Bool, true, false, cond, ◌&&◌, ◌||◌, nat_eq, slice_index, Option, Some, None, refl, ap, sym, subst, ◌∙◌, rules, inl, inr}
use Rattle.std.proofs.lemmas.List.{append_assoc, places}
use Rattle.std.proofs.lemmas.Bool.{cases_Bool}
use Rattle.std.proofs.lemmas.Bool.Decides.{Decides-eqb}
use Rattle.std.proofs.lemmas.Slice.Eq.{starts_is}
use Rattle.std.specs.Option.{option_map}
use Rattle.std.specs.List.{AllByRecursion, list_any, starts_with}
use Rattle.std.specs.FinMap as map
use Rattle.std.specs.Ordering.{nat_cmp, eq_by_cmp}
use Rattle.std.specs.Cmp.Lexicographic.{slice_cmp}
use Rattle.vol_base.specs.Outside.{is_under, any_under}
use Rattle.folder_store.specs.Disks.{Disk, file_at, is_object, objects_of}
use Rattle.folder_store.specs.Below.{Below, AtOrBelow, Among}
use Rattle.folder_store.specs.Searching.{IsObjectAt, HasBelow, AreLeft}
use Rattle.folder_store.proofs.ObjectSteps.{tied, tied_itself, object_there}
use Rattle.folder_store.specs.ObjectBytes.{get_object}

-- one of some
pub among_left : (P : List ℕ → Type 0) (xs ys : List (List ℕ)) → Among P xs → Among P (xs ++ ys)
among_left P [] ys h = absurd h
among_left P (x ∷ xs) ys h = elim h [ inl p ↦ inl p | inr q ↦ inr (among_left P xs ys q) ]

pub among_right : (P : List ℕ → Type 0) (xs ys : List (List ℕ)) → Among P ys → Among P (xs ++ ys)
among_right P [] ys h = h
among_right P (x ∷ xs) ys h = inr (among_right P xs ys h)

pub among_cases : (P : List ℕ → Type 0) (xs ys : List (List ℕ)) → Among P (xs ++ ys) → Among P xs ⊎ Among P ys
among_cases P [] ys h = inr h
among_cases P (x ∷ xs) ys h = elim h [ inl p ↦ inl (inl p) | inr q ↦ elim (among_cases P xs ys q) [ inl r ↦ inl (inr r) | inr r ↦ inr r ] ]

pub among_of : (P Q : List ℕ → Type 0) → ((x : List ℕ) → P x → Q x) → (xs : List (List ℕ)) → Among P xs → Among Q xs
among_of P Q f [] h = absurd h
among_of P Q f (x ∷ xs) h = elim h [ inl p ↦ inl (f x p) | inr q ↦ inr (among_of P Q f xs q) ]

pub all_after : (P : List ℕ → Type 0) (xs ys : List (List ℕ)) → AllByRecursion P xs → AllByRecursion P ys → AllByRecursion P (xs ++ ys)
all_after P [] ys h k = k
all_after P (x ∷ xs) ys h k = (h.0, all_after P xs ys h.1 k)

pub all_front : (P : List ℕ → Type 0) (xs ys : List (List ℕ)) → AllByRecursion P (xs ++ ys) → AllByRecursion P xs × AllByRecursion P ys
all_front P [] ys h = (tt, h)
all_front P (x ∷ xs) ys h = let rest = all_front P xs ys h.1 in ((h.0, rest.0), rest.1)

pub all_of : (P Q : List ℕ → Type 0) → ((x : List ℕ) → P x → Q x) → (xs : List (List ℕ)) → AllByRecursion P xs → AllByRecursion Q xs
all_of P Q f [] h = tt
all_of P Q f (x ∷ xs) h = (f x h.0, all_of P Q f xs h.1)

-- what holds of each holds of the one that passes
pub all_among : (P Q R : List ℕ → Type 0) → ((x : List ℕ) → P x → Q x → R x) → (xs : List (List ℕ)) → AllByRecursion P xs → Among Q xs → Among R xs
all_among P Q R f [] h k = absurd k
all_among P Q R f (x ∷ xs) h k = elim k [ inl q ↦ inl (f x h.0 q) | inr r ↦ inr (all_among P Q R f xs h.1 r) ]

pub out_of : (A : Type 0) (P : List ℕ → Type 0) → ((x : List ℕ) → P x → A) → (xs : List (List ℕ)) → Among P xs → A
out_of A P f [] h = absurd h
out_of A P f (x ∷ xs) h = elim h [ inl p ↦ f x p | inr q ↦ out_of A P f xs q ]

-- below what is below
pub lower_still : (a b c : List ℕ) → Below a b → Below b c → Below a c
lower_still a b c h k = (h.0 ++ 47 ∷ k.0, k.1 ∙ ap (λ xs. xs ++ 47 ∷ k.0) h.1 ∙ append_assoc a (47 ∷ h.0) (47 ∷ k.0))

pub at_or_lower : (a b c : List ℕ) → AtOrBelow a b → Below b c → Below a c
at_or_lower a b c h k = elim h [ inl e ↦ subst (λ x. Below x c) e k | inr l ↦ lower_still a b c l k ]

head_at : (p rest : List ℕ) → slice_index (p ++ rest) (length p) ≡ slice_index rest 0
head_at p rest = search (rules, places)

under_rest : (p rest : List ℕ) → (slice_index rest 0 == 47) ≡ true → (tail : List ℕ) × (rest ≡ 47 ∷ tail)
under_rest p [] h = absurd (cc)
under_rest p (x ∷ xs) h = (xs, ap (λ y. y ∷ xs) (eqb-true x 47 h))

and_first : (a b : Bool) → (a && b) ≡ true → (a ≡ true) × (b ≡ true)
and_first true b h = (refl, h)
and_first false b h = absurd (cc)

-- the test of the names is this
pub below_tested : (p q : List ℕ) → is_under p q ≡ true → Below p q
below_tested p q h =
    let both = and_first (starts_with nat_eq q p) (slice_index q (length p) == 47) h in
    let cut : q ≡ p ++ drop (length p) q = (starts_is Decides-eqb q p (starts_with nat_eq q p) refl).0 both.0 in
    let first : (slice_index (drop (length p) q) 0 == 47) ≡ true = ap (λ x. x == 47) (sym (head_at p (drop (length p) q)) ∙ ap (λ xs. slice_index xs (length p)) (sym cut)) ∙ both.1 in
    let rest = under_rest p (drop (length p) q) first in
    (rest.0, cut ∙ ap (λ xs. p ++ xs) rest.1)

pub tested_below : (p q : List ℕ) → Below p q → is_under p q ≡ true
tested_below p q h =
    let starts : starts_with nat_eq q p ≡ true = (starts_is Decides-eqb q p (starts_with nat_eq q p) refl).1 (47 ∷ h.0) h.1 in
    let first : slice_index q (length p) ≡ 47 = ap (λ xs. slice_index xs (length p)) h.1 ∙ head_at p (47 ∷ h.0) in
    ap (λ b. b && (slice_index q (length p) == 47)) starts ∙ ap (λ x. x == 47) first

or_true : (a : Bool) → (a || true) ≡ true
or_true true = refl
or_true false = refl

any_found : (test : List ℕ → Bool) (q : List ℕ) (v : List ℕ) (es : List (List ℕ × List ℕ)) → map.find (slice_cmp nat_cmp) q es ≡ Some v → test q ≡ true → list_any test (map_list (λ e. e.0) es) ≡ true
any_found test q v [] h t = absurd (cc)
any_found test q v (e ∷ es) h t =
    elim (cases_Bool (eq_by_cmp (slice_cmp nat_cmp) q e.0)) [
      | inl same ↦ ap (λ b. b || list_any test (map_list (λ x. x.0) es)) (ap test (sym (tied q e.0 same)) ∙ t)
      | inr apart ↦ ap (λ b. test e.0 || b) (any_found test q v es (sym (ap (λ b. cond b (Some e.1) (map.find (slice_cmp nat_cmp) q es)) apart) ∙ h) t) ∙ or_true (test e.0)
    ]

found_any : (test : List ℕ → Bool) (es : List (List ℕ × List ℕ)) → list_any test (map_list (λ e. e.0) es) ≡ true → (q : List ℕ) × (v : List ℕ) × (map.find (slice_cmp nat_cmp) q es ≡ Some v) × (test q ≡ true)
found_any test [] h = absurd (cc)
found_any test (e ∷ es) h =
    elim (cases_Bool (test e.0)) [
      | inl t ↦ (e.0, e.1, ap (λ b. cond b (Some e.1) (map.find (slice_cmp nat_cmp) e.0 es)) (tied_itself e.0), t)
      | inr f ↦
          let rest = found_any test es (sym (ap (λ b. b || list_any test (map_list (λ x. x.0) es)) f) ∙ h) in
          elim (cases_Bool (eq_by_cmp (slice_cmp nat_cmp) rest.0 e.0)) [
            | inl same ↦ (rest.0, e.1, ap (λ b. cond b (Some e.1) (map.find (slice_cmp nat_cmp) rest.0 es)) same, rest.3)
            | inr apart ↦ (rest.0, rest.1, ap (λ b. cond b (Some e.1) (map.find (slice_cmp nat_cmp) rest.0 es)) apart ∙ rest.2, rest.3)
          ]
    ]

-- an object that is there is a file that is there
stands_from : (d : Disk) (q v : List ℕ) → map.get (objects_of d) q ≡ Some v → IsObjectAt d q
stands_from d q v h =
    let e : cond (is_object q) (option_map d.holds (file_at d q)) None ≡ Some v = sym (get_object d q) ∙ h in
    elim (cases_Bool (is_object q)) [
      | inl is ↦
          let file = some_file (file_at d q) d.holds v (sym (ap (λ b. cond b (option_map d.holds (file_at d q)) None) is) ∙ e) in
          record { is = is; file = file.0; stands = file.1 }
      | inr part ↦ absurd (none_some v (sym (ap (λ b. cond b (option_map d.holds (file_at d q)) None) part) ∙ e))
    ]
  where
    none_some : (x : List ℕ) → ◌≡◌ {A = Option (List ℕ)} None (Some x) → ⊥
    none_some x e = cc

    some_file : (o : Option ℕ) (holds : ℕ → List ℕ) (x : List ℕ) → option_map holds o ≡ Some x → (n : ℕ) × (o ≡ Some n)
    some_file None holds x e = absurd (none_some x e)
    some_file (Some n) holds x e = (n, refl)

pub any_true : (d : Disk) (name : List ℕ) → HasBelow d name → any_under (objects_of d) name ≡ true
any_true d name h =
    let there : map.get (objects_of d) h.0 ≡ Some (d.holds h.2.file) = object_there d h.0 h.2.file h.2.is h.2.stands in
    any_found (is_under name) h.0 _ (map.entries (objects_of d)) (sym (map.get-entries (objects_of d) h.0) ∙ there) (tested_below name h.0 h.1)

pub any_false : (d : Disk) (name : List ℕ) → AreLeft d name [] → any_under (objects_of d) name ≡ false
any_false d name h =
    elim (cases_Bool (any_under (objects_of d) name)) [
      | inl passed ↦
          let one = found_any (is_under name) (map.entries (objects_of d)) passed in
          absurd (h.all one.0 (stands_from d one.0 one.1 (map.get-entries (objects_of d) one.0 ∙ one.2)) (below_tested name one.0 one.3))
      | inr none ↦ none
    ]
