-- Arrays of values beside the arrays that they stand for.
use Rattle.std.proofs.Common.{◌≡◌, Bool, ◌||◌, true, false, cond, List, [], ◌∷◌, map, length, Option, Some, None, option_map, Bor, refl, sym, ap, ◌∙◌}
use Rattle.std.specs.List.{find, list_any}
use Rattle.serde_json.proofs.Views.{view_of_ref}
use Rattle.serde_json.specs.Data.{Data}
use Rattle.serde_json.specs.View.{view, items_view}
use Rattle.serde_json.specs.declared.value.Value.{Value}
use Rattle.info_doc.specs.Json.{listed, elements, three, triple}

pub listed-items_view : (vs : List Value) → listed (items_view vs) ≡ map view vs
listed-items_view [] = refl
listed-items_view (v ∷ vs) = ap (λ ds. view v ∷ ds) (listed-items_view vs)

-- no other number of elements is read
three-other : {A : Type 0} (f : Data → Option A) (vs : List Value) → (length vs ≡ 3 → ⊥) → three f (map view vs) ≡ None
three-other f [] h = refl
three-other f (x ∷ []) h = refl
three-other f (x ∷ y ∷ []) h = refl
three-other f (x ∷ y ∷ z ∷ []) h = absurd (h refl)
three-other f (x ∷ y ∷ z ∷ w ∷ vs) h = refl

pub triple-other : {A : Type 0} (f : Data → Option A) (d : Data) (vs : List Value) → Some (map view vs) ≡ elements d → (length vs ≡ 3 → ⊥) → None ≡ triple f d
triple-other f d vs is other = rw (sym is, three-other f vs other) refl

find-map_at : (b : Bool) (v : Value) (r : Option Value) (s : Option Data) → option_map view r ≡ s → cond b (Some (view v)) s ≡ option_map view (cond b (Some v) r)
find-map_at true v r s e = refl
find-map_at false v r s e = sym e

find-map : (test : Data → Bool) (vs : List Value) → find test (map view vs) ≡ option_map view (find (λ v. test (view v)) vs)
find-map test [] = refl
find-map test (v ∷ vs) = find-map_at (test (view v)) v _ _ (sym (find-map test vs))

-- what is found among values is found among the data
pub find-view : (test : Data → Bool) (vs : List Value) (found : Option (Bor Value)) → option_map (λ v. v.now) found ≡ find (λ v. test (view v)) vs → option_map (λ v. view v.now) found ≡ find test (map view vs)
find-view test vs found e = view_of_ref found ∙ ap (option_map view) e ∙ sym (find-map test vs)

pub list_any-map : (test : Data → Bool) (vs : List Value) → list_any test (map view vs) ≡ list_any (λ v. test (view v)) vs
list_any-map test [] = refl
list_any-map test (v ∷ vs) = ap (λ b. test (view v) || b) (list_any-map test vs)
