-- Whether some key of a map of objects passes a test, as a scan of the entries finds it.
use Rattle.std.proofs.Common.{◌≡◌, ℕ, List, [], ◌∷◌, map as map_list, Bool, true, false, ◌||◌, refl, ap, ◌∙◌, sym, arith, length}
use Rattle.std.specs.declared.cmp.Ordering.TheVariants.{Less, Equal, Greater}
use Rattle.std.specs.List.{list_any}
use Rattle.std.specs.FinMap as map
use Rattle.std.specs.FinMap.{put, entries-insert, slice_cmp-IsAntisymmetric, nat_cmp-IsAntisymmetric}
use Rattle.std.specs.FinMap.Entries.{by_order}
use Rattle.std.specs.Ordering.{nat_cmp}
use Rattle.std.specs.Cmp.Lexicographic.{slice_cmp, nat_list_cmp_total}
use Rattle.vol_base.specs.Stored.{objects_of}
use Rattle.vol_base.specs.declared.object.Object.{Object}

again : (a b : Bool) → (a || b) ≡ (a || (a || b))
again true b = refl
again false b = refl

turned : (a b c : Bool) → (b || (a || c)) ≡ (a || (b || c))
turned true true c = refl
turned true false c = refl
turned false b c = refl

any_key : (List ℕ → Bool) → List (List ℕ × List ℕ) → Bool
any_key test es = list_any test (map_list (λ e. e.0) es)

any_key-put : (test : List ℕ → Bool) (k v : List ℕ) (es : List (List ℕ × List ℕ)) → any_key test (put (slice_cmp nat_cmp) k v es) ≡ (test k || any_key test es)
unfolding any_key
any_key-put test k v [] = refl
any_key-put test k v (e ∷ es) =
    let rest = any_key-put test k v es in
    elim (slice_cmp nat_cmp k e.0) as (λ r. slice_cmp nat_cmp k e.0 ≡ r → any_key test (by_order r ((k, v) ∷ e ∷ es) ((e.0, v) ∷ es) (e ∷ put (slice_cmp nat_cmp) k v es)) ≡ (test k || (test e.0 || any_key test es))) [
      | Less ↦ λ p. refl
      | Equal ↦ λ p. ap (λ b. b || any_key test es) (ap test (sym (slice_cmp-IsAntisymmetric nat_cmp-IsAntisymmetric k e.0 p))) ∙ again (test k) (any_key test es) ∙ ap (λ b. test k || (b || any_key test es)) (ap test (slice_cmp-IsAntisymmetric nat_cmp-IsAntisymmetric k e.0 p))
      | Greater ↦ λ p. ap (λ b. test e.0 || b) rest ∙ turned (test k) (test e.0) (any_key test es)
    ] refl

none_passes : (test : List ℕ → Bool) (es : List (List ℕ × List ℕ)) → length es ≡ 0 → any_key test es ≡ false
unfolding any_key
none_passes test [] h = refl
none_passes test (e ∷ es) h = absurd (omega arith)

pub any_of_objects : (test : List ℕ → Bool) (os : List Object) → list_any (λ o. test o.name) os ≡ list_any test (map.keys (objects_of os))
unfolding any_key
any_of_objects test [] = sym (none_passes test _ (sym (map.len-entries (map.empty {R = slice_cmp nat_cmp})) ∙ map.len-empty (slice_cmp nat_cmp) (List ℕ)))
any_of_objects test (o ∷ os) =
    ap (λ b. test o.name || b) (any_of_objects test os)
    ∙ sym (any_key-put test o.name o.bytes.items (map.entries (objects_of os)))
    ∙ sym (ap (any_key test) (entries-insert nat_list_cmp_total (objects_of os) o.name o.bytes.items))
