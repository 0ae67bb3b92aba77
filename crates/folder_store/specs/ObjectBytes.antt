-- What the objects of a disk hold is bytes (this project's).
use Rattle.std.proofs.Common.{◌≡◌, ℕ, List, [], ◌∷◌, map as map_list, Bool, true, false, cond, Option, Some, None, IfSome, refl, ap, sym, subst, ◌∙◌}
use Rattle.std.specs.Coded.{Π_prop, Unit-prop, le_prop}
use Rattle.std.specs.Option.{option_map}
use Rattle.std.specs.FinMap as map
use Rattle.std.specs.FinMap.{slice_cmp-IsAntisymmetric, nat_cmp-IsAntisymmetric}
use Rattle.std.specs.Ordering.{nat_cmp, eq_by_cmp}
use Rattle.std.specs.Cmp.Lexicographic.{slice_cmp, nat_list_cmp_total}
use Rattle.vol_base.specs.Bytes.{AreBytes}
use Rattle.vol_base.specs.Outside.{Objects, HaveBytes}
use Rattle.folder_store.specs.Disks.{Disk, file_at, HoldBytes, is_object, values_by, objects_of}

find_values : (holds : ℕ → List ℕ) (q : List ℕ) (es : List (List ℕ × ℕ)) → map.find (slice_cmp nat_cmp) q (map_list (λ e. (e.0, holds e.1)) es) ≡ option_map holds (map.find (slice_cmp nat_cmp) q es)
find_values holds q [] = refl
find_values holds q (e ∷ es) =
    elim (eq_by_cmp (slice_cmp nat_cmp) q e.0) as (λ b. cond b (Some (holds e.1)) (map.find (slice_cmp nat_cmp) q (map_list (λ x. (x.0, holds x.1)) es)) ≡ option_map holds (cond b (Some e.1) (map.find (slice_cmp nat_cmp) q es))) [
      | true ↦ refl
      | false ↦ find_values holds q es
    ]

mapped_cond : (holds : ℕ → List ℕ) (b : Bool) (o : Option ℕ) → option_map holds (cond b o None) ≡ cond b (option_map holds o) None
mapped_cond holds true o = refl
mapped_cond holds false o = refl

pub get_object : (d : Disk) (q : List ℕ) → map.get (objects_of d) q ≡ cond (is_object q) (option_map d.holds (file_at d q)) None
unfolding objects_of values_by
get_object d q =
    let kept = map.retain_keys d.files is_object in
    map.get-from_entries nat_list_cmp_total (map_list (λ e. (e.0, d.holds e.1)) (map.entries kept)) q
    ∙ find_values d.holds q (map.entries kept)
    ∙ ap (option_map d.holds) (sym (map.get-entries kept q) ∙ map.get-retain_keys d.files is_object q (λ x e. ap is_object (sym (slice_cmp-IsAntisymmetric nat_cmp-IsAntisymmetric q x e))))
    ∙ mapped_cond d.holds (is_object q) (file_at d q)

have_of : (d : Disk) (b : Bool) (o : Option ℕ) → HoldBytes d → IfSome (cond b (option_map d.holds o) None) AreBytes
have_of d true None h = tt
have_of d true (Some n) h = h n
have_of d false o h = tt

pub have_bytes : (d : Disk) → HoldBytes d → HaveBytes (objects_of d)
have_bytes d h name = subst (λ o. IfSome o AreBytes) (sym (get_object d name)) (have_of d (is_object name) (file_at d name) h)

pub have_told : (disk : Option Disk) → IfSome disk HoldBytes → IfSome (option_map objects_of disk) HaveBytes
have_told None h = tt
have_told (Some d) h = have_bytes d h

-- and there is one proof of it at most
are_once : (o : Option (List ℕ)) → IsProp (IfSome o AreBytes)
are_once None = Unit-prop
are_once (Some bytes) = Π_prop (λ i. le_prop)

pub have_bytes_once : (o : Option Objects) → IsProp (IfSome o HaveBytes)
have_bytes_once None = Unit-prop
have_bytes_once (Some m) = Π_prop (λ name. are_once (map.get m name))
