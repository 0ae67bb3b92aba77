-- A look-up in a store's list of objects, one object on.
use Rattle.std.proofs.Common.{◌≡◌, ℕ, ◌<◌, List, [], ◌∷◌, true, false, cond, Some, None, length, get_or, arith, refl, ap, ◌∙◌, sym, drop, take, ◌-◌}
use Rattle.std.proofs.lemmas.List.{take_all}
use Rattle.std.specs.Str.{bytes_eq}
use Rattle.std.specs.FinMap as map
use Rattle.std.specs.Ordering.{nat_cmp}
use Rattle.std.specs.Cmp.Lexicographic.{slice_cmp, nat_list_cmp_total}
use Rattle.std.proofs.lemmas.Map.Text.{is_eq-slice_cmp}
use Rattle.vol_base.specs.Stored.{objects_of}
use Rattle.vol_base.specs.declared.object.Object.{Object}

one_on : (o : Object) (os : List Object) (name : List ℕ) → map.get (objects_of (o ∷ os)) name ≡ cond (bytes_eq name o.name) (Some o.bytes.items) (map.get (objects_of os) name)
one_on o os name =
    map.get-insert nat_list_cmp_total (objects_of os) o.name o.bytes.items name
    ∙ ap (λ b. cond b (Some o.bytes.items) (map.get (objects_of os) name)) (is_eq-slice_cmp name o.name)

pub found_first : (rest : List Object) (first : Object) (name : List ℕ) → 0 < length rest → first ≡ get_or rest 0 first → bytes_eq name first.name ≡ true → map.get (objects_of rest) name ≡ Some first.bytes.items
found_first [] first name h is e = absurd (omega arith)
found_first (o ∷ os) first name h is e = one_on o os name ∙ ap (λ (x : Object). cond (bytes_eq name x.name) (Some x.bytes.items) (map.get (objects_of os) name)) (sym is) ∙ rw e refl

pub missed_first : (rest : List Object) (first : Object) (name : List ℕ) (n : ℕ) → 0 < length rest → first ≡ get_or rest 0 first → bytes_eq name first.name ≡ false → n ≡ length rest - 1 → map.get (objects_of (take n (drop 1 rest))) name ≡ map.get (objects_of rest) name
missed_first [] first name n h is e len = absurd (omega arith)
missed_first (o ∷ os) first name n h is e len =
    ap (λ xs. map.get (objects_of xs) name) (take_all n os (omega arith))
    ∙ sym (one_on o os name ∙ ap (λ (x : Object). cond (bytes_eq name x.name) (Some x.bytes.items) (map.get (objects_of os) name)) (sym is) ∙ rw e refl)

pub none_left : (rest : List Object) (name : List ℕ) → length rest < 1 → map.get (objects_of rest) name ≡ None
none_left [] name h = map.get-empty (slice_cmp nat_cmp) name
none_left (o ∷ os) name h = absurd (omega arith)
