-- What the objects of a store in memory hold is bytes, put by put (this project's).
use Rattle.std.proofs.Common.{ℕ, List, [], ◌∷◌, Bool, true, false, cond, Some, Option, sym, subst, IfSome}
use Rattle.std.specs.FinMap as map
use Rattle.std.specs.Ordering.{eq_by_cmp, nat_cmp}
use Rattle.std.specs.Cmp.Lexicographic.{slice_cmp, nat_list_cmp_total}
use Rattle.vol_base.specs.Bytes.{AreBytes}
use Rattle.vol_base.specs.Outside.{Objects, HaveBytes}
use Rattle.vol_base.specs.Stored.{objects_of}
use Rattle.vol_base.specs.declared.object.Object.{Object}

either : (b : Bool) (x y : Option (List ℕ)) → IfSome x AreBytes → IfSome y AreBytes → IfSome (cond b x y) AreBytes
either true x y one other = one
either false x y one other = other

have_empty : HaveBytes map.empty
have_empty name = subst (λ o. IfSome o AreBytes) (sym (map.get-empty (slice_cmp nat_cmp) name)) tt

have_put : (m : Objects) (name bytes : List ℕ) → HaveBytes m → AreBytes bytes → HaveBytes (map.insert m name bytes)
have_put m name bytes have are q =
    subst (λ o. IfSome o AreBytes) (sym (map.get-insert nat_list_cmp_total m name bytes q)) (either (eq_by_cmp (slice_cmp nat_cmp) q name) (Some bytes) (map.get m q) are (have q))

-- each object of a list has bytes
pub all_bytes : (os : List Object) → HaveBytes (objects_of os)
all_bytes [] = have_empty
all_bytes (o ∷ os) = have_put (objects_of os) o.name o.bytes.items (all_bytes os) o.plain
