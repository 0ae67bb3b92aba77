-- A look-up among the entries of a shelf.
use Rattle.vol_base.specs.Bytes.{AreBytes}
use Rattle.vol_base.specs.Outside.{HaveBytes, Objects}
use Rattle.remote_store.specs.Dials.{IsPlain, LeavesReplies}
use Rattle.std.proofs.Common.{◌≡◌, ℕ, ◌<◌, ◌^◌, Bool, Option, IfSome, subst, List, [], ◌∷◌, true, false, cond, Some, None, length, get_or, arith, refl, ap, ◌∙◌, sym, drop, take, ◌-◌}
use Rattle.std.proofs.lemmas.List.{take_all}
use Rattle.std.specs.Str.{bytes_eq}
use Rattle.std.specs.FinMap as map
use Rattle.std.specs.Ordering.{nat_cmp}
use Rattle.std.specs.Cmp.Lexicographic.{slice_cmp, nat_list_cmp_total}
use Rattle.std.proofs.lemmas.Map.Text.{is_eq-slice_cmp}
use Rattle.peer_dial.specs.Shelves.{HasReplies, objects_on}
use Rattle.peer_dial.specs.declared.entry.Entry.{Entry}

one_on : (o : Entry) (os : List Entry) (name : List ℕ) → map.get (objects_on (o ∷ os)) name ≡ cond (bytes_eq name o.name) (Some o.bytes.items) (map.get (objects_on os) name)
one_on o os name =
    map.get-insert nat_list_cmp_total (objects_on os) o.name o.bytes.items name
    ∙ ap (λ b. cond b (Some o.bytes.items) (map.get (objects_on os) name)) (is_eq-slice_cmp name o.name)

pub found_first : (rest : List Entry) (first : Entry) (name : List ℕ) → 0 < length rest → first ≡ get_or rest 0 first → bytes_eq name first.name ≡ true → map.get (objects_on rest) name ≡ Some first.bytes.items
found_first [] first name h is e = absurd (omega arith)
found_first (o ∷ os) first name h is e = one_on o os name ∙ ap (λ (x : Entry). cond (bytes_eq name x.name) (Some x.bytes.items) (map.get (objects_on os) name)) (sym is) ∙ rw e refl

pub missed_first : (rest : List Entry) (first : Entry) (name : List ℕ) (n : ℕ) → 0 < length rest → first ≡ get_or rest 0 first → bytes_eq name first.name ≡ false → n ≡ length rest - 1 → map.get (objects_on (take n (drop 1 rest))) name ≡ map.get (objects_on rest) name
missed_first [] first name n h is e len = absurd (omega arith)
missed_first (o ∷ os) first name n h is e len =
    ap (λ xs. map.get (objects_on xs) name) (take_all n os (omega arith))
    ∙ sym (one_on o os name ∙ ap (λ (x : Entry). cond (bytes_eq name x.name) (Some x.bytes.items) (map.get (objects_on os) name)) (sym is) ∙ rw e refl)

pub none_left : (rest : List Entry) (name : List ℕ) → length rest < 1 → map.get (objects_on rest) name ≡ None
none_left [] name h = map.get-empty (slice_cmp nat_cmp) name
none_left (o ∷ os) name h = absurd (omega arith)

-- what each entry is, each object is
one_of : (P : List ℕ → Type 0) (b : Bool) (x : List ℕ) (o : Option (List ℕ)) → P x → IfSome o P → IfSome (cond b (Some x) o) P
one_of P true x o one other = one
one_of P false x o one other = other

each_of : (P : List ℕ → Type 0) → ((e : Entry) → P e.bytes.items) → (es : List Entry) (name : List ℕ) → IfSome (map.get (objects_on es) name) P
each_of P f [] name = subst (λ o. IfSome o P) (sym (map.get-empty (slice_cmp nat_cmp) name)) tt
each_of P f (o ∷ os) name = subst (λ x. IfSome x P) (sym (one_on o os name)) (one_of P (bytes_eq name o.name) o.bytes.items (map.get (objects_on os) name) (f o) (each_of P f os name))

pub shelf_bytes : (es : List Entry) → HaveBytes (objects_on es)
shelf_bytes es = each_of AreBytes (λ e. e.plain) es

pub shelf_plain : (es : List Entry) (dataset : List ℕ) → IsPlain (record { objects = objects_on es; dataset = dataset })
shelf_plain es dataset = record { bytes = shelf_bytes es; short = each_of (λ b. length b < 2 ^ 64) (λ e. e.short) es }

-- what is left of the replies, behind what was given
pub served_law : (m : Objects) (dataset sent given replies : List ℕ) → HasReplies m dataset sent replies → LeavesReplies (record { objects = m; dataset = dataset }) (record { sent = sent; given = given }) (Some (drop (length given) replies))
served_law m dataset sent given replies served heads replies_of are rep = ap (λ r. Some (drop (length given) r)) (sym (served.same replies_of rep))
