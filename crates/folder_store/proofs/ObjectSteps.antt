-- The objects of a disk, path by path, and what spares them.
use Rattle.std.proofs.Common.{◌≡◌, ◌≢◌, ℕ, ◌-◌, List, [], ◌++◌, length, drop, Bool, true, false, not, cond, nat_eq, Option, Some, None, IfSome, MatchOption, is_some, refl, ap, sym, ◌∙◌, arith, ne_eqb, inl, inr}
use Rattle.std.specs.Option.{option_map}
use Rattle.std.specs.List.{ends_with}
use Rattle.std.specs.FinMap as map
use Rattle.std.specs.FinMap.{slice_cmp-IsAntisymmetric, nat_cmp-IsAntisymmetric}
use Rattle.std.specs.Ordering.{nat_cmp, eq_by_cmp}
use Rattle.std.specs.Cmp.Lexicographic.{slice_cmp, nat_list_cmp_total, bytes_decides, pointwise}
use Rattle.std.proofs.lemmas.Bool.{cases_Bool}
use Rattle.std.proofs.lemmas.Map.Text.{is_eq-slice_cmp}
use Rattle.std.proofs.lemmas.Grind.{common_steps}
use Rattle.folder_store.specs.Disks.{Disk, file_at, IsNew, with_bytes, made, removed, part_end, is_object, objects_of}
use Rattle.folder_store.specs.ObjectBytes.{get_object}
use Rattle.folder_store.specs.Shown.{IsOpen, IsDraft, Spares, SparesTold}

-- the keys' test is equality
pub tied : (p q : List ℕ) → eq_by_cmp (slice_cmp nat_cmp) p q ≡ true → p ≡ q
tied p q e = (bytes_decides p q).0 (sym (is_eq-slice_cmp p q) ∙ e)

pub untied : (p q : List ℕ) → p ≢ q → eq_by_cmp (slice_cmp nat_cmp) p q ≡ false
untied p q n = elim (cases_Bool (eq_by_cmp (slice_cmp nat_cmp) p q)) [ inl y ↦ absurd (n (tied p q y)) | inr e ↦ e ]

pub tied_itself : (p : List ℕ) → eq_by_cmp (slice_cmp nat_cmp) p p ≡ true
tied_itself p = is_eq-slice_cmp p p ∙ (bytes_decides p p).1 refl

pub object_there : (d : Disk) (q : List ℕ) (n : ℕ) → is_object q ≡ true → file_at d q ≡ Some n → map.get (objects_of d) q ≡ Some (d.holds n)
object_there d q n is there = get_object d q ∙ ap (λ b. cond b (option_map d.holds (file_at d q)) None) is ∙ ap (option_map d.holds) there

pub object_missing : (d : Disk) (q : List ℕ) → file_at d q ≡ None → map.get (objects_of d) q ≡ None
object_missing d q none = get_object d q ∙ ap (λ o. cond (is_object q) (option_map d.holds o) None) none ∙ elim (is_object q) as (λ b. cond b (option_map d.holds None) None ≡ None) [ true ↦ refl | false ↦ refl ]

pub part_missing : (d : Disk) (q : List ℕ) → is_object q ≡ false → map.get (objects_of d) q ≡ None
part_missing d q part = get_object d q ∙ ap (λ b. cond b (option_map d.holds (file_at d q)) None) part

same_values : (o : Option ℕ) (f g : ℕ → List ℕ) → ((n : ℕ) → o ≡ Some n → g n ≡ f n) → option_map g o ≡ option_map f o
same_values None f g h = refl
same_values (Some n) f g h = ap Some (h n refl)

same_cond : (b : Bool) (x y : Option (List ℕ)) → (b ≡ true → x ≡ y) → cond b x None ≡ cond b y None
same_cond true x y h = h refl
same_cond false x y h = refl

pub spares_objects : (d e : Disk) → Spares d e → objects_of e ≡ objects_of d
spares_objects d e s =
    map.same_map nat_list_cmp_total (slice_cmp-IsAntisymmetric nat_cmp-IsAntisymmetric) _ _ (λ q.
    get_object e q
    ∙ same_cond (is_object q) _ _ (λ is. ap (option_map e.holds) (s.paths q is) ∙ same_values (file_at d q) d.holds e.holds (λ n there. s.bytes q n is there))
    ∙ sym (get_object d q))

pub spares_told : (old new : Option Disk) → SparesTold old new → option_map objects_of new ≡ option_map objects_of old
spares_told None None s = refl
spares_told None (Some e) s = absurd s
spares_told (Some d) None s = absurd s
spares_told (Some d) (Some e) s = ap Some (spares_objects d e s)

pub spares_itself : (disk : Option Disk) → SparesTold disk disk
spares_itself None = tt
spares_itself (Some d) = record { paths = λ p is. refl; bytes = λ p n is there. refl }

pub spares_twice : (a b c : Option Disk) → SparesTold a b → SparesTold b c → SparesTold a c
spares_twice None None None s t = tt
spares_twice None None (Some z) s t = absurd t
spares_twice None (Some y) c s t = absurd s
spares_twice (Some x) None c s t = absurd s
spares_twice (Some x) (Some y) None s t = absurd t
spares_twice (Some x) (Some y) (Some z) s t = record {
  paths = λ p is. t.paths p is ∙ s.paths p is;
  bytes = λ p n is there. t.bytes p n is (s.paths p is ∙ there) ∙ s.bytes p n is there;
}

pub open_spared : (d e : Disk) (name : List ℕ) (number : Option ℕ) (len : ℕ) → Spares d e → IsOpen d name number len → IsOpen e name number len
open_spared d e name number len s o = record {
  file = o.file;
  opened = o.opened;
  stands = s.paths name o.is ∙ o.stands;
  is = o.is;
  length_is = o.length_is ∙ ap length (sym (s.bytes name o.file o.is o.stands));
}

-- what an open finds
pub part_told : (disk : Option Disk) (name : List ℕ) (b : Bool) → b ≡ ends_with nat_eq name part_end → b ≡ true → IfSome disk (λ d. map.get (objects_of d) name ≡ None)
part_told None name b e t = tt
part_told (Some d) name b e t = part_missing d name (ap not (sym e ∙ t))

no_file : (o : Option ℕ) → is_some o ≡ false → o ≡ None
no_file None e = refl
no_file (Some n) e = absurd (cc)

pub missing_told : (disk : Option Disk) (name path : List ℕ) → path ≡ name → IfSome disk (λ d. is_some (file_at d path) ≡ false) → IfSome disk (λ d. map.get (objects_of d) name ≡ None)
missing_told None name path e h = tt
missing_told (Some d) name path e h = object_missing d name (ap (file_at d) (sym e) ∙ no_file (file_at d path) h)

pub none_told : (disk : Option Disk) (name path : List ℕ) → path ≡ name → IfSome disk (λ d. file_at d path ≡ None) → IfSome disk (λ d. map.get (objects_of d) name ≡ None)
none_told None name path e h = tt
none_told (Some d) name path e h = object_missing d name (ap (file_at d) (sym e) ∙ h)

is_open : (d : Disk) (name : List ℕ) (number o : Option ℕ) (len : ℕ) → file_at d name ≡ o → is_object name ≡ true → number ≡ o → option_map (λ n. length (d.holds n)) o ≡ Some len → IsOpen d name number len
is_open d name number None len at is same e = absurd (cc)
is_open d name number (Some n) len at is same e = record { file = n; opened = same; stands = at; is = is; length_is = cc }

pub open_told : (disk : Option Disk) (name path : List ℕ) (number : Option ℕ) (len : ℕ) (b : Bool) → path ≡ name → b ≡ ends_with nat_eq name part_end → b ≡ false → IfSome disk (λ d. (number ≡ file_at d path) × (option_map (λ n. length (d.holds n)) (file_at d path) ≡ Some len)) → IfSome disk (λ d. IsOpen d name number len)
open_told None name path number len b e ends part h = tt
open_told (Some d) name path number len b e ends part h = is_open d name number (file_at d path) len (ap (file_at d) (sym e)) (ap not (sym ends ∙ part)) h.0 h.1

module _ {X : Type 0} (nm : X → List ℕ) (num : X → Option ℕ) (len : X → ℕ) where
  length_told : (d : Disk) (o : X) (name : List ℕ) → nm o ≡ name → IsOpen d (nm o) (num o) (len o) → Some (len o) ≡ option_map length (map.get (objects_of d) name)
  length_told d o name e is = ap Some is.length_is ∙ ap (option_map length) (sym (object_there d (nm o) is.file is.is is.stands) ∙ ap (map.get (objects_of d)) e)

  -- what is told of the size of an object
  pub size_told : (disk : Option Disk) (name : List ℕ) (opened : Option X) → IfSome opened (λ o. nm o ≡ name) → IfSome disk (λ d. MatchOption opened (map.get (objects_of d) name ≡ None) (λ o. IsOpen d (nm o) (num o) (len o))) → IfSome (option_map objects_of disk) (λ m. option_map len opened ≡ option_map length (map.get m name))
  size_told None name opened named h = tt
  size_told (Some d) name None named h = ap (option_map length) (sym h)
  size_told (Some d) name (Some o) named h = length_told d o name named h

-- names with `.part` behind them are part objects
pub ends_part : (name : List ℕ) → is_object (name ++ part_end) ≡ false
ends_part name =
    let cut : drop (length (name ++ part_end) - length part_end) (name ++ part_end) ≡ part_end = grind (arith, common_steps) in
    ap (λ xs. not (pointwise nat_eq part_end xs)) cut

pub other_path : (p q : List ℕ) → is_object p ≡ true → is_object q ≡ false → p ≢ q
other_path p q is part e = cc

pub spares_made : (d : Disk) (path : List ℕ) (number : ℕ) → is_object path ≡ false → IsNew d number → Spares d (made d path number)
spares_made d path number part new = record {
  paths = λ p is. map.get-insert nat_list_cmp_total d.files path number p ∙ ap (λ b. cond b (Some number) (file_at d p)) (untied p path (other_path p path is part));
  bytes = λ p n is there. ap (λ b. cond b [] (d.holds n)) (ne_eqb n number (λ e. new p (there ∙ ap Some e)));
}

pub spares_removed : (d : Disk) (path : List ℕ) → is_object path ≡ false → Spares d (removed d path)
spares_removed d path part = record {
  paths = λ p is. map.get-remove nat_list_cmp_total d.files path p ∙ ap (λ b. cond b None (file_at d p)) (untied p path (other_path p path is part));
  bytes = λ p n is there. refl;
}

pub spares_with_bytes : (d : Disk) (name path : List ℕ) (number len : ℕ) (bytes : List ℕ) → IsDraft d name path number len → Spares d (with_bytes d number bytes)
spares_with_bytes d name path number len bytes draft =
    let part : is_object path ≡ false = ap is_object draft.path_is ∙ ends_part name in
    record {
      paths = λ p is. refl;
      bytes = λ p n is there. ap (λ b. cond b bytes (d.holds n)) (ne_eqb n number (λ e. other_path p path is part (draft.alone p (there ∙ ap Some e))));
    }
