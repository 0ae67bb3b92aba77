-- Names below a data set.
use Rattle.std.proofs.Common.{◌≡◌, ◌∙◌, ℕ, ◌+◌, ◌<◌, ◌≤◌, Bool, true, false, ◌==◌, nat_le, nat_eq, get_or, List, ◌∷◌, ◌++◌, length, length-append, drop, Some, None, IfSome, IsTrue, if◌then◌else◌, slice_index, inl, inr, ap, refl, subst, arith}
use Rattle.std.specs.List.{list_all, starts_with, slice_split}
use Rattle.std.proofs.lemmas.Bool.{and_parts, cases_lt, eqb-true, leb-true}
use Rattle.std.proofs.lemmas.Bool.Decides.{Decides-eqb}
use Rattle.std.proofs.lemmas.List.{drop_more, get_or_past}
use Rattle.std.proofs.lemmas.Slice.Eq.{starts_is}
use Rattle.vol_base.specs.Names.{is_name, is_segment}
use Rattle.vol_base.specs.Outside.{is_under}
use Rattle.remote_store.specs.Shown.{has_key, key_in, key_of}

pub name_short : (name : List ℕ) → IsTrue (is_name name) → length name ≤ 512
name_short name t = leb-true (length name) 512 (and_parts (nat_le (length name) 512) (list_all is_segment (slice_split (λ b. b == 47) name)) t).0

mark_there : (name : List ℕ) (i : ℕ) → get_or name i 0 ≡ 47 → i < length name
mark_there name i e = elim (cases_lt i (length name)) [
  | inl lt ↦ lt
  | inr ge ↦ absurd (omega (arith, e, get_or_past name i 0 ge))
]

-- a name of an object of a data set
pub record IsKey (dataset name key : List ℕ) : Type 0 where
  pub named : length dataset + 1 + length key ≤ 512
  pub good : IsTrue (is_name key)
  pub joined : name ≡ dataset ++ 47 ∷ key
  pub has : has_key dataset name ≡ true

pub under_joined : (dataset name : List ℕ) → is_under dataset name ≡ true → name ≡ dataset ++ 47 ∷ key_of dataset name
under_joined dataset name e =
    let parts = and_parts (starts_with nat_eq name dataset) (slice_index name (length dataset) == 47) e in
    let front : name ≡ dataset ++ drop (length dataset) name = (starts_is Decides-eqb name dataset (starts_with nat_eq name dataset) refl).0 parts.0 in
    let mark : get_or name (length dataset) 0 ≡ 47 = eqb-true (get_or name (length dataset) 0) 47 parts.1 in
    let rest : drop (length dataset) name ≡ get_or name (length dataset) 0 ∷ drop (length dataset + 1) name = drop_more name (length dataset) 0 (mark_there name (length dataset) mark) in
    front ∙ ap (λ x. dataset ++ x) (rest ∙ ap (λ b. b ∷ drop (length dataset + 1) name) mark)

pub key_parts : (dataset name key : List ℕ) → IsTrue (is_name name) → key_in dataset name ≡ Some key → IsKey dataset name key
key_parts dataset name key good e = by_test (has_key dataset name) refl e
  where
    by_test : (t : Bool) → has_key dataset name ≡ t → (if t then Some (key_of dataset name) else None) ≡ Some key → IsKey dataset name key
    by_test false off e = absurd (cc e)
    by_test true has e =
        let is : key_of dataset name ≡ key = cc in
        let parts = and_parts (is_under dataset name) (is_name (key_of dataset name)) has in
        let joined : name ≡ dataset ++ 47 ∷ key = under_joined dataset name parts.0 ∙ ap (λ k. dataset ++ 47 ∷ k) is in
        record {
          named = omega (arith, name_short name good, ap length joined, length-append dataset (47 ∷ key));
          good = subst (λ k. IsTrue (is_name k)) is parts.1;
          joined = joined;
          has = has;
        }

-- the key that a name has is itself a name
pub key_named : (dataset name : List ℕ) → IfSome (key_in dataset name) (λ key. IsTrue (is_name key))
key_named dataset name = by_test (has_key dataset name) refl
  where
    by_test : (t : Bool) → has_key dataset name ≡ t → IfSome (if t then Some (key_of dataset name) else None) (λ key. IsTrue (is_name key))
    by_test false off = tt
    by_test true has = (and_parts (is_under dataset name) (is_name (key_of dataset name)) has).1
