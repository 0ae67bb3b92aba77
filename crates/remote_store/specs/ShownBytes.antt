-- What a remote store shows of a peer's objects is bytes: a look-up among the objects of one data set (this project's).
use Rattle.std.proofs.Common.{◌≡◌, ◌∙◌, ℕ, Bool, true, false, List, [], ◌∷◌, filter, cond, Option, Some, None, IfSome, if◌then◌else◌, bytes_eq, ap, sym, refl, subst}
use Rattle.std.specs.FinMap as map
use Rattle.std.specs.FinMap.{find, slice_cmp-IsAntisymmetric, nat_cmp-IsAntisymmetric}
use Rattle.std.specs.declared.cmp.Ordering.{Ordering}
use Rattle.std.specs.declared.cmp.Ordering.TheVariants.{Less, Equal, Greater}
use Rattle.std.specs.Ordering.{nat_cmp, eq_by_cmp, is_eq}
use Rattle.std.specs.Cmp.Lexicographic.{slice_cmp, nat_list_cmp_total}
use Rattle.vol_base.specs.Bytes.{AreBytes}
use Rattle.vol_base.specs.Outside.{HaveBytes, Objects}
use Rattle.remote_store.specs.Dials.{IsPlain, Peer}
use Rattle.remote_store.specs.Shown.{has_key, shown, under}

by_choice : (test : List ℕ → Bool) (q k v : List ℕ) (a b : Option (List ℕ)) (t c : Bool) → test k ≡ t → eq_by_cmp (slice_cmp nat_cmp) q k ≡ c → (c ≡ true → q ≡ k)
    → a ≡ (if test q then b else None) → (if t then cond c (Some v) a else a) ≡ (if test q then cond c (Some v) b else None)
by_choice test q k v a b true true et ec tied e = λ i. if (sym (ap test (tied refl) ∙ et) i) then Some v else None
by_choice test q k v a b true false et ec tied e = e
by_choice test q k v a b false true et ec tied e =
    let no : test q ≡ false = ap test (tied refl) ∙ et in
    e ∙ (λ i. if no i then b else None) ∙ (λ i. if sym no i then Some v else None)
by_choice test q k v a b false false et ec tied e = e

none_either : (t : Bool) → ◌≡◌ {A = Option (List ℕ)} None (if t then None else None)
none_either true = refl
none_either false = refl

tied : (q k : List ℕ) (o : Ordering) → slice_cmp nat_cmp q k ≡ o → is_eq o ≡ true → q ≡ k
tied q k Less e t = absurd (cc t)
tied q k Equal e t = slice_cmp-IsAntisymmetric nat_cmp-IsAntisymmetric q k e
tied q k Greater e t = absurd (cc t)

first_kept : (q : List ℕ) (e : List ℕ × List ℕ) (fs : List (List ℕ × List ℕ)) (t : Bool)
    → find (slice_cmp nat_cmp) q (cond t (e ∷ fs) fs) ≡ (if t then cond (eq_by_cmp (slice_cmp nat_cmp) q e.0) (Some e.1) (find (slice_cmp nat_cmp) q fs) else find (slice_cmp nat_cmp) q fs)
first_kept q e fs true = refl
first_kept q e fs false = refl

filtered : (test : List ℕ → Bool) (q : List ℕ) (es : List (List ℕ × List ℕ)) → find (slice_cmp nat_cmp) q (filter (λ e. test e.0) es) ≡ (if test q then find (slice_cmp nat_cmp) q es else None)
filtered test q [] = none_either (test q)
filtered test q (e ∷ es) =
    let rest = filtered test q es in
    first_kept q e (filter (λ x. test x.0) es) (test e.0)
    ∙ by_choice test q e.0 e.1 (find (slice_cmp nat_cmp) q (filter (λ x. test x.0) es)) (find (slice_cmp nat_cmp) q es) (test e.0) (eq_by_cmp (slice_cmp nat_cmp) q e.0) refl refl
    (tied q e.0 (slice_cmp nat_cmp q e.0) refl) rest

pub looked : (dataset : List ℕ) (m : Objects) (name : List ℕ) → map.get (under dataset m) name ≡ (if has_key dataset name then map.get m name else None)
looked dataset m name =
    map.get-from_entries nat_list_cmp_total (filter (λ e. has_key dataset e.0) (map.entries m)) name
    ∙ filtered (has_key dataset) name (map.entries m) ∙ (λ i. if has_key dataset name then sym (map.get-entries m name) i else None)

-- what the objects of a peer hold is bytes
looked_bytes : (o b : Option (List ℕ)) (t : Bool) → b ≡ (if t then o else None) → IfSome o AreBytes → IfSome b AreBytes
looked_bytes o b true e h = subst (λ x. IfSome x AreBytes) (sym e) h
looked_bytes o b false e h = subst (λ x. IfSome x AreBytes) (sym e) tt

under_bytes : (dataset : List ℕ) (m : Objects) → HaveBytes m → HaveBytes (under dataset m)
under_bytes dataset m h name = looked_bytes (map.get m name) (map.get (under dataset m) name) (has_key dataset name) (looked dataset m name) (h name)

pub shown_bytes : (dataset : List ℕ) (peer : Option Peer) → IfSome peer IsPlain → IfSome (shown dataset peer) HaveBytes
shown_bytes dataset None h = tt
shown_bytes dataset (Some p) h = by_test (bytes_eq p.dataset dataset)
  where
    by_test : (t : Bool) → IfSome (if t then Some (under dataset p.objects) else None) HaveBytes
    by_test true = under_bytes dataset p.objects h.bytes
    by_test false = tt
