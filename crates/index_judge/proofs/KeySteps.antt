-- The keys of a cache after its calls.
use Rattle.std.proofs.Common.{◌≡◌, ◌∙◌, ◌⊎◌, ℕ, ◌+◌, ◌<◌, Bool, true, false, List, [], ◌∷◌, map, slice_index_or, Contains, Option, Some, None, IfSome, IsTrue, ◌==◌, ◌&&◌, refl, ap, sym, subst, inl, inr, arith}
use Rattle.std.specs.Prelude.{Ok, Err, OnOk, OnErr, option_copied}
use Rattle.std.specs.Borrow.{Bor}
use Rattle.std.specs.declared.result.Result.{Result}
use Rattle.std.specs.Option.{is_some}
use Rattle.std.specs.Map.{lookup}
use Rattle.std.proofs.lemmas.Bool.{cases_lt, eqb-true}
use Rattle.lru.specs.LruCache.{LruCache, promoted, put_entries}
use Rattle.lru.proofs.CallerLemmas.{Contains-lookup, Contains-promoted, Contains-put_entries}
use Rattle.lru.proofs.Splits.{Contains-head, Contains-tail, Contains-cons, Contains-nil}
use Rattle.index_judge.specs.Keys.{keys}
use Rattle.index_judge.specs.declared.key.IndexKey.{IndexKey}

module _ {X Y : Type 0} (f : X → Y) where
  -- what is made of an element
  pub mapped : (xs : List X) (x : X) → Contains xs x → Contains (map f xs) (f x)
  mapped [] x c = absurd (Contains-nil x c)
  mapped (y ∷ xs) x c = elim (Contains-cons y xs x c) [
    | inl e ↦ subst (λ z. Contains (f y ∷ map f xs) (f z)) e (Contains-head (f y) (map f xs))
    | inr d ↦ Contains-tail (f y) (map f xs) (f x) (mapped xs x d)
  ]

  -- and the element that something was made of
  pub made_of : (xs : List X) (y : Y) → Contains (map f xs) y → (x : X) × Contains xs x × (f x ≡ y)
  made_of [] y c = absurd (Contains-nil y c)
  made_of (x ∷ xs) y c = elim (Contains-cons (f x) (map f xs) y c) [
    | inl e ↦ (x, Contains-head x xs, e)
    | inr d ↦ let found = made_of xs y d in (found.0, Contains-tail x xs found.0 found.1, found.2)
  ]

module _ {K V : Type 0} (eq : K → K → Bool) (exact : (a b : K) → eq a b ≡ true → a ≡ b) where
  -- a key that is found is there
  pub found_key : (es : List (K × V)) (k : K) → IsTrue (is_some (lookup (eq k) es)) → Contains (map (λ e. e.0) es) k
  found_key es k h = go (lookup (eq k) es) refl h
    where
      go : (o : Option V) → lookup (eq k) es ≡ o → IsTrue (is_some o) → Contains (map (λ e. e.0) es) k
      go None e t = absurd (cc t)
      go (Some v) e t =
          let found = Contains-lookup (eq k) es v e in
          subst (Contains (map (λ e. e.0) es)) (sym (exact k found.0 found.2)) (mapped (λ e. e.0) es (found.0, v) found.1)

  -- the keys after a put
  pub put_key : (c : LruCache K V) (k : K) (v : V) (i : K) → Contains (map (λ e. e.0) (put_entries eq c k v)) i → Contains (map (λ e. e.0) c.entries) i ⊎ (i ≡ k)
  put_key c k v i h =
      let found = made_of (λ (e : K × V). e.0) (put_entries eq c k v) i h in
      elim (Contains-put_entries eq c k v found.0 found.1) [
        | inl old ↦ inl (subst (Contains (map (λ e. e.0) c.entries)) found.2 (mapped (λ (e : K × V). e.0) c.entries found.0 old))
        | inr new ↦ elim new.1 [
          | inl e ↦ inr (sym found.2 ∙ e)
          | inr w ↦ inr (sym found.2 ∙ sym (exact k found.0.0 w.2))
        ]
      ]

  -- and after a look-up, which puts its entry first
  pub promoted_key : (es : List (K × V)) (k i : K) → Contains (map (λ e. e.0) (promoted (eq k) es)) i → Contains (map (λ e. e.0) es) i
  promoted_key es k i h =
      let found = made_of (λ (e : K × V). e.0) (promoted (eq k) es) i h in
      subst (Contains (map (λ e. e.0) es)) found.2 (mapped (λ (e : K × V). e.0) es found.0 (Contains-promoted (eq k) es found.0 found.1))

-- two indexes with the same numbers are one
abbrev pub same : IndexKey → IndexKey → Bool
same a b = (a.shard == b.shard) && (a.minishard == b.minishard)

pub same_exact : (a b : IndexKey) → same a b ≡ true → a ≡ b
same_exact a b h =
    let both = halves (a.shard == b.shard) (a.minishard == b.minishard) h in
    λ i. record { shard = eqb-true a.shard b.shard both.0 i; minishard = eqb-true a.minishard b.minishard both.1 i }
  where
    halves : (x y : Bool) → (x && y) ≡ true → (x ≡ true) × (y ≡ true)
    halves true y h = (refl, h)
    halves false y h = absurd (cc h)

pub copied_some : {X : Type 0} (o : Option (Bor X)) → is_some (option_copied o) ≡ is_some o
copied_some None = refl
copied_some (Some x) = refl

-- a put that finds no memory changes nothing
pub put_or_not : {T E A : Type 0} (r : Result T E) (x y z : A) → OnOk r (x ≡ y) → OnErr r (x ≡ z) → (x ≡ y) ⊎ (x ≡ z)
put_or_not (Ok t) x y z h k = inl h
put_or_not (Err e) x y z h k = inr k

-- what holds of each key, over what is told
module _ {M K : Type 0} (P : M → K → Type 0) where
  pub fewer : (o : Option M) (old new : List K) → IfSome o (λ m. (i : K) → Contains old i → P m i) → ((i : K) → Contains new i → Contains old i)
      → IfSome o (λ m. (i : K) → Contains new i → P m i)
  fewer None old new h k = tt
  fewer (Some m) old new h k = λ i c. h i (k i c)

  pub one_more : (o : Option M) (old new : List K) (x : K) → IfSome o (λ m. (i : K) → Contains old i → P m i) → IfSome o (λ m. P m x) → ((i : K) → Contains new i → Contains old i ⊎ (i ≡ x))
      → IfSome o (λ m. (i : K) → Contains new i → P m i)
  one_more None old new x h p k = tt
  one_more (Some m) old new x h p k = λ i c. elim (k i c) [ inl d ↦ h i d | inr e ↦ subst (P m) (sym e) p ]

  pub none_yet : (o : Option M) (keys : List K) → keys ≡ [] → IfSome o (λ m. (i : K) → Contains keys i → P m i)
  none_yet None keys e = tt
  none_yet (Some m) keys e = λ i c. absurd (Contains-nil i (subst (λ k. Contains k i) e c))

  -- what holds of each of a front of a list
  pub front_none : (o : Option M) (xs : List K) → IfSome o (λ m. (k : ℕ) (d : K) → k < 0 → P m (slice_index_or xs k d))
  front_none None xs = tt
  front_none (Some m) xs = λ k d lt. absurd (omega (arith, lt))

  pub front_more : (o : Option M) (xs : List K) (n : ℕ) (x : K) → ((d : K) → slice_index_or xs n d ≡ x) → IfSome o (λ m. (k : ℕ) (d : K) → k < n → P m (slice_index_or xs k d)) → IfSome o (λ m. P m x)
      → IfSome o (λ m. (k : ℕ) (d : K) → k < n + 1 → P m (slice_index_or xs k d))
  front_more None xs n x at h p = tt
  front_more (Some m) xs n x at h p = λ k d lt. elim (cases_lt k n) [
    | inl small ↦ h k d small
    | inr big ↦ let e : k ≡ n = omega (arith, lt, big) in subst (P m) (sym (ap (λ j. slice_index_or xs j d) e ∙ at d)) p
  ]
