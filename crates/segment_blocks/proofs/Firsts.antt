-- The first fault of a list.
use Rattle.std.proofs.Common.{◌≡◌, ℕ, zero, suc, ◌+◌, ◌<◌, ◌≤◌, List, [], ◌∷◌, arith, refl, ap, ◌∙◌, sym, subst, Option, Some, None, IsTrue, Bool, true, false}
use Rattle.std.specs.Prelude.{map, flat_map, filter}
use Rattle.std.specs.List.{range_with_len}
use Rattle.std.proofs.Common.{inl, inr, cond}
use Rattle.std.proofs.lemmas.Bool.{cases_eq}
use Rattle.vol_base.specs.declared.faults.ChunkFault.{ChunkFault}
use Rattle.vol_spec.specs.BoxValues.{first_some}
use Rattle.vol_spec.proofs.Firsts.{first_some-append, first_some-front}

-- places that have lists of their own: none has a fault, or the first that has
pub none_of : (g : ℕ → List (Option ChunkFault)) (a n : ℕ) → ((i : ℕ) → a ≤ i → i < a + n → first_some (g i) ≡ None) → first_some (flat_map g (range_with_len a n)) ≡ None
none_of g a zero none = refl
none_of g a (suc n) none =
    first_some-append (g a) (flat_map g (range_with_len (a + 1) n)) (none a (omega arith) (omega arith)) ∙ none_of g (a + 1) n (λ i l h. none i (omega arith) (omega arith))

pub first_of_places : (g : ℕ → List (Option ChunkFault)) (a n c : ℕ) (f : ChunkFault) → a ≤ c → c < a + n → ((i : ℕ) → a ≤ i → i < c → first_some (g i) ≡ None) → first_some (g c) ≡ Some f
    → first_some (flat_map g (range_with_len a n)) ≡ Some f
first_of_places g a zero c f la lc before here = absurd (omega arith)
first_of_places g a (suc n) c f la lc before here = elim (cases_eq a c) [
  | inl same ↦ first_some-front (g a) (flat_map g (range_with_len (a + 1) n)) f (ap (λ k. first_some (g k)) same ∙ here)
  | inr other ↦ first_some-append (g a) (flat_map g (range_with_len (a + 1) n)) (before a (omega arith) (omega arith)) ∙ first_of_places g (a + 1) n c f (omega arith) (omega arith) (λ i l h. before i (omega arith) h) here
]

pub first_next : (o : Option ChunkFault) (rest : List (Option ChunkFault)) → o ≡ None → first_some (o ∷ rest) ≡ first_some rest
first_next None rest h = refl
first_next (Some f) rest h = absurd (cc)

pub first_here : (o : Option ChunkFault) (rest : List (Option ChunkFault)) (f : ChunkFault) → o ≡ Some f → first_some (o ∷ rest) ≡ Some f
first_here None rest f h = absurd (cc)
first_here (Some g) rest f h = h

kept_none : (g : ℕ → Option ChunkFault) (b : Bool) (a : ℕ) (rest : List ℕ) → (IsTrue b → g a ≡ None) → first_some (map g rest) ≡ None → first_some (map g (cond b (a ∷ rest) rest)) ≡ None
kept_none g true a rest here more = first_next (g a) (map g rest) (here refl) ∙ more
kept_none g false a rest here more = more

kept_stops : (g : ℕ → Option ChunkFault) (b : Bool) (a : ℕ) (rest : List ℕ) (f : ChunkFault) → IsTrue b → g a ≡ Some f → first_some (map g (cond b (a ∷ rest) rest)) ≡ Some f
kept_stops g true a rest f h here = first_here (g a) (map g rest) f here
kept_stops g false a rest f h here = absurd (cc)

kept_passes : (g : ℕ → Option ChunkFault) (b : Bool) (a : ℕ) (rest : List ℕ) (f : ChunkFault) → (IsTrue b → g a ≡ None) → first_some (map g rest) ≡ Some f → first_some (map g (cond b (a ∷ rest) rest)) ≡ Some f
kept_passes g true a rest f here more = first_next (g a) (map g rest) (here refl) ∙ more
kept_passes g false a rest f here more = more

-- places of one fault each, of which some are passed over
pub none_kept : (g : ℕ → Option ChunkFault) (p : ℕ → Bool) (a n : ℕ) → ((i : ℕ) → a ≤ i → i < a + n → IsTrue (p i) → g i ≡ None) → first_some (map g (filter p (range_with_len a n))) ≡ None
none_kept g p a zero none = refl
none_kept g p a (suc n) none =
    kept_none g (p a) a (filter p (range_with_len (a + 1) n)) (λ h. none a (omega arith) (omega arith) h) (none_kept g p (a + 1) n (λ i l h. none i (omega arith) (omega arith)))

pub first_kept : (g : ℕ → Option ChunkFault) (p : ℕ → Bool) (a n c : ℕ) (f : ChunkFault) → a ≤ c → c < a + n → IsTrue (p c) → ((i : ℕ) → a ≤ i → i < c → IsTrue (p i) → g i ≡ None) → g c ≡ Some f
    → first_some (map g (filter p (range_with_len a n))) ≡ Some f
first_kept g p a zero c f la lc pc before here = absurd (omega arith)
first_kept g p a (suc n) c f la lc pc before here = elim (cases_eq a c) [
  | inl same ↦ kept_stops g (p a) a (filter p (range_with_len (a + 1) n)) f (subst (λ k. IsTrue (p k)) (sym same) pc) (ap g same ∙ here)
  | inr other ↦ kept_passes g (p a) a (filter p (range_with_len (a + 1) n)) f (λ h. before a (omega arith) (omega arith) h) (first_kept g p (a + 1) n c f (omega arith) (omega arith) pc (λ i l h. before i (omega arith) h) here)
]

-- two faults in front
pub two_none : (a b : Option ChunkFault) (rest : List (Option ChunkFault)) → first_some (a ∷ b ∷ []) ≡ None → first_some (a ∷ b ∷ rest) ≡ first_some rest
two_none None None rest h = refl
two_none None (Some f) rest h = absurd (cc)
two_none (Some f) b rest h = absurd (cc)
