-- Sets of places that are filled.
use Rattle.std.proofs.Common.{◌≡◌, ◌≢◌, ◌⊎◌, ℕ, List, ap, ◌∙◌, sym, ⊎_elim}
use Rattle.vol_base.specs.Boxes.{value}
use Rattle.segment_blocks.specs.Filled.{Filled}

-- two sets, one after the other
pub filled_more : {A : Type 0} (P Q R : A → Type 0) (spot : A → ℕ) (want : A → List ℕ) (w : ℕ) (old cur new : List ℕ)
    → Filled P spot want w old cur → Filled Q spot want w cur new
    → ((a b : A) → P a → Q b → spot a ≢ spot b)
    → ((a : A) → R a → P a ⊎ Q a) → ((a : A) → P a → R a) → ((a : A) → Q a → R a)
    → Filled R spot want w old new
filled_more P Q R spot want w old cur new f g apart split left right = record {
  placed = λ a r. ⊎_elim
      (λ (p : P a). g.kept (spot a) (λ b q. apart a b p q) ∙ f.placed a p)
      (λ (q : Q a). g.placed a q)
      (split a r);
  kept = λ m out. g.kept m (λ a q. out a (right a q)) ∙ f.kept m (λ a p. out a (left a p));
}

-- the same places by another name
pub filled_via : {A B : Type 0} (P : A → Type 0) (Q : B → Type 0) (spot : A → ℕ) (spot' : B → ℕ) (want : A → List ℕ) (want' : B → List ℕ) (w : ℕ) (old new : List ℕ)
    → Filled P spot want w old new
    → ((b : B) → Q b → (a : A) × P a × (spot' b ≡ spot a) × (want a ≡ want' b))
    → ((a : A) → P a → (b : B) × Q b × (spot' b ≡ spot a))
    → Filled Q spot' want' w old new
filled_via P Q spot spot' want want' w old new f to from = record {
  placed = λ b q. let t = to b q in ap (value w new) t.2 ∙ f.placed t.0 t.1 ∙ t.3;
  kept = λ m out. f.kept m (λ a p e. let t = from a p in out t.0 t.1 (e ∙ sym t.2));
}
