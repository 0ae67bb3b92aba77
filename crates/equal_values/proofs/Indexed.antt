-- One thing more, that is put into the index or not.
use Rattle.std.proofs.Common.{◌≡◌, ◌≢◌, ℕ, ◌+◌, ◌<◌, ◌≤◌, Bool, IsTrue, List, length, slice_index, set, arith, ap, ◌∙◌, sym, subst, inl, inr, ⊎_elim}
use Rattle.std.proofs.lemmas.List.{get_or-set_other, get_or-set_same, length-set}
use Rattle.std.proofs.lemmas.Bool.{cases_eq}
use Rattle.equal_values.specs.Chains.{IsIndex, LeadsTo}

-- a higher limit
pub further : (hash : ℕ → ℕ) (placed : ℕ → Bool) (h a b cursor : ℕ) → a ≤ b → LeadsTo hash placed h a cursor
    → LeadsTo hash placed h b cursor
further hash placed h a b cursor ab l = ⊎_elim
    (λ (z : cursor ≡ 0). inl z)
    (λ (t : (j : ℕ) × (cursor ≡ j + 1) × (j < a) × IsTrue (placed j) × (hash j ≡ h)).
    inr (t.0, t.1, omega (arith, t.2), t.3, t.4))
    l

pub skipped : (hash : ℕ → ℕ) (placed : ℕ → Bool) (heads next : List ℕ) (k : ℕ) → IsIndex hash placed heads next k
    → (IsTrue (placed k) → ⊥) → IsIndex hash placed heads next (k + 1)
skipped hash placed heads next k x never =
    let below : (j : ℕ) → j < k + 1 → IsTrue (placed j) → j < k = λ j l p. ⊎_elim
    (λ (e : j ≡ k). absurd (never (subst (λ q. IsTrue (placed q)) e p)))
    (λ (n : j ≢ k). omega arith)
    (cases_eq j k) in
    record {
      heads_lead = λ h l. further hash placed h k (k + 1) _ (omega arith) (x.heads_lead h l);
      next_lead = λ i l p. x.next_lead i (below i l p) p;
      heads_all = λ j l p. x.heads_all j (below j l p) p;
      next_all = λ i j l lj p q e. x.next_all i j (below i l p) lj p q e;
    }

pub added : (hash : ℕ → ℕ) (placed : ℕ → Bool) (heads next : List ℕ) (k : ℕ) → IsIndex hash placed heads next k → IsTrue (placed k) → k < length next → ((j : ℕ) → hash j < length heads)
    → IsIndex hash placed (set heads (hash k) (k + 1)) (set next k (slice_index heads (hash k))) (k + 1)
added hash placed heads next k x here lk fits =
    let first : ℕ = slice_index heads (hash k) in
    let head_here : slice_index (set heads (hash k) (k + 1)) (hash k) ≡ k + 1 = get_or-set_same heads (hash k) (k + 1) 0 (fits k) in
    let next_here : slice_index (set next k first) k ≡ first = get_or-set_same next k first 0 lk in
    record {
      heads_lead = λ h l. ⊎_elim
          (λ (e : h ≡ hash k). inr (k, ap (slice_index (set heads (hash k) (k + 1))) e ∙ head_here, omega arith, here, sym e))
          (λ (n : h ≢ hash k).
          let same : slice_index (set heads (hash k) (k + 1)) h ≡ slice_index heads h = get_or-set_other heads (hash k) h (k + 1) 0 (λ e. n e) in
          further hash placed h k (k + 1) _ (omega arith) (subst (LeadsTo hash placed h k) (sym same) (x.heads_lead h (omega (arith, l, length-set heads (hash k) (k + 1))))))
          (cases_eq h (hash k));
      next_lead = λ i l p. ⊎_elim
          (λ (e : i ≡ k).
          let v : slice_index (set next k first) i ≡ first = ap (slice_index (set next k first)) e ∙ next_here in
          subst (λ q. LeadsTo hash placed (hash q) q (slice_index (set next k first) i)) (sym e) (subst (LeadsTo hash placed (hash k) k) (sym v) (x.heads_lead (hash k) (fits k))))
          (λ (n : i ≢ k).
          let same : slice_index (set next k first) i ≡ slice_index next i = get_or-set_other next k i first 0 (λ e. n e) in
          subst (LeadsTo hash placed (hash i) i) (sym same) (x.next_lead i (omega arith) p))
          (cases_eq i k);
      heads_all = λ j l p. ⊎_elim
          (λ (e : hash j ≡ hash k).
          let v : slice_index (set heads (hash k) (k + 1)) (hash j) ≡ k + 1 = ap (slice_index (set heads (hash k) (k + 1))) e ∙ head_here in
          omega arith)
          (λ (n : hash j ≢ hash k).
          let same : slice_index (set heads (hash k) (k + 1)) (hash j) ≡ slice_index heads (hash j) = get_or-set_other heads (hash k) (hash j) (k + 1) 0 (λ e. n e) in
          let less : j < k = ⊎_elim (λ (e : j ≡ k). absurd (n (ap hash e))) (λ (d : j ≢ k). omega arith) (cases_eq j k) in
          let before = x.heads_all j less p in
          omega arith)
          (cases_eq (hash j) (hash k));
      next_all = λ i j l lj p q e. ⊎_elim
          (λ (s : i ≡ k).
          let v : slice_index (set next k first) i ≡ first = ap (slice_index (set next k first)) s ∙ next_here in
          let before : j < slice_index heads (hash k) = subst (λ h. j < slice_index heads h) (sym e ∙ ap hash s) (x.heads_all j (omega arith) q) in
          omega arith)
          (λ (n : i ≢ k).
          let same : slice_index (set next k first) i ≡ slice_index next i = get_or-set_other next k i first 0 (λ e. n e) in
          let before = x.next_all i j (omega arith) lj p q e in
          omega arith)
          (cases_eq i k);
    }
