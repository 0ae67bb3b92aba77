-- A stream has one list of replies.
use Rattle.std.proofs.Common.{◌≡◌, ◌∙◌, ℕ, ◌+◌, Bool, true, false, List, [], ◌∷◌, ◌++◌, length, append_assoc, inl, inr, ap, sym, subst, arith}
use Rattle.httparse.specs.Grammar.{RequestHead, ReadsRequest}
use Rattle.httparse.proofs.GrammarLemmas.{request_unique}
use Rattle.request_heads.specs.Heads.{BeginsWith, HasNoHead}
use Rattle.request_heads.proofs.HeadSteps.{empty_none}
use Rattle.range_server.specs.Replies.{Behind, EndsWith, Reaches}

-- a stream with a head is not empty, nor has it no head
none_at_end : (stream rest : List ℕ) (head : RequestHead) → BeginsWith stream head rest → stream ≡ [] → ⊥
none_at_end stream rest head b e = empty_none head rest (subst (λ s. ReadsRequest s head rest) e b.reads)

none_without : (stream rest : List ℕ) (head : RequestHead) → BeginsWith stream head rest → HasNoHead stream → ⊥
none_without stream rest head b none = absurd (omega (arith, none head rest b.reads, b.short))

one_head : (stream r q : List ℕ) (h k : RequestHead) → BeginsWith stream h r → BeginsWith stream k q → (h ≡ k) × (r ≡ q)
one_head stream r q h k a b = request_unique stream h k r q a.reads b.reads

module _ (reply : ℕ → RequestHead → List ℕ) (closes : ℕ → RequestHead → Bool) where
  one_end : (n : ℕ) (stream a b : List ℕ) → EndsWith reply closes n stream a → EndsWith reply closes n stream b → a ≡ b
  one_end n stream a b (inl x) (inl y) = x.1 ∙ sym y.1
  one_end n stream a b (inl x) (inr (inl y)) = absurd (y.0 x.0)
  one_end n stream a b (inl x) (inr (inr y)) = absurd (none_at_end stream y.1 y.0 y.2 x.0)
  one_end n stream a b (inr (inl x)) (inl y) = absurd (x.0 y.0)
  one_end n stream a b (inr (inl x)) (inr (inl y)) = x.2 ∙ sym y.2
  one_end n stream a b (inr (inl x)) (inr (inr y)) = absurd (none_without stream y.1 y.0 y.2 x.1)
  one_end n stream a b (inr (inr x)) (inl y) = absurd (none_at_end stream x.1 x.0 x.2 y.0)
  one_end n stream a b (inr (inr x)) (inr (inl y)) = absurd (none_without stream x.1 x.0 x.2 y.1)
  one_end n stream a b (inr (inr x)) (inr (inr y)) = x.4 ∙ ap (reply n) (one_head stream x.1 y.1 x.0 y.0 x.2 y.2).0 ∙ sym y.4

  -- where a head's reply doesn't close, the replies don't end there
  goes_on : (n : ℕ) (stream rest out : List ℕ) (head : RequestHead) → BeginsWith stream head rest → closes n head ≡ false → EndsWith reply closes n stream out → ⊥
  goes_on n stream rest out head b on (inl x) = none_at_end stream rest head b x.0
  goes_on n stream rest out head b on (inr (inl x)) = none_without stream rest head b x.1
  goes_on n stream rest out head b on (inr (inr x)) =
      let same = (one_head stream rest x.1 head x.0 b x.2).0 in
      let shut : closes n head ≡ true = ap (closes n) same ∙ x.3 in
      cc

  from : (hs ks : List RequestHead) (n m l : ℕ) (stream r q f g a b : List ℕ) → n + length hs ≡ m → n + length ks ≡ l → Reaches reply closes hs n stream r f → EndsWith reply closes m r a
      → Reaches reply closes ks n stream q g → EndsWith reply closes l q b → f ++ a ≡ g ++ b
  from [] [] n m l stream r q f g a b em el x xe y ye =
      let first = subst (λ s. EndsWith reply closes n s a) x.0 (subst (λ k. EndsWith reply closes k r a) (omega (arith, em)) xe) in
      let second = subst (λ s. EndsWith reply closes n s b) y.0 (subst (λ k. EndsWith reply closes k q b) (omega (arith, el)) ye) in
      (λ i. x.1 i ++ a) ∙ one_end n stream a b first second ∙ (λ i. sym y.1 i ++ b)
  from [] (k ∷ ks) n m l stream r q f g a b em el x xe y ye =
      absurd (goes_on n stream y.0 a k y.2 y.3 (subst (λ s. EndsWith reply closes n s a) x.0 (subst (λ k. EndsWith reply closes k r a) (omega (arith, em)) xe)))
  from (h ∷ hs) [] n m l stream r q f g a b em el x xe y ye =
      absurd (goes_on n stream x.0 b h x.2 x.3 (subst (λ s. EndsWith reply closes n s b) y.0 (subst (λ k. EndsWith reply closes k q b) (omega (arith, el)) ye)))
  from (h ∷ hs) (k ∷ ks) n m l stream r q f g a b em el x xe y ye =
      let same = one_head stream x.0 y.0 h k x.2 y.2 in
      let rest = from hs ks (n + 1) m l x.0 r q x.1 y.1 a b (omega (arith, em)) (omega (arith, el)) x.5 xe (subst (λ s. Reaches reply closes ks (n + 1) s q y.1) (sym same.1) y.5) ye in
      ap (λ o. o ++ a) x.4 ∙ append_assoc (reply n h) x.1 a ∙ (λ i. reply n (same.0 i) ++ rest i) ∙ sym (append_assoc (reply n k) y.1 b) ∙ ap (λ o. o ++ b) (sym y.4)

  pub one_reply : (stream out more : List ℕ) → Behind reply closes (EndsWith reply closes) stream out → Behind reply closes (EndsWith reply closes) stream more → out ≡ more
  one_reply stream out more x y =
      x.6 ∙ from x.0 y.0 0 (length x.0) (length y.0) stream x.1 y.1 x.2 y.2 x.3 y.3 (omega arith) (omega arith) x.4 x.5 y.4 y.5 ∙ sym y.6
