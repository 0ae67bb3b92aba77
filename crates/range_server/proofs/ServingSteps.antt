-- Ends that were served, one after the other.
use Rattle.std.proofs.Common.{◌⊎◌, ℕ, ◌-◌, ◌<◌, ◌≤◌, List, [], ◌∷◌, inl, inr, arith}
use Rattle.std.proofs.lemmas.Bool.{cases_lt}
use Rattle.vol_base.specs.Causes.{Rose, most_count}
use Rattle.vol_base.specs.Outside.{Ended, Objects}
use Rattle.range_server.specs.Serving.{AtMostBroken, EndServed, EndsServed, IsWhole}

module _ (m : Objects) (dataset : List ℕ) where
  more_broken : (ends : List Ended) (k j : ℕ) → k ≤ j → AtMostBroken m dataset ends k → AtMostBroken m dataset ends j
  more_broken [] k j le h = tt
  more_broken (end ∷ ends) k j le (inl h) = inl (h.0, more_broken ends k j le h.1)
  more_broken (end ∷ ends) k j le (inr h) = inr (j - 1, omega (arith, h.1, le), more_broken ends h.0 (j - 1) (omega (arith, h.1, le)) h.2)

  -- an end is whole, or its link failed, or the store did
  by_cause : (before now : ℕ) (end : Ended) → EndServed m dataset before now end → (IsWhole m dataset end ⊎ (0 < end.2)) ⊎ Rose before now
  by_cause before now end (inl (h, rest, front, last, reaches, inl ends, is)) = inl (inl (h, rest, front, last, reaches, ends, is))
  by_cause before now end (inl (h, rest, front, last, reaches, inr ends, is)) = inr ends.0
  by_cause before now end (inr (inl h)) = inl (inr h.0)
  by_cause before now end (inr (inr h)) = inr h.0

  later : (before now : ℕ) (ends : List Ended) → EndsServed m dataset before now ends → before ≤ now
  later before now [] h = h
  later before now (end ∷ ends) h = omega (arith, h.2, h.3, later h.1 now ends h.5)

  -- of the ends whose link didn't fail, no more are not whole than the store's count rose by, or that count is at its end
  pub few_broken : (before now : ℕ) (ends : List Ended) → EndsServed m dataset before now ends → (most_count ≤ now) ⊎ AtMostBroken m dataset ends (now - before)
  few_broken before now [] h = inr tt
  few_broken before now (end ∷ ends) h =
      let start = h.0 in
      let mid = h.1 in
      let le : mid ≤ now = later mid now ends h.5 in
      elim (few_broken mid now ends h.5) [
        | inl full ↦ inl full
        | inr few ↦ elim (by_cause start mid end h.4) [
          | inl fine ↦ inr (inl (fine, more_broken ends (now - mid) (now - before) (omega (arith, h.2, h.3)) few))
          | inr rose ↦ rises start mid h.2 le few rose
        ]
      ]
    where
      rises : (start mid : ℕ) → before ≤ start → mid ≤ now → AtMostBroken m dataset ends (now - mid) → Rose start mid → (most_count ≤ now) ⊎ AtMostBroken m dataset (end ∷ ends) (now - before)
      rises start mid early le few rose = elim (cases_lt start mid) [
        | inl lt ↦ inr (inr (now - before - 1, omega (arith, early, lt, le), more_broken ends (now - mid) (now - before - 1) (omega (arith, early, lt)) few))
        | inr ge ↦ inl (omega (arith, rose, ge, le))
      ]
