-- One end more.
use Rattle.std.proofs.Common.{◌≡◌, ◌+◌, ℕ, List, [], ◌∷◌, ◌++◌, Bool, true, false, inl, inr, ◌⊎◌, map, refl, sym, ap, ◌∙◌, subst, arith}
use Rattle.std.specs.Prelude.{Option, Some, None, IfSome, ◌||◌}
use Rattle.vol_base.specs.Outside.{Ended, Objects}
use Rattle.job_log.specs.declared.stages.Event.{Event}
use Rattle.job_log.specs.declared.stages.Event.TheVariants.{Claim, Deposit}
use Rattle.job_log.specs.Replay.{claim_of, deposit_of}
use Rattle.hall.specs.declared.outcome.Outcome.{Outcome}
use Rattle.hall.specs.declared.outcome.Outcome.TheVariants.{Whole, StoreCut, MemoryCut}
use Rattle.hall.specs.Halls.{AllSoundBut, Closes, Fits, FitsOutcome, IsFailed, IsHall, IsSound, Numbered, RanShort, View, cut_weight, deposited, ends_of, numbers_of, sets_flag, times, HasExactly}
use Rattle.hall.proofs.Fronts.{some_is}
use Rattle.job_log.specs.Onces.{deposits_of, one_if, IsSettled}

pub deposited-claim : (log : List Event) (seat job : ℕ) → deposited (log ++ claim_of seat job ∷ []) ≡ deposited log
deposited-claim [] seat job = refl
deposited-claim (Claim s j ∷ es) seat job = deposited-claim es seat job
deposited-claim (Deposit s j ∷ es) seat job = ap (λ xs. j ∷ xs) (deposited-claim es seat job)

pub deposited-push : (log : List Event) (seat job : ℕ) → deposited (log ++ deposit_of seat job ∷ []) ≡ deposited log ++ job ∷ []
deposited-push [] seat job = refl
deposited-push (Claim s j ∷ es) seat job = deposited-push es seat job
deposited-push (Deposit s j ∷ es) seat job = ap (λ xs. j ∷ xs) (deposited-push es seat job)

map-push : {A B : Type 0} (f : A → B) (xs : List A) (x : A) → map f (xs ++ x ∷ []) ≡ map f xs ++ f x ∷ []
map-push f [] x = refl
map-push f (y ∷ ys) x = ap (λ zs. f y ∷ zs) (map-push f ys x)

or_true : (was : Bool) → (was || true) ≡ true
or_true false = refl
or_true true = refl

or_first : (was flag : Bool) → was ≡ true → (was || flag) ≡ true
or_first false flag is = absurd (cc is)
or_first true flag is = refl

module _ (m : Objects) (dataset : List ℕ) where
  -- an end that no store failed, and one whose store did
  sound_more : (short : Bool) (ends : List Ended) (end : Ended) (k : ℕ) → AllSoundBut m dataset short ends k → IsSound m dataset end ⊎ ((short ≡ true) × RanShort m dataset end) → AllSoundBut m dataset short (ends ++ end ∷ []) k
  sound_more short [] end k each is = inl (is, each)
  sound_more short (x ∷ xs) end k (inl h) is = inl (h.0, sound_more short xs end k h.1 is)
  sound_more short (x ∷ xs) end k (inr h) is = inr (h.0, h.1, h.2, sound_more short xs end h.1 h.3 is)

  failed_more : (short : Bool) (ends : List Ended) (end : Ended) (k : ℕ) → AllSoundBut m dataset short ends k → IsFailed m dataset end → AllSoundBut m dataset short (ends ++ end ∷ []) (k + 1)
  failed_more short [] end k each is = inr (is, k, refl, tt)
  failed_more short (x ∷ xs) end k (inl h) is = inl (h.0, failed_more short xs end k h.1 is)
  failed_more short (x ∷ xs) end k (inr h) is = inr (h.0, h.1 + 1, ap (λ n. n + 1) h.2, failed_more short xs end h.1 h.3 is)

  -- where memory may have run out since
  short_more : (was now : Bool) (ends : List Ended) (k : ℕ) → (was ≡ true → now ≡ true) → AllSoundBut m dataset was ends k → AllSoundBut m dataset now ends k
  short_more was now [] k is each = tt
  short_more was now (x ∷ xs) k is (inl (inl s, each)) = inl (inl s, short_more was now xs k is each)
  short_more was now (x ∷ xs) k is (inl (inr s, each)) = inl (inr (is s.0, s.1), short_more was now xs k is each)
  short_more was now (x ∷ xs) k is (inr h) = inr (h.0, h.1, h.2, short_more was now xs h.1 is h.3)

  each_more : (outcome : Outcome) (was ran : Bool) (ends : List Ended) (end : Ended) (k n : ℕ) → FitsOutcome m dataset outcome end → n ≡ k + cut_weight outcome → ran ≡ (was || sets_flag outcome) → AllSoundBut m dataset was ends k
      → AllSoundBut m dataset ran (ends ++ end ∷ []) n
  each_more Whole was ran ends end k n fits counted flag each =
      let old = short_more was ran ends k (λ is. flag ∙ or_first was false is) each in
      subst (AllSoundBut m dataset ran (ends ++ end ∷ [])) (omega (arith, counted)) (sound_more ran ends end k old (inl fits))
  each_more StoreCut was ran ends end k n fits counted flag each =
      let old = short_more was ran ends k (λ is. flag ∙ or_first was false is) each in
      subst (AllSoundBut m dataset ran (ends ++ end ∷ [])) (sym counted) (failed_more ran ends end k old fits)
  each_more MemoryCut was ran ends end k n fits counted flag each =
      let old = short_more was ran ends k (λ is. flag ∙ or_first was true is) each in
      subst (AllSoundBut m dataset ran (ends ++ end ∷ [])) (omega (arith, counted)) (sound_more ran ends end k old (inr (flag ∙ or_true was, fits)))

numbers_more : (log now : List Event) (served : Option (List Numbered)) (after : List Numbered) (number seat faults : ℕ) (stream sent : Option (List ℕ)) → IfSome served (λ list. numbers_of list ≡ deposited log)
    → Closes served number stream sent faults (Some after) → now ≡ log ++ deposit_of seat number ∷ [] → numbers_of after ≡ deposited now
numbers_more log now served after number seat faults stream sent h c is =
    let end : Ended = (c.1, c.2, faults) in
    let before : numbers_of c.0 ≡ deposited log = some_is (λ list. numbers_of list ≡ deposited log) served c.0 c.3 h in
    ap numbers_of c.6 ∙ map-push (λ (e : Numbered). e.0) c.0 (number, end) ∙ ap (λ xs. xs ++ number ∷ []) before ∙ sym (ap deposited is ∙ deposited-push log seat number)

-- a claim leaves it
pub claimed_more : (told : List (Option Objects)) (dataset : List ℕ) (log now : List Event) (served : Option (List Numbered)) (ran : Bool) (cuts number seat : ℕ)
    → IsHall told dataset (record { log = log; served = served; ran_out = ran }) cuts → now ≡ log ++ claim_of seat number ∷ [] → IsHall told dataset (record { log = now; served = served; ran_out = ran }) cuts
claimed_more told dataset log now None ran cuts number seat h is = record { numbers = tt; each = h.each }
claimed_more told dataset log now (Some list) ran cuts number seat h is = record {
  numbers = h.numbers ∙ sym (ap deposited is ∙ deposited-claim log seat number);
  each = h.each;
}

-- an end that was closed and deposited in one keeps what a hall keeps
pub closed_more : (told : List (Option Objects)) (dataset : List ℕ) (log now : List Event) (served noted : Option (List Numbered)) (was ran : Bool) (cuts n number seat faults : ℕ) (stream sent : Option (List ℕ)) (outcome : Outcome)
    → IsHall told dataset (record { log = log; served = served; ran_out = was }) cuts → Closes served number stream sent faults noted → Fits told dataset outcome stream sent faults
    → now ≡ log ++ deposit_of seat number ∷ [] → n ≡ cuts + cut_weight outcome → ran ≡ (was || sets_flag outcome) → IsHall told dataset (record { log = now; served = noted; ran_out = ran }) n
closed_more told dataset log now served None was ran cuts n number seat faults stream sent outcome h c f is counted flag = record { numbers = tt; each = λ m all. tt }
closed_more told dataset log now served (Some after) was ran cuts n number seat faults stream sent outcome h c f is counted flag =
    let end : Ended = (c.1, c.2, faults) in
    let ends : ends_of after ≡ ends_of c.0 ++ end ∷ [] = ap ends_of c.6 ∙ map-push (λ (e : Numbered). e.1) c.0 (number, end) in
    record {
      numbers = numbers_more log now served after number seat faults stream sent h.numbers c is;
      each = λ m all. subst (λ xs. AllSoundBut m dataset ran xs n) (sym ends)
          (each_more m dataset outcome was ran (ends_of c.0) end cuts n (f m all c.1 c.2 c.4 c.5) counted flag (some_is (λ list. AllSoundBut m dataset was (ends_of list) cuts) served c.0 c.3 (h.each m all)));
    }

times_is : (job : ℕ) (log : List Event) → deposits_of job log ≡ times job (deposited log)
times_is job [] = refl
times_is job (Claim s j ∷ es) = times_is job es
times_is job (Deposit s j ∷ es) = ap (λ n. one_if j job + n) (times_is job es)

-- what was noted has exactly the numbers that were given, once nothing is out
pub exactly : (told : List (Option Objects)) (dataset : List ℕ) (view : View) (cuts k : ℕ) → IsHall told dataset view cuts → IsSettled k view.log → IfSome view.served (λ list. HasExactly k (numbers_of list))
exactly told dataset view cuts k h once = by view.served h.numbers
  where
    by : (served : Option (List Numbered)) → IfSome served (λ list. numbers_of list ≡ deposited view.log) → IfSome served (λ list. HasExactly k (numbers_of list))
    by None is = tt
    by (Some list) is = λ number. ap (times number) is ∙ sym (times_is number view.log) ∙ once number
