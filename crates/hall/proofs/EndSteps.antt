-- How serving ends.
use Rattle.std.proofs.Common.{◌≡◌, ◌<◌, ◌≤◌, ◌+◌, ◌-◌, ℕ, List, [], Bool, true, false, inl, inr, refl, sym, ap, subst, arith, rules}
use Rattle.std.specs.Prelude.{Option, Some, None, IfSome, sum, nat_lt, if◌then◌else◌}
use Rattle.vol_base.specs.Causes.{Rose}
use Rattle.vol_base.specs.Outside.{Objects}
use Rattle.hall.specs.declared.outcome.HallEnd.TheVariants as ended
use Rattle.hall.specs.Halls.{Accepts, AllSoundBut, EachServed, HasExactly, Numbered, PaidBy, WhereAllTell, end_by, ends_of, is_short, numbers_of}

pub accepts : (ran failed : Bool) (n accepted given now before faults : ℕ) → now ≡ accepted + given → (failed ≡ true → given < n) → (failed ≡ true → Rose before faults) → (failed ≡ false → given ≡ n)
    → Accepts (end_by ran failed) n before faults (now - accepted)
accepts true true n accepted given now before faults is fewer rose all = inr (inr (omega (arith, is, fewer refl), rose refl))
accepts true false n accepted given now before faults is fewer rose all = inl (omega (arith, is, all refl))
accepts false true n accepted given now before faults is fewer rose all = omega (arith, is, fewer refl)
accepts false false n accepted given now before faults is fewer rose all = omega (arith, is, all refl)

pub short_by : (ran failed : Bool) → is_short (end_by ran failed) ≡ ran
short_by true failed = refl
short_by false true = refl
short_by false false = refl

pub each_by : (ran failed : Bool) (told : List (Option Objects)) (dataset : List ℕ) (served : Option (List Numbered)) (before now : List ℕ) (k : ℕ) → PaidBy before now k
    → WhereAllTell told (λ m. IfSome served (λ list. AllSoundBut m dataset ran (ends_of list) k)) → EachServed told dataset (is_short (end_by ran failed)) served before now
each_by ran failed told dataset served before now k paid each = λ m all. by m served (each m all)
  where
    by : (m : Objects) (noted : Option (List Numbered)) → IfSome noted (λ list. AllSoundBut m dataset ran (ends_of list) k)
        → IfSome noted (λ list. (k : ℕ) × PaidBy before now k × AllSoundBut m dataset (is_short (end_by ran failed)) (ends_of list) k)
    by m None h = tt
    by m (Some list) h = (k, paid, subst (λ short. AllSoundBut m dataset short (ends_of list) k) (sym (short_by ran failed)) h)

pub rose_by : (ran failed : Bool) (before now : ℕ) → (failed ≡ true → Rose before now) → end_by ran failed ≡ ended.DoorFault → Rose before now
rose_by true failed before now rose is = absurd (cc is)
rose_by false true before now rose is = rose refl
rose_by false false before now rose is = absurd (cc is)

pub stands_by : (ran failed : Bool) (before now : ℕ) → (failed ≡ false → now ≡ before) → end_by ran failed ≡ ended.All → now ≡ before
stands_by true failed before now stands is = absurd (cc is)
stands_by false true before now stands is = absurd (cc is)
stands_by false false before now stands is = stands refl

none_below : (n : ℕ) → 0 ≤ n
none_below n = omega arith

-- where nothing was noted
pub exactly_none : (served : Option (List Numbered)) (k : ℕ) → IfSome served (λ list. list ≡ []) → k ≡ 0 → IfSome served (λ list. HasExactly k (numbers_of list))
exactly_none None k none is = tt
exactly_none (Some list) k none is = subst (λ xs. HasExactly k (numbers_of xs)) (sym none) (subst (λ n. HasExactly n []) (sym is) (λ number. let no : nat_lt number 0 ≡ false = search (rules, none_below number) in sym (ap (λ (b : Bool). if b then 1 else 0) no)))

pub each_none : (told : List (Option Objects)) (dataset : List ℕ) (short : Bool) (served : Option (List Numbered)) (before now : List ℕ) → IfSome served (λ list. list ≡ []) → now ≡ before → EachServed told dataset short served before now
each_none told dataset short None before now none same m all = tt
each_none told dataset short (Some list) before now none same m all =
    (0, inr (omega (arith, ap sum same)), subst (λ xs. AllSoundBut m dataset short (ends_of xs) 0) (sym none) tt)
